-- What the shard law says of one slot, and what keeps it.
use Rattle.std.proofs.Common.{◌≡◌, ◌≢◌, ℕ, ◌+◌, ◌*◌, ◌<◌, ◌≤◌, Bool, List, length, get_or, set, Option, Some, None, is_some, refl, sym, ap, ◌∙◌, subst, inl, inr, arith}
use Rattle.std.specs.List.{count_by, sum_by}
use Rattle.std.proofs.lemmas.List.{length-set, get_or-set_same, get_or_past, set-get_or}
use Rattle.std.proofs.lemmas.List.Sums.{sum_by-le}
use Rattle.std.proofs.lemmas.List.Elements.{All-from_get_or}
use Rattle.std.proofs.lemmas.Bool.{cases_lt}
use Rattle.dq_ticks.specs.declared.words.Parts.{Parts}
use Rattle.dq_ticks.specs.declared.words.Mark.TheVariants.{LiveMark, CancelledMark, ExpiredMark}
use Rattle.dq_ticks.specs.declared.TheConstants.{CAPACITY_LIMIT, LAST_TICK, LAST_STAMP}
use Rattle.dq_ticks.specs.Units.{lap}
use Rattle.dq_wheel.specs.State.{Filing, filed_at, unlinked}
use Rattle.dq_core.specs.declared.slots.Held.{Held}
use Rattle.dq_core.specs.Words.{Counts, word_at, never, IsOver, IsInForce, Learned, live, cancelled}
use Rattle.dq_core.specs.Slots.{Row, SlotRows, unused, row_at, is_held, vacated, vacated_row}
use Rattle.dq_core.proofs.Slotwise.{changed_set, slots_change, count_set, stamps_set, one_held, one}
use Rattle.dq_core.specs.Core.{IsPlaced, IsSlot, IsLawful}

few_by : (n last begins : ℕ) → begins ≤ n * last → n ≤ CAPACITY_LIMIT → last ≤ LAST_STAMP → begins ≤ CAPACITY_LIMIT * LAST_STAMP
few_by n last begins h small low = grind arith

-- too few entries were begun to overflow
pub few : {T : Type 0} {noted : ℕ} {wheel : Filing} {slots : SlotRows T} {known : List Parts} {counts : Counts} → IsLawful noted wheel slots known counts → counts.begins ≤ CAPACITY_LIMIT * LAST_STAMP
few {T} {noted} {wheel} {slots} {known} {counts} l =
    let bound : sum_by (λ r. r.stamp) slots.rows ≤ length slots.rows * slots.last_stamp =
    sum_by-le (λ r. r.stamp) slots.last_stamp slots.rows (All-from_get_or (λ r. r.stamp ≤ slots.last_stamp) slots.rows unused (λ i inside. (l.each i inside).bound)) in
    let size = l.capacity in
    let last = l.last_bound in
    let stamps = l.stamps in
    few_by (length slots.rows) slots.last_stamp counts.begins (omega (arith, bound, stamps)) size last

-- what is filed lies in range
pub filed_inside : (filed : List (Option ℕ)) (i f : ℕ) → get_or filed i None ≡ Some f → i < length filed
filed_inside filed i f e =
    elim (cases_lt i (length filed)) [
      | inl inside ↦ inside
      | inr past ↦
          let gone : get_or filed i None ≡ None = get_or_past filed i None past in
          cc
    ]

-- what the law says of a slot where an entry is held, or an index is filed
pub record Filed {T : Type 0} (tick last : ℕ) (rows : List (Row T)) (known : List Parts) (filed : List (Option ℕ)) (i f : ℕ) : Type 0 where
  pub inside : i < length rows
  pub held : Held T
  pub is_held : (row_at rows i).held ≡ Some held
  pub is_filed : get_or filed i None ≡ Some f
  pub in_force : IsInForce (row_at rows i).stamp f (word_at known i)
  pub ahead : tick ≤ f
  pub near : f < tick + lap
  pub born : held.born ≤ (row_at rows i).stamp
  pub stamp : (word_at known i).stamp ≡ (row_at rows i).stamp
  pub bound : (row_at rows i).stamp ≤ last

placed_some : {T : Type 0} (tick noted stamp : ℕ) (o : Option (Held T)) (w : Parts) (f : ℕ) → IsPlaced tick noted stamp o w (Some f) → (h : Held T) × (o ≡ Some h) × IsInForce stamp f w × (tick ≤ f) × (f < tick + lap) × (h.born ≤ stamp)
placed_some tick noted stamp None w f p = absurd p
placed_some tick noted stamp (Some h) w f p = (h, refl, p.0, p.1, p.2, p.3)

placed_held : {T : Type 0} (tick noted stamp : ℕ) (w : Parts) (o : Option ℕ) (h : Held T) → IsPlaced tick noted stamp (Some h) w o → (f : ℕ) × (o ≡ Some f)
placed_held tick noted stamp w None h p = absurd p
placed_held tick noted stamp w (Some f) h p = (f, refl)

pub filed_is : {T : Type 0} {noted : ℕ} {wheel : Filing} {slots : SlotRows T} {known : List Parts} {counts : Counts} → IsLawful noted wheel slots known counts → (i f : ℕ) → filed_at wheel.filed i ≡ Some f → Filed wheel.tick slots.last_stamp slots.rows known wheel.filed i f
filed_is {T} {noted} {wheel} {slots} {known} {counts} l i f e =
    let size = l.as_filed in
    let within : i < length wheel.filed = filed_inside wheel.filed i f e in
    let inside : i < length slots.rows = omega arith in
    let s = l.each i inside in
    let P : Option ℕ → Type 0 = λ o. IsPlaced wheel.tick noted (row_at slots.rows i).stamp (row_at slots.rows i).held (word_at known i) o in
    let p = placed_some wheel.tick noted (row_at slots.rows i).stamp (row_at slots.rows i).held (word_at known i) f (subst P e s.placed) in
    record { inside = inside; held = p.0; is_held = p.1; is_filed = e; in_force = p.2; ahead = p.3; near = p.4; born = p.5; stamp = s.stamp; bound = s.bound }

-- the same, from what is held
pub held_filed : {T : Type 0} {noted : ℕ} {wheel : Filing} {slots : SlotRows T} {known : List Parts} {counts : Counts} → IsLawful noted wheel slots known counts → (i : ℕ) (h : Held T) → i < length slots.rows → (row_at slots.rows i).held ≡ Some h → (f : ℕ) × Filed wheel.tick slots.last_stamp slots.rows known wheel.filed i f
held_filed {T} {noted} {wheel} {slots} {known} {counts} l i h inside e =
    let s = l.each i inside in
    let P : Option (Held T) → Type 0 = λ o. IsPlaced wheel.tick noted (row_at slots.rows i).stamp o (word_at known i) (filed_at wheel.filed i) in
    let p = placed_held wheel.tick noted (row_at slots.rows i).stamp (word_at known i) (filed_at wheel.filed i) h (subst P e s.placed) in
    (p.0, filed_is l i p.0 p.1)

-- what the law says of a slot where nothing is held
placed_none : (T : Type 0) (tick noted stamp : ℕ) (w : Parts) (o : Option ℕ) → IsPlaced {T = T} tick noted stamp None w o → (o ≡ None) × IsOver w
placed_none T tick noted stamp w None p = (refl, p.0)
placed_none T tick noted stamp w (Some f) p = absurd p

pub loose_is : {T : Type 0} {noted : ℕ} {wheel : Filing} {slots : SlotRows T} {known : List Parts} {counts : Counts} → IsLawful noted wheel slots known counts → (i : ℕ) → i < length slots.rows → (row_at slots.rows i).held ≡ None → (filed_at wheel.filed i ≡ None) × IsOver (word_at known i)
loose_is {T} {noted} {wheel} {slots} {known} {counts} l i inside e =
    let s = l.each i inside in
    let P : Option (Held T) → Type 0 = λ o. IsPlaced wheel.tick noted (row_at slots.rows i).stamp o (word_at known i) (filed_at wheel.filed i) in
    placed_none T wheel.tick noted (row_at slots.rows i).stamp (word_at known i) (filed_at wheel.filed i) (subst P e s.placed)

-- the slot at an index, where each row was written there
pub slot_set : {T : Type 0} (tick noted last : ℕ) (rows : List (Row T)) (known : List Parts) (filed : List (Option ℕ)) (i : ℕ) (r : Row T) (w : Parts) (f : Option ℕ) → i < length rows → i < length known → i < length filed → IsSlot tick noted last r w f → IsSlot tick noted last (row_at (set rows i r) i) (word_at (set known i w) i) (get_or (set filed i f) i None)
slot_set {T} tick noted last rows known filed i r w f ri ki fi s =
    let P : Row T → Type 0 = λ x. IsSlot tick noted last x (word_at (set known i w) i) (get_or (set filed i f) i None) in
    let Q : Parts → Type 0 = λ x. IsSlot tick noted last r x (get_or (set filed i f) i None) in
    let R : Option ℕ → Type 0 = λ x. IsSlot tick noted last r w x in
    subst P (sym (get_or-set_same rows i r unused ri)) (subst Q (sym (get_or-set_same known i w never ki)) (subst R (sym (get_or-set_same filed i f None fi)) s))

-- the law, where one slot changes
pub law_change : {T : Type 0} {noted : ℕ} {wheel wheel' : Filing} {slots slots' : SlotRows T} {known known' : List Parts} {counts counts' : Counts} → IsLawful noted wheel slots known counts → (i : ℕ) (r : Row T) (w : Parts) (f : Option ℕ) → i < length slots.rows → wheel'.tick ≡ wheel.tick → wheel'.filed ≡ set wheel.filed i f → slots'.last_stamp ≡ slots.last_stamp → slots'.rows ≡ set slots.rows i r → known' ≡ set known i w → IsSlot wheel.tick noted slots.last_stamp r w f → counts'.begins ≤ sum_by (λ x. x.stamp) (set slots.rows i r) → counts'.expiries + counts'.removals + count_by is_held (set slots.rows i r) ≤ counts'.begins → IsLawful noted wheel' slots' known' counts'
law_change {T} {noted} {wheel} {wheel'} {slots} {slots'} {known} {known'} {counts} {counts'} l i r w f inside et ef el er ek s stamps balance =
    let filed_size = l.as_filed in
    let known_size = l.as_known in
    let here = slot_set wheel.tick noted slots.last_stamp slots.rows known wheel.filed i r w f inside (omega arith) (omega arith) s in
    let each = slots_change wheel.tick noted slots.last_stamp slots.rows (set slots.rows i r) known (set known i w) wheel.filed (set wheel.filed i f) i l.each (changed_set slots.rows i r unused) (changed_set known i w never) (changed_set wheel.filed i f None) here in
    record {
      as_filed = rw (ef, er) (simp length-set filed_size);
      as_known = rw (ek, er) (simp length-set known_size);
      capacity = rw er (simp length-set l.capacity);
      last_bound = rw el l.last_bound;
      tick = rw et l.tick;
      noted_bound = l.noted_bound;
      each = rw (et, el, er, ek, ef) each;
      stamps = rw er stamps;
      balance = rw er balance;
    }

-- the law, where a slot is written that holds what it held
pub law_kept : {T : Type 0} {noted : ℕ} {wheel wheel' : Filing} {slots slots' : SlotRows T} {known known' : List Parts} {counts : Counts} → IsLawful noted wheel slots known counts → (i f g : ℕ) (h : Held T) (r : Row T) (w : Parts) → Filed wheel.tick slots.last_stamp slots.rows known wheel.filed i f → wheel'.tick ≡ wheel.tick → wheel'.filed ≡ set wheel.filed i (Some g) → slots'.last_stamp ≡ slots.last_stamp → slots'.rows ≡ set slots.rows i r → known' ≡ set known i w → r.held ≡ (row_at slots.rows i).held → (row_at slots.rows i).stamp ≤ r.stamp → r.stamp ≤ slots.last_stamp → w.stamp ≡ r.stamp → IsInForce r.stamp g w → wheel.tick ≤ g → g < wheel.tick + lap → IsLawful noted wheel' slots' known' counts
law_kept {T} {noted} {wheel} {wheel'} {slots} {slots'} {known} {known'} {counts} l i f g h r w at et ef el er ek held more bound stamp force ahead near =
    let inside = at.inside in
    let was = at.is_held in
    let born = at.born in
    let stamps = l.stamps in
    let balance = l.balance in
    let is : r.held ≡ Some at.held = held ∙ was in
    let P : Option (Held T) → Type 0 = λ o. IsPlaced wheel.tick noted r.stamp o w (Some g) in
    let s : IsSlot wheel.tick noted slots.last_stamp r w (Some g) = record { stamp = stamp; bound = bound; placed = subst P (sym is) (force, ahead, near, omega arith) } in
    let a = count_set is_held slots.rows i r inside in
    let same : one (is_held r) ≡ one (is_held (row_at slots.rows i)) = ap (λ o. one (is_some o)) held in
    let b = stamps_set slots.rows i r inside in
    law_change l i r w (Some g) inside et ef el er ek s (omega (arith, b)) (omega (arith, a, same))

-- the law, where what a slot held leaves it
pub law_vacated : {T : Type 0} {noted : ℕ} {wheel wheel' : Filing} {slots slots' : SlotRows T} {known known' : List Parts} {counts counts' : Counts} → IsLawful noted wheel slots known counts → (i f : ℕ) (w : Parts) → Filed wheel.tick slots.last_stamp slots.rows known wheel.filed i f → wheel' ≡ unlinked wheel i → slots' ≡ vacated slots i → known' ≡ set known i w → w.stamp ≡ (row_at slots.rows i).stamp → w.mark ≢ LiveMark → (w.mark ≡ ExpiredMark → w.field ≤ noted) → counts'.begins ≡ counts.begins → counts'.expiries + counts'.removals ≤ counts.expiries + counts.removals + 1 → IsLawful noted wheel' slots' known' counts'
law_vacated {T} {noted} {wheel} {wheel'} {slots} {slots'} {known} {known'} {counts} {counts'} l i f w at ew es ek stamp over late begins ended =
    let inside = at.inside in
    let stamps = l.stamps in
    let balance = l.balance in
    let r = vacated_row (row_at slots.rows i) in
    let s : IsSlot wheel.tick noted slots.last_stamp r w None = record { stamp = stamp; bound = at.bound; placed = (inr over, late) } in
    let a = count_set is_held slots.rows i r inside in
    let was : one (is_held (row_at slots.rows i)) ≡ 1 = one_held (row_at slots.rows i).held at.held at.is_held in
    let b = stamps_set slots.rows i r inside in
    law_change l i r w None inside (ap (λ x. x.tick) ew) (ap (λ x. x.filed) ew) (ap (λ x. x.last_stamp) es) (ap (λ x. x.rows) es) ek s (omega (arith, b)) (omega (arith, a, was))

-- a word in force stays so where more of it is learned
pub force_learned : (shared : Bool) (s f : ℕ) (w v : Parts) → IsInForce s f w → Learned shared w v → IsInForce s f v
force_learned shared s f w v force (inl same) = let P : Parts → Type 0 = λ x. IsInForce s f x in subst P (sym same) force
force_learned shared s f w v (pos, inl (is, after, small)) (inr (open_, alive, inl (is', more, small'))) =
    let stamp : w.stamp ≡ s = ap (λ p. p.stamp) is in
    (pos, inl (is' ∙ ap (λ n. live n v.field) stamp, omega (arith, after, more), small'))
force_learned shared s f w v (pos, inl (is, after, small)) (inr (open_, alive, inr is')) =
    let stamp : w.stamp ≡ s = ap (λ p. p.stamp) is in
    (pos, inr (is' ∙ ap cancelled stamp))
force_learned shared s f w v (pos, inr is) (inr (open_, alive, more)) =
    let mark : w.mark ≡ CancelledMark = ap (λ p. p.mark) is in
    absurd (cc)

-- its stamp is the slot's
pub force_stamp : (s f : ℕ) (w : Parts) → IsInForce s f w → w.stamp ≡ s
force_stamp s f w (pos, inl (is, after, small)) = ap (λ p. p.stamp) is
force_stamp s f w (pos, inr is) = ap (λ p. p.stamp) is

-- what is filed lies before what is in force
pub force_low : (s f g : ℕ) (w : Parts) → g ≤ f → IsInForce s f w → IsInForce s g w
force_low s f g w low (pos, inl (is, after, small)) = (pos, inl (is, omega (arith, after), small))
force_low s f g w low (pos, inr is) = (pos, inr is)

-- a live word in force
pub force_live : (s f d : ℕ) → IsInForce s f (live s d) → (f ≤ d) × (d ≤ LAST_TICK)
force_live s f d (pos, inl (is, after, small)) = (after, small)
force_live s f d (pos, inr is) =
    let mark : LiveMark ≡ CancelledMark = ap (λ p. p.mark) is in
    absurd (cc)

-- the law, where more is learned of the word of a held slot
pub law_learned : {T : Type 0} {noted : ℕ} {wheel : Filing} {slots : SlotRows T} {known known' : List Parts} {counts : Counts} → IsLawful noted wheel slots known counts → (shared : Bool) (i f : ℕ) (w : Parts) → Filed wheel.tick slots.last_stamp slots.rows known wheel.filed i f → Learned shared (word_at known i) w → known' ≡ set known i w → IsLawful noted wheel slots known' counts
law_learned {T} {noted} {wheel} {slots} {known} {known'} {counts} l shared i f w at learned ek =
    let force = force_learned shared (row_at slots.rows i).stamp f (word_at known i) w at.in_force learned in
    let filed : wheel.filed ≡ set wheel.filed i (Some f) = sym (set-get_or wheel.filed i None) ∙ ap (λ o. set wheel.filed i o) at.is_filed in
    law_kept l i f f at.held (row_at slots.rows i) w at refl filed refl (sym (set-get_or slots.rows i unused)) ek refl (omega arith) at.bound (force_stamp (row_at slots.rows i).stamp f w force) force at.ahead at.near
