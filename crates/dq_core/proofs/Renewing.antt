-- A renewal: what it leaves of the slots, of the law and of the machine.
use Rattle.std.proofs.Common.{◌≡◌, ℕ, ◌+◌, ◌<◌, ◌≤◌, zero, suc, Bool, true, false, cond, List, [], ◌∷◌, length, set, replicate, Option, None, Some, MatchBool, is_some, is_none, refl, sym, ap, ◌∙◌, subst, inl, ⊎_elim, arith}
use Rattle.std.specs.List.{count_by, sum_by}
use Rattle.std.proofs.lemmas.List.{length-set, length-replicate, get_or-replicate, ext_get_or}
use Rattle.std.proofs.lemmas.List.Sums.{sum_by-cons}
use Rattle.std.proofs.lemmas.Bool.{and_right, cases_eq, lt-ltb, le-ltb}
use Rattle.dq_ticks.specs.declared.words.Parts.{Parts}
use Rattle.dq_ticks.specs.declared.TheConstants.{LAST_TICK}
use Rattle.dq_wheel.specs.State.{Filing, filed_at}
use Rattle.dq_wheel.specs.Moves.{passed, ReachesWake, ReachesLimit}
use Rattle.dq_core.specs.declared.slots.Held.{Held}
use Rattle.dq_core.specs.Words.{Counts, word_at, never, AreFresh}
use Rattle.dq_core.specs.Slots.{Row, SlotRows, unused, row_at, is_held, is_free, IsRow}
use Rattle.dq_core.specs.FreeSlots.{FreeIndexes, free_times, room_of}
use Rattle.dq_core.specs.Deferred.{Deferred, deferred_at}
use Rattle.dq_core.specs.SlotRowsKept.{is_open, usable_times, GivesSlot, IsSlotRowsKept}
use Rattle.dq_core.specs.Machine.{TableRow, Machine}
use Rattle.dq_core.specs.Core.{Core, machine, table_of, IsPlaced, IsSlot, IsLawful}
use Rattle.dq_core.specs.Renewals.{never_used, fresh_machine, OldAreMissing}
use Rattle.dq_core.proofs.Law.{filed_is, loose_is}
use Rattle.dq_core.proofs.SlotRows.{count_set, open_other, open_same, slot_rows_set}
use Rattle.dq_core.proofs.Ways.{length-table}

abbrev one : Bool → ℕ
one b = cond b 1 0

-- a slot that was never used is in good order
unused_good : {T : Type 0} (last : ℕ) → IsRow last (unused {T = T})
unused_good last = record { bound = omega arith; birth = λ h e. cc }

-- a worn slot that holds nothing is not among the free ones
pub worn_not_free : {T : Type 0} {last : ℕ} {rows : List (Row T)} {free : FreeIndexes} {waiting : Deferred} {taken spared : ℕ} → IsSlotRowsKept last rows free waiting taken spared → (i : ℕ) → i < length rows → last ≤ (row_at rows i).stamp → (i < room_of free) × (usable_times free waiting i ≡ 0) × (free_times free i ≡ 0) × (deferred_at waiting i ≡ 0)
worn_not_free {last = last} {rows = rows} s i inside over =
    let k = s.room in
    let none = s.freed i ∙ ap one (and_right _ _ (and_right _ _ (le-ltb (row_at rows i).stamp last over))) in
    (omega arith, none, omega (arith, none), omega (arith, none))

-- a worn slot is free once it is as if it had never been used
pub worn_forgotten : {T : Type 0} {last : ℕ} {rows : List (Row T)} {free : FreeIndexes} {waiting : Deferred} {taken spared : ℕ} → IsSlotRowsKept last rows free waiting taken spared → (more : FreeIndexes) (deferred : Deferred) (i : ℕ) → i < length rows → is_held (row_at rows i) ≡ false → last ≤ (row_at rows i).stamp → GivesSlot free waiting i more deferred → IsSlotRowsKept last (set rows i unused) more deferred taken (spared + 1)
worn_forgotten {T = T} {last = last} {rows = rows} {free = free} {waiting = waiting} {taken = taken} s more deferred i inside none over g =
    let r : Row T = row_at rows i in
    let used = s.slots.used in
    let frees = count_set (is_free last) rows i unused inside in
    let helds = count_set is_held rows i unused inside in
    let was_free : one (is_free last r) ≡ 0 = ap one (and_right _ _ (le-ltb r.stamp last over)) in
    let was_held : one (is_held r) ≡ 0 = ap one none in
    let now_free : one (is_free last (unused {T = T})) ≡ 1 = ap one (lt-ltb 0 last used) in
    let before = worn_not_free s i inside over in
    record {
      slots = slot_rows_set s.slots i unused (unused_good last);
      freed = λ j. ⊎_elim
          (λ same. subst (λ k. usable_times more deferred k ≡ one (is_open last (set rows i unused) k)) (sym same) (g.one_more ∙ ap (λ n. n + 1) before.1 ∙ sym now_free ∙ sym (ap one (open_same last rows i unused inside))))
          (λ ne. g.others j ne ∙ s.freed j ∙ sym (ap one (open_other last rows i unused j ne)))
          (cases_eq j i);
      spare = let k = s.spare in omega arith;
      counted = let k = s.counted in omega arith;
      room = let k = s.room in let l = g.room in rw (length-set rows i (unused {T = T})) (omega arith);
    }

none_or_held : {A : Type 0} (o : Option A) → is_some o ≡ false → is_none o ≡ true
none_or_held None e = refl
none_or_held (Some x) e = cc

-- a free slot stays free where it is as if it had never been used
pub free_forgotten : {T : Type 0} {last : ℕ} {rows : List (Row T)} {free : FreeIndexes} {waiting : Deferred} {taken spared : ℕ} → IsSlotRowsKept last rows free waiting taken spared → (i : ℕ) → i < length rows → is_held (row_at rows i) ≡ false → (row_at rows i).stamp < last → IsSlotRowsKept last (set rows i unused) free waiting taken spared
free_forgotten {T = T} {last = last} {rows = rows} {free = free} {waiting = waiting} {taken = taken} s i inside none left =
    let r : Row T = row_at rows i in
    let used = s.slots.used in
    let frees = count_set (is_free last) rows i unused inside in
    let helds = count_set is_held rows i unused inside in
    let is : is_free last r ≡ true = rw (none_or_held r.held none, lt-ltb r.stamp last left) refl in
    let was_free : one (is_free last r) ≡ 1 = ap one is in
    let was_held : one (is_held r) ≡ 0 = ap one none in
    let now_free : one (is_free last (unused {T = T})) ≡ 1 = ap one (lt-ltb 0 last used) in
    let open_ : is_open last rows i ≡ true = rw (lt-ltb i (length rows) inside, is) refl in
    let was_open : one (is_open last rows i) ≡ 1 = ap one open_ in
    record {
      slots = slot_rows_set s.slots i unused (unused_good last);
      freed = λ j. ⊎_elim
          (λ same. subst (λ k. usable_times free waiting k ≡ one (is_open last (set rows i unused) k)) (sym same) (s.freed i ∙ was_open ∙ sym now_free ∙ sym (ap one (open_same last rows i unused inside))))
          (λ ne. s.freed j ∙ sym (ap one (open_other last rows i unused j ne)))
          (cases_eq j i);
      spare = let k = s.spare in omega arith;
      counted = let k = s.counted in omega arith;
      room = rw (length-set rows i (unused {T = T})) s.room;
    }

none_by : (b : Bool) → one b ≡ 0 → b ≡ false
none_by true e = absurd (omega arith)
none_by false e = refl

-- where no slot is held, none is at any index
pub none_held_at : {T : Type 0} (rows : List (Row T)) → count_by is_held rows ≡ 0 → (i : ℕ) → is_held (row_at rows i) ≡ false
none_held_at [] none i = refl
none_held_at (r ∷ rows) none zero = let s = sum_by-cons (λ x. one (is_held x)) r rows in none_by (is_held r) (omega arith)
none_held_at (r ∷ rows) none (suc i) = let s = sum_by-cons (λ x. one (is_held x)) r rows in none_held_at rows (omega arith) i

is_none_of : {A : Type 0} (o : Option A) → is_some o ≡ false → o ≡ None
is_none_of None e = refl
is_none_of (Some x) e = cc

-- slots of which each is as if it had never been used
pub all_unused : {T : Type 0} (rows : List (Row T)) (n : ℕ) → length rows ≡ n → ((i : ℕ) → i < n → row_at rows i ≡ unused) → rows ≡ replicate n unused
all_unused {T} rows n size each =
    ext_get_or (unused {T = T}) rows (replicate n unused) (size ∙ sym (length-replicate n (unused {T = T})))
    (λ i inside. each i (omega arith) ∙ sym (get_or-replicate n i (unused {T = T}) unused (omega arith)))

-- the slots, where each is as if it had never been used
pub all_forgotten : {T : Type 0} (s t : SlotRows T) (n : ℕ) → s.last_stamp ≡ t.last_stamp → length s.rows ≡ length t.rows → length t.rows ≤ n → ((i : ℕ) → i < n → row_at s.rows i ≡ unused) → s ≡ never_used t
all_forgotten {T} s t n last size over each =
    let rows = all_unused s.rows (length t.rows) size (λ i inside. each i (omega arith)) in
    let S : ℕ → List (Row T) → SlotRows T = λ l rs. record { last_stamp = l; rows = rs } in
    ap (λ l. S l s.rows) last ∙ ap (λ rs. S t.last_stamp rs) rows

-- no slot is held that was never used
pub none_counted : (T : Type 0) (n : ℕ) → count_by is_held (replicate n (unused {T = T})) ≡ 0
none_counted T zero = refl
none_counted T (suc n) = let s = sum_by-cons (λ x. one (is_held x)) (unused {T = T}) (replicate n unused) in let k = none_counted T n in omega arith

-- the table of slots and words that were never used
table_unused : {T : Type 0} (n : ℕ) → table_of (replicate n (unused {T = T})) (replicate n never) ≡ replicate n (record { stamp = 0; entry = None })
table_unused zero = refl
table_unused {T} (suc n) = ap (λ (ts : List (TableRow T)). record { stamp = 0; entry = None } ∷ ts) (table_unused n)

-- the machine after a renewal
pub renewed_machine : {T W : Type 0} (b : Core T W) (slots : SlotRows T) (known : List Parts) → length b.known ≡ length b.slots.rows → slots ≡ never_used b.slots → known ≡ replicate (length known) never → length known ≡ length b.slots.rows → (record { tick = b.wheel.filing.tick; noted = b.noted; table = table_of slots.rows known }) ≡ fresh_machine (machine b)
renewed_machine {T} {W} b slots known sizes es ek size =
    let n = length b.slots.rows in
    let ks : known ≡ replicate n never = ek ∙ ap (λ m. replicate m never) size in
    let t : table_of slots.rows known ≡ replicate n (record { stamp = 0; entry = None }) =
    ap (λ s. table_of s.rows known) es ∙ ap (λ ws. table_of (replicate n (unused {T = T})) ws) ks ∙ table_unused n in
    let back : length (table_of b.slots.rows b.known) ≡ n = length-table b.slots.rows b.known sizes in
    let M : List (TableRow T) → Machine T = λ ts. record { tick = b.wheel.filing.tick; noted = b.noted; table = ts } in
    ap M (t ∙ ap (λ m. replicate m (record { stamp = 0; entry = None })) (sym back))

-- nothing is filed where nothing is held
pub none_filed : {T : Type 0} {noted : ℕ} {wheel : Filing} {slots : SlotRows T} {known : List Parts} {counts : Counts} → IsLawful noted wheel slots known counts → count_by is_held slots.rows ≡ 0 → (i f : ℕ) → filed_at wheel.filed i ≡ Some f → ⊥
none_filed {T} {noted} {wheel} {slots} {known} {counts} l none i f e =
    let at = filed_is l i f e in
    let held : is_held (row_at slots.rows i) ≡ true = ap (λ o. is_some o) at.is_held in
    let free : false ≡ true = sym (none_held_at slots.rows none i) ∙ held in
    absurd (cc)

-- where nothing is filed the wheel goes to the limit
pub goes_to_limit : (old new : Filing) (limit : ℕ) (reached : Bool) → ((i f : ℕ) → filed_at old.filed i ≡ Some f → ⊥) → MatchBool reached (ReachesWake old limit new) (ReachesLimit old limit new) → new ≡ passed old limit
goes_to_limit old new limit true none way = let wake = way.1.some in absurd (none wake.0 wake.1 wake.2)
goes_to_limit old new limit false none way = way.1

placed_noted : {T : Type 0} (tick noted later stamp : ℕ) (o : Option (Held T)) (w : Parts) (f : Option ℕ) → o ≡ None → noted ≤ later → IsPlaced tick noted stamp o w f → IsPlaced later later stamp o w f
placed_noted tick noted later stamp None w None e up p = (p.0, λ x. let at = p.1 x in omega (arith, at, up))
placed_noted tick noted later stamp None w (Some f) e up p = absurd p
placed_noted tick noted later stamp (Some h) w f e up p = cc

-- the law, where nothing is held, once a later tick is noted and the wheel went there
pub law_later : {T : Type 0} {noted later : ℕ} {wheel wheel' : Filing} {slots : SlotRows T} {known : List Parts} {counts : Counts} → IsLawful noted wheel slots known counts → count_by is_held slots.rows ≡ 0 → noted ≤ later → later ≤ LAST_TICK → wheel' ≡ passed wheel later → IsLawful later wheel' slots known counts
law_later {T} {noted} {later} {wheel} {wheel'} {slots} {known} {counts} l none up bound is =
    rw is
    (record {
      as_filed = l.as_filed;
      as_known = l.as_known;
      capacity = l.capacity;
      last_bound = l.last_bound;
      tick = omega arith;
      noted_bound = bound;
      each = λ i inside.
          let s = l.each i inside in
          let gone = is_none_of (row_at slots.rows i).held (none_held_at slots.rows none i) in
          record { stamp = s.stamp; bound = s.bound; placed = placed_noted wheel.tick noted later (row_at slots.rows i).stamp (row_at slots.rows i).held (word_at known i) (filed_at wheel.filed i) gone up s.placed };
      stamps = l.stamps;
      balance = l.balance;
    })
