-- Entries that are looked for: found live, found cancelled, removed, reset, or missing.
use Rattle.std.proofs.Common.{◌≡◌, ◌≢◌, ℕ, ◌+◌, ◌<◌, ◌≤◌, max, Bool, List, length, set, Option, Some, None, refl, sym, ap, ◌∙◌, subst, inl, inr, arith}
use Rattle.std.proofs.lemmas.List.{get_or-set_same, set-set}
use Rattle.dq_ticks.specs.declared.words.Parts.{Parts}
use Rattle.dq_ticks.specs.declared.words.Mark.TheVariants.{LiveMark, CancelledMark, RemovedMark}
use Rattle.dq_ticks.specs.declared.keys.Key.{Key}
use Rattle.dq_ticks.specs.declared.keys.EntryId.{EntryId}
use Rattle.dq_ticks.specs.declared.TheConstants.{LAST_TICK}
use Rattle.dq_ticks.specs.Units.{lap}
use Rattle.dq_wheel.specs.State.{Filing, WheelState, filed_at, linked, unlinked}
use Rattle.dq_core.specs.declared.slots.Held.{Held}
use Rattle.dq_core.specs.declared.outcomes.Removed.{Removed}
use Rattle.dq_core.specs.Words.{Counts, word_at, IsInForce, Learned, IsChanged, live, cancelled, removed, finished_counts}
use Rattle.dq_core.specs.Slots.{SlotRows, row_at, vacated, vacated_row, raised, raised_row, IsBorn}
use Rattle.dq_core.specs.Machine.{Entry, Machine, Callers, Has, table_at, put}
use Rattle.dq_core.specs.Core.{Core, machine, IsLawful, IsLawfulCore, filing_for, due_by, entry_of}
use Rattle.dq_core.specs.TableRows.{machine_of}
use Rattle.dq_core.specs.Calls.{IsLookedAt, IsFound, IsMissing, IsFoundCancelled, IsFoundLive, IsRemoved, IsReset, file_for}
use Rattle.dq_core.proofs.Slotwise.{held_inside}
use Rattle.dq_core.proofs.Law.{Filed, held_filed, law_kept, law_vacated, force_learned, force_low}
use Rattle.dq_core.proofs.Ways.{Learning, learning, machine_is, vacated_of, raised_of, table_row_is}
use Rattle.dq_core.proofs.Steps.{relinked}

entry_held : {T : Type 0} (o : Option (Held T)) (w : Parts) (e : Entry T) → entry_of o w ≡ Some e → (h : Held T) × (o ≡ Some h) × (h.born ≡ e.born)
entry_held None w e is = absurd (cc)
entry_held {T} (Some h) w e is =
    let x : Entry T = record { born = h.born; value = h.value; due = due_by w.mark w.field } in
    let same : x ≡ e = cc in
    (h, refl, ap (λ y. y.born) same)

-- what isn't held there under that birth stamp is missing
pub missing_by : {T W : Type 0} (b : Core T W) → IsLawfulCore b → (id : EntryId) → ((h : Held T) → (row_at b.slots.rows id.index).held ≡ Some h → h.born ≢ id.born) → IsMissing b id
missing_by b l id none shard e is =
    let at = entry_held (row_at b.slots.rows id.index).held (word_at b.known id.index) e (sym (ap (λ s. s.entry) (table_row_is b.slots.rows b.known l.as_known id.index)) ∙ is) in
    λ born. none at.0 at.1 (at.2 ∙ born)

pub missing_past : {T W : Type 0} (b : Core T W) → IsLawfulCore b → (id : EntryId) → length b.slots.rows ≤ id.index → IsMissing b id
missing_past b l id past =
    missing_by b l id (λ h e.
    let inside = held_inside b.slots.rows id.index h e in
    absurd (omega (arith, inside, past)))

pub missing_born : {T W : Type 0} (b : Core T W) → IsLawfulCore b → (id : EntryId) → (i : ℕ) → i ≡ id.index → (o : Option ℕ) → IsBorn (row_at b.slots.rows i) o → ((n : ℕ) → o ≡ Some n → n ≢ id.born) → IsMissing b id
missing_born b l id i ei None none other =
    let P : ℕ → Type 0 = λ n. (row_at b.slots.rows n).held ≡ None in
    let gone : (row_at b.slots.rows id.index).held ≡ None = subst P ei none in
    missing_by b l id (λ h e. absurd (cc))
missing_born {T} b l id i ei (Some n) born other =
    let P : ℕ → Type 0 = λ k. (row_at b.slots.rows k).held ≡ Some born.0 in
    let held : (row_at b.slots.rows id.index).held ≡ Some born.0 = subst P ei born.1 in
    missing_by b l id (λ h e.
    let one : ◌≡◌ {A = Option (Held T)} (Some born.0) (Some h) = sym held ∙ e in
    let same : born.0 ≡ h = cc in
    λ eq. other n refl (sym born.2 ∙ ap (λ x. x.born) same ∙ eq))

-- what the law says of a found entry
pub found_filed : {T W : Type 0} (b : Core T W) → IsLawfulCore b → (id : EntryId) (i : ℕ) → IsFound b id i → (f : ℕ) × Filed b.wheel.filing.tick b.slots.last_stamp b.slots.rows b.known b.wheel.filing.filed i f
found_filed b l id i found = held_filed l i found.3.0 found.2 found.3.1

-- what is found isn't missing
pub not_missing : {T W : Type 0} (b : Core T W) → IsLawfulCore b → (id : EntryId) (i : ℕ) → IsFound b id i → ¬ IsMissing b id
not_missing {T} b l id i (shard, at, inside, (h, held, born)) missing =
    let P : ℕ → Type 0 = λ n. (row_at b.slots.rows n).held ≡ Some h in
    let e : Entry T = record { born = h.born; value = h.value; due = due_by (word_at b.known id.index).mark (word_at b.known id.index).field } in
    let is : (table_at (machine b) id.index).entry ≡ Some e =
    ap (λ s. s.entry) (table_row_is b.slots.rows b.known l.as_known id.index) ∙ ap (λ o. entry_of o (word_at b.known id.index)) (subst P at held) in
    missing shard e is born

-- its word is in force
pub found_force : {T W : Type 0} (b : Core T W) → IsLawfulCore b → (id : EntryId) (i stamp : ℕ) → IsFound b id i → stamp ≡ (row_at b.slots.rows i).stamp → IsInForce stamp 0 (word_at b.known i)
found_force b l id i stamp found e =
    let at = (found_filed b l id i found) in
    let P : ℕ → Type 0 = λ s. IsInForce s 0 (word_at b.known i) in
    subst P (sym e) (force_low (row_at b.slots.rows i).stamp at.0 0 (word_at b.known i) (omega arith) at.1.in_force)

-- and its index is filed
pub found_linked : {T W : Type 0} (b : Core T W) → IsLawfulCore b → (id : EntryId) (i : ℕ) → IsFound b id i → filed_at b.wheel.filing.filed i ≢ None
found_linked b l id i found =
    let at = (found_filed b l id i found) in
    let is : filed_at b.wheel.filing.filed i ≡ Some at.0 = at.1.is_filed in
    λ e. cc

-- a word in force that is seen cancelled, or isn't
pub seen_cancelled : (s f : ℕ) (v : Parts) → IsInForce s f v → v.mark ≡ CancelledMark → v ≡ cancelled s
seen_cancelled s f v (pos, inl (is, after, small)) e =
    let mark : v.mark ≡ LiveMark = ap (λ p. p.mark) is in
    absurd (cc)
seen_cancelled s f v (pos, inr is) e = is

pub seen_live : (s f : ℕ) (v : Parts) → IsInForce s f v → v.mark ≢ CancelledMark → v ≡ live s v.field
seen_live s f v (pos, inl (is, after, small)) ne = is
seen_live s f v (pos, inr is) ne = absurd (ne (ap (λ p. p.mark) is))

module _ {T W : Type 0} (shared : Bool) (b : Core T W) (l : IsLawfulCore b) (id : EntryId) (i : ℕ) (found : IsFound b id i) where
  ei : id.index ≡ i
  ei = sym found.1

  f : ℕ
  f = (found_filed b l id i found).0

  at : Filed b.wheel.filing.tick b.slots.last_stamp b.slots.rows b.known b.wheel.filing.filed i ((found_filed b l id i found).0)
  at = (found_filed b l id i found).1

  inside_known : i < length b.known
  inside_known = let size = l.as_known in let inside = found.2 in omega arith

  -- what is learned of a found entry's word
  lea : (v : Parts) → v.stamp ≡ (row_at b.slots.rows i).stamp → Learned shared (word_at b.known i) v → Learning shared b.slots.last_stamp b.wheel.filing.tick b.noted b.slots.rows b.known i found.3.0 v
  lea v vs learned = learning shared b.slots.last_stamp b.wheel.filing.tick b.noted b.slots.rows b.known i found.3.0 v l.as_known found.2 found.3.1 (at.stamp) vs learned

  looked : (c : Core T W) (v : Parts) → v.stamp ≡ (row_at b.slots.rows i).stamp → Learned shared (word_at b.known i) v → c.known ≡ set b.known i v → c.wheel ≡ b.wheel → c.slots ≡ b.slots → c.counts ≡ b.counts → c.shard ≡ b.shard → c.noted ≡ b.noted → IsLookedAt shared b i v c × Has (machine c) i (record { born = found.3.0.born; value = found.3.0.value; due = due_by v.mark v.field })
  looked c v vs learned ek ew es ec esh en =
      let m1 = machine_of b.wheel.filing.tick b.noted b.slots.rows (set b.known i v) in
      let mc : machine c ≡ m1 = machine_is c b.wheel.filing.tick b.noted b.slots.rows (set b.known i v) (ap (λ w. w.filing.tick) ew) en (ap (λ s. s.rows) es) ek in
      let le = lea v vs learned in
      let P : Machine T → Type 0 = λ m. Callers shared b.slots.last_stamp (machine b) m in
      let Q : Machine T → Type 0 = λ m. Has m i (record { born = found.3.0.born; value = found.3.0.value; due = due_by v.mark v.field }) in
      (record { learned = learned; known = ek; callers = subst P (sym mc) le.way; shard = esh; noted = en; wheel = ew; slots = es; counts = ec }, subst Q (sym mc) le.has)

  -- a found entry whose word is looked at, and is cancelled
  pub found_cancelled : (c : Core T W) (v : Parts) → v ≡ cancelled (row_at b.slots.rows i).stamp → Learned shared (word_at b.known i) v → c.known ≡ set b.known i v → c.wheel ≡ b.wheel → c.slots ≡ b.slots → c.counts ≡ b.counts → c.shard ≡ b.shard → c.noted ≡ b.noted → IsFoundCancelled shared b id c
  found_cancelled c v is learned ek ew es ec esh en =
      let lk = looked c v (ap (λ p. p.stamp) is) learned ek ew es ec esh en in
      let P : Parts → Type 0 = λ p. IsLookedAt shared b i p c in
      record {
        shard = found.0;
        looked = rw ei (subst P is lk.0);
        entry = rw ei (record { born = found.3.0.born; value = found.3.0.value; due = due_by v.mark v.field }, lk.1, found.3.2, ap (λ p. due_by p.mark p.field) is);
      }

  -- a found entry whose word is looked at, and is live
  pub found_live : (c : Core T W) (v : Parts) (d : ℕ) → v ≡ live (row_at b.slots.rows i).stamp d → Learned shared (word_at b.known i) v → c.known ≡ set b.known i v → c.wheel ≡ b.wheel → c.slots ≡ b.slots → c.counts ≡ b.counts → c.shard ≡ b.shard → c.noted ≡ b.noted → IsFoundLive shared b id d c
  found_live c v d is learned ek ew es ec esh en =
      let lk = looked c v (ap (λ p. p.stamp) is) learned ek ew es ec esh en in
      let P : Parts → Type 0 = λ p. IsLookedAt shared b i p c in
      record {
        shard = found.0;
        looked = rw ei (subst P is lk.0);
        entry = rw ei (record { born = found.3.0.born; value = found.3.0.value; due = due_by v.mark v.field }, lk.1, found.3.2, ap (λ p. due_by p.mark p.field) is);
      }

  -- the same, by the mark that is seen
  pub seen_as_cancelled : (c : Core T W) (v : Parts) → v.mark ≡ CancelledMark → Learned shared (word_at b.known i) v → c.known ≡ set b.known i v → c.wheel ≡ b.wheel → c.slots ≡ b.slots → c.counts ≡ b.counts → c.shard ≡ b.shard → c.noted ≡ b.noted → IsFoundCancelled shared b id c
  seen_as_cancelled c v mark learned =
      found_cancelled c v (seen_cancelled (row_at b.slots.rows i).stamp (found_filed b l id i found).0 v (force_learned shared (row_at b.slots.rows i).stamp (found_filed b l id i found).0 (word_at b.known i) v (at.in_force) learned) mark) learned

  pub seen_as_live : (c : Core T W) (v : Parts) → v.mark ≢ CancelledMark → Learned shared (word_at b.known i) v → c.known ≡ set b.known i v → c.wheel ≡ b.wheel → c.slots ≡ b.slots → c.counts ≡ b.counts → c.shard ≡ b.shard → c.noted ≡ b.noted → IsFoundLive shared b id v.field c
  seen_as_live c v mark learned =
      found_live c v v.field (seen_live (row_at b.slots.rows i).stamp (found_filed b l id i found).0 v (force_learned shared (row_at b.slots.rows i).stamp (found_filed b l id i found).0 (word_at b.known i) v (at.in_force) learned) mark) learned

  -- the law where a found entry is removed
  pub law_removed : (wheel : WheelState) (slots : SlotRows T) (known : List Parts) (counts : Counts) (stamp d : ℕ) → stamp ≡ (row_at b.slots.rows i).stamp → word_at known i ≡ removed stamp d → wheel.filing ≡ unlinked b.wheel.filing i → slots ≡ vacated b.slots i → known ≡ set b.known i (word_at known i) → counts ≡ finished_counts b.counts (Some d) → IsLawful b.noted wheel.filing slots known counts
  law_removed wheel slots known counts stamp d es is ew eslots ek ec =
      let v = word_at known i in
      let vs : v.stamp ≡ (row_at b.slots.rows i).stamp = ap (λ p. p.stamp) is ∙ es in
      let vm : v.mark ≡ RemovedMark = ap (λ p. p.mark) is in
      let begins : counts.begins ≡ b.counts.begins = ap (λ n. n.begins) ec in
      let expiries : counts.expiries ≡ b.counts.expiries = ap (λ n. n.expiries) ec in
      let removals : counts.removals ≡ b.counts.removals + 1 = ap (λ n. n.removals) ec in
      law_vacated l i (found_filed b l id i found).0 v at ew eslots ek vs (λ e. cc) (λ e. absurd (cc)) begins (omega (arith, expiries, removals))

  -- a found entry that is live is removed
  pub removes : (c : Core T W) (stamp d : ℕ) (h : Held T) (x : Removed T) → stamp ≡ (row_at b.slots.rows i).stamp → IsChanged shared stamp (removed stamp) (word_at b.known i) (Some d) (word_at c.known i) → (row_at b.slots.rows i).held ≡ Some h → c.wheel.filing ≡ unlinked b.wheel.filing i → c.slots ≡ vacated b.slots i → c.known ≡ set b.known i (word_at c.known i) → c.counts ≡ finished_counts b.counts (Some d) → x.key ≡ record { entry = id; stamp = stamp } → x.deadline ≡ d → x.value ≡ h.value → c.shard ≡ b.shard → c.noted ≡ b.noted → IsRemoved shared b id x c
  removes c stamp d h x es changed held ew eslots ek ec ekey ed ev esh en =
      let s = (row_at b.slots.rows i).stamp in
      let t = b.wheel.filing.tick in
      let w = live s d in
      let L : ℕ → Type 0 = λ n. Learned shared (word_at b.known i) (live n d) in
      let learned : Learned shared (word_at b.known i) w = subst L es changed.0 in
      let le = lea w refl learned in
      let v = word_at c.known i in
      let m1 = machine_of t b.noted b.slots.rows (set b.known i w) in
      let twice : c.known ≡ set (set b.known i w) i v = ek ∙ sym (set-set b.known i w v) in
      let mc : machine c ≡ put m1 i (table_at m1 i).stamp None =
      machine_is c t b.noted (set b.slots.rows i (vacated_row (row_at b.slots.rows i))) (set (set b.known i w) i v) (ap (λ y. y.tick) ew) en (ap (λ y. y.rows) eslots) twice
      ∙ vacated_of t b.noted b.slots.rows (set b.known i w) i v le.sizes in
      let kid : x.key.entry ≡ id = ap (λ k. k.entry) ekey in
      let ks : x.key.stamp ≡ s = ap (λ k. k.stamp) ekey ∙ es in
      let one : ◌≡◌ {A = Option (Held T)} (Some found.3.0) (Some h) = sym found.3.1 ∙ held in
      let same : found.3.0 ≡ h = cc in
      let value : x.value ≡ found.3.0.value = ev ∙ sym (ap (λ y. y.value) same) in
      let born : id.born ≡ found.3.0.born = sym found.3.2 in
      let e : Entry T = record { born = found.3.0.born; value = found.3.0.value; due = Some d } in
      let written : word_at c.known i ≡ removed s d = changed.1 ∙ ap (λ n. removed n d) es in
      record {
        shard = found.0;
        key = kid;
        run = rw (ei, ks, value, born, ed) (m1, le.way, (e, d, le.has, refl, refl, mc), le.has, le.stamp);
        learned = rw (ei, ks, ed) learned;
        known = rw (ei, ks, ed) (ek ∙ ap (λ p. set b.known i p) written);
        counts = ec;
        filed = rw ei ew;
        slots = rw ei eslots;
        same_shard = esh;
        noted = en;
      }

  -- its stamp isn't the last one, so it is below
  pub below_last : (stamp last : ℕ) → stamp ≡ (row_at b.slots.rows i).stamp → last ≡ b.slots.last_stamp → (stamp ≡ last → ⊥) → stamp < b.slots.last_stamp
  below_last stamp last es el ne = let bound = at.bound in omega (arith, es, el, bound, ne)

  -- the law where a found entry gets the next stamp and another base
  pub law_reset : (wheel : WheelState) (slots : SlotRows T) (known : List Parts) (counts : Counts) (stamp tick base g when : ℕ) → stamp ≡ (row_at b.slots.rows i).stamp → stamp < b.slots.last_stamp → when ≤ LAST_TICK → tick ≡ b.wheel.filing.tick → base ≡ max when tick → g ≡ filing_for tick base → word_at known i ≡ live (stamp + 1) base → wheel.filing ≡ linked b.wheel.filing i g → slots ≡ raised b.slots i → known ≡ set b.known i (word_at known i) → counts ≡ b.counts → IsLawful b.noted wheel.filing slots known counts
  law_reset wheel slots known counts stamp tick base g when es below small et eb eg is ew eslots ek ec =
      let v = word_at known i in
      let s = (row_at b.slots.rows i).stamp in
      let noted = l.tick in
      let bound = l.noted_bound in
      let vs : v.stamp ≡ s + 1 = ap (λ p. p.stamp) is ∙ ap (λ n. n + 1) es in
      let fits : (b.wheel.filing.tick ≤ g) × (g < b.wheel.filing.tick + lap) × (g ≤ base) × (base ≤ LAST_TICK) = (omega arith, omega arith, omega arith, omega arith) in
      let written : v ≡ live (s + 1) base = is ∙ ap (λ n. live (n + 1) base) es in
      let F : Parts → Type 0 = λ p. IsInForce (s + 1) g p in
      let force : IsInForce (s + 1) g v = subst F (sym written) (omega arith, inl (refl, fits.2, fits.3)) in
      let C : Counts → Type 0 = λ n. IsLawful b.noted wheel.filing slots known n in
      subst C (sym ec) (law_kept l i (found_filed b l id i found).0 g found.3.0 (raised_row (row_at b.slots.rows i)) v at (ap (λ x. x.tick) ew) (ap (λ x. x.filed) ew) (ap (λ x. x.last_stamp) eslots) (ap (λ x. x.rows) eslots) ek refl (omega arith) (omega (arith, es, below)) vs force fits.0 fits.1)

  -- a found entry that is live is reset
  pub resets : (c : Core T W) (stamp tick base g when d : ℕ) (k : Key) → stamp ≡ (row_at b.slots.rows i).stamp → stamp < b.slots.last_stamp → when ≤ LAST_TICK → tick ≡ b.wheel.filing.tick → base ≡ max when tick → g ≡ filing_for tick base → IsChanged shared stamp (λ e. live (stamp + 1) base) (word_at b.known i) (Some d) (word_at c.known i) → c.wheel.filing ≡ linked b.wheel.filing i g → c.slots ≡ raised b.slots i → c.known ≡ set b.known i (word_at c.known i) → c.counts ≡ b.counts → k ≡ record { entry = id; stamp = stamp + 1 } → c.shard ≡ b.shard → c.noted ≡ b.noted → IsReset shared b id when k c
  resets c stamp tick base g when d k es below small et eb eg changed ew eslots ek ec ekey esh en =
      let s = (row_at b.slots.rows i).stamp in
      let t = b.wheel.filing.tick in
      let w = live s d in
      let L : ℕ → Type 0 = λ n. Learned shared (word_at b.known i) (live n d) in
      let learned : Learned shared (word_at b.known i) w = subst L es changed.0 in
      let le = lea w refl learned in
      let base' = max when t in
      let bases : base ≡ max when t = eb ∙ ap (λ n. max when n) et in
      let v : Parts = live (s + 1) (max when t) in
      let written : word_at c.known i ≡ live (s + 1) (max when t) = changed.1 ∙ ap (λ n. live (n + 1) base) es ∙ ap (λ n. live (s + 1) n) bases in
      let m1 = machine_of t b.noted b.slots.rows (set b.known i w) in
      let known : c.known ≡ set b.known i (live (s + 1) (max when t)) = ek ∙ ap (λ p. set b.known i p) written in
      let twice : c.known ≡ set (set b.known i w) i (live (s + 1) (max when t)) = known ∙ sym (set-set b.known i w (live (s + 1) (max when t))) in
      let mc : machine c ≡ put m1 i ((table_at m1 i).stamp + 1) (Some (record { born = found.3.0.born; value = found.3.0.value; due = Some (max when t) })) =
      machine_is c t b.noted (set b.slots.rows i (raised_row (row_at b.slots.rows i))) (set (set b.known i w) i (live (s + 1) (max when t))) (ap (λ y. y.tick) ew) en (ap (λ y. y.rows) eslots) twice
      ∙ raised_of t b.noted b.slots.rows (set b.known i w) i (max when t) found.3.0 le.sizes found.3.1 in
      let ks : k.stamp ≡ s + 1 = ap (λ x. x.stamp) ekey ∙ ap (λ n. n + 1) es in
      let e : Entry T = record { born = found.3.0.born; value = found.3.0.value; due = Some d } in
      let within : i < length m1.table = le.has.0 in
      let slot : (table_at (machine c) i).stamp ≡ s + 1 =
      ap (λ m. (table_at m i).stamp) mc ∙ ap (λ x. x.stamp) (get_or-set_same m1.table i (record { stamp = (table_at m1 i).stamp + 1; entry = Some (record { born = found.3.0.born; value = found.3.0.value; due = Some (max when t) }) }) (record { stamp = 0; entry = None }) within) ∙ ap (λ n. n + 1) le.stamp in
      let files : g ≡ file_for b when = eg ∙ ap (λ n. filing_for n base) et ∙ ap (λ n. filing_for t n) bases in
      let low : (table_at m1 i).stamp < b.slots.last_stamp = let q = le.stamp in omega (arith, es, below) in
      let born : id.born ≡ found.3.0.born = sym found.3.2 in
      record {
        accepted = small;
        shard = found.0;
        key = ap (λ x. x.entry) ekey;
        run = rw (ei, born) (m1, le.way, (e, d, le.has, refl, refl, low, mc));
        stamp = rw (ei, ks) slot;
        learned = rw ei (d, learned);
        known = rw (ei, ks) known;
        counts = ec;
        filed = rw ei (ew ∙ ap (λ n. linked b.wheel.filing i n) files);
        slots = rw ei eslots;
        same_shard = esh;
        noted = en;
      }

-- the birth stamp is another
pub other_born : (o : Option ℕ) (n m k : ℕ) → o ≡ Some n → m ≡ k → (n ≡ m → ⊥) → (x : ℕ) → o ≡ Some x → x ≢ k
other_born o n m k e em ne x ex =
    let same : ◌≡◌ {A = Option ℕ} (Some n) (Some x) = sym e ∙ ex in
    let eq : n ≡ x = cc in
    λ h. ne (eq ∙ h ∙ sym em)

-- what was found cancelled was learned
pub learned_at : (shared : Bool) (w v u : Parts) → Learned shared w u × (v ≡ u) → Learned shared w v
learned_at shared w v u (learned, is) = let P : Parts → Type 0 = λ p. Learned shared w p in subst P (sym is) learned

-- what is unlinked and linked again is filed anew
pub linked_anew : (w w' w'' : Filing) (i g : ℕ) → w' ≡ unlinked w i → w'' ≡ linked w' i g → w'' ≡ linked w i g
linked_anew w w' w'' i g e e' = e' ∙ ap (λ x. linked x i g) e ∙ relinked w i g
