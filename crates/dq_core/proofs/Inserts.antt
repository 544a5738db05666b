-- An insert keeps the shard law, and is the machine's.
use Rattle.std.proofs.Common.{◌≡◌, ℕ, ◌+◌, ◌<◌, ◌≤◌, max, true, List, length, get_or, set, Option, Some, None, refl, sym, ap, ◌∙◌, subst, inl, arith}
use Rattle.std.specs.List.{count_by, sum_by}
use Rattle.std.proofs.lemmas.List.{length-set, get_or-set_same}
use Rattle.dq_ticks.specs.declared.words.Parts.{Parts}
use Rattle.dq_ticks.specs.declared.TheConstants.{LAST_TICK}
use Rattle.dq_wheel.specs.State.{Filing, linked}
use Rattle.dq_core.specs.Words.{Counts, word_at, never, live, begun_counts}
use Rattle.dq_core.specs.Slots.{Row, SlotRows, SlotState, DeferredValues, shown, unused, row_at, is_held, is_free, is_worn, filled, filled_row}
use Rattle.dq_ticks.specs.declared.keys.Key.{Key}
use Rattle.dq_ticks.specs.declared.keys.EntryId.{EntryId}
use Rattle.dq_core.proofs.SlotRows.{parted}
use Rattle.dq_core.specs.Machine.{Machine, table_at, put}
use Rattle.dq_core.specs.Calls.{IsInserted, base_for, file_for}
use Rattle.dq_core.specs.Core.{Core, IsSlot, IsLawful, IsLawfulCore, filing_for, machine, table_of, entry_of}
use Rattle.dq_core.specs.TableRows.{table_row_of}
use Rattle.dq_core.proofs.Ways.{core_of, table_row_is, table_set, length-table}
use Rattle.dq_core.proofs.Slotwise.{changed_set, slots_change, free_is, count_set, stamps_set, none_held, one}

-- the stamp of a slot that was filled
filled_stamp : {T : Type 0} (slots slots' : SlotRows T) (i stamp : ℕ) (v : T) → i < length slots.rows → slots' ≡ filled slots i v → stamp ≡ (row_at slots'.rows i).stamp → stamp ≡ (row_at slots.rows i).stamp + 1
filled_stamp slots slots' i stamp v inside es e = e ∙ ap (λ s. (row_at s.rows i).stamp) es ∙ ap (λ r. r.stamp) (get_or-set_same slots.rows i (filled_row (row_at slots.rows i) v) unused inside)

-- a slot that is filled
filled_slot : {T : Type 0} (tick noted last base : ℕ) (r : Row T) (v : T) → r.stamp < last → tick ≤ base → base ≤ LAST_TICK → IsSlot tick noted last (filled_row r v) (live (r.stamp + 1) base) (Some (filing_for tick base))
filled_slot tick noted last base r v below ahead small =
    record { stamp = refl; bound = omega arith; placed = ((omega arith, inl (refl, omega arith, small)), omega arith, omega arith, omega arith) }

-- the law, where a free slot is filled
pub law_filled : {T : Type 0} {noted : ℕ} {wheel wheel' : Filing} {slots slots' : SlotRows T} {known known' : List Parts} {counts counts' : Counts} → IsLawful noted wheel slots known counts → (i base : ℕ) (v : T) → i < length slots.rows → is_free slots.last_stamp (row_at slots.rows i) ≡ true → wheel.tick ≤ base → base ≤ LAST_TICK → wheel' ≡ linked wheel i (filing_for wheel.tick base) → slots' ≡ filled slots i v → known' ≡ set known i (live ((row_at slots.rows i).stamp + 1) base) → counts' ≡ begun_counts counts → IsLawful noted wheel' slots' known' counts'
law_filled {T} {noted} {wheel} {wheel'} {slots} {slots'} {known} {known'} {counts} {counts'} l i base v inside free ahead small ew es ek ec =
    let r = row_at slots.rows i in
    let w = live (r.stamp + 1) base in
    let f = filing_for wheel.tick base in
    let is = free_is slots.last_stamp r free in
    let filed_size = l.as_filed in
    let known_size = l.as_known in
    let stamps = l.stamps in
    let balance = l.balance in
    let a : count_by is_held (set slots.rows i (filled_row r v)) + one (is_held r) ≡ count_by is_held slots.rows + 1 = count_set is_held slots.rows i (filled_row r v) inside in
    let b : one (is_held r) ≡ 0 = none_held r.held is.0 in
    let s : sum_by (λ x. x.stamp) (set slots.rows i (filled_row r v)) + r.stamp ≡ sum_by (λ x. x.stamp) slots.rows + (r.stamp + 1) = stamps_set slots.rows i (filled_row r v) inside in
    let here : IsSlot wheel.tick noted slots.last_stamp (row_at (set slots.rows i (filled_row r v)) i) (word_at (set known i w) i) (get_or (set wheel.filed i (Some f)) i None) =
    let ki : i < length known = omega arith in
    let fi : i < length wheel.filed = omega arith in
    let P : Row T → Type 0 = λ x. IsSlot wheel.tick noted slots.last_stamp x (word_at (set known i w) i) (get_or (set wheel.filed i (Some f)) i None) in
    let Q : Parts → Type 0 = λ x. IsSlot wheel.tick noted slots.last_stamp (filled_row r v) x (get_or (set wheel.filed i (Some f)) i None) in
    let R : Option ℕ → Type 0 = λ x. IsSlot wheel.tick noted slots.last_stamp (filled_row r v) w x in
    subst P (sym (get_or-set_same slots.rows i (filled_row r v) unused inside))
    (subst Q (sym (get_or-set_same known i w never ki))
    (subst R (sym (get_or-set_same wheel.filed i (Some f) None fi)) (filled_slot wheel.tick noted slots.last_stamp base r v is.1 ahead small))) in
    rw (ew, es, ek, ec)
    (record {
      as_filed = simp length-set filed_size;
      as_known = simp length-set known_size;
      capacity = simp length-set l.capacity;
      last_bound = l.last_bound;
      tick = l.tick;
      noted_bound = l.noted_bound;
      each = slots_change wheel.tick noted slots.last_stamp slots.rows (set slots.rows i (filled_row r v)) known (set known i w) wheel.filed (set wheel.filed i (Some f)) i l.each (changed_set slots.rows i (filled_row r v) unused) (changed_set known i w never) (changed_set wheel.filed i (Some f) None) here;
      stamps = omega (arith, s);
      balance = omega (arith, a, b);
    })

-- the machine's insert
pub inserted : {T W : Type 0} (b c : Core T W) (i when : ℕ) (v : T) (k : Key) → IsLawfulCore b → when ≤ LAST_TICK → i < length b.slots.rows → is_free b.slots.last_stamp (row_at b.slots.rows i) ≡ true → k ≡ record { entry = record { shard = b.shard; index = i; born = (row_at b.slots.rows i).stamp + 1 }; stamp = (row_at b.slots.rows i).stamp + 1 } → c.wheel.filing ≡ linked b.wheel.filing i (file_for b when) → c.slots ≡ filled b.slots i v → c.known ≡ set b.known i (live ((row_at b.slots.rows i).stamp + 1) (base_for b when)) → c.counts ≡ begun_counts b.counts → c.shard ≡ b.shard → c.noted ≡ b.noted → IsInserted b v when k c
inserted {T} {W} b c i when v k l small inside free ek ew es eknown ec esh en =
    let r = row_at b.slots.rows i in
    let w = live (r.stamp + 1) (base_for b when) in
    let is = free_is b.slots.last_stamp r free in
    let old : table_at (machine b) i ≡ table_row_of r (word_at b.known i) = table_row_is b.slots.rows b.known l.as_known i in
    let gone : (table_at (machine b) i).entry ≡ None = ap (λ s. s.entry) old ∙ ap (λ o. entry_of o (word_at b.known i)) is.0 in
    let at : (table_at (machine b) i).stamp ≡ r.stamp = ap (λ s. s.stamp) old in
    let within : i < length (table_of b.slots.rows b.known) = omega (arith, length-table b.slots.rows b.known l.as_known, inside) in
    let new_table : table_of c.slots.rows c.known ≡ set (table_of b.slots.rows b.known) i (table_row_of (filled_row r v) w) =
    ap (λ s. table_of s.rows c.known) es ∙ ap (λ ws. table_of (set b.slots.rows i (filled_row r v)) ws) eknown ∙ table_set b.slots.rows b.known i (filled_row r v) w in
    let there : table_at (machine c) i ≡ table_row_of (filled_row r v) w =
    ap (λ ss. get_or ss i (record { stamp = 0; entry = None })) new_table ∙ get_or-set_same (table_of b.slots.rows b.known) i (table_row_of (filled_row r v) w) (record { stamp = 0; entry = None }) within in
    let ticks : c.wheel.filing.tick ≡ b.wheel.filing.tick = ap (λ f. f.tick) ew in
    let made : machine c ≡ put (machine b) i ((table_at (machine b) i).stamp + 1) (Some (record { born = (table_at (machine b) i).stamp + 1; value = v; due = Some (max when b.wheel.filing.tick) })) =
    rw (at) (
    ap (λ t. let m : Machine T = record { tick = t; noted = c.noted; table = table_of c.slots.rows c.known } in m) ticks
    ∙ ap (λ n. let m : Machine T = record { tick = b.wheel.filing.tick; noted = n; table = table_of c.slots.rows c.known } in m) en
    ∙ ap (λ ss. let m : Machine T = record { tick = b.wheel.filing.tick; noted = b.noted; table = ss } in m) new_table) in
    rw ek
    (record {
      accepted = small;
      step = (within, gone, omega (arith, at, is.1), made);
      stamp = ap (λ s. s.stamp) there;
      born = refl;
      shard = refl;
      filed = ew;
      slots = es;
      known = eknown;
      counts = ec;
      same_shard = esh;
      noted = en;
    })

-- the law after an insert, by what its calls say
pub law_inserted : {T : Type 0} {noted : ℕ} {wheel wheel' : Filing} {slots slots' : SlotRows T} {known known' : List Parts} {counts counts' : Counts} → IsLawful noted wheel slots known counts → (i stamp tick base f when : ℕ) (v : T) → when ≤ LAST_TICK → (i < length slots.rows) × (is_free slots.last_stamp (row_at slots.rows i) ≡ true) × (slots' ≡ filled slots i v) → stamp ≡ (row_at slots'.rows i).stamp → tick ≡ wheel.tick → base ≡ max when tick → f ≡ filing_for tick base → wheel' ≡ linked wheel i f → known' ≡ set known i (live stamp base) → counts' ≡ begun_counts counts → IsLawful noted wheel' slots' known' counts'
law_inserted {T} {noted} {wheel} {wheel'} {slots} {slots'} {known} {known'} l i stamp tick base f when v small fill es et eb ef ew ek ec =
    let ahead : wheel.tick ≤ base = omega arith in
    let noted_small = l.noted_bound in
    let tick_small = l.tick in
    let low : base ≤ LAST_TICK = omega arith in
    let s : stamp ≡ (row_at slots.rows i).stamp + 1 = filled_stamp slots slots' i stamp v fill.0 fill.2 es in
    let files : f ≡ filing_for wheel.tick base = ef ∙ ap (λ t. filing_for t base) et in
    law_filled l i base v fill.0 fill.1 ahead low (ew ∙ ap (λ x. linked wheel i x) files) fill.2 (ek ∙ ap (λ x. set known i (live x base)) s) ec

-- an insert, by what its calls say
pub inserts : {T W : Type 0} (b c : Core T W) (i stamp tick base f when : ℕ) (v : T) (id : EntryId) (k : Key) → IsLawfulCore b → when ≤ LAST_TICK → (i < length b.slots.rows) × (is_free b.slots.last_stamp (row_at b.slots.rows i) ≡ true) × (c.slots ≡ filled b.slots i v) → stamp ≡ (row_at c.slots.rows i).stamp → tick ≡ b.wheel.filing.tick → base ≡ max when tick → f ≡ filing_for tick base → c.wheel.filing ≡ linked b.wheel.filing i f → c.known ≡ set b.known i (live stamp base) → c.counts ≡ begun_counts b.counts → id ≡ record { shard = b.shard; index = i; born = stamp } → k ≡ record { entry = id; stamp = stamp } → c.shard ≡ b.shard → c.noted ≡ b.noted → IsInserted b v when k c
inserts b c i stamp tick base f when v id k l small fill es et eb ef ew ek ec eid ekey esh en =
    let s : stamp ≡ (row_at b.slots.rows i).stamp + 1 = filled_stamp b.slots c.slots i stamp v fill.0 fill.2 es in
    let bases : base ≡ base_for b when = eb ∙ ap (λ t. max when t) et in
    let files : f ≡ file_for b when = ef ∙ ap (λ t. filing_for t base) et ∙ ap (λ x. filing_for b.wheel.filing.tick x) bases in
    let key : k ≡ record { entry = record { shard = b.shard; index = i; born = (row_at b.slots.rows i).stamp + 1 }; stamp = (row_at b.slots.rows i).stamp + 1 } =
    ekey ∙ ap (λ e. let x : Key = record { entry = e; stamp = stamp } in x) eid
    ∙ ap (λ n. let x : Key = record { entry = record { shard = b.shard; index = i; born = n }; stamp = n } in x) s in
    let words : c.known ≡ set b.known i (live ((row_at b.slots.rows i).stamp + 1) (base_for b when)) =
    ek ∙ ap (λ n. set b.known i (live n base)) s ∙ ap (λ d. set b.known i (live ((row_at b.slots.rows i).stamp + 1) d)) bases in
    inserted b c i when v k l small fill.0 fill.1 key (ew ∙ ap (λ x. linked b.wheel.filing i x) files) fill.2 words ec esh en

-- with no slot free, the slots are held or worn
pub full : {T : Type 0} (last : ℕ) (rows : List (Row T)) (held worn : ℕ) → held ≡ count_by is_held rows → worn ≡ count_by (is_worn last) rows → count_by (is_free last) rows ≡ 0 → held + worn ≡ length rows
full last rows held worn eh ew none = omega (arith, parted last rows)

-- where a slot is free, not all are held or worn
pub room : {T : Type 0} (last : ℕ) (rows : List (Row T)) (i : ℕ) (v : T) → i < length rows → is_free last (row_at rows i) ≡ true → count_by is_held rows + count_by (is_worn last) rows < length rows
room last rows i v inside free =
    omega (arith, parted last rows, ap one free, count_set (is_free last) rows i (filled_row (row_at rows i) v) inside)

-- a queue whose slots are as they were
pub same_slots : {T W : Type 0} (b : Core T W) (slots : SlotState T) → shown slots ≡ b.slots → slots.deferred ≡ b.deferred → core_of b.shard b.noted b.wheel slots b.known b.counts b.words ≡ b
same_slots {T} {W} b slots es ea =
    let C : SlotRows T → DeferredValues T → Core T W = λ s a. record { shard = b.shard; noted = b.noted; wheel = b.wheel; slots = s; deferred = a; known = b.known; counts = b.counts; words = b.words } in
    ap (λ s. C s slots.deferred) es ∙ ap (λ a. C b.slots a) ea

-- an insert that finds no slot free
pub refused_full : {T : Type 0} (old slots : SlotRows T) (when held worn : ℕ) → when ≤ LAST_TICK → count_by (is_free old.last_stamp) old.rows ≡ 0 → slots ≡ old → held ≡ count_by is_held slots.rows → worn ≡ count_by (is_worn slots.last_stamp) slots.rows → (when ≤ LAST_TICK) × (held ≡ count_by is_held old.rows) × (worn ≡ count_by (is_worn old.last_stamp) old.rows) × (held + worn ≡ length old.rows)
refused_full old slots when held worn small none e eh ew =
    let h : held ≡ count_by is_held old.rows = eh ∙ ap (λ s. count_by is_held s.rows) e in
    let w : worn ≡ count_by (is_worn old.last_stamp) old.rows = ew ∙ ap (λ s. count_by (is_worn s.last_stamp) s.rows) e in
    (small, h, w, full old.last_stamp old.rows held worn h w none)
