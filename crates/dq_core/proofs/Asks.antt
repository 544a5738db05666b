-- What a queue tells of its entries follows from the shard law.
use Rattle.std.proofs.Common.{◌≡◌, ◌≢◌, ℕ, ◌+◌, ◌<◌, ◌≤◌, length, Option, Some, None, refl, sym, ap, ◌∙◌, subst, inl, inr, arith}
use Rattle.dq_ticks.specs.declared.keys.Key.{Key}
use Rattle.dq_ticks.specs.declared.keys.EntryId.{EntryId}
use Rattle.dq_wheel.specs.declared.wheel.Place.{Place}
use Rattle.dq_wheel.specs.State.{filed_at, IsLeast}
use Rattle.dq_wheel.specs.Places.{place_for}
use Rattle.dq_wheel.specs.Wakes.{wake_for, IsWithin}
use Rattle.dq_ticks.proofs.Laws.{start_le}
use Rattle.dq_wheel.proofs.Links.{same_or_not}
use Rattle.dq_wheel.proofs.Wakes.{wake_same, wake_other}
use Rattle.dq_core.specs.declared.slots.Held.{Held}
use Rattle.dq_core.specs.Words.{word_at}
use Rattle.dq_core.specs.Slots.{Row, row_at, unused, IsBorn}
use Rattle.dq_core.specs.Machine.{Entry, table_at, Has}
use Rattle.dq_core.specs.Core.{Core, machine, IsLawfulCore, due_by, entry_of}
use Rattle.dq_core.specs.Calls.{IsFound, IsLinked}
use Rattle.dq_core.specs.Readers.{NoneBetween, TellsFirst, TellsLeast, TellsPlace, TellsFiled, PeeksBoundDeadlines, WakesBoundDeadlines}
use Rattle.dq_core.proofs.Law.{filed_is}
use Rattle.dq_core.proofs.Ways.{table_row_is, length-table, none_before}
use Rattle.dq_core.proofs.Finds.{found_filed}
use Rattle.dq_core.proofs.Slotwise.{held_inside}
use Rattle.std.proofs.lemmas.List.{get_or_past}

-- the entry at a held slot
entry_at : {T W : Type 0} (b : Core T W) → IsLawfulCore b → (i : ℕ) (h : Held T) → i < length b.slots.rows → (row_at b.slots.rows i).held ≡ Some h → (e : Entry T) × Has (machine b) i e × (e.born ≡ h.born)
entry_at b l i h inside held =
    let w = word_at b.known i in
    (record { born = h.born; value = h.value; due = due_by w.mark w.field }, (omega (arith, length-table b.slots.rows b.known l.as_known, inside), ap (λ s. s.entry) (table_row_is b.slots.rows b.known l.as_known i) ∙ ap (λ o. entry_of o w) held), refl)

-- an entry that is found is linked
pub linked_of : {T W : Type 0} (b : Core T W) → IsLawfulCore b → (id : EntryId) (i : ℕ) → IsFound b id i → IsLinked b id
linked_of {T} b l id i found =
    let at = entry_at b l i found.3.0 found.2 found.3.1 in
    let P : ℕ → Type 0 = λ n. (e : Entry T) × Has (machine b) n e × (e.born ≡ id.born) in
    (found.0, subst P found.1 (at.0, at.1, at.2 ∙ found.3.2))

pub tells_place : {T W : Type 0} (b : Core T W) → IsLawfulCore b → (id : EntryId) (i : ℕ) (place : Place) → IsFound b id i → place ≡ place_for b.wheel.filing.tick (filed_at b.wheel.filing.filed i) → TellsPlace b id (Some place)
tells_place b l id i place found is = (linked_of b l id i found, is ∙ ap (λ n. place_for b.wheel.filing.tick (filed_at b.wheel.filing.filed n)) found.1)

pub tells_filed : {T W : Type 0} (b : Core T W) → IsLawfulCore b → (id : EntryId) (i : ℕ) (o : Option ℕ) → IsFound b id i → o ≡ filed_at b.wheel.filing.filed i → TellsFiled b id o
tells_filed b l id i None found is =
    let at = found_filed b l id i found in
    let filed : filed_at b.wheel.filing.filed i ≡ Some at.0 = at.1.is_filed in
    absurd (cc)
tells_filed b l id i (Some f) found is = (linked_of b l id i found, ap (λ n. filed_at b.wheel.filing.filed n) (sym found.1) ∙ sym is)

pub tells_least : {T W : Type 0} (b : Core T W) → IsLawfulCore b → (i born stamp : ℕ) (id : EntryId) (k : Key) → IsLeast b.wheel.filing.filed i → IsBorn (row_at b.slots.rows i) (Some born) → stamp ≡ (row_at b.slots.rows i).stamp → id ≡ record { shard = b.shard; index = i; born = born } → k ≡ record { entry = id; stamp = stamp } → TellsLeast b (Some k)
tells_least {T} b l i born stamp id k least held es eid ek =
    let at = filed_is l i least.0 least.2 in
    let entry = entry_at b l i held.0 at.inside held.1 in
    let ki : k.entry.index ≡ i = ap (λ x. x.entry.index) ek ∙ ap (λ x. x.index) eid in
    let kb : k.entry.born ≡ born = ap (λ x. x.entry.born) ek ∙ ap (λ x. x.born) eid in
    let ks : k.entry.shard ≡ b.shard = ap (λ x. x.entry.shard) ek ∙ ap (λ x. x.shard) eid in
    let stamps : (table_at (machine b) i).stamp ≡ k.stamp = ap (λ s. s.stamp) (table_row_is b.slots.rows b.known l.as_known i) ∙ sym es ∙ sym (ap (λ x. x.stamp) ek) in
    rw (ki, kb, ks) ((refl, (entry.0, entry.1, entry.2 ∙ held.2)), stamps, least)

-- a birth stamp that is told
pub born_is : {T : Type 0} (r : Row T) (o : Option ℕ) (born : ℕ) → o ≡ Some born → IsBorn r o → IsBorn r (Some born)
born_is r o born e is = let P : Option ℕ → Type 0 = λ x. IsBorn r x in subst P e is

-- the stamp of a slot, and of one past the last
pub stamp_told : {T W : Type 0} (b : Core T W) → IsLawfulCore b → (i : ℕ) → (table_at (machine b) i).stamp ≡ (row_at b.slots.rows i).stamp
stamp_told b l i = ap (λ s. s.stamp) (table_row_is b.slots.rows b.known l.as_known i)

pub stamp_past : {T W : Type 0} (b : Core T W) → IsLawfulCore b → (i : ℕ) → length b.slots.rows ≤ i → (table_at (machine b) i).stamp ≡ 0
stamp_past b l i past = stamp_told b l i ∙ ap (λ r. r.stamp) (get_or_past b.slots.rows i unused past)

-- where nothing is held, nothing is linked
unheld : {T W : Type 0} (b : Core T W) → IsLawfulCore b → (i : ℕ) → (row_at b.slots.rows i).held ≡ None → (table_at (machine b) i).entry ≡ None
unheld b l i none = ap (λ s. s.entry) (table_row_is b.slots.rows b.known l.as_known i) ∙ ap (λ o. entry_of o (word_at b.known i)) none

pub none_past : {T W : Type 0} (b : Core T W) → IsLawfulCore b → (i : ℕ) → length b.slots.rows ≤ i → (table_at (machine b) i).entry ≡ None
none_past b l i past = unheld b l i (ap (λ r. r.held) (get_or_past b.slots.rows i unused past))

pub none_at : {T W : Type 0} (b : Core T W) → IsLawfulCore b → (i : ℕ) (o : Option ℕ) → IsBorn (row_at b.slots.rows i) o → ((n : ℕ) → o ≢ Some n) → (table_at (machine b) i).entry ≡ None
none_at b l i None born never = unheld b l i born
none_at b l i (Some n) born never = absurd (never n refl)

-- one slot more without an entry
pub none_more : {T W : Type 0} (b : Core T W) (from i : ℕ) → NoneBetween b from i → (table_at (machine b) i).entry ≡ None → NoneBetween b from (i + 1)
none_more b from i before here j after below =
    elim (same_or_not j i) [
      | inl e ↦ ap (λ k. (table_at (machine b) k).entry) e ∙ here
      | inr n ↦ before j after (omega (arith, n, below))
    ]

-- the first entry of some slots
pub tells_first : {T W : Type 0} (b : Core T W) → IsLawfulCore b → (from first i born end : ℕ) (id : EntryId) → IsBorn (row_at b.slots.rows i) (Some born)
    → id ≡ record { shard = b.shard; index = i; born = born } → NoneBetween b first i → first ≡ from → from ≤ i → i < end → TellsFirst b from end (Some id)
tells_first b l from first i born end id held eid none ef low high =
    let entry = entry_at b l i held.0 (held_inside b.slots.rows i held.0 held.1) held.1 in
    let ki : id.index ≡ i = ap (λ x. x.index) eid in
    let kb : id.born ≡ born = ap (λ x. x.born) eid in
    let ks : id.shard ≡ b.shard = ap (λ x. x.shard) eid in
    let P : ℕ → Type 0 = λ k. NoneBetween b k i in
    let none' : NoneBetween b from i = subst P ef none in
    rw (ki, kb, ks) ((refl, (entry.0, entry.1, entry.2 ∙ held.2)), low, high, none')

-- an entry that is filed least is filed no later than any live entry's deadline
pub peeks_bound_deadlines : (T W : Type 0) → PeeksBoundDeadlines T W
peeks_bound_deadlines T W c k l tells =
    let least = tells.2 in
    (least.0, least.2, none_before c.wheel.filing.tick c.noted c.slots.last_stamp least.0 c.slots.rows c.known c.wheel.filing.filed l.as_known l.each least.3)

-- a wake is no later than what is filed
wake_reaches : (e f : ℕ) → IsWithin e f → wake_for e f ≤ f
wake_reaches e f w =
    elim (same_or_not e f) [
      | inl same ↦ omega (arith, wake_same e f same, w.not_before)
      | inr other ↦
          let later : e < f = omega (arith, w.not_before, other) in
          omega (arith, wake_other e f other, start_le e f (record { later = later; near = w.near; in_range = w.in_range }))
    ]

-- what wakes next wakes no later than any live entry's deadline
pub wakes_bound_deadlines : (T W : Type 0) → WakesBoundDeadlines T W
wakes_bound_deadlines T W c w l wheel tells =
    none_before c.wheel.filing.tick c.noted c.slots.last_stamp w c.slots.rows c.known c.wheel.filing.filed l.as_known l.each
    (λ i f at. omega (arith, tells.least i f at, wake_reaches c.wheel.filing.tick f (wheel.within i f at)))
