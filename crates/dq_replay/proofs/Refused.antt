-- What a queue of live names never refuses.
use Rattle.std.proofs.Common.{◌≡◌, ℕ, ◌<◌, ◌≤◌, Bool, true, false, List, length, refl, ap, sym, ◌∙◌, subst, arith}
use Rattle.std.specs.Prelude.{Option, Some, None, is_none, ◌&&◌}
use Rattle.std.specs.List.{count_by}
use Rattle.std.proofs.lemmas.Bool.{lt-ltb}
use Rattle.dq_ticks.specs.Keys.{KeyName}
use Rattle.dq_ticks.specs.declared.TheConstants.{LAST_TICK}
use Rattle.dq_ticks.specs.declared.words.Parts.{Parts}
use Rattle.dq_ticks.specs.declared.words.Mark.{Mark}
use Rattle.dq_ticks.specs.declared.words.Mark.TheVariants.{LiveMark, CancelledMark, ExpiredMark, RemovedMark}
use Rattle.dq_core.specs.declared.slots.Held.{Held}
use Rattle.dq_core.specs.declared.errors.CoreError.{CoreError}
use Rattle.dq_core.specs.declared.errors.CoreError.TheVariants.{TooFar, Full, Missing, WasCancelled, Worn, TickTooLarge, BadConfig, NoMemory}
use Rattle.dq_core.specs.Slots.{row_at, is_held, is_worn, unused}
use Rattle.dq_core.specs.Words.{word_at}
use Rattle.dq_core.specs.Machine.{table_at}
use Rattle.dq_core.specs.Machine.{Entry}
use Rattle.dq_core.specs.Core.{Core, machine, entry_of, due_by, IsLawfulCore, IsPlaced}
use Rattle.dq_core.specs.TableRows.{table_row_of}
use Rattle.dq_core.specs.Calls.{InsertRefused, FindRefused, ResetRefused, IsMissing, IsFoundCancelled}
use Rattle.dq_replay.specs.Leases.{live_lease}
use Rattle.dq_replay.specs.LeasesState.{IsLiveKey, IsSomeKey}
use Rattle.dq_replay.proofs.LiveSlots.{inside_slots}
use Rattle.dq_replay.proofs.Runs.{slot_is, length-slots, count_none, alone}

-- the slot of a lawful queue's machine
pub slot_here : {W : Type 0} (b : Core (List ℕ) W) → IsLawfulCore b → (i : ℕ) → table_at (machine b) i ≡ table_row_of (row_at b.slots.rows i) (word_at b.known i)
slot_here b law i = slot_is b.slots.rows b.known law.as_known i

pub inside_rows : {W : Type 0} (b : Core (List ℕ) W) → IsLawfulCore b → (i : ℕ) (e : Entry (List ℕ)) → (table_at (machine b) i).entry ≡ Some e → i < length b.slots.rows
inside_rows b law i e h = let within = inside_slots (machine b) i e h in let same = length-slots b.slots.rows b.known law.as_known in omega (arith, within, same)

-- an insert where there is room, to a tick that there is
pub insert_room : {W : Type 0} (b : Core (List ℕ) W) (when : ℕ) (e : CoreError) → IsLawfulCore b → when ≤ LAST_TICK → count_by is_held b.slots.rows < length b.slots.rows
    → ((i : ℕ) → (table_at (machine b) i).stamp < b.slots.last_stamp) → InsertRefused b when e → ⊥
insert_room b when (TooFar limit) law far room stamps r = let beyond = r.1 in absurd (omega (arith, beyond, far))
insert_room b when (Full linked worn) law far room stamps (within, linked_is, worn_is, sum) =
    let none : count_by (is_worn b.slots.last_stamp) b.slots.rows ≡ 0 = count_none (is_worn b.slots.last_stamp) unused b.slots.rows (λ i inside. unworn i) in
    absurd (omega (arith, linked_is, worn_is, sum, none, room))
  where
    unworn : (i : ℕ) → is_worn b.slots.last_stamp (row_at b.slots.rows i) ≡ false
    unworn i =
        let below : (row_at b.slots.rows i).stamp < b.slots.last_stamp = subst (λ s. s.stamp < b.slots.last_stamp) (slot_here b law i) (stamps i) in
        rw (lt-ltb (row_at b.slots.rows i).stamp b.slots.last_stamp below) (and_false (is_none (row_at b.slots.rows i).held))
      where
        and_false : (t : Bool) → (t && false) ≡ false
        and_false true = refl
        and_false false = refl
insert_room b when Missing law far room stamps r = r
insert_room b when WasCancelled law far room stamps r = r
insert_room b when Worn law far room stamps r = r
insert_room b when (TickTooLarge limit) law far room stamps r = r
insert_room b when BadConfig law far room stamps r = r
insert_room b when NoMemory law far room stamps r = r

-- a live name's entry is there
there : {W : Type 0} (b : Core (List ℕ) W) (k : KeyName) (name : List ℕ) (d : ℕ) → IsLiveKey b k name d → IsMissing b k.entry → ⊥
there b k name d live missing = missing (ap (λ z. z.entry.shard) live.1) (live_lease k.entry.born name d) live.0 refl

-- and it isn't cancelled
due_two : (x : Entry (List ℕ)) (born : ℕ) (name : List ℕ) (d : ℕ) → ◌≡◌ {A = Option (Entry (List ℕ))} (Some x) (Some (live_lease born name d)) → x.due ≡ None → ⊥
due_two x born name d is none =
    let same : x ≡ live_lease born name d = cc in
    let gone : ◌≡◌ {A = Option ℕ} None (Some d) = sym none ∙ ap (λ y. y.due) same in
    cc

uncancelled : {W : Type 0} (b c : Core (List ℕ) W) (k : KeyName) (name : List ℕ) (d : ℕ) → IsLiveKey b k name d → IsFoundCancelled false b k.entry c → ⊥
uncancelled b c k name d live found =
    let same : machine c ≡ machine b = alone b.slots.last_stamp (machine b) (machine c) found.looked.callers in
    let x = found.entry.0 in
    let at : (table_at (machine b) k.entry.index).entry ≡ Some x = ap (λ m. (table_at m k.entry.index).entry) (sym same) ∙ found.entry.1.1 in
    due_two x k.entry.born name d (sym at ∙ live.0) found.entry.3

pub find_live : {W : Type 0} (b c : Core (List ℕ) W) (k : KeyName) (e : CoreError) → IsSomeKey b k → FindRefused false b k.entry e c → ⊥
find_live b c k (TooFar limit) live r = r
find_live b c k (Full linked worn) live r = r
find_live b c k Missing (name, d, live) r = there b k name d live r.0
find_live b c k WasCancelled (name, d, live) r = uncancelled b c k name d live r
find_live b c k Worn live r = r
find_live b c k (TickTooLarge limit) live r = r
find_live b c k BadConfig live r = r
find_live b c k NoMemory live r = r

pub reset_live : {W : Type 0} (b c : Core (List ℕ) W) (k : KeyName) (when : ℕ) (e : CoreError) → IsLawfulCore b → when ≤ LAST_TICK → ((i : ℕ) → (table_at (machine b) i).stamp < b.slots.last_stamp)
    → IsSomeKey b k → ResetRefused false b k.entry when e c → ⊥
reset_live b c k when (TooFar limit) law far stamps live r = let beyond = r.1 in absurd (omega (arith, beyond, far))
reset_live b c k when (Full linked worn) law far stamps live r = r
reset_live b c k when Missing law far stamps (name, d, live) r = there b k name d live r.1
reset_live b c k when WasCancelled law far stamps (name, d, live) r = uncancelled b c k name d live r.1
reset_live b c k when Worn law far stamps live r =
    let below : (row_at b.slots.rows k.entry.index).stamp < b.slots.last_stamp = subst (λ s. s.stamp < b.slots.last_stamp) (slot_here b law k.entry.index) (stamps k.entry.index) in
    let at = r.2 in
    absurd (omega (arith, below, at))
reset_live b c k when (TickTooLarge limit) law far stamps live r = r
reset_live b c k when BadConfig law far stamps live r = r
reset_live b c k when NoMemory law far stamps live r = r

-- the word of a live name
due_mark : (mark : Mark) (field d : ℕ) → due_by mark field ≡ Some d → (mark ≡ LiveMark) × (field ≡ d)
due_mark LiveMark field d h = (refl, cc)
due_mark CancelledMark field d h = cc
due_mark ExpiredMark field d h = cc
due_mark RemovedMark field d h = cc

held_due : (held : Option (Held (List ℕ))) (w : Parts) (born : ℕ) (name : List ℕ) (d : ℕ) → entry_of held w ≡ Some (live_lease born name d) → (w.mark ≡ LiveMark) × (w.field ≡ d)
held_due None w born name d h = absurd (none_entry (live_lease born name d) h)
  where
    none_entry : (x : Entry (List ℕ)) → ◌≡◌ {A = Option (Entry (List ℕ))} None (Some x) → ⊥
    none_entry x q = cc
held_due (Some x) w born name d h =
    let same : record { born = x.born; value = x.value; due = due_by w.mark w.field } ≡ live_lease born name d = some_same (record { born = x.born; value = x.value; due = due_by w.mark w.field }) (live_lease born name d) h in
    due_mark w.mark w.field d (ap (λ e. e.due) same)
  where
    some_same : (a b : Entry (List ℕ)) → ◌≡◌ {A = Option (Entry (List ℕ))} (Some a) (Some b) → a ≡ b
    some_same a b q = cc

pub word_live : {W : Type 0} (b : Core (List ℕ) W) (k : KeyName) (name : List ℕ) (d : ℕ) → IsLawfulCore b → IsLiveKey b k name d → ((word_at b.known k.entry.index).mark ≡ LiveMark) × ((word_at b.known k.entry.index).field ≡ d)
word_live b k name d law live =
    held_due (row_at b.slots.rows k.entry.index).held (word_at b.known k.entry.index) k.entry.born name d (ap (λ s. s.entry) (sym (slot_here b law k.entry.index)) ∙ live.0)

pub word_stamp : {W : Type 0} (b : Core (List ℕ) W) (k : KeyName) (name : List ℕ) (d : ℕ) → IsLawfulCore b → IsLiveKey b k name d → (word_at b.known k.entry.index).stamp ≡ k.stamp
word_stamp b k name d law live =
    let inside = inside_rows b law k.entry.index (live_lease k.entry.born name d) live.0 in
    (law.each k.entry.index inside).stamp ∙ (ap (λ s. s.stamp) (sym (slot_here b law k.entry.index)) ∙ ap (λ z. z.stamp) (sym live.1))

force_some : (tick noted stamp : ℕ) (held : Option (Held (List ℕ))) (w : Parts) (f : Option ℕ) (e : Entry (List ℕ)) → IsPlaced tick noted stamp held w f → entry_of held w ≡ Some e → 0 < stamp
force_some tick noted stamp None w f e p is = absurd (none_entry e is)
  where
    none_entry : (x : Entry (List ℕ)) → ◌≡◌ {A = Option (Entry (List ℕ))} None (Some x) → ⊥
    none_entry x q = cc
force_some tick noted stamp (Some h) w None e p is = absurd p
force_some tick noted stamp (Some h) w (Some f) e p is = p.0.0

pub stamp_some : {W : Type 0} (b : Core (List ℕ) W) (k : KeyName) (name : List ℕ) (d : ℕ) → IsLawfulCore b → IsLiveKey b k name d → 0 < k.stamp
stamp_some b k name d law live =
    let inside = inside_rows b law k.entry.index (live_lease k.entry.born name d) live.0 in
    let at = law.each k.entry.index inside in
    let some : 0 < (row_at b.slots.rows k.entry.index).stamp =
    force_some b.wheel.filing.tick b.noted (row_at b.slots.rows k.entry.index).stamp (row_at b.slots.rows k.entry.index).held (word_at b.known k.entry.index) _
    (live_lease k.entry.born name d) at.placed (ap (λ s. s.entry) (sym (slot_here b law k.entry.index)) ∙ live.0)
    in
    let same = word_stamp b k name d law live in
    let known = at.stamp in
    omega (arith, some, same, known)
