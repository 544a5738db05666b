-- What holds of every run of the queue's machine, whatever its events.
use Rattle.std.specs.Prelude.{◌≡◌, ◌≢◌, ℕ, ◌+◌, ◌≤◌, ◌⊎◌, ◌==◌, ◌&&◌, if◌then◌else◌}
use Rattle.std.specs.Prelude.{List, [], ◌∷◌, ◌++◌, Some}
use Rattle.dq_core.specs.Machine.{Entry, Machine, Event, Remove, Reap, Expire, table_at, Run}

-- a run that begins where another ends goes on with it
abbrev pub RunsJoin : Type 0 → Type 0
RunsJoin T =
    (last : ℕ) (m k n : Machine T) (es fs : List (Event T))
    → Run last m es k → Run last k fs n → Run last m (es ++ fs) n

-- the deadlines at which entries expire, in the order of the events
abbrev pub outs : {T : Type 0} → List (Event T) → List ℕ
outs [] = []
outs ((Expire i b at) ∷ es) = at ∷ outs es
outs (e ∷ es) = outs es

-- none is before t, and none before an earlier one
abbrev pub RiseFrom : ℕ → List ℕ → Type 0
RiseFrom t [] = Unit {0}
RiseFrom t (d ∷ ds) = (t ≤ d) × RiseFrom d ds

-- what comes out comes in the order of its deadlines, none before the machine's tick
abbrev pub OutsComeInOrder : Type 0 → Type 0
OutsComeInOrder T =
    (last : ℕ) (m n : Machine T) (es : List (Event T)) → Run last m es n → RiseFrom m.tick (outs es)

-- no slot's stamp falls
abbrev pub StampsNeverFall : Type 0 → Type 0
StampsNeverFall T =
    (last : ℕ) (m n : Machine T) (es : List (Event T)) → Run last m es n
    → (i : ℕ) → (table_at m i).stamp ≤ (table_at n i).stamp

-- an entry with e's birth stamp and value is linked at slot i, whatever its deadline
abbrev pub HasAlike : {T : Type 0} → Machine T → ℕ → Entry T → Type 0
HasAlike {T} m i e =
    (f : Entry T) × ((table_at m i).entry ≡ Some f) × (f.born ≡ e.born) × (f.value ≡ e.value)

-- what is linked under a stamp that its slot had before was linked before, with the same value
abbrev pub ValuesStay : Type 0 → Type 0
ValuesStay T =
    (last : ℕ) (m n : Machine T) (es : List (Event T)) → Run last m es n
    → (i : ℕ) (e : Entry T) → (table_at n i).entry ≡ Some e → e.born ≤ (table_at m i).stamp
    → HasAlike m i e

-- no entry that was born at b is linked at slot i
abbrev pub NoneBornAt : {T : Type 0} → Machine T → ℕ → ℕ → Type 0
NoneBornAt {T} m i b = (f : Entry T) → (table_at m i).entry ≡ Some f → f.born ≢ b

-- 1 where slot i and birth stamp b are j and c, else 0
abbrev pub one_at : ℕ → ℕ → ℕ → ℕ → ℕ
one_at i b j c = if (i == j) && (b == c) then 1 else 0

-- 1 where the event ends the entry of slot i that was born at b: as removed, reaped or expired
abbrev pub ends_by : {T : Type 0} → ℕ → ℕ → Event T → ℕ
ends_by i b (Remove j c) = one_at i b j c
ends_by i b (Reap j c) = one_at i b j c
ends_by i b (Expire j c at) = one_at i b j c
ends_by i b e = 0

-- how many of the events end it
abbrev pub ends_of : {T : Type 0} → ℕ → ℕ → List (Event T) → ℕ
ends_of i b [] = 0
ends_of i b (e ∷ es) = ends_by i b e + ends_of i b es

-- no event ended the entry and it is linked still, or one event did and it is linked no more
abbrev pub StaysOrLeft : {T : Type 0} → ℕ → Entry T → List (Event T) → Machine T → Type 0
StaysOrLeft i e es n =
    ((ends_of i e.born es ≡ 0) × HasAlike n i e)
    ⊎ ((ends_of i e.born es ≡ 1) × NoneBornAt n i e.born)

-- no entry is lost, none ends twice, and none changes its value
abbrev pub EntriesLeaveOnce : Type 0 → Type 0
EntriesLeaveOnce T =
    (last : ℕ) (m n : Machine T) (es : List (Event T)) → Run last m es n
    → (i : ℕ) (e : Entry T) → (table_at m i).entry ≡ Some e → e.born ≤ (table_at m i).stamp
    → StaysOrLeft i e es n

-- an entry that was born at b is linked at slot i, and is live
abbrev pub LivesBornAt : {T : Type 0} → Machine T → ℕ → ℕ → Type 0
LivesBornAt {T} m i b =
    (f : Entry T) × (d : ℕ) × ((table_at m i).entry ≡ Some f) × (f.born ≡ b) × (f.due ≡ Some d)

-- slot i has had the birth stamp b, and its entry isn't live: it has expired, or was removed or
-- cancelled
abbrev pub HasEnded : {T : Type 0} → Machine T → ℕ → ℕ → Type 0
HasEnded m i b = (b ≤ (table_at m i).stamp) × (LivesBornAt m i b → ⊥)

-- what has ended is never live again, whatever came between
abbrev pub EndedStaysEnded : Type 0 → Type 0
EndedStaysEnded T =
    (last : ℕ) (m n : Machine T) (es : List (Event T)) → Run last m es n
    → (i b : ℕ) → HasEnded m i b → HasEnded n i b
