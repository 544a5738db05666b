-- The plain queue: a list that each poll searches.
use Rattle.std.specs.Prelude.{◌≡◌, ◌≢◌, ℕ, ◌<◌, ◌≤◌, max, nat_le, List, [], ◌∷◌, ◌++◌, Some, length}
use Rattle.std.specs.Prelude.{slice_get, Result, Ok, Err}
use Rattle.std.specs.List.{All, filter, remove}
use Rattle.dq_ticks.specs.declared.TheConstants.{LAST_TICK}
use Rattle.dq_core.specs.WordRows.{IsCapacity}
use Rattle.dq_core.specs.declared.errors.CoreError.{CoreError}
use Rattle.dq_core.specs.declared.errors.CoreError.TheVariants.{TooFar, Full, TickTooLarge}
use Rattle.dq_core.specs.declared.errors.CoreError.TheVariants.{BadConfig, NoMemory}
use Rattle.dq_core.specs.declared.plain.Pending.{Pending}
use Rattle.dq_core.specs.declared.plain.PlainTurn.{PlainTurn}
use Rattle.dq_core.specs.declared.plain.PlainTurn.TheVariants.{PlainOut, PlainWaiting, PlainIdle}

-- a plain queue as its users see it: its capacity, its tick, the noted tick, and the entries that
-- wait, in the order in which they came
pub record Plain (T : Type 0) : Type 0 where
  pub capacity : ℕ
  pub tick : ℕ
  pub noted : ℕ
  pub entries : List (Pending T)

-- a plain queue of its parts
abbrev pub plain : {T : Type 0} → ℕ → ℕ → ℕ → List (Pending T) → Plain T
plain capacity tick noted entries =
    record { capacity = capacity; tick = tick; noted = noted; entries = entries }

-- no entry has a deadline before t
abbrev pub NoneSooner : {T : Type 0} → List (Pending T) → ℕ → Type 0
NoneSooner es t = All (λ e. t ≤ e.deadline) es

-- the entries whose deadline is at most t
abbrev pub due_entries : {T : Type 0} → List (Pending T) → ℕ → List (Pending T)
due_entries es t = filter (λ e. nat_le e.deadline t) es

-- a plain queue in good order: no deadline is before its tick, none beyond the last tick
pub record IsPlain {T : Type 0} (q : Plain T) : Type 0 where
  pub capacity : IsCapacity q.capacity
  pub room : length q.entries ≤ q.capacity
  pub tick : q.tick ≤ q.noted
  pub noted : q.noted ≤ LAST_TICK
  pub none_before : NoneSooner q.entries q.tick
  pub none_beyond : All (λ e. e.deadline ≤ LAST_TICK) q.entries

-- why no plain queue is made: BadConfig exactly where the capacity is none
abbrev pub PlainNotMade : ℕ → CoreError → Type 0
PlainNotMade capacity BadConfig = ¬ IsCapacity capacity
PlainNotMade capacity NoMemory = IsCapacity capacity
PlainNotMade capacity e = ⊥

-- a plain queue is made empty, at tick 0
abbrev pub PlainMakes : {T : Type 0} → ℕ → Result (Plain T) CoreError → Type 0
PlainMakes capacity (Ok q) = IsCapacity capacity × (q ≡ plain capacity 0 0 [])
PlainMakes capacity (Err e) = PlainNotMade capacity e

-- why an insert is refused: the deadline is beyond the last tick; or it isn't, and the queue is
-- full
abbrev pub PlainRefuses : {T : Type 0} → Plain T → ℕ → CoreError → Type 0
PlainRefuses b when (TooFar limit) = (limit ≡ LAST_TICK) × (LAST_TICK < when)
PlainRefuses b when (Full linked worn) =
    (when ≤ LAST_TICK) × (length b.entries ≡ b.capacity) × (linked ≡ length b.entries) × (worn ≡ 0)
PlainRefuses b when e = ⊥

-- an entry comes to wait for its deadline, raised to the tick; a refused one comes back, and
-- nothing changes
abbrev pub PlainInserts : {T : Type 0} →
    Plain T → T → ℕ → Result ℕ (CoreError × T) → Plain T → Type 0
PlainInserts b value when (Ok deadline) c =
    (when ≤ LAST_TICK) × (length b.entries < b.capacity) × (deadline ≡ max when b.tick)
    × (c ≡ plain b.capacity b.tick b.noted
    (b.entries ++ (record { deadline = deadline; value = value }) ∷ []))
PlainInserts b value when (Err e) c = PlainRefuses b when e.0 × (e.1 ≡ value) × (c ≡ b)

-- how a poll at the noted tick n ends: an entry of least deadline comes out where that deadline is
-- reached, and the tick is then its deadline; else nothing is due, and the tick is n
abbrev pub PlainTurns : {T : Type 0} → Plain T → ℕ → PlainTurn T → Plain T → Type 0
PlainTurns b n (PlainOut deadline value) c =
    (i : ℕ) × (slice_get b.entries i ≡ Some (record { deadline = deadline; value = value }))
    × NoneSooner b.entries deadline × (deadline ≤ n)
    × (c ≡ plain b.capacity deadline n (remove b.entries i))
PlainTurns b n PlainWaiting c =
    (b.entries ≢ []) × (due_entries b.entries n ≡ []) × (c ≡ plain b.capacity n n b.entries)
PlainTurns b n PlainIdle c = (b.entries ≡ []) × (c ≡ plain b.capacity n n b.entries)

-- a poll notes its tick, and then turns; a tick beyond the last one is refused, and nothing changes
abbrev pub PlainPolls : {T : Type 0} →
    Plain T → ℕ → Result (PlainTurn T) CoreError → Plain T → Type 0
PlainPolls b tick (Ok turn) c = (tick ≤ LAST_TICK) × PlainTurns b (max b.noted tick) turn c
PlainPolls b tick (Err e) c = (e ≡ TickTooLarge LAST_TICK) × (LAST_TICK < tick) × (c ≡ b)
