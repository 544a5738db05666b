-- No public clause cites this module.
-- The slots whose value waits for its drop: a bit for each, and how many they are.
use Rattle.std.specs.Prelude.{◌≡◌, ◌≢◌, ℕ, zero, suc, ◌+◌, ◌*◌, ◌<◌, ◌≤◌, List, Option, Some}
use Rattle.std.specs.Prelude.{None, length, Bool, true, false}
use Rattle.dq_wheel.specs.Walks.{bit_of}
use Rattle.dq_core.specs.FreeSlots.{IsSummed}

-- the slots that wait, and their count
pub record Deferred : Type 0 where
  pub bits : List ℕ
  pub count : ℕ

-- 1 where the slot waits
abbrev pub deferred_at : Deferred → ℕ → ℕ
deferred_at d i = bit_of d.bits i

-- the slots below this have a bit
abbrev pub defers_room : Deferred → ℕ
defers_room d = 64 * length d.bits

-- the sum of a function below n
abbrev pub sum_below : (ℕ → ℕ) → ℕ → ℕ
sum_below f zero = 0
sum_below f (suc n) = sum_below f n + f n

-- how many of the first n bits are 1
abbrev pub bits_below : List ℕ → ℕ → ℕ
bits_below bits n = sum_below (bit_of bits) n

-- the other slots wait as before
abbrev pub OthersWait : Deferred → ℕ → Deferred → Type 0
OthersWait d i e =
    (length e.bits ≡ length d.bits) × ((j : ℕ) → j ≢ i → deferred_at e j ≡ deferred_at d j)

-- slot i waits from now on, and is counted where it didn't wait before
abbrev pub Defers : Deferred → ℕ → Deferred → Type 0
Defers d i e =
    (deferred_at e i ≡ 1) × (e.count + deferred_at d i ≡ d.count + 1) × OthersWait d i e

-- slot i waits no more, and is counted no more where it did
abbrev pub Undefers : Deferred → ℕ → Deferred → Type 0
Undefers d i e =
    (deferred_at e i ≡ 0) × (e.count + deferred_at d i ≡ d.count) × OthersWait d i e

-- slot i waits from now on where it has to, and else nothing changes
abbrev pub DefersIf : Bool → Deferred → ℕ → Deferred → Type 0
DefersIf true d i e = Defers d i e
DefersIf false d i e = e ≡ d

-- a slot that waited is taken out; none comes exactly where none waits
abbrev pub TakesDeferred : Deferred → Option ℕ → Deferred → Type 0
TakesDeferred d None e = (d.count ≡ 0) × ((i : ℕ) → deferred_at d i ≡ 0) × (e ≡ d)
TakesDeferred d (Some i) e =
    (i < defers_room d) × (deferred_at d i ≡ 1) × (e.count + 1 ≡ d.count) × (deferred_at e i ≡ 0)
    × OthersWait d i e

-- how the summary, the word that gave the last slot and the count go with the bits
pub record IsDeferredKept (bits summary : List ℕ) (word count : ℕ) : Type 0 where
  pub size : length bits ≤ 1024
  pub last : word < length bits
  pub summed : IsSummed bits summary
  -- the count is exact
  pub counted : count ≡ bits_below bits (64 * length bits)
