-- Where an index stands.

use Rattle.std.specs.Prelude.{◌≡◌, ℕ, ◌+◌, ◌/◌, ◌%◌, ◌≤◌, ◌<◌, List, length, Option, Some, None}
use Rattle.std.specs.Prelude.{if◌then◌else◌, ◌==◌}
use Rattle.dq_ticks.specs.Digits.{digit_of, level}
use Rattle.dq_wheel.specs.State.{filed_at}
use Rattle.dq_wheel.specs.declared.wheel.Place.{Place}
use Rattle.dq_wheel.specs.declared.wheel.Place.TheVariants.{Loose, Due, InSlot}

-- the place of an index at tick e, by the tick at which it is filed
abbrev pub place_for : ℕ → Option ℕ → Place
place_for e None = Loose
place_for e (Some f) = if e == f then Due else InSlot (level e f) (digit_of f (level e f))

-- the place whose list it is at tick e: the list of level 0 that the tick's own digit names is the
-- due list
abbrev pub place_of_list : ℕ → ℕ → Place
place_of_list e p = if p == digit_of e 0 then Due else InSlot (p / 64) (p % 64)

-- some index stands in that slot
abbrev pub IsSlotFilled : ℕ → List (Option ℕ) → ℕ → ℕ → Type 0
IsSlotFilled e filed level slot =
    (i : ℕ) × (i < length filed) × (place_for e (filed_at filed i) ≡ InSlot level slot)

-- how often an index at that place may have moved since it was linked
abbrev pub MovesFit : Place → ℕ → Type 0
MovesFit Loose moves = moves ≡ 0
MovesFit Due moves = moves ≤ 5
MovesFit (InSlot level slot) moves = moves + level ≤ 5
