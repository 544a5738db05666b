-- What an arrival leaves of a wheel's filing: where the wheel comes to the start of a slot, each
-- index of the slot is filed at that tick from then on, so it is due.

use Rattle.std.specs.Prelude.{◌≡◌, ℕ, ◌≤◌, List, map, Option, Some, None, MatchOption}
use Rattle.std.specs.Prelude.{if◌then◌else◌, ◌==◌}
use Rattle.dq_ticks.specs.Digits.{start_for}
use Rattle.dq_wheel.specs.State.{Filing, filed_at}
use Rattle.dq_wheel.specs.Wakes.{IsNextWake}

-- where an index is filed once the wheel came from tick e to tick n, by where it was filed before
abbrev pub arrives : ℕ → ℕ → Option ℕ → Option ℕ
arrives e n None = None
arrives e n (Some f) = if start_for e f == n then Some n else Some f

-- the wheel at tick n: the indexes of the slot that starts there are filed there
abbrev pub arrived : Filing → ℕ → Filing
arrived w n = record w { tick = n; filed = map (arrives w.tick n) w.filed }

-- the wheel came to the next wake, which is no later than the limit
abbrev pub ArrivesAtWake : Filing → ℕ → Filing → Type 0
ArrivesAtWake old limit new =
    (w : ℕ) × IsNextWake old.tick old.filed w × (w ≤ limit) × (new ≡ arrived old w)

-- what is loose stays so, and what is filed is filed at the same tick or an earlier one
abbrev pub AreFiledByThen : List (Option ℕ) → List (Option ℕ) → Type 0
AreFiledByThen old new =
    (i : ℕ) → MatchOption (filed_at old i)
    (filed_at new i ≡ None)
    (λ f. (g : ℕ) × (filed_at new i ≡ Some g) × (g ≤ f))
