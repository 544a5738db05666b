-- What the wheel's way from one tick to another leaves of its filing.

use Rattle.std.specs.Prelude.{◌≡◌, ℕ, ◌+◌, ◌<◌, ◌≤◌, nat_lt, min, List, [], ◌∷◌, Option, Some, None}
use Rattle.std.specs.Prelude.{if◌then◌else◌, ◌==◌, ◌||◌}
use Rattle.std.specs.List.{sum_by}
use Rattle.dq_ticks.specs.Digits.{level}
use Rattle.dq_wheel.specs.State.{Filing, filed_at}
use Rattle.dq_wheel.specs.Wakes.{wake_for, IsNextWake}

-- 1 where an index that is filed so goes from a level to a lower one between the ticks e and n, and
-- else 0; the way to the due list is none
abbrev pub moves_down : ℕ → ℕ → Option ℕ → ℕ
moves_down e n None = 0
moves_down e n (Some f) =
    if (e == f) || (n == f) then 0 else if nat_lt (level n f) (level e f) then 1 else 0

-- the count of moves of each index, with that move
abbrev pub move_counts : ℕ → ℕ → List (Option ℕ) → List ℕ → List ℕ
move_counts e n [] moves = []
move_counts e n (o ∷ filed) [] = []
move_counts e n (o ∷ filed) (m ∷ moves) =
    (m + moves_down e n o) ∷ move_counts e n filed moves

-- the wheel at tick n: each index is filed as before, and each move down is counted, in all to the
-- greatest u64
abbrev pub passed : Filing → ℕ → Filing
passed w n =
    record {
      tick = n;
      filed = w.filed;
      moves = move_counts w.tick n w.filed w.moves;
      moved = min (w.moved + sum_by (moves_down w.tick n) w.filed) 18446744073709551615;
    }

-- the wheel went to the next wake, which is no later than the limit
abbrev pub ReachesWake : Filing → ℕ → Filing → Type 0
ReachesWake old limit new =
    (w : ℕ) × IsNextWake old.tick old.filed w × (w ≤ limit) × (new ≡ passed old w)

-- the wheel went to the limit, by which nothing wakes
abbrev pub ReachesLimit : Filing → ℕ → Filing → Type 0
ReachesLimit old limit new =
    ((i f : ℕ) → filed_at old.filed i ≡ Some f → limit < wake_for old.tick f)
    × (new ≡ passed old limit)
