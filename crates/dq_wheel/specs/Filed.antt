-- No public clause cites this module.
-- Where indexes are filed, as the wheel keeps it: a number for each index, of which the greatest
-- stands for a loose one.

use Rattle.std.specs.Prelude.{ℕ, List, map, Option, None, Some, if◌then◌else◌, ◌==◌}
use Rattle.dq_wheel.specs.declared.lists.TheConstants.{NOT_FILED}

-- what one number says
abbrev pub filed_by : ℕ → Option ℕ
filed_by number = if number == NOT_FILED then None else Some number

-- what a row of them says
abbrev pub filed_ticks : List ℕ → List (Option ℕ)
filed_ticks numbers = map filed_by numbers
