use Rattle.std.proofs.Common.{◌≤◌, ◌-◌}
use Rattle.std.specs.Prelude.{vec_capacity}
use Rattle.dq_words.specs.DirectoryRows.{AreNumbered}
use Rattle.dq_words.proofs.directory.no_places.Given as goal

abbrev pub invariant-loop-row : goal.invariant-loop-row
invariant-loop-row g l = (l.row ≤ 32) × (32 ≤ vec_capacity l.rows) × AreNumbered l.row l.rows.items

abbrev pub decreases-loop-row : goal.decreases-loop-row
decreases-loop-row g l = 32 - l.row
