use Rattle.std.proofs.Common.{◌∙◌}
use Rattle.dq_words.proofs.Ended.{loads_only, loads_write, ends, ends_only, ends_write, ends_stay}
use Rattle.dq_words.proofs.Begun.{load_stays}
use Rattle.dq_words.proofs.Trying.{goes_more}
use Rattle.dq_words.proofs.keeper.end.Goals as goal

pub returns-then-stamp-gt0-clause-ended : goal.returns-then-stamp-gt0-clause-ended
returns-then-stamp-gt0-clause-ended g c = ends _ _ _ _ c.requires.inside c.keeper_load-seen.ensures.step _ c.stamp-then-stamp-gt0.result c.finish-ended.result c.finish-ended.ensures.finishes

pub returns-then-stamp-gt0-clause-only : goal.returns-then-stamp-gt0-clause-only
returns-then-stamp-gt0-clause-only g c = ends_only _ _ _ _ c.requires.inside c.keeper_load-seen.ensures.step _ c.stamp-then-stamp-gt0.result c.finish-ended.result c.finish-ended.ensures.finishes

pub returns-then-stamp-gt0-clause-removes : goal.returns-then-stamp-gt0-clause-removes
returns-then-stamp-gt0-clause-removes g c = ends_write _ _ _ _ c.requires.inside c.keeper_load-seen.ensures.step _ c.stamp-then-stamp-gt0.result c.finish-ended.result c.finish-ended.ensures.finishes

pub returns-then-stamp-gt0-clause-begun : goal.returns-then-stamp-gt0-clause-begun
returns-then-stamp-gt0-clause-begun g c = ends_stay _ _ _ _ c.requires.inside c.keeper_load-seen.ensures.step _ c.stamp-then-stamp-gt0.result c.finish-ended.result c.finish-ended.ensures.finishes

pub returns-then-stamp-gt0-clause-seat : goal.returns-then-stamp-gt0-clause-seat
returns-then-stamp-gt0-clause-seat g c = goes_more _ _ _ c.keeper_load-seen.ensures.seat c.finish-ended.ensures.seat

pub returns-then-stamp-gt0-clause-table : goal.returns-then-stamp-gt0-clause-table
returns-then-stamp-gt0-clause-table g c = c.finish-ended.ensures.table ∙ c.keeper_load-seen.ensures.table

pub returns-else-is_live-clause-only : goal.returns-else-is_live-clause-only
returns-else-is_live-clause-only g c = loads_only _ _ _ _ c.requires.inside c.keeper_load-seen.ensures.step

pub returns-else-is_live-clause-removes : goal.returns-else-is_live-clause-removes
returns-else-is_live-clause-removes g c = loads_write _ _ _ _ c.requires.inside c.keeper_load-seen.ensures.step

pub returns-else-is_live-clause-begun : goal.returns-else-is_live-clause-begun
returns-else-is_live-clause-begun g c = load_stays _ _ c.args.index c.keeper_load-seen.result c.keeper_load-seen.ensures.step

pub returns-else-is_live-clause-seat : goal.returns-else-is_live-clause-seat
returns-else-is_live-clause-seat g c = c.keeper_load-seen.ensures.seat

pub returns-else-is_live-clause-table : goal.returns-else-is_live-clause-table
returns-else-is_live-clause-table g c = c.keeper_load-seen.ensures.table
