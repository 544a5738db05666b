use Rattle.std.proofs.Common.{◌<◌}
use Rattle.dq_replay.proofs.Whole.{Stands}
use Rattle.dq_replay.proofs.replay.replay.Given as goal

abbrev pub invariant-loop-number : goal.invariant-loop-number
invariant-loop-number g l = record {
  stands : Stands (g.R.Read.remaining l.fn.reader) (g.R.Read.remaining l.reader) (g.W.Write.contents l.fn.writer) (g.W.Write.contents l.writer) l.capacity l.number l.session.state;
  given : l.session.given < l.number;
}
