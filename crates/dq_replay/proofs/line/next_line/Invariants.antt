use Rattle.std.proofs.Common.{◌≡◌, vec_len}
use Rattle.std.specs.Io.KnownBytes.{Consumes}
use Rattle.dq_replay.specs.Lines.{HasNoEnd}
use Rattle.dq_replay.proofs.line.next_line.Given as goal

abbrev pub invariant-loop : goal.invariant-loop
invariant-loop g l = record {
  whole : vec_len l.line ≡ l.counter;
  no_end : HasNoEnd l.line.items;
  taken : Consumes (g.R.Read.remaining l.fn.reader) (g.R.Read.remaining l.reader) l.line.items;
}
