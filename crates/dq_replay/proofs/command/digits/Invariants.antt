use Rattle.std.proofs.Common.{◌≡◌, ◌<◌, ◌^◌, drop}
use Rattle.dq_replay.specs.Text.{digits_behind}
use Rattle.dq_replay.proofs.command.digits.Given as goal

abbrev pub invariant-loop-byte : goal.invariant-loop-byte
invariant-loop-byte l = record {
  same : digits_behind 0 l.token ≡ digits_behind l.value (drop l.byte-index l.token);
  small : l.value < 2 ^ 64;
}
