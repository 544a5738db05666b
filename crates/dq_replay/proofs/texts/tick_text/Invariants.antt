use Rattle.std.proofs.Common.{◌≡◌, take}
use Rattle.std.specs.Prelude.{string_bytes, flat_map}
use Rattle.dq_replay.specs.Script.{expired_line}
use Rattle.dq_replay.proofs.texts.tick_text.Given as goal

abbrev pub invariant-loop-lease : goal.invariant-loop-lease
invariant-loop-lease g l = string_bytes l.text ≡ flat_map expired_line (take l.lease-index l.due)
