use Rattle.std.proofs.Common.{◌-◌, ◌≤◌, length, drop, arith}
use Rattle.std.proofs.lemmas.List.{take_all, length-drop}
use Rattle.dq_replay.proofs.Known.{appends_more}
use Rattle.dq_replay.proofs.output.write_whole.Goals as goal

pub loop-written-preserved : goal.loop-written-preserved
loop-written-preserved g c =
    let text = c.args.text.now in
    let written = c.loop-written.written in
    let rest = take_all (length text - written) (drop written text) (omega (arith, length-drop written text)) in
    let bound : c.in-Ok.n ≤ length (drop written text) = rw rest at c.in-Ok.ensures.bound in (
      omega (arith, bound, length-drop written text),
      appends_more _ _ _ text written c.in-Ok.n c.loop-written.invariant.1 (rw rest at c.in-Ok.ensures.bytes),
    )
