use Rattle.std.proofs.Common.{◌+◌, ◌-◌, length, drop, arith, sym}
use Rattle.std.specs.Prelude.{◌==◌}
use Rattle.std.proofs.lemmas.List.{length-drop, take_all}
use Rattle.dq_replay.proofs.Splits.{split_at, split_none}
use Rattle.dq_replay.proofs.command.split_token.Goals as goal

pub returns-in-Some : goal.returns-in-Some
returns-in-Some c =
    let text = c.args.text.now in
    let at = c.in-Some.at in
    rw (take_all (length text - (at + 1)) (drop (at + 1) text) (omega (arith, length-drop (at + 1) text))) (split_at (λ b. b == 32) text at (sym c.in-Some.ensures.first))

pub returns-in-None : goal.returns-in-None
returns-in-None c = split_none (λ b. b == 32) c.args.text.now (sym c.in-None.ensures.first)
