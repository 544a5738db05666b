use Rattle.std.proofs.Common.{sym, ◌∙◌}
use Rattle.std.proofs.lemmas.Bool.{ne_eqb}
use Rattle.std.proofs.lemmas.Result.{err_from_is_err_and}
use Rattle.dq_replay.proofs.LineRuns.{command_line}
use Rattle.dq_replay.proofs.replay.answer.Goals as goal

pub returns-in_err-answer-in-Ok-clause-does : goal.returns-in_err-answer-in-Ok-clause-does
returns-in_err-answer-in-Ok-clause-does g c =
    let was = err_from_is_err_and c.from_residual.result c.from_residual.ensures.1 in
    rw (was.1, was.2) (command_line c.args.number c.args.session.now.state c.args.line.now c.in-Ok.command c.requires.lines c.requires.bytes (ne_eqb c.args.number 1 c.if-number-eq1.false) (sym c.parse.ensures ∙ c.in-Ok.is))
