use Rattle.std.proofs.lemmas.Bool.{ne_eqb}
use Rattle.std.proofs.lemmas.Result.{err_from_is_err_and}
use Rattle.dq_replay.proofs.LineRuns.{ran_unread, ran_faulty, ran_unwritten, ran_on, ran_unfinished, ran_empty, ran_out, ran_too_long}
use Rattle.dq_replay.proofs.replay.replay_line.Goals as goal

pub returns-in_err-next_line-clause-ran : goal.returns-in_err-next_line-clause-ran
returns-in_err-next_line-clause-ran g c =
    let was = err_from_is_err_and c.from_residual.result c.from_residual.ensures.1 in
    rw (was.1, was.2) (ran_unread _ _ _ c.args.number c.args.session.now.state c.args.session.now.state _ c.next_line.new.line.items c.requires.lines c.in_err-next_line.ensures)

pub returns-in_err-text-in-Whole-clause-ran : goal.returns-in_err-text-in-Whole-clause-ran
returns-in_err-text-in-Whole-clause-ran g c =
    let was = err_from_is_err_and c.from_residual-in_err-text-in-Whole.result c.from_residual-in_err-text-in-Whole.ensures.1 in
    rw (was.1, was.2) (ran_faulty _ _ _ c.args.number c.args.session.now.state c.answer.new.session.state _ c.next_line.new.line.items c.requires.lines (rw c.in-Whole.is at c.in_ok-next_line.ensures) (rw c.deref.ensures.value at c.in_err-text-in-Whole.ensures.does))

pub returns-in_err-write_whole-in-Whole-clause-ran : goal.returns-in_err-write_whole-in-Whole-clause-ran
returns-in_err-write_whole-in-Whole-clause-ran g c =
    let was = err_from_is_err_and c.from_residual-in_err-write_whole-in-Whole.result c.from_residual-in_err-write_whole-in-Whole.ensures.1 in
    let wrote = c.in_err-write_whole-in-Whole.ensures.err in
    rw (was.1, was.2, wrote.0) (ran_unwritten _ _ _ _ c.args.number _ _ _ _ wrote.1 (rw c.in-Whole.is at c.in_ok-next_line.ensures) (rw c.deref.ensures.value at c.in_ok-text-in-Whole.ensures.does) (rw c.as_bytes.ensures.value at wrote.3))

pub returns-in_ok-write_whole-in-Whole-clause-ran : goal.returns-in_ok-write_whole-in-Whole-clause-ran
returns-in_ok-write_whole-in-Whole-clause-ran g c =
    ran_on _ _ _ _ c.args.number _ _ _ _ (rw c.in-Whole.is at c.in_ok-next_line.ensures) (rw c.deref.ensures.value at c.in_ok-text-in-Whole.ensures.does) (rw c.as_bytes.ensures.value at c.in_ok-write_whole-in-Whole.ensures.ok)

pub returns-in-Nothing-clause-ran : goal.returns-in-Nothing-clause-ran
returns-in-Nothing-clause-ran g c = rw c.script_fault.ensures (ran_empty _ _ _ c.args.number c.args.session.now.state c.args.session.now.state c.next_line.new.line.items c.if-number-eq1.true (rw c.in-Nothing.is at c.in_ok-next_line.ensures))

pub returns-in-Nothing-2-clause-ran : goal.returns-in-Nothing-2-clause-ran
returns-in-Nothing-2-clause-ran g c = ran_out _ _ _ c.args.number c.args.session.now.state c.args.session.now.state c.next_line.new.line.items (ne_eqb c.args.number 1 c.if-number-eq1.false) (rw c.in-Nothing-2.is at c.in_ok-next_line.ensures)

pub returns-in-Unfinished-clause-ran : goal.returns-in-Unfinished-clause-ran
returns-in-Unfinished-clause-ran g c = rw c.script_fault-in-Unfinished.ensures (ran_unfinished _ _ _ c.args.number c.args.session.now.state c.args.session.now.state c.next_line.new.line.items c.requires.lines (rw c.in-Unfinished.is at c.in_ok-next_line.ensures))

pub returns-in-TooLong-clause-ran : goal.returns-in-TooLong-clause-ran
returns-in-TooLong-clause-ran g c = rw c.script_fault-in-TooLong.ensures (ran_too_long _ _ _ c.args.number c.args.session.now.state c.args.session.now.state c.next_line.new.line.items c.requires.lines (rw c.in-TooLong.is at c.in_ok-next_line.ensures))
