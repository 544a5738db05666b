use Rattle.std.proofs.Common.{◌≡◌, arith}
use Rattle.std.proofs.lemmas.Result.{err_from_is_err_and}
use Rattle.dq_replay.proofs.Whole.{stands_next, ran_unstarted, ran_to_end, ran_to_fault, ran_past, ran_over, ran_past_unread}
use Rattle.dq_replay.proofs.replay.replay.Goals as goal

pub returns-in_err-session-clause-runs : goal.returns-in_err-session-clause-runs
returns-in_err-session-clause-runs g c =
    let was = err_from_is_err_and c.from_residual.result c.from_residual.ensures.1 in
    rw (was.1, was.2) (ran_unstarted _ _ c.args.capacity)

pub loop-number-preserved : goal.loop-number-preserved
loop-number-preserved g c = record {
  stands = stands_next _ _ _ _ _ _ c.args.capacity c.loop-number.number c.loop-number.session.state c.replay_line.new.session.state c.loop-number.invariant.stands (rw c.if-not-branch.false at c.in_ok-replay_line.ensures.ran);
  given = let up = c.in_ok-replay_line.ensures.given in omega (arith, up);
}

pub returns-then-not-branch-clause-runs : goal.returns-then-not-branch-clause-runs
returns-then-not-branch-clause-runs g c =
    ran_to_end _ _ _ _ _ _ c.args.capacity c.loop-number.number c.loop-number.session.state c.replay_line.new.session.state c.loop-number.invariant.stands (rw c.if-not-branch.true at c.in_ok-replay_line.ensures.ran)

pub returns-in_err-replay_line-clause-runs : goal.returns-in_err-replay_line-clause-runs
returns-in_err-replay_line-clause-runs g c =
    let was = err_from_is_err_and c.from_residual-in_err-replay_line.result c.from_residual-in_err-replay_line.ensures.1 in
    rw (was.1, was.2) (ran_to_fault _ _ _ _ _ _ c.args.capacity c.loop-number.number c.loop-number.session.state c.replay_line.new.session.state _ c.loop-number.invariant.stands c.in_err-replay_line.ensures.ran)

pub returns-in_err-next_byte-clause-runs : goal.returns-in_err-next_byte-clause-runs
returns-in_err-next_byte-clause-runs g c =
    let was = err_from_is_err_and c.from_residual-in_err-next_byte.result c.from_residual-in_err-next_byte.ensures.1 in
    rw (was.1, was.2) (ran_past_unread _ _ _ _ _ c.args.capacity c.loop-number.number c.loop-number.session.state _ c.loop-number.invariant.stands c.in_err-next_byte.ensures)

pub returns-in-None-clause-runs : goal.returns-in-None-clause-runs
returns-in-None-clause-runs g c =
    ran_past _ _ _ _ _ c.args.capacity c.loop-number.number c.loop-number.session.state (omega arith) c.loop-number.invariant.stands (rw c.in-None.is at c.in_ok-next_byte.ensures)

pub returns-clause-runs : goal.returns-clause-runs
returns-clause-runs g c =
    let last : c.loop-number.number ≡ 1000001 = omega arith in
    rw (c.script_fault.ensures, ← last) (ran_over _ _ _ _ _ c.args.capacity c.loop-number.number c.loop-number.session.state c.in-Some.field-0 (omega arith) c.loop-number.invariant.stands (rw c.in-Some.is at c.in_ok-next_byte.ensures))
