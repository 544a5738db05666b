use Rattle.std.proofs.Common.{sym, ap, ◌∙◌}
use Rattle.std.proofs.lemmas.Result.{err_from_is_err_and, IfOk-from_err}
use Rattle.dq_words.specs.CallerCalls.{CancelAccepted}
use Rattle.dq_words.specs.Seats.{Sat}
use Rattle.dq_words.proofs.Answered.{cancel_keeps, cancel_counts, by_word, one_step, cancel_steps, refused_at_once}
use Rattle.dq_words.proofs.Callings.{cancel_refused, cancel_accepted}
use Rattle.dq_words.proofs.caller.Caller.cancel.Goals as goal

pub returns-then-stamp-asked-clause-cancels : goal.returns-then-stamp-asked-clause-cancels
returns-then-stamp-asked-clause-cancels g c =
    let own = ap (λ (s : Sat). s.view) (sym c.self.view_is) in
    refused_at_once _ _ _ c.args.key.now _ _ _ _ own c.in-Some.ensures c.stamp-asked.ensures c.caller_load-seen.ensures.step c.stamp.ensures.0 c.if-stamp-asked.true

pub returns-then-stamp-asked-clause-refused : goal.returns-then-stamp-asked-clause-refused
returns-then-stamp-asked-clause-refused g c = by_word _ c.args.key.now _ c.caller_load-seen.new.self _ (returns-then-stamp-asked-clause-cancels g c)

pub returns-then-stamp-asked-clause-two_steps : goal.returns-then-stamp-asked-clause-two_steps
returns-then-stamp-asked-clause-two_steps g c =
    let own = ap (λ (s : Sat). s.view) (sym c.self.view_is) in
    let seen = c.caller_load-seen.new.self.view in
    one_step _ _ _ seen _ _ 0 0 own c.caller_load-seen.ensures.step

pub returns-then-stamp-asked-clause-table : goal.returns-then-stamp-asked-clause-table
returns-then-stamp-asked-clause-table g c = c.caller_load-seen.ensures.table ∙ ap (λ (s : Sat). s.table) c.self.view_is

pub returns-in_err-given_up-clause-accepted : goal.returns-in_err-given_up-clause-accepted
returns-in_err-given_up-clause-accepted g c = IfOk-from_err _ _ c.from_residual.ensures.0

pub returns-in_err-given_up-clause-promised : goal.returns-in_err-given_up-clause-promised
returns-in_err-given_up-clause-promised g c = IfOk-from_err _ _ c.from_residual.ensures.0

pub returns-in_err-given_up-clause-counted : goal.returns-in_err-given_up-clause-counted
returns-in_err-given_up-clause-counted g c = IfOk-from_err _ _ c.from_residual.ensures.0

pub returns-in_err-given_up-clause-cancels : goal.returns-in_err-given_up-clause-cancels
returns-in_err-given_up-clause-cancels g c =
    let own = ap (λ (s : Sat). s.view) (sym c.self.view_is) in
    let p = err_from_is_err_and c.from_residual.result c.from_residual.ensures.1 in
    rw (p.1, p.2) (cancel_refused _ _ _ _ c.args.key.now _ _ _ _ _ own c.in-Some.ensures c.stamp-asked.ensures c.caller_load-seen.ensures.step c.stamp.ensures.0 c.if-stamp-asked.false _ _
    c.cancelled_word.ensures c.cancel-found.ensures.step c.in_err-given_up.ensures)

pub returns-in_err-given_up-clause-refused : goal.returns-in_err-given_up-clause-refused
returns-in_err-given_up-clause-refused g c =
    let own = ap (λ (s : Sat). s.view) (sym c.self.view_is) in
    let p = err_from_is_err_and c.from_residual.result c.from_residual.ensures.1 in
    rw (p.1, p.2) (by_word _ c.args.key.now _ c.cancel-found.new.self _
    (cancel_refused _ _ _ _ c.args.key.now _ _ _ _ _ own c.in-Some.ensures c.stamp-asked.ensures c.caller_load-seen.ensures.step c.stamp.ensures.0 c.if-stamp-asked.false _ _
    c.cancelled_word.ensures c.cancel-found.ensures.step c.in_err-given_up.ensures))

pub returns-in_err-given_up-clause-two_steps : goal.returns-in_err-given_up-clause-two_steps
returns-in_err-given_up-clause-two_steps g c =
    let own = ap (λ (s : Sat). s.view) (sym c.self.view_is) in
    cancel_steps _ _ _ _ _ _ _ _ own c.caller_load-seen.ensures.step c.cancel-found.ensures.step

pub returns-in_err-given_up-clause-table : goal.returns-in_err-given_up-clause-table
returns-in_err-given_up-clause-table g c = c.cancel-found.ensures.table ∙ c.caller_load-seen.ensures.table ∙ ap (λ (s : Sat). s.table) c.self.view_is

pub returns-clause-cancels : goal.returns-clause-cancels
returns-clause-cancels g c =
    let own = ap (λ (s : Sat). s.view) (sym c.self.view_is) in
    cancel_accepted _ _ _ _ c.args.key.now _ _ _ _ _ own c.in-Some.ensures c.stamp-asked.ensures c.caller_load-seen.ensures.step c.stamp.ensures.0 c.if-stamp-asked.false _ _
    c.cancelled_word.ensures c.cancel-found.ensures.step c.in_ok-given_up.ensures

pub returns-clause-accepted : goal.returns-clause-accepted
returns-clause-accepted g c =
    let a : CancelAccepted c.args.self.now.view c.args.key.now c.in_ok-given_up.given_up c.cancel-found.new.self.view = returns-clause-cancels g c in
    a.now

pub returns-clause-promised : goal.returns-clause-promised
returns-clause-promised g c = cancel_keeps c.args.self.now c.args.key.now _ _ (returns-clause-cancels g c)

pub returns-clause-counted : goal.returns-clause-counted
returns-clause-counted g c = cancel_counts c.args.self.now.view c.args.key.now _ _ (returns-clause-cancels g c)

pub returns-clause-two_steps : goal.returns-clause-two_steps
returns-clause-two_steps g c =
    let own = ap (λ (s : Sat). s.view) (sym c.self.view_is) in
    cancel_steps _ _ _ _ _ _ _ _ own c.caller_load-seen.ensures.step c.cancel-found.ensures.step

pub returns-clause-table : goal.returns-clause-table
returns-clause-table g c = c.cancel-found.ensures.table ∙ c.caller_load-seen.ensures.table ∙ ap (λ (s : Sat). s.table) c.self.view_is
