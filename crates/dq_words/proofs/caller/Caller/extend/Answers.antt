use Rattle.std.proofs.Common.{sym, ap, ◌∙◌}
use Rattle.std.proofs.lemmas.Result.{err_from_is_err_and, IfOk-from_err}
use Rattle.dq_core.specs.declared.words.CallError.TheVariants.{Unknown}
use Rattle.dq_words.specs.Seats.{Sat}
use Rattle.dq_words.proofs.Answered.{extend_keeps, extend_sees, extend_by_word, one_step, extend_steps, refused_at_once}
use Rattle.dq_words.proofs.Callings.{extend_refused, extend_accepted}
use Rattle.dq_words.proofs.caller.Caller.extend.Goals as goal

pub returns-then-stamp-asked-clause-extends : goal.returns-then-stamp-asked-clause-extends
returns-then-stamp-asked-clause-extends g c =
    let own = ap (λ (s : Sat). s.view) (sym c.self.view_is) in
    (c.if-when-gt-LAST_TICK.false, refused_at_once _ _ _ c.args.key.now _ _ _ _ own c.in-Some.ensures c.stamp-asked.ensures c.caller_load-seen.ensures.step c.stamp.ensures.0 c.if-stamp-asked.true)

pub returns-then-stamp-asked-clause-refused : goal.returns-then-stamp-asked-clause-refused
returns-then-stamp-asked-clause-refused g c = extend_by_word c.args.self.now.view c.args.key.now c.args.when c.caller_load-seen.new.self Unknown (returns-then-stamp-asked-clause-extends g c)

pub returns-then-stamp-asked-clause-two_steps : goal.returns-then-stamp-asked-clause-two_steps
returns-then-stamp-asked-clause-two_steps g c =
    let own = ap (λ (s : Sat). s.view) (sym c.self.view_is) in
    let seen = c.caller_load-seen.new.self.view in
    one_step _ _ _ seen _ _ 0 0 own c.caller_load-seen.ensures.step

pub returns-then-stamp-asked-clause-table : goal.returns-then-stamp-asked-clause-table
returns-then-stamp-asked-clause-table g c = c.caller_load-seen.ensures.table ∙ ap (λ (s : Sat). s.table) c.self.view_is

pub returns-in_err-before-clause-accepted : goal.returns-in_err-before-clause-accepted
returns-in_err-before-clause-accepted g c = IfOk-from_err _ _ c.from_residual.ensures.0

pub returns-in_err-before-clause-promised : goal.returns-in_err-before-clause-promised
returns-in_err-before-clause-promised g c = IfOk-from_err _ _ c.from_residual.ensures.0

pub returns-in_err-before-clause-extends : goal.returns-in_err-before-clause-extends
returns-in_err-before-clause-extends g c =
    let own = ap (λ (s : Sat). s.view) (sym c.self.view_is) in
    let p = err_from_is_err_and c.from_residual.result c.from_residual.ensures.1 in
    rw (p.1, p.2) (extend_refused _ _ _ _ c.args.key.now _ _ _ _ _ own c.in-Some.ensures c.stamp-asked.ensures c.caller_load-seen.ensures.step c.stamp.ensures.0 c.if-stamp-asked.false _ _ _
    c.if-when-gt-LAST_TICK.false c.live_word.ensures c.extend-found.ensures.step c.in_err-before.ensures)

pub returns-in_err-before-clause-refused : goal.returns-in_err-before-clause-refused
returns-in_err-before-clause-refused g c =
    let own = ap (λ (s : Sat). s.view) (sym c.self.view_is) in
    let p = err_from_is_err_and c.from_residual.result c.from_residual.ensures.1 in
    rw (p.1, p.2) (extend_by_word c.args.self.now.view c.args.key.now c.args.when c.extend-found.new.self _
    (extend_refused _ _ _ _ c.args.key.now _ _ _ _ _ own c.in-Some.ensures c.stamp-asked.ensures c.caller_load-seen.ensures.step c.stamp.ensures.0 c.if-stamp-asked.false _ _ _
    c.if-when-gt-LAST_TICK.false c.live_word.ensures c.extend-found.ensures.step c.in_err-before.ensures))

pub returns-in_err-before-clause-two_steps : goal.returns-in_err-before-clause-two_steps
returns-in_err-before-clause-two_steps g c =
    let own = ap (λ (s : Sat). s.view) (sym c.self.view_is) in
    extend_steps _ _ _ _ _ _ _ _ own c.caller_load-seen.ensures.step c.extend-found.ensures.step

pub returns-in_err-before-clause-table : goal.returns-in_err-before-clause-table
returns-in_err-before-clause-table g c = c.extend-found.ensures.table ∙ c.caller_load-seen.ensures.table ∙ ap (λ (s : Sat). s.table) c.self.view_is

pub returns-clause-extends : goal.returns-clause-extends
returns-clause-extends g c =
    let own = ap (λ (s : Sat). s.view) (sym c.self.view_is) in
    extend_accepted _ _ _ _ c.args.key.now _ _ _ _ _ own c.in-Some.ensures c.stamp-asked.ensures c.caller_load-seen.ensures.step c.stamp.ensures.0 c.if-stamp-asked.false _ _ _ _
    c.if-when-gt-LAST_TICK.false c.live_word.ensures c.extend-found.ensures.step c.in_ok-before.ensures c.max.ensures

pub returns-clause-accepted : goal.returns-clause-accepted
returns-clause-accepted g c = extend_sees c.args.self.now.view c.args.key.now c.args.when _ c.extend-found.new.self (returns-clause-extends g c)

pub returns-clause-promised : goal.returns-clause-promised
returns-clause-promised g c = extend_keeps c.args.self.now c.args.key.now c.args.when _ c.extend-found.new.self.view (returns-clause-extends g c)

pub returns-clause-two_steps : goal.returns-clause-two_steps
returns-clause-two_steps g c =
    let own = ap (λ (s : Sat). s.view) (sym c.self.view_is) in
    extend_steps _ _ _ _ _ _ _ _ own c.caller_load-seen.ensures.step c.extend-found.ensures.step

pub returns-clause-table : goal.returns-clause-table
returns-clause-table g c = c.extend-found.ensures.table ∙ c.caller_load-seen.ensures.table ∙ ap (λ (s : Sat). s.table) c.self.view_is
