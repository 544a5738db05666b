use Rattle.std.proofs.Common.{◌∙◌}
use Rattle.dq_words.proofs.OpenCalls.{cancel_answered, cancel_shown, cancel_not_made, not_asked}
use Rattle.dq_words.proofs.seated.open.OpenWords.cancel.Goals as goal

pub returns-in-Ok-clause-accepted : goal.returns-in-Ok-clause-accepted
returns-in-Ok-clause-accepted g c =
    cancel_answered c.args.self.now _ c.pass_cancel-found.new.passer c.args.key.now _ _ _ _ _ c.in-Some.ensures c.stamp-asked.ensures c.pass-seen.ensures.step c.stamp.ensures.0 c.if-stamp-asked.false
    (c.pass_cancel-found.ensures.table ∙ c.pass-seen.ensures.table) c.pass_cancel-found.ensures.row c.pass_cancel-found.ensures.now _ c.cancelled_word.ensures
    c.pass_cancel-found.ensures.step _ c.in-Ok.ensures

pub returns-in-Ok-clause-shows : goal.returns-in-Ok-clause-shows
returns-in-Ok-clause-shows g c =
    cancel_shown c.args.self.now _ c.pass_cancel-found.new.passer c.args.key.now _ _ _ _ _ c.in-Some.ensures c.stamp-asked.ensures c.pass-seen.ensures.step c.stamp.ensures.0 c.if-stamp-asked.false
    (c.pass_cancel-found.ensures.table ∙ c.pass-seen.ensures.table) c.pass_cancel-found.ensures.row c.pass_cancel-found.ensures.now _ c.cancelled_word.ensures
    c.pass_cancel-found.ensures.step _ c.in-Ok.ensures

pub returns-in-Err-clause-refused : goal.returns-in-Err-clause-refused
returns-in-Err-clause-refused g c =
    cancel_not_made c.args.self.now _ c.pass_cancel-found.new.passer c.args.key.now _ _ _ _ _ c.in-Some.ensures c.stamp-asked.ensures c.pass-seen.ensures.step c.stamp.ensures.0 c.if-stamp-asked.false
    (c.pass_cancel-found.ensures.table ∙ c.pass-seen.ensures.table) c.pass_cancel-found.ensures.row c.pass_cancel-found.ensures.now _ c.cancelled_word.ensures
    c.pass_cancel-found.ensures.step _ c.in-Err.ensures

pub returns-then-stamp-asked-clause-refused : goal.returns-then-stamp-asked-clause-refused
returns-then-stamp-asked-clause-refused g c =
    not_asked c.args.self.now _ c.args.key.now _ _ _ c.in-Some.ensures c.stamp-asked.ensures c.pass-seen.ensures.step c.pass-seen.ensures.table c.pass-seen.ensures.row
    c.pass-seen.ensures.now _ c.stamp.ensures.0 c.if-stamp-asked.true
