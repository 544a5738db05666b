use Rattle.std.proofs.Common.{◌∙◌}
use Rattle.dq_words.proofs.OpenCalls.{extend_answered, extend_shown, extend_not_made, not_asked}
use Rattle.dq_words.proofs.seated.open.OpenWords.extend.Goals as goal

pub returns-in-Ok-clause-accepted : goal.returns-in-Ok-clause-accepted
returns-in-Ok-clause-accepted g c =
    extend_answered c.args.self.now _ c.pass_extend-found.new.passer c.args.key.now _ _ _ _ _ c.in-Some.ensures c.stamp-asked.ensures c.pass-seen.ensures.step c.stamp.ensures.0 c.if-stamp-asked.false
    (c.pass_extend-found.ensures.table ∙ c.pass-seen.ensures.table) c.pass_extend-found.ensures.row c.pass_extend-found.ensures.now _ _ c.if-when-gt-LAST_TICK.false c.live_word.ensures
    c.pass_extend-found.ensures.step _ _ c.in-Ok.ensures c.max.ensures

pub returns-in-Ok-clause-shows : goal.returns-in-Ok-clause-shows
returns-in-Ok-clause-shows g c =
    extend_shown c.args.self.now _ c.pass_extend-found.new.passer c.args.key.now _ _ _ _ _ c.in-Some.ensures c.stamp-asked.ensures c.pass-seen.ensures.step c.stamp.ensures.0 c.if-stamp-asked.false
    (c.pass_extend-found.ensures.table ∙ c.pass-seen.ensures.table) c.pass_extend-found.ensures.row c.pass_extend-found.ensures.now _ _ c.if-when-gt-LAST_TICK.false c.live_word.ensures
    c.pass_extend-found.ensures.step _ _ c.in-Ok.ensures c.max.ensures

pub returns-in-Err-clause-refused : goal.returns-in-Err-clause-refused
returns-in-Err-clause-refused g c =
    extend_not_made c.args.self.now _ c.pass_extend-found.new.passer c.args.key.now _ _ _ _ _ c.in-Some.ensures c.stamp-asked.ensures c.pass-seen.ensures.step c.stamp.ensures.0 c.if-stamp-asked.false
    (c.pass_extend-found.ensures.table ∙ c.pass-seen.ensures.table) c.pass_extend-found.ensures.row c.pass_extend-found.ensures.now _ _ c.if-when-gt-LAST_TICK.false c.live_word.ensures
    c.pass_extend-found.ensures.step _ c.in-Err.ensures

pub returns-then-stamp-asked-clause-refused : goal.returns-then-stamp-asked-clause-refused
returns-then-stamp-asked-clause-refused g c = (
  c.if-when-gt-LAST_TICK.false,
  not_asked c.args.self.now _ c.args.key.now _ _ _ c.in-Some.ensures c.stamp-asked.ensures c.pass-seen.ensures.step c.pass-seen.ensures.table c.pass-seen.ensures.row
      c.pass-seen.ensures.now _ c.stamp.ensures.0 c.if-stamp-asked.true,
)
