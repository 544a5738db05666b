use Rattle.std.proofs.Common.{ap, sym, ◌∙◌}
use Rattle.dq_core.proofs.ByKey.{extends_by, extended_lawful, extended_counts}
use Rattle.dq_core.proofs.key_calls.DelayCore+T+VecWords+A+A.extend.Goals as goal

pub invariant_of-self : goal.invariant_of-self
invariant_of-self g c =
    let s = c.self.inside in
    (extended_lawful s.shard s.noted s.wheel s.slots s.words c.extend.new.self c.args.key.now c.self.invariant.0 (c.is_mine.ensures.0 c.if-not-is_mine.false ∙ sym (ap (λ x. x.shard) c.self.view_is)) c.args.when c.extend.result c.if-when-gt-LAST_TICK.false c.extend.ensures, extended_counts s.words c.extend.new.self c.args.key.now c.args.when c.extend.result c.extend.ensures ∙ c.self.invariant.1)

pub returns-clause-extends : goal.returns-clause-extends
returns-clause-extends g c =
    let s = c.self.inside in
    rw (← c.self.view_is)
    (extends_by s.shard s.noted s.wheel s.slots s.words c.extend.new.self c.args.key.now c.self.invariant.0 (c.is_mine.ensures.0 c.if-not-is_mine.false ∙ sym (ap (λ x. x.shard) c.self.view_is)) c.args.when c.extend.result c.if-when-gt-LAST_TICK.false c.extend.ensures)
