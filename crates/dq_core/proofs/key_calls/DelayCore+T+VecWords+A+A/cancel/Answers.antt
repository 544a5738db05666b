use Rattle.std.proofs.Common.{ap, sym, ◌∙◌}
use Rattle.dq_core.proofs.ByKey.{cancels_by}
use Rattle.dq_core.proofs.key_calls.DelayCore+T+VecWords+A+A.cancel.Goals as goal

pub returns-clause-cancels : goal.returns-clause-cancels
returns-clause-cancels g c =
    let s = c.self.inside in
    rw (← c.self.view_is)
    (cancels_by s.shard s.noted s.wheel s.slots s.words c.cancel.new.self c.args.key.now c.self.invariant.0 (c.is_mine.ensures.0 c.if-not-is_mine.false ∙ sym (ap (λ x. x.shard) c.self.view_is)) c.cancel.result c.cancel.ensures)
