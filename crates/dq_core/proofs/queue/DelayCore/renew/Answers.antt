use Rattle.std.proofs.Common.{◌≡◌, length, ap, sym, ◌∙◌}
use Rattle.dq_core.specs.Slots.{shown}
use Rattle.dq_core.proofs.Ways.{core_of}
use Rattle.dq_core.proofs.CallWords.{made_empty}
use Rattle.dq_core.proofs.Renewing.{renewed_machine}
use Rattle.dq_core.proofs.queue.DelayCore.renew.Goals as goal

pub returns-clause-fresh : goal.returns-clause-fresh
returns-clause-fresh g c =
    let s = c.self.inside in
    let b = core_of s.shard s.noted s.wheel s.slots (g.W.Words.known s.words) (g.W.Words.counts s.words) s.words in
    let size : length (g.W.Words.known c.args.words) ≡ length s.slots.rows = sym c.rows.ensures ∙ c.if-rows-capacity.false ∙ c.capacity.ensures in
    rw (← c.self.view_is, c.replace.ensures.after)
    (renewed_machine b (shown c.forget.new.self) (g.W.Words.known c.args.words) c.self.invariant.0.as_known c.forget.ensures.forgotten c.requires.0 size)

pub returns-clause-empty : goal.returns-clause-empty
returns-clause-empty g c = made_empty c.forget.new.self.rows _ _ (ap (λ s. s.rows) c.forget.ensures.forgotten)
