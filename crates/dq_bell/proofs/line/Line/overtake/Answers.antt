use Rattle.std.proofs.Common.{sym, ap, ◌∙◌, subst}
use Rattle.dq_bell.specs.Lines.{LineState, IsAwakeAt}
use Rattle.dq_bell.proofs.Lined.{taken_over}
use Rattle.dq_bell.proofs.line.Line.overtake.Goals as goal

pub invariant_of-self : goal.invariant_of-self
invariant_of-self g c =
    let P : LineState → Type 0 = λ l. IsAwakeAt l.sleeps c.args.at in
    rw (c.take-slept.ensures.sleeps)
    (taken_over _ _ _ _ _ _ c.args.at c.args.first c.self.invariant c.hand_lead.ensures c.rise.ensures.same (subst P (sym c.self.view_is) c.requires.awake) c.requires.other)
