use Rattle.std.proofs.Common.{refl, subst, sym, inl, inr}
use Rattle.dq_growing.specs.Cores.{CoreRow}
use Rattle.dq_growing.specs.Sizing.{MayShrink}
use Rattle.dq_growing.proofs.store.SizedStore.note_left.Goals as goal

pub returns-then-not-is_look-clause-notes : goal.returns-then-not-is_look-clause-notes
returns-then-not-is_look-clause-notes g c = inr ((λ x. c.is_look.ensures.no c.if-not-is_look.true x.0), refl)

pub returns-then-not-may_shrink-clause-notes : goal.returns-then-not-may_shrink-clause-notes
returns-then-not-may_shrink-clause-notes g c =
    let P : CoreRow g.row.T.Denot g.row.W.Denot → Type 0 = λ k. MayShrink k in
    rw (← c.self.view_is) (inr ((λ x. c.may_shrink.ensures.no c.if-not-may_shrink.true (subst P (sym c.cores.ensures) x.1)), refl))

pub returns-clause-notes : goal.returns-clause-notes
returns-clause-notes g c =
    let P : CoreRow g.row.T.Denot g.row.W.Denot → Type 0 = λ k. MayShrink k in
    rw (← c.self.view_is) (inl (c.is_look.ensures.yes c.if-not-is_look.false, subst P c.cores.ensures (c.may_shrink.ensures.yes c.if-not-may_shrink.false), c.look_after.ensures))
