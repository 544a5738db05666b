use mathlib.Core.Bool.{not}
use Rattle.std.proofs.Common.{◌≡◌, ◌∙◌, ap, false}
use Rattle.std.proofs.lemmas.Bool.{both_ways}
use Rattle.dq_growing.specs.Sizing.{HasClearAt}
use Rattle.dq_growing.proofs.Hints.{brings_late}
use Rattle.dq_growing.proofs.Sizes.{clear_as, opens_wanted}
use Rattle.dq_growing.proofs.store.SizedStore.bring.Goals.{then-not-has_open_room, else-not-has_open_room}
use Rattle.dq_growing.proofs.store.SizedStore.bring.Goals as goal

pub invariant_of-self : goal.invariant_of-self
invariant_of-self g c =
    let i = c.self.inside in
    let r = c.take_in-taken in
    brings_late i.store r.new.store c.args.core i.hint r.result c.law.ensures.shard r.ensures.comes r.ensures.back c.self.invariant

pub returns-clause-opens : goal.returns-clause-opens
returns-clause-opens g c =
    let was = c.self.inside.store.cores in
    let needed = c.if-not-has_open_room.is_needed in
    let clear : needed ≡ false → HasClearAt was was.opened = λ is. elim c.if-not-has_open_room.branch [
      | then-not-has_open_room w ↦ absurd (both_ways needed is (w.is_needed-is ∙ ap not w.if-not-has_open_room.true))
      | else-not-has_open_room w ↦ clear_as _ was c.cores.ensures (c.has_open_room.ensures.yes w.if-not-has_open_room.false)
    ] in
    rw (← c.self.view_is) (opens_wanted c.take_in-taken.result needed was c.take_in-taken.new.store.cores clear c.take_in-taken.ensures.opens)

pub returns-clause-comes : goal.returns-clause-comes
returns-clause-comes g c = rw (← c.self.view_is) c.take_in-taken.ensures.comes

pub returns-clause-refused : goal.returns-clause-refused
returns-clause-refused g c = rw (← c.self.view_is) c.take_in-taken.ensures.refused

pub returns-clause-stands : goal.returns-clause-stands
returns-clause-stands g c = rw (← c.self.view_is) c.take_in-taken.ensures.stands

pub returns-clause-keeps : goal.returns-clause-keeps
returns-clause-keeps g c = rw (← c.self.view_is) c.take_in-taken.ensures.keeps

pub returns-clause-holds : goal.returns-clause-holds
returns-clause-holds g c = rw (← c.self.view_is) c.take_in-taken.ensures.holds
