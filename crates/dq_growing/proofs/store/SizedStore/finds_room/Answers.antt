use Rattle.std.proofs.Common.{sym, refl, inr}
use Rattle.dq_growing.proofs.Sizes.{clear_as, clear_room, notes_elsewhere, opens_or_stays, still}
use Rattle.dq_growing.proofs.Hints.{opens_late}
use Rattle.dq_growing.proofs.store.SizedStore.finds_room.Goals as goal

pub returns-then-has_open_room-clause-room : goal.returns-then-has_open_room-clause-room
returns-then-has_open_room-clause-room g c =
    rw (← c.self.view_is) (λ _. clear_room c.self.inside.store.cores (clear_as _ c.self.inside.store.cores c.cores.ensures (c.has_open_room.ensures.yes c.if-has_open_room.true)))

pub returns-then-has_open_room-clause-clear : goal.returns-then-has_open_room-clause-clear
returns-then-has_open_room-clause-clear g c =
    rw (← c.self.view_is) (λ _. clear_as _ c.self.inside.store.cores c.cores.ensures (c.has_open_room.ensures.yes c.if-has_open_room.true))

pub returns-then-has_open_room-clause-opens : goal.returns-then-has_open_room-clause-opens
returns-then-has_open_room-clause-opens g c = rw (← c.self.view_is) (still c.self.inside.store)

pub returns-clause-room : goal.returns-clause-room
returns-clause-room g c is = clear_room c.opens_another.new.store.cores (c.opens_another.ensures.clear is)

pub returns-clause-none : goal.returns-clause-none
returns-clause-none g c =
    rw (← c.self.view_is) (λ is. ((λ x. c.has_open_room.ensures.no c.if-has_open_room.false (clear_as c.self.inside.store.cores _ (sym c.cores.ensures) x)), c.opens_another.ensures.none is))

pub returns-clause-stays : goal.returns-clause-stays
returns-clause-stays g c =
    rw (← c.self.view_is) (λ x. absurd (c.has_open_room.ensures.no c.if-has_open_room.false (clear_as c.self.inside.store.cores _ (sym c.cores.ensures) x)))

pub returns-clause-other : goal.returns-clause-other
returns-clause-other g c =
    rw (← c.self.view_is) (opens_or_stays c.opens_another.result c.self.inside.store c.opens_another.new.store c.args.any_will_do c.opens_another.ensures.may c.opens_another.ensures.kept)

pub returns-then-has_open_room-clause-notes : goal.returns-then-has_open_room-clause-notes
returns-then-has_open_room-clause-notes g c =
    let clear = clear_as _ c.self.inside.store.cores c.cores.ensures (c.has_open_room.ensures.yes c.if-has_open_room.true) in
    rw (← c.self.view_is) (inr ((λ x. x.1 clear), refl))

pub returns-clause-notes : goal.returns-clause-notes
returns-clause-notes g c =
    rw (← c.self.view_is)
    (notes_elsewhere c.self.inside.store.cores c.opens_another.result c.self.inside.sizing c.opens_another.new.self
    (λ x. c.has_open_room.ensures.no c.if-has_open_room.false (clear_as c.self.inside.store.cores _ (sym c.cores.ensures) x)) c.opens_another.ensures.notes)

pub invariant_of-self : goal.invariant_of-self
invariant_of-self g c =
    let i = c.self.inside in
    opens_late i.store c.opens_another.new.store i.hint c.opens_another.ensures.opens c.self.invariant

pub returns-clause-keeps : goal.returns-clause-keeps
returns-clause-keeps g c = rw (← c.self.view_is) c.opens_another.ensures.keeps

pub returns-clause-holds : goal.returns-clause-holds
returns-clause-holds g c = rw (← c.self.view_is) c.opens_another.ensures.holds
