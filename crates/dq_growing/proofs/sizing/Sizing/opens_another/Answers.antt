use Rattle.std.proofs.Common.{arith}
use Rattle.dq_growing.proofs.Sizes.{still, none_to_open, opens_clear, opens_found, opened_notes, opens_may, opens_only, store_is}
use Rattle.dq_growing.proofs.sizing.Sizing.opens_another.Goals as goal

pub returns-then-room-eq0-clause-none : goal.returns-then-room-eq0-clause-none
returns-then-room-eq0-clause-none g c _ =
    none_to_open _ c.args.store.now.cores c.args.any_will_do c.roomiest-room.result c.cores.ensures c.roomiest-room.ensures c.if-room-eq0.true

pub returns-then-room-eq0-clause-opens : goal.returns-then-room-eq0-clause-opens
returns-then-room-eq0-clause-opens g c = still c.args.store.now

pub returns-clause-clear : goal.returns-clause-clear
returns-clause-clear g c =
    let some = c.if-room-eq0.false in
    opens_clear c.args.store.now c.open.new.self _ c.open.result c.args.any_will_do c.roomiest-room.result c.open.ensures.opens c.cores.ensures c.roomiest-room.ensures
    (omega (arith, some))

pub returns-clause-none : goal.returns-clause-none
returns-clause-none g c =
    let some = c.if-room-eq0.false in
    opens_found c.args.store.now c.open.new.self _ c.open.result c.args.any_will_do c.roomiest-room.result c.open.ensures.refused c.cores.ensures c.roomiest-room.ensures
    (omega (arith, some))

pub returns-clause-opens : goal.returns-clause-opens
returns-clause-opens g c = opens_only c.args.store.now c.open.new.self c.open.result _ c.open.ensures.opens c.open.ensures.refused c.open.ensures.notes

pub returns-clause-may : goal.returns-clause-may
returns-clause-may g c =
    let some = c.if-room-eq0.false in
    opens_may c.args.store.now c.open.new.self _ c.open.result c.args.any_will_do c.roomiest-room.result c.open.ensures.opens c.cores.ensures c.roomiest-room.ensures
    (omega (arith, some))

pub returns-clause-kept : goal.returns-clause-kept
returns-clause-kept g c is = store_is c.args.store.now c.open.new.self (c.open.ensures.refused is).1 c.open.ensures.notes

pub returns-clause-notes : goal.returns-clause-notes
returns-clause-notes g c =
    let some = c.if-room-eq0.false in
    opened_notes c.args.store.now c.open.new.self _ c.open.result c.args.any_will_do c.roomiest-room.result c.args.self.now c.note_work.new.self c.open.ensures.refused c.cores.ensures c.roomiest-room.ensures
    (omega (arith, some)) c.note_work.ensures
