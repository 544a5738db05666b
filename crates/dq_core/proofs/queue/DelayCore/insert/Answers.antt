use Rattle.std.proofs.Common.{◌+◌, ◌<◌, length, ap, subst}
use Rattle.std.specs.Prelude.{OnOk}
use Rattle.std.specs.List.{count_by}
use Rattle.dq_core.specs.AtTheCall.{linked_in}
use Rattle.dq_core.specs.Calls.{Inserts}
use Rattle.dq_core.specs.Slots.{is_worn}
use Rattle.dq_core.proofs.Dropped.{insert_deferred, inserts_after, refused_same, refused_after, same_after}
use Rattle.dq_core.proofs.queue.DelayCore.insert.Goals as goal

pub returns-clause-room : goal.returns-clause-room
returns-clause-room g c =
    subst (λ q. OnOk c.insert_deferring.result.0 (linked_in q + count_by (is_worn q.slots.last_stamp) q.slots.rows < length q.slots.rows))
    c.make_room.ensures.rest c.insert_deferring.ensures.room

pub returns-clause-refused : goal.returns-clause-refused
returns-clause-refused g c =
    let room = c.make_room.ensures in
    let inserted = c.insert_deferring.ensures in
    let same = refused_same c.args.self.now c.make_room.new.self c.insert_deferring.new.self c.args.value c.args.when c.insert_deferring.result.0 c.if-when-gt-LAST_TICK.false room.rest room.full inserted.inserts in
    refused_after c.args.self.now c.make_room.new.self c.insert_deferring.new.self c.args.value c.insert_deferring.result.0 inserted.refused same

pub returns-clause-deferred : goal.returns-clause-deferred
returns-clause-deferred g c =
    let room = c.make_room.ensures in
    let inserted = c.insert_deferring.ensures in
    insert_deferred c.args.self.now c.make_room.new.self c.insert_deferring.new.self c.args.value c.args.when c.insert_deferring.result.0 c.insert_deferring.result.1 (ap (λ q. q.slots) room.rest) room.room inserted.inserts inserted.beside inserted.displaced

pub returns-clause-inserts : goal.returns-clause-inserts
returns-clause-inserts g c =
    let room = c.make_room.ensures in
    let inserted = c.insert_deferring.ensures in
    let a = c.make_room.new.self.deferred in
    let r = c.insert_deferring.result.0 in
    let same = refused_same c.args.self.now c.make_room.new.self c.insert_deferring.new.self c.args.value c.args.when r c.if-when-gt-LAST_TICK.false room.rest room.full inserted.inserts in
    inserts_after c.args.self.now c.insert_deferring.new.self a c.args.value c.args.when r (same_after c.args.self.now c.make_room.new.self a r room.rest same)
    (subst (λ q. Inserts q c.args.value c.args.when r c.insert_deferring.new.self) room.rest inserted.inserts)
