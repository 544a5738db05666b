use Rattle.dq_growing.proofs.Pairing.{book, noted_law}
use Rattle.dq_growing.proofs.notes.Notes.note.Goals as goal

pub invariant_of-self : goal.invariant_of-self
invariant_of-self g c =
    let i = c.self.inside in
    noted_law (book i.places i.users) c.args.user.now c.args.place.now c.find-left.result c.put.new.self c.take_where_some.new.table c.put-2.new.self c.self.invariant
    (rw (← c.self.view_is) at c.requires.free) c.find-left.ensures c.take_where_some.ensures.takes c.put.ensures c.put-2.ensures
