use Rattle.dq_growing.proofs.Pairing.{book, nothing_to_forget}
use Rattle.dq_growing.proofs.notes.Notes.forget.Goals as goal

pub returns-then-is_empty : goal.returns-then-is_empty
returns-then-is_empty g c =
    let i = c.self.inside in
    rw (← c.self.view_is) (nothing_to_forget (book i.places i.users) c.self.invariant (c.is_empty.ensures c.if-is_empty.true) c.args.place.now)
