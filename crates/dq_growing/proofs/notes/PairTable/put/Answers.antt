use Rattle.std.proofs.Common.{rules}
use Rattle.std.specs.HashMap.{spare}
use Rattle.dq_growing.specs.Notes.{Pairs}
use Rattle.dq_growing.proofs.Pairing.{sets_pair, marks_more}
use Rattle.dq_growing.proofs.notes.PairTable.put.Goals as goal

pub returns : goal.returns
returns g c =
    let u = c.in-Ok.ensures.updates in
    rw (← c.self.view_is) (sets_pair _ _ c.numbers_of.result c.args.id.now _ c.numbers_of.ensures u.1 u.2)

pub invariant_of-self : goal.invariant_of-self
invariant_of-self g c =
    let u = c.in-Ok.ensures.updates in
    let was : Pairs = record { entries = c.self.inside.map.entries; room = spare c.self.inside.map } in
    let is : Pairs = record { entries = c.insert.new.self.entries; room = spare c.insert.new.self } in
    marks_more was is c.args.id.now c.self.inside.marks c.self.invariant c.args.other c.note_mark.result c.note_mark.ensures (search rules)
    (sets_pair was is c.numbers_of.result c.args.id.now _ c.numbers_of.ensures u.1 u.2)
