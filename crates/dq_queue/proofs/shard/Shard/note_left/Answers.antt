use Rattle.std.proofs.Common.{◌≡◌, ap, subst}
use Rattle.dq_growing.specs.Sized.{SizedState}
use Rattle.dq_growing.specs.Sizing.{NotesLeft}
use Rattle.dq_queue.specs.Shards.{HeldShard}
use Rattle.dq_queue.proofs.Histories.{keeps_so}
use Rattle.dq_queue.proofs.shard.Shard.note_left.Goals as goal

pub invariant_of-self : goal.invariant_of-self
invariant_of-self g c =
    keeps_so g.J.Rooms.shards g.J.Rooms.history g.J.Rooms.loans g.J.Rooms.rows _ _ c.self.inside.history.view c.self.inside.claims.items _ c.self.inside.loans.view c.self.inside.sized c.note_left.new.self
    (ap (λ (s : SizedState _ _). s.store) c.note_left.ensures.rest) c.self.invariant

pub returns-clause-size : goal.returns-clause-size
returns-clause-size g c =
    let t = c.note_left.new.self in
    let P : HeldShard _ → Type 0 = λ x. t ≡ record x.sized { sizing = t.sizing } in
    subst P c.self.view_is c.note_left.ensures.rest

pub returns-clause-none : goal.returns-clause-none
returns-clause-none g c =
    let is = c.self.view_is in
    (ap (λ (s : HeldShard _). s.number) is, ap (λ (s : HeldShard _). s.history) is, ap (λ (s : HeldShard _). s.claims) is)

pub returns-clause-notes : goal.returns-clause-notes
returns-clause-notes g c =
    let t = c.note_left.new.self in
    let P : HeldShard _ → Type 0 = λ x. NotesLeft c.args.left x.sized.sizing x.sized.store t.sizing in
    subst P c.self.view_is c.note_left.ensures.notes
