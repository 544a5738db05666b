use Rattle.std.proofs.Common.{◌≡◌, ap, subst}
use Rattle.dq_growing.specs.Sized.{NotesNext}
use Rattle.dq_queue.specs.Shards.{HeldShard}
use Rattle.dq_queue.proofs.Histories.{keeps_so}
use Rattle.dq_queue.proofs.shard.Shard.note_next.Goals as goal

pub invariant_of-self : goal.invariant_of-self
invariant_of-self g c =
    keeps_so g.J.Rooms.shards g.J.Rooms.history g.J.Rooms.loans g.J.Rooms.rows _ _ c.self.inside.history.view c.self.inside.claims.items _ c.self.inside.loans.view c.self.inside.sized c.note_next.new.self
    (c.note_next.ensures.store) c.self.invariant

pub returns-clause-size : goal.returns-clause-size
returns-clause-size g c =
    let t = c.note_next.new.self in
    let P : HeldShard _ → Type 0 = λ x. (t.store ≡ x.sized.store) × (t.sizing ≡ x.sized.sizing) in
    subst P c.self.view_is (c.note_next.ensures.store, c.note_next.ensures.sizing)

pub returns-clause-none : goal.returns-clause-none
returns-clause-none g c =
    let is = c.self.view_is in
    (ap (λ (s : HeldShard _). s.number) is, ap (λ (s : HeldShard _). s.history) is, ap (λ (s : HeldShard _). s.claims) is)

pub returns-clause-hint : goal.returns-clause-hint
returns-clause-hint g c =
    let t = c.note_next.new.self in
    let P : HeldShard _ → Type 0 = λ x. NotesNext x.sized.store.cores x.sized.hint t.hint in
    subst P c.self.view_is c.note_next.ensures.hint
