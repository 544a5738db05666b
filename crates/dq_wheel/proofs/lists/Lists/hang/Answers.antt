use Rattle.std.proofs.Common.{ap, arith, refl}
use Rattle.std.proofs.lemmas.List.{with_items_is}
use Rattle.dq_wheel.proofs.Occupancy.{bit_hung}
use Rattle.dq_wheel.proofs.Shown.{first_below, hang_now, last_below}
use Rattle.dq_wheel.proofs.lists.Lists.hang.Goals as goal

pub hang-requires-clause-first_in : goal.hang-requires-clause-first_in
hang-requires-clause-first_in g c = rw c.deref_mut.ensures.value (first_below _ _ _ c.self.invariant.0 c.args.list c.requires.list_in)

pub hang-requires-clause-last_in : goal.hang-requires-clause-last_in
hang-requires-clause-last_in g c = rw c.deref_mut.ensures.value (last_below _ _ _ c.self.invariant.0 c.args.list c.requires.list_in)

pub invariant_of-self : goal.invariant_of-self
invariant_of-self g c =
    let new = c.hang.ensures in
    let now =
    hang_now _ _ _ _ c.self.invariant.0 _ _ c.self.view_is _ _ _ c.deref_mut.ensures.value
    (with_items_is c.self.inside.rows c.hang.new.rows (omega arith)) c.args.list c.args.tick _ (omega arith) c.requires.list_in c.requires.above
    c.requires.free c.requires.filled new.next new.prev new.home new.filed new.moves in (
      now.0,
      rw now.1
          (bit_hung _ _ (rw (ap (λ w. w.homes) c.self.view_is) at c.self.invariant.1) c.args.list c.requires.above c.requires.filled _ _
          c.set_bit.ensures.set c.set_bit.ensures.others c.clear_bit.ensures.cleared c.clear_bit.ensures.others),
    )

pub returns : goal.returns
returns g c =
    let new = c.hang.ensures in
    let now =
    hang_now _ _ _ _ c.self.invariant.0 _ _ c.self.view_is _ _ _ c.deref_mut.ensures.value
    (with_items_is c.self.inside.rows c.hang.new.rows (omega arith)) c.args.list c.args.tick _ (omega arith) c.requires.list_in c.requires.above
    c.requires.free c.requires.filled new.next new.prev new.home new.filed new.moves in
    record { homes = now.1; filed = now.2; moves = now.3; opened = refl }
