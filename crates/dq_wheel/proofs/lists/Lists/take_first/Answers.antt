use Rattle.std.proofs.Common.{ap, arith}
use Rattle.std.proofs.lemmas.List.{with_items_is}
use Rattle.dq_wheel.proofs.Occupancy.{bit_left, bit_was}
use Rattle.dq_wheel.proofs.Shown.{detach_now}
use Rattle.dq_wheel.proofs.lists.Lists.take_first.Goals as goal

pub clear_if_empty-requires-clause-was_filled : goal.clear_if_empty-requires-clause-was_filled
clear_if_empty-requires-clause-was_filled g c =
    let first = (rw c.deref.ensures.value at c.in-Some.ensures) _ c.self.invariant.0 in
    bit_was _ _ c.self.invariant.1 _ _ first.0.0 first.0.1 c.requires

pub invariant_of-self : goal.invariant_of-self
invariant_of-self g c =
    let first = (rw c.deref.ensures.value at c.in-Some.ensures) _ c.self.invariant.0 in
    let seen = ap (λ w. w.homes) c.self.view_is in
    let stands = rw seen at first.0 in
    let new = c.detach_first.ensures in
    let now =
    detach_now _ _ _ _ c.self.invariant.0 _ _ c.self.view_is _ _ _ c.deref_mut.ensures.value
    (with_items_is c.self.inside.rows c.detach_first.new.rows (omega arith)) _ _ c.requires stands.0 first.1
    new.next new.prev new.home new.filed new.moves in
    let left = bit_left _ _ (rw seen at c.self.invariant.1) _ _ stands.0 stands.1 in
    (now.0, (rw c.deref-2.ensures.value at c.clear_if_empty.ensures) _ now.0 (rw now.1 left))

pub returns : goal.returns
returns g c =
    let first = (rw c.deref.ensures.value at c.in-Some.ensures) _ c.self.invariant.0 in
    let seen = ap (λ w. w.homes) c.self.view_is in
    let stands = rw seen at first.0 in
    let new = c.detach_first.ensures in
    let now =
    detach_now _ _ _ _ c.self.invariant.0 _ _ c.self.view_is _ _ _ c.deref_mut.ensures.value
    (with_items_is c.self.inside.rows c.detach_first.new.rows (omega arith)) _ _ c.requires stands.0 first.1
    new.next new.prev new.home new.filed new.moves in
    (stands, now.1, now.2, now.3, ap (λ w. w.opened) c.self.view_is)
