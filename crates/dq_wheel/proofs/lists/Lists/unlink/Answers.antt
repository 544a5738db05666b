use Rattle.std.proofs.Common.{◌≡◌, ◌+◌, ◌-◌, ◌<◌, ap, arith, get_or, length}
use Rattle.std.proofs.lemmas.List.{with_items_is}
use Rattle.dq_wheel.specs.Rows.{shown_homes}
use Rattle.dq_wheel.proofs.Occupancy.{bit_left, bit_was}
use Rattle.dq_wheel.proofs.Shown.{unlink_now}
use Rattle.dq_wheel.proofs.lists.Lists.unlink.Goals as goal

pub clear_if_empty-requires-clause-list_in : goal.clear_if_empty-requires-clause-list_in
clear_if_empty-requires-clause-list_in g c = omega (arith, c.home.ensures.small)

pub clear_if_empty-requires-clause-was_filled : goal.clear_if_empty-requires-clause-was_filled
clear_if_empty-requires-clause-was_filled g c =
    let seen = ap (λ w. w.homes) c.self.view_is in
    let all = shown_homes c.self.inside.capacity c.self.inside.opened c.self.inside.rows.items in
    let inside : c.args.index < length all = rw seen c.requires.index_in in
    let linked : 0 < get_or all c.args.index 0 = rw seen c.requires.linked in
    let home : c.home.result ≡ get_or all c.args.index 0 = rw seen c.home.ensures.value in
    let stands : get_or all c.args.index 0 ≡ c.home.result - 1 + 1 = omega arith in
    bit_was _ _ c.self.invariant.1 c.args.index _ inside stands (omega (arith, c.home.ensures.small))

pub invariant_of-self : goal.invariant_of-self
invariant_of-self g c =
    let new = c.detach.ensures in
    let now =
    unlink_now _ _ _ _ c.self.invariant.0 _ _ c.self.view_is _ _ _ c.deref_mut.ensures.value
    (with_items_is c.self.inside.rows c.detach.new.rows (omega arith)) _ c.requires.index_in c.requires.linked
    new.next new.prev new.home new.filed new.moves in
    let seen = ap (λ w. w.homes) c.self.view_is in
    let all = shown_homes c.self.inside.capacity c.self.inside.opened c.self.inside.rows.items in
    let inside : c.args.index < length all = rw seen c.requires.index_in in
    let linked : 0 < get_or all c.args.index 0 = rw seen c.requires.linked in
    let home : c.home.result ≡ get_or all c.args.index 0 = rw seen c.home.ensures.value in
    let stands : get_or all c.args.index 0 ≡ c.home.result - 1 + 1 = omega arith in
    let left = bit_left _ _ c.self.invariant.1 c.args.index _ inside stands in
    (now.0, (rw c.deref.ensures.value at c.clear_if_empty.ensures) _ now.0 (rw now.1 (rw seen at left)))

pub returns-clause-homes : goal.returns-clause-homes
returns-clause-homes g c =
    let new = c.detach.ensures in
    let now =
    unlink_now _ _ _ _ c.self.invariant.0 _ _ c.self.view_is _ _ _ c.deref_mut.ensures.value
    (with_items_is c.self.inside.rows c.detach.new.rows (omega arith)) _ c.requires.index_in c.requires.linked
    new.next new.prev new.home new.filed new.moves in
    now.1

pub returns-clause-filed : goal.returns-clause-filed
returns-clause-filed g c =
    let new = c.detach.ensures in
    let now =
    unlink_now _ _ _ _ c.self.invariant.0 _ _ c.self.view_is _ _ _ c.deref_mut.ensures.value
    (with_items_is c.self.inside.rows c.detach.new.rows (omega arith)) _ c.requires.index_in c.requires.linked
    new.next new.prev new.home new.filed new.moves in
    now.2

pub returns-clause-moves : goal.returns-clause-moves
returns-clause-moves g c =
    let new = c.detach.ensures in
    let now =
    unlink_now _ _ _ _ c.self.invariant.0 _ _ c.self.view_is _ _ _ c.deref_mut.ensures.value
    (with_items_is c.self.inside.rows c.detach.new.rows (omega arith)) _ c.requires.index_in c.requires.linked
    new.next new.prev new.home new.filed new.moves in
    now.3
