use Rattle.std.proofs.Common.{◌≡◌, ap, arith, get_or}
use Rattle.std.proofs.lemmas.List.{with_items_is}
use Rattle.dq_wheel.proofs.Occupancy.{bit_linked}
use Rattle.dq_wheel.proofs.Shown.{link_now}
use Rattle.dq_wheel.proofs.lists.Lists.link.Goals as goal

pub invariant_of-self : goal.invariant_of-self
invariant_of-self g c =
    let new = c.append.ensures in
    let now =
    link_now _ _ _ _ c.self.invariant.0 _ _ c.self.view_is _ _ _ c.deref_mut.ensures.value
    (with_items_is c.self.inside.rows c.append.new.rows (omega arith)) _ _ _ c.requires.loose.0 c.requires.takes.0 c.requires.loose.1 c.requires.takes.1
    new.next new.prev new.home new.filed new.moves in
    let loose = c.requires.loose.1 in (
      now.0,
      rw now.1 (
          bit_linked _ _ _ (rw (ap (λ w. w.homes) c.self.view_is) at c.self.invariant.1) _ c.requires.loose.0 _ _ (λ q w h. omega arith)
          c.set_bit.ensures.set c.set_bit.ensures.others
          ),
    )

pub returns-clause-homes : goal.returns-clause-homes
returns-clause-homes g c =
    let new = c.append.ensures in
    let now =
    link_now _ _ _ _ c.self.invariant.0 _ _ c.self.view_is _ _ _ c.deref_mut.ensures.value
    (with_items_is c.self.inside.rows c.append.new.rows (omega arith)) _ _ _ c.requires.loose.0 c.requires.takes.0 c.requires.loose.1 c.requires.takes.1
    new.next new.prev new.home new.filed new.moves in
    now.1

pub returns-clause-filed : goal.returns-clause-filed
returns-clause-filed g c =
    let new = c.append.ensures in
    let now =
    link_now _ _ _ _ c.self.invariant.0 _ _ c.self.view_is _ _ _ c.deref_mut.ensures.value
    (with_items_is c.self.inside.rows c.append.new.rows (omega arith)) _ _ _ c.requires.loose.0 c.requires.takes.0 c.requires.loose.1 c.requires.takes.1
    new.next new.prev new.home new.filed new.moves in
    now.2

pub returns-clause-moves : goal.returns-clause-moves
returns-clause-moves g c =
    let new = c.append.ensures in
    let now =
    link_now _ _ _ _ c.self.invariant.0 _ _ c.self.view_is _ _ _ c.deref_mut.ensures.value
    (with_items_is c.self.inside.rows c.append.new.rows (omega arith)) _ _ _ c.requires.loose.0 c.requires.takes.0 c.requires.loose.1 c.requires.takes.1
    new.next new.prev new.home new.filed new.moves in
    now.3
