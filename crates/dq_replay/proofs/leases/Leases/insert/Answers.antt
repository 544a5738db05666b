use Rattle.std.proofs.Common.{◌≡◌, ◌<◌, ◌∙◌, ap, sym, subst, max, rules, false}
use Rattle.dq_ticks.specs.declared.TheConstants.{LAST_STAMP}
use Rattle.dq_replay.specs.Script.{has_name}
use Rattle.dq_replay.proofs.Moves.{ready, new_leased, new_shown, stamps_below}
use Rattle.dq_replay.proofs.Tied.{same_names}
use Rattle.dq_replay.proofs.leases.Leases.insert.Goals as goal

pub invariant_of-self : goal.invariant_of-self
invariant_of-self g c = same_names c.self.inside.queue c.self.inside.names c.make_room.new.self c.self.inside.given c.make_room.ensures.same c.make_room.ensures.len c.self.invariant

pub link-key-requires : goal.link-key-requires
link-key-requires g c = record {
  room = c.make_room-2.ensures.room;
  stamps = stamps_below c.make_room-2.new.queue c.make_room.new.self c.self.inside.given
      (ready c.self.inside.queue c.make_room-2.new.queue c.self.inside.names c.make_room.new.self c.self.inside.given c.self.invariant c.make_room-2.ensures c.in_ok-make_room.ensures.same c.in_ok-make_room.ensures.len)
      (subst (λ x. x.given < LAST_STAMP) (sym c.self.view_is) c.requires.stamps);
  tick = c.requires.tick;
}

pub invariant_of-self-2 : goal.invariant_of-self-2
invariant_of-self-2 g c =
    let l = ready c.self.inside.queue c.make_room-2.new.queue c.self.inside.names c.make_room.new.self c.self.inside.given c.self.invariant c.make_room-2.ensures c.in_ok-make_room.ensures.same c.in_ok-make_room.ensures.len in
    let fresh = subst (λ x. has_name c.args.name x.live ≡ false) (sym c.self.view_is) c.requires.new in
    new_leased c.make_room-2.new.queue c.link-key.new.queue c.make_room.new.self c.put.new.self c.self.inside.given c.args.name c.args.when c.link-key.result l
    (subst (λ xs. has_name c.args.name xs ≡ false) (sym c.make_room-2.ensures.kept.live) fresh) c.link-key.ensures (rw c.twin-twin.ensures at c.put.ensures.put) (rw c.twin-twin.ensures at c.put.ensures.len)

pub returns-clause-ok : goal.returns-clause-ok
returns-clause-ok g c =
    let is : c.max-deadline.result ≡ max c.args.when c.make_room-2.new.queue.wheel.filing.tick = search rules in
    let told : c.max-deadline.result ≡ max c.args.when c.self.inside.queue.wheel.filing.tick = is ∙ ap (max c.args.when) c.make_room-2.ensures.tick in
    rw (← c.self.view_is) (told, new_shown c.self.inside.queue c.make_room-2.new.queue c.link-key.new.queue c.self.inside.given c.args.name c.args.when c.max-deadline.result c.link-key.result c.make_room-2.ensures c.link-key.ensures told)
