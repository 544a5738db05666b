use Rattle.std.proofs.Common.{◌≡◌, ◌<◌, inr, max, sym, refl, subst, rules, arith}
use Rattle.std.proofs.lemmas.Result.{err_from_is_err_and}
use Rattle.dq_ticks.specs.declared.TheConstants.{LAST_STAMP}
use Rattle.dq_replay.proofs.Moves.{some_key, refused_within, stamps_below}
use Rattle.dq_replay.proofs.Calls.{reset_tied, reset_shown}
use Rattle.dq_replay.proofs.leases.Leases.reset.Goals as goal

pub returns-in_err-key : goal.returns-in_err-key
returns-in_err-key g c =
    let was = err_from_is_err_and c.from_residual.result c.from_residual.ensures.1 in
    rw (was.1, was.2, ← c.self.view_is) (refused_within c.self.inside.queue c.self.inside.names c.self.inside.given c.args.name.now c.args.when c.args.limit _ c.self.invariant c.in_err-key.ensures, refl)

pub reset_at-next-requires : goal.reset_at-next-requires
reset_at-next-requires g c = record {
  live = some_key c.self.inside.queue c.self.inside.names c.self.inside.given c.args.name.now c.in_ok-key.key c.self.invariant c.in_ok-key.ensures.0;
  stamps = stamps_below c.self.inside.queue c.self.inside.names c.self.inside.given c.self.invariant (subst (λ x. x.given < LAST_STAMP) (sym c.self.view_is) c.requires.stamps);
  tick = search (rules, arith);
}

pub put-requires : goal.put-requires
put-requires g c = inr (rw (c.twin.ensures, c.in_ok-key.ensures.0) (search rules))

pub invariant_of-self : goal.invariant_of-self
invariant_of-self g c =
    reset_tied _ _ _ _ _ c.args.name.now c.max-deadline.result _ _ c.self.invariant c.in_ok-key.ensures.0 c.reset_at-next.ensures (rw c.twin.ensures at c.put.ensures.put) (rw c.twin.ensures at c.put.ensures.len)

pub returns : goal.returns
returns g c =
    let is : c.max-deadline.result ≡ max c.args.when c.self.inside.queue.noted = search rules in
    rw (← c.self.view_is)
    (reset_shown _ _ c.self.inside.names c.put.new.self c.self.inside.given c.args.name.now _ _ _ c.self.invariant c.in_ok-key.ensures.0 c.reset_at-next.ensures c.args.when c.args.limit c.in_ok-key.ensures.1 is c.law.ensures.shard.tick)
