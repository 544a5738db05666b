use Rattle.std.proofs.Common.{refl, rules, arith}
use Rattle.std.proofs.lemmas.Result.{err_from_is_err_and}
use Rattle.dq_replay.proofs.Moves.{some_key, refused_within}
use Rattle.dq_replay.proofs.Calls.{extend_tied, extend_shown}
use Rattle.dq_replay.proofs.leases.Leases.extend.Goals as goal

pub extend_at-requires : goal.extend_at-requires
extend_at-requires g c = record {
  live = some_key c.self.inside.queue c.self.inside.names c.self.inside.given c.args.name.now c.in_ok-key.key c.self.invariant c.in_ok-key.ensures.0;
  tick = search (rules, arith);
}

pub returns-in_err-key : goal.returns-in_err-key
returns-in_err-key g c =
    let was = err_from_is_err_and c.from_residual.result c.from_residual.ensures.1 in
    rw (was.1, was.2, ← c.self.view_is) (refused_within c.self.inside.queue c.self.inside.names c.self.inside.given c.args.name.now c.args.when c.args.limit _ c.self.invariant c.in_err-key.ensures, refl)

pub invariant_of-self : goal.invariant_of-self
invariant_of-self g c = extend_tied _ _ _ _ c.args.name.now c.args.when _ _ c.self.invariant c.in_ok-key.ensures.0 c.extend_at.ensures

pub returns : goal.returns
returns g c = rw (← c.self.view_is) (extend_shown _ _ c.self.inside.names c.self.inside.given c.args.name.now c.args.when _ _ c.self.invariant c.in_ok-key.ensures.0 c.extend_at.ensures c.args.limit c.in_ok-key.ensures.1)
