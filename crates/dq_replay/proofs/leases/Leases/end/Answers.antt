use Rattle.std.proofs.Common.{◌∙◌, sym, refl}
use Rattle.dq_replay.proofs.Moves.{some_key, none_deadline}
use Rattle.dq_replay.proofs.Calls.{end_tied, end_shown}
use Rattle.dq_replay.proofs.leases.Leases.end.Goals as goal

pub returns-in_default : goal.returns-in_default
returns-in_default g c = rw (← c.self.view_is) (none_deadline c.self.inside.queue c.self.inside.names c.self.inside.given c.args.name.now c.self.invariant (sym c.get.ensures ∙ c.in_default.is), refl)

pub end_at-deadline-requires : goal.end_at-deadline-requires
end_at-deadline-requires g c = some_key c.self.inside.queue c.self.inside.names c.self.inside.given c.args.name.now c.in-Some.key c.self.invariant (sym c.get.ensures ∙ c.in-Some.is)

pub invariant_of-self : goal.invariant_of-self
invariant_of-self g c = end_tied _ _ _ _ c.self.inside.given c.args.name.now _ _ c.self.invariant (sym c.get.ensures ∙ c.in-Some.is) c.end_at-deadline.ensures c.remove.ensures.put c.remove.ensures.len

pub returns : goal.returns
returns g c = rw (← c.self.view_is) (end_shown _ _ c.self.inside.names c.remove.new.self c.self.inside.given c.args.name.now _ _ c.self.invariant (sym c.get.ensures ∙ c.in-Some.is) c.end_at-deadline.ensures)
