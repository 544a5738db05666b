use Rattle.std.proofs.Common.{◌∙◌, sym}
use Rattle.dq_replay.proofs.Moves.{some_key, none_deadline}
use Rattle.dq_replay.proofs.Calls.{told_tied, told_shown, told_deadline}
use Rattle.dq_replay.proofs.leases.Leases.deadline.Goals as goal

pub returns-in_default-clause-told : goal.returns-in_default-clause-told
returns-in_default-clause-told g c = rw (← c.self.view_is) (sym (none_deadline c.self.inside.queue c.self.inside.names c.self.inside.given c.args.name.now c.self.invariant (sym c.get.ensures ∙ c.in_default.is)))

pub deadline_at-requires : goal.deadline_at-requires
deadline_at-requires g c = some_key c.self.inside.queue c.self.inside.names c.self.inside.given c.args.name.now c.in-Some.key c.self.invariant (sym c.get.ensures ∙ c.in-Some.is)

pub invariant_of-self : goal.invariant_of-self
invariant_of-self g c = told_tied _ _ _ _ c.args.name.now _ _ c.self.invariant (sym c.get.ensures ∙ c.in-Some.is) c.deadline_at.ensures

pub returns-clause-told : goal.returns-clause-told
returns-clause-told g c = rw (← c.self.view_is) (told_deadline _ _ _ _ c.args.name.now _ _ c.self.invariant (sym c.get.ensures ∙ c.in-Some.is) c.deadline_at.ensures)

pub returns-clause-same : goal.returns-clause-same
returns-clause-same g c = rw (← c.self.view_is) (told_shown _ _ c.self.inside.names _ c.args.name.now _ _ c.self.invariant (sym c.get.ensures ∙ c.in-Some.is) c.deadline_at.ensures)
