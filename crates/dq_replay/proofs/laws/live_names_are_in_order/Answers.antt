use Rattle.std.specs.Prelude.{nat_le}
use Rattle.dq_replay.specs.Script.{first_state}
use Rattle.dq_replay.proofs.Orders.{after_ordered, outcome_after, in_order_filter}
use Rattle.dq_replay.proofs.laws.live_names_are_in_order.Goals as goal

pub returns-clause-reached : goal.returns-clause-reached
returns-clause-reached c capacity lines = after_ordered 1 (first_state capacity) lines (tt, tt)

pub returns-clause-meant : goal.returns-clause-meant
returns-clause-meant c capacity lines more next = outcome_after 1 (first_state capacity) lines next more

pub returns-clause-expired : goal.returns-clause-expired
returns-clause-expired c s now ordered = in_order_filter (λ e. nat_le e.deadline now) s.live ordered.0
