use Rattle.std.proofs.Common.{ap, ◌∙◌}
use Rattle.dq_replay.proofs.Calls.{fresh_tied, fresh_shown}
use Rattle.dq_replay.proofs.leases.Leases.new.Goals as goal

pub invariant_of-result : goal.invariant_of-result
invariant_of-result g c =
    let made = c.in-Ok-new.ensures.makes in
    fresh_tied c.in-Ok-new.queue c.new-3.result c.args.capacity (ap (λ z. z.slots) made.2) (ap (λ z. z.known) made.2 ∙ ap (λ w. w.known) c.in-Ok.ensures.1) c.new-3.ensures

pub returns : goal.returns
returns g c =
    let made = c.in-Ok-new.ensures.makes in
    fresh_shown c.in-Ok-new.queue c.args.capacity (ap (λ z. z.slots) made.2) (ap (λ z. z.known) made.2 ∙ ap (λ w. w.known) c.in-Ok.ensures.1) (ap (λ f. f.tick) made.1) (ap (λ z. z.noted) made.2)
