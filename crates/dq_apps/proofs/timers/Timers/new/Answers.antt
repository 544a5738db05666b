use Rattle.std.proofs.Common.{ap}
use Rattle.dq_apps.proofs.Timed.{fresh_is}
use Rattle.dq_apps.proofs.Filings.{fresh_filed}
use Rattle.dq_apps.proofs.timers.Timers.new.Goals as goal

pub invariant_of-result : goal.invariant_of-result
invariant_of-result g c = (
  (fresh_is c.in-Ok.queue c.args.capacity c.args.last_stamp _ _ _ c.in-Ok.ensures.makes.2 (ap (λ w. w.known) c.in_ok-words.ensures.1)).1,
  ap (λ q. q.slots.last_stamp) c.in-Ok.ensures.makes.2,
  fresh_filed c.in-Ok.queue c.args.capacity c.in-Ok.ensures.makes.1,
)

pub returns-in-Ok : goal.returns-in-Ok
returns-in-Ok g c =
    let made = c.in-Ok.ensures.makes.0 in
    ((made.0, made.1, made.2, made.3), (fresh_is c.in-Ok.queue c.args.capacity c.args.last_stamp _ _ _ c.in-Ok.ensures.makes.2 (ap (λ w. w.known) c.in_ok-words.ensures.1)).0)
