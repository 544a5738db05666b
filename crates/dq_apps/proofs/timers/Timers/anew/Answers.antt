use Rattle.std.proofs.Common.{◌≡◌, ◌∙◌, ap, sym}
use Rattle.dq_apps.proofs.timers.Timers.anew.Goals as goal

pub returns-in-Ok : goal.returns-in-Ok
returns-in-Ok g c =
    let last : c.self.inside.last_stamp ≡ c.args.self.now.last_stamp = sym c.self.invariant.1 ∙ ap (λ t. t.last_stamp) c.self.view_is in
    let made = c.in-Ok.ensures in
    (rw last at made.0.2, rw (last, c.capacity.ensures) at made.1)
