use Rattle.std.proofs.Common.{◌≡◌, ◌∙◌, sym, ap, subst, None, Option, ℕ}
use Rattle.dq_apps.specs.Tied.{TellsFirstDeadline}
use Rattle.dq_apps.proofs.Leasts.{least_of, least_told}
use Rattle.dq_apps.proofs.stock.least_deadline.Goals as goal

pub returns : goal.returns
returns g c =
    let es = c.args.stock.now.entries in
    let l = c.loop-key in
    let is : least_of None es ≡ l.least = sym l.invariant ∙ ap (least_of l.least) c.in-None.ensures.steps.0 in
    let P : Option ℕ → Type 0 = λ o. TellsFirstDeadline es o in
    subst P is (least_told es)
