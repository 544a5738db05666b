use Rattle.std.proofs.Common.{◌≡◌, ap, ◌∙◌, arith}
use Rattle.dq_words.specs.declared.views.View.{View}
use Rattle.dq_words.proofs.Accounts.{accounts}
use Rattle.dq_words.proofs.Seats.{stood}
use Rattle.dq_words.proofs.keeper.Keeper.returned.Goals as goal

pub returns-clause-accounts : goal.returns-clause-accounts
returns-clause-accounts g c =
    let step = c.return_load-word.ensures.step in
    let seat = c.return_load-word.ensures.seat in
    let n : c.return_load-word.new.self.view.returns ≡ c.return_load-word.result = ap (λ (v : View). v.returns) step.0 in
    let few = step.1 in
    let issued = c.self.invariant.1 in
    let same = seat.issued c.self.invariant.0 in
    (stood _ seat.knew (seat.role ∙ c.self.invariant.0), accounts _ _ (omega arith) (omega arith))
