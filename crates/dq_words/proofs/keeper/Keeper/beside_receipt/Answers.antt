use Rattle.std.proofs.Common.{ap, subst}
use Rattle.dq_words.specs.declared.views.View.{View}
use Rattle.dq_words.specs.Seats.{Sat}
use Rattle.dq_words.specs.Together.{EndsCover}
use Rattle.dq_words.proofs.Together.{ends_cover}
use Rattle.dq_words.proofs.keeper.Keeper.beside_receipt.Goals as goal

pub returns-clause-kept : goal.returns-clause-kept
returns-clause-kept g c =
    let mine = ap (λ (s : Sat). s.view) c.self.view_is in
    let P : View → Type 0 = λ x. EndsCover x c.args.receipt.now.view in
    subst P mine (ends_cover c.self.inside.seat.view c.args.receipt.now.view c.beside_receipt.ensures.together)
