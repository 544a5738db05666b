use Rattle.std.proofs.Common.{ap, subst}
use Rattle.dq_words.specs.declared.views.View.{View}
use Rattle.dq_words.specs.Seats.{Sat}
use Rattle.dq_words.specs.Together.{EndsCover}
use Rattle.dq_words.proofs.Together.{ends_cover}
use Rattle.dq_words.proofs.keeper.Keeper.beside.Goals as goal

pub returns-clause-kept : goal.returns-clause-kept
returns-clause-kept g c =
    let mine = ap (λ (s : Sat). s.view) c.self.view_is in
    let theirs = ap (λ (s : Sat). s.view) c.caller.view_is in
    let P : View × View → Type 0 = λ x. EndsCover x.0 x.1 in
    subst P (λ k. (mine k, theirs k)) (ends_cover c.self.inside.seat.view c.caller.inside.seat.view c.beside.ensures.together)
