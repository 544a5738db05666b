-- What came out of polls one after another, and one more.
use Rattle.std.proofs.Common.{◌≡◌, ℕ, true, List, [], ◌∷◌, ◌++◌, Ok, refl, sym, ap, ◌∙◌, subst}
use Rattle.std.proofs.lemmas.List.{append_assoc, append-nil}
use Rattle.dq_core.specs.Calls.{Polls}
use Rattle.dq_core.specs.Core.{Core}
use Rattle.dq_core.specs.declared.outcomes.Expired.{Expired}
use Rattle.dq_core.specs.declared.outcomes.Turn.TheVariants.{Out}
use Rattle.dq_words.specs.Seats.{Sat}
use Rattle.dq_words.specs.Many.{ComeOutInTurn, ComeBehind}

module _ {T : Type 0} where
  -- none came out at first
  pub none_out : (b : Core T Sat) (tick : ℕ) → ComeOutInTurn b tick [] b
  unfolding ComeOutInTurn
  none_out b tick = refl

  -- one more came out, the last
  pub one_more_out : (b : Core T Sat) (tick : ℕ) (xs : List (Expired T)) (x : Expired T) (m c : Core T Sat)
      → ComeOutInTurn b tick xs m → Polls true m tick (Ok (Out x)) c → ComeOutInTurn b tick (xs ++ x ∷ []) c
  unfolding ComeOutInTurn
  one_more_out b tick [] x m c is polled = (c, subst (λ (y : Core T Sat). Polls true y tick (Ok (Out x)) c) is polled, refl)
  one_more_out b tick (y ∷ ys) x m c (n, first, rest) polled = (n, first, one_more_out n tick ys x m c rest polled)

  -- it stands behind the others
  pub one_more_behind : (b : Core T Sat) (tick : ℕ) (before row after : List (Expired T)) (x : Expired T) (m c : Core T Sat)
      → ComeBehind b tick before row m → Polls true m tick (Ok (Out x)) c → after ≡ row ++ x ∷ [] → ComeBehind b tick before after c
  one_more_behind b tick before row after x m c (xs, is, come) polled pushed =
      (xs ++ x ∷ [], pushed ∙ ap (λ (r : List (Expired T)). r ++ x ∷ []) is ∙ append_assoc before xs (x ∷ []), one_more_out b tick xs x m c come polled)

  -- a row in which nothing was put yet
  pub none_behind : (b : Core T Sat) (tick : ℕ) (before : List (Expired T)) → ComeBehind b tick before before b
  none_behind b tick before = ([], sym (append-nil before), none_out b tick)
