-- What has ended is never live again.
use Rattle.std.proofs.Common.{◌≡◌, ℕ, ◌≤◌, [], ◌∷◌, Some, sym, ap, ◌∙◌, subst, arith}
use Rattle.dq_core.specs.Machine.{Entry, TableRow, table_at}
use Rattle.dq_core.specs.Runs.{EndedStaysEnded}
use Rattle.dq_core.proofs.RunsMoves.{Moves, Alone, Begun, Again, Taken, step_moves}
use Rattle.dq_core.proofs.RunsKept.{some_same}

-- the slot has a live entry that was born at b
abbrev pub Lives : {T : Type 0} → TableRow T → ℕ → Type 0
Lives {T} a b = (f : Entry T) × (d : ℕ) × (a.entry ≡ Some f) × (f.born ≡ b) × (f.due ≡ Some d)

-- the slot has had the stamp b, and no live entry that was born at b
abbrev pub Ended : {T : Type 0} → TableRow T → ℕ → Type 0
Ended a b = (b ≤ a.stamp) × (Lives a b → ⊥)

ended_on : {T : Type 0} (a z : TableRow T) (ends : ℕ → ℕ) (b : ℕ) → Moves a z ends → Ended a b → Ended z b
ended_on a z ends b (Alone same none) ended = subst (λ x. Ended x b) (sym same) ended
ended_on a z ends b (Begun v d empty is none) ended = (
  let at = ap (λ x. x.stamp) is in omega (arith, at, ended.0),
  λ live.
      let born = ap (λ x. x.born) (some_same _ live.0 (sym (ap (λ x. x.entry) is) ∙ live.2)) in
      omega (arith, born, live.3, ended.0),
)
ended_on a z ends b (Again e s d linked above is lives none) ended = (
  let at = ap (λ x. x.stamp) is in omega (arith, at, above, ended.0),
  λ live.
      let same = some_same _ live.0 (sym (ap (λ x. x.entry) is) ∙ live.2) in
      let was = lives live.1 (ap (λ x. x.due) same ∙ live.4) in
      ended.1 (e, was.0, linked, ap (λ x. x.born) same ∙ live.3, was.1),
)
ended_on a z ends b (Taken e linked is left) ended = (
  let at = ap (λ x. x.stamp) is in omega (arith, at, ended.0),
  λ live. let gone = ap (λ x. x.entry) is in let there = live.2 in cc,
)

pub ended_stays_ended : (T : Type 0) → EndedStaysEnded T
ended_stays_ended T last m n [] r i b ended = subst (λ x. Ended (table_at x i) b) (sym r) ended
ended_stays_ended T last m n (e ∷ es) (k, step, r) i b ended =
    ended_stays_ended T last k n es r i b (ended_on _ _ _ b (step_moves last m k e step i) ended)
