-- A numbered list with one more behind it.
use Rattle.std.proofs.Common.{◌≡◌, ℕ, ◌+◌, List, [], ◌∷◌, ◌++◌, length, subst, arith}
use Rattle.dq_shards.specs.Issuing.{AllFrom}

pub one_behind : {X : Type 0} (P : ℕ → X → Type 0) (n m : ℕ) (xs : List X) (x : X)
    → AllFrom P n xs → n + length xs ≡ m → P m x → AllFrom P n (xs ++ x ∷ [])
one_behind P n m [] x all at last =
    let here : m ≡ n = omega (arith, at) in (subst (λ k. P k x) here last, tt)
one_behind P n m (y ∷ xs) x all at last = (all.0, one_behind P (n + 1) m xs x all.1 (omega (arith, at)) last)
