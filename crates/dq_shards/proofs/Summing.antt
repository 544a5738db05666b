-- Sums over the callers of a handle.
use Rattle.std.proofs.Common.{◌≡◌, ℕ, ◌+◌, List, [], ◌∷◌, ◌++◌, arith}
use Rattle.dq_shards.specs.Sums.{total_of}

pub total_append : {X : Type 0} (f : X → ℕ) (xs : List X) (x : X) → total_of f (xs ++ x ∷ []) ≡ total_of f xs + f x
total_append f [] x = omega arith
total_append f (y ∷ xs) x = omega (arith, total_append f xs x)
