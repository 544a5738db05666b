-- A number of each, added up.
use Rattle.std.specs.Prelude.{ℕ, ◌+◌, List, [], ◌∷◌}

-- a number of each of a list, added up
abbrev pub total_of : {X : Type 0} → (X → ℕ) → List X → ℕ
total_of f [] = 0
total_of f (x ∷ xs) = f x + total_of f xs
