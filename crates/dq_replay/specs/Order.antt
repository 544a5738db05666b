-- The order of live names, and the states that a script reaches.
use Rattle.std.specs.Prelude.{◌≡◌, ℕ, ◌+◌, true, false, List, [], ◌∷◌, ◌++◌, Option, Some, None, Ok}
use Rattle.std.specs.Prelude.{Err}
use Rattle.std.specs.List.{AllByRecursion}
use Rattle.std.specs.Cmp.Lexicographic.{slice_cmp}
use Rattle.std.specs.Ordering.{nat_cmp, ordering_then}
use Rattle.std.specs.declared.cmp.Ordering.{Ordering}
use Rattle.dq_replay.specs.declared.session.Lease.{Lease}
use Rattle.dq_replay.specs.Script.{State, comes_before, has_name, line_does}

-- the order as `cmp` has it: by the deadline, and then by the name's bytes
abbrev pub lease_cmp : Lease → Lease → Ordering
lease_cmp a b = ordering_then (nat_cmp a.deadline b.deadline) (slice_cmp nat_cmp a.name b.name)

-- no entry comes before an earlier one of the list
abbrev pub IsLined : List Lease → Type 0
IsLined [] = Unit {0}
IsLined (x ∷ xs) = AllByRecursion (λ y. comes_before y x ≡ false) xs × IsLined xs

-- an entry comes before each of these
abbrev pub ComesBeforeAll : Lease → List Lease → Type 0
ComesBeforeAll e [] = Unit {0}
ComesBeforeAll e (x ∷ xs) = (comes_before e x ≡ true) × ComesBeforeAll e xs

-- each entry comes before all behind it
abbrev pub IsInOrder : List Lease → Type 0
IsInOrder [] = Unit {0}
IsInOrder (e ∷ es) = ComesBeforeAll e es × IsInOrder es

-- no name stands twice
abbrev pub HasDistinctNames : List Lease → Type 0
HasDistinctNames [] = Unit {0}
HasDistinctNames (e ∷ es) = (has_name e.name es ≡ false) × HasDistinctNames es

-- the live names of a state are distinct and in order
abbrev pub IsOrdered : State → Type 0
IsOrdered s = IsInOrder s.live × HasDistinctNames s.live

-- answers in front of those that came
abbrev pub behind_answer : List ℕ → Option (State × List ℕ) → Option (State × List ℕ)
behind_answer answer None = None
behind_answer answer (Some done) = Some (done.0, answer ++ done.1)

-- the state and the answers after whole lines, the first of which is line `number`; none where a
-- line has a fault
unfoldable pub after_lines : ℕ → State → List (List ℕ) → Option (State × List ℕ)
after_lines number s [] = Some (s, [])
after_lines number s (text ∷ more) = elim (line_does number s text) [
  | Ok done ↦ behind_answer done.1 (after_lines (number + 1) done.0 more)
  | Err kind ↦ None
]
