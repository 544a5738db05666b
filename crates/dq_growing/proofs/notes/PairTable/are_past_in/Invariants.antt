use Rattle.std.proofs.Common.{◌⊎◌, ℕ}
use Rattle.std.specs.Map.{keys_of}
use Rattle.dq_growing.specs.Notes.{ArePastBy}
use Rattle.dq_growing.proofs.Pairing.{Among}
use Rattle.dq_growing.proofs.notes.PairTable.are_past_in.Given as goal

abbrev pub invariant-loop-numbers : goal.invariant-loop-numbers
invariant-loop-numbers g l =
    ((k : ℕ × ℕ × ℕ) → Among k (keys_of l.self.entries) → Among k l.numbers-iterator ⊎ ArePastBy k l.core)
    × ((k : ℕ × ℕ × ℕ) → Among k l.numbers-iterator → Among k (keys_of l.self.entries))
