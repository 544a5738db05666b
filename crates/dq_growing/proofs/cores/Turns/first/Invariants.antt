use Rattle.std.proofs.Common.{◌≡◌, ◌≢◌, ◌⊎◌, ◌<◌, ◌≤◌, ℕ}
use Rattle.dq_growing.specs.declared.cores.TheConstants.{NOBODY}
use Rattle.dq_growing.specs.Polls.{bound_at}
use Rattle.dq_growing.proofs.cores.Turns.first.Given as goal

abbrev pub invariant-loop-at : goal.invariant-loop-at
invariant-loop-at l =
    ((l.place ≡ NOBODY) ⊎ (l.place < l.at))
    × ((i : ℕ) → i < l.at → l.least ≤ bound_at l.self.bounds i)
    × ((i : ℕ) → i < l.at → i ≢ l.place → l.others ≤ bound_at l.self.bounds i)
