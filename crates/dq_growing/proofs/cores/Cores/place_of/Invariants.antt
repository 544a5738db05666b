use Rattle.std.proofs.Common.{◌≡◌, ◌≢◌, ℕ, ◌<◌, ◌≤◌, ◌+◌, length}
use Rattle.std.specs.Prelude.{slice_index_or}
use Rattle.dq_growing.proofs.cores.Cores.place_of.Given as goal

abbrev pub invariant-loop-newer : goal.invariant-loop-newer
invariant-loop-newer g l = (i : ℕ) (c : _) → length l.self.cores ≤ i + l.newer → i < length l.self.cores → slice_index_or l.self.cores i c ≡ c → c.shard ≢ l.number
