use Rattle.std.proofs.Common.{◌≡◌, ℕ, ◌+◌, ◌<◌, ◌≤◌, length}
use Rattle.dq_bell.specs.Lines.{IsAwakeAt, sleeping}
use Rattle.dq_bell.proofs.sleepers.Sleepers.take_all.Given as goal

abbrev pub invariant-loop-at : goal.invariant-loop-at
invariant-loop-at g l =
    (length l.taken.items + sleeping l.self ≡ length l.fn.taken.items + sleeping l.fn.self)
    × ((i : ℕ) → i < l.at → IsAwakeAt l.self i)
    × ((i : ℕ) → l.count ≤ i → IsAwakeAt l.self i)
    × (length l.self ≡ length l.fn.self)
    × (l.taken.len + l.count ≤ l.taken.cap + l.at)
