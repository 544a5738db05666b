use Rattle.std.proofs.Common.{◌≡◌, ◌≢◌, ℕ, ◌<◌, true, false}
use Rattle.dq_words.specs.Claims.{Claimed}
use Rattle.dq_words.specs.OpenCalls.{Open}
use Rattle.dq_queue.specs.Claims.{IsClaimAt, HasClaim}
use Rattle.dq_queue.proofs.words.QueueWords.knows.Given as goal

abbrev pub invariant-loop-at : goal.invariant-loop-at
invariant-loop-at g l =
    ((j : ℕ) (k : Claimed Open) → j < l.at → IsClaimAt l.claims j k → k.number ≡ l.claim.number → k.thing ≡ l.claim.thing)
    × (l.has ≡ true → HasClaim l.claims l.claim.number)
    × (l.has ≡ false → (j : ℕ) (k : Claimed Open) → j < l.at → IsClaimAt l.claims j k → k.number ≢ l.claim.number)
