-- `of` moves two fields, and what they own goes with them.
use Rattle.dq_c.proofs.Parts.Moves.{of_meets}
use Rattle.dq_c.proofs.QueueAsPart.{K}
use Rattle.dq_c.specs.contracts.handle.queue.QueuePart.of.Key.{name}
use Rattle.dq_c.proofs.handle.queue.QueuePart.of.Statement.{statement}
use Rattle.dq_c.proofs.handle.queue.QueuePart.of.Code.{unfolded}

pub of_spec : {M : Type 1} → statement M
of_spec 𝓤 𝓛 𝓜 𝓡 wired = of_meets K 𝓛 𝓜 𝓡 name (unfolded 𝓤 𝓛.H 𝓜 𝓡 wired)
