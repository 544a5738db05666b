-- `empty` puts two fields together, and owns nothing.
use Rattle.dq_c.proofs.Parts.Empty.{meets}
use Rattle.dq_c.proofs.QueueAsPart.{K}
use Rattle.dq_c.specs.contracts.handle.queue.QueuePart.empty.Key.{name}
use Rattle.dq_c.proofs.handle.queue.QueuePart.empty.Statement.{statement}
use Rattle.dq_c.proofs.handle.queue.QueuePart.empty.Code.{unfolded}

pub empty_spec : {M : Type 1} → statement M
empty_spec 𝓤 𝓛 𝓜 𝓡 wired = meets K 𝓛 𝓜 𝓡 name (unfolded 𝓤 𝓛.H 𝓜 𝓡 wired)
