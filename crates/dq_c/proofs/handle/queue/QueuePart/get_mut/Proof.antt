-- `get_mut` lends the queue, and the part follows it.
use Rattle.dq_c.proofs.Parts.Lends.{meets}
use Rattle.dq_c.proofs.QueueAsPart.{K}
use Rattle.dq_c.specs.contracts.handle.queue.QueuePart.get_mut.Key.{name}
use Rattle.dq_c.proofs.handle.queue.QueuePart.get_mut.Statement.{statement}
use Rattle.dq_c.proofs.handle.queue.QueuePart.get_mut.Code.{unfolded}

pub get_mut_spec : {M : Type 1} → statement M
get_mut_spec 𝓤 𝓛 𝓜 𝓡 wired = meets K 𝓛 𝓜 𝓡 name (unfolded 𝓤 𝓛.H 𝓜 𝓡 wired)
