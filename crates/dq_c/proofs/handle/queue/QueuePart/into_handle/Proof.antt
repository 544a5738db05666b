-- `into_handle` moves two fields, and what they own goes with them.
use Rattle.dq_c.proofs.Parts.Moves.{into_meets}
use Rattle.dq_c.proofs.QueueAsPart.{K}
use Rattle.dq_c.specs.contracts.handle.queue.QueuePart.into_handle.Key.{name}
use Rattle.dq_c.proofs.handle.queue.QueuePart.into_handle.Statement.{statement}
use Rattle.dq_c.proofs.handle.queue.QueuePart.into_handle.Code.{unfolded}

pub into_handle_spec : {M : Type 1} → statement M
into_handle_spec 𝓤 𝓛 𝓜 𝓡 wired = into_meets K 𝓛 𝓜 𝓡 name (unfolded 𝓤 𝓛.H 𝓜 𝓡 wired)
