-- `empty` puts two fields together, and owns nothing.
use Rattle.dq_c.proofs.Parts.Empty.{meets}
use Rattle.dq_c.proofs.SeatAsPart.{K}
use Rattle.dq_c.specs.contracts.handle.caller.CallerPart.empty.Key.{name}
use Rattle.dq_c.proofs.handle.caller.CallerPart.empty.Statement.{statement}
use Rattle.dq_c.proofs.handle.caller.CallerPart.empty.Code.{unfolded}

pub empty_spec : {M : Type 1} → statement M
empty_spec 𝓤 𝓛 𝓜 𝓡 wired = meets K 𝓛 𝓜 𝓡 name (unfolded 𝓤 𝓛.H 𝓜 𝓡 wired)
