use Rattle.std.proofs.Common.{subst}
use Rattle.dq_growing.specs.Cores.{CoreRow}
use Rattle.dq_core.specs.Core.{Core}
use Rattle.dq_growing.specs.Sizing.{IsNearlyDrained}
use Rattle.dq_growing.proofs.Sizes.{tells_straggler}
use Rattle.dq_growing.proofs.sizing.straggler_in.Goals as goal

pub returns : goal.returns
returns g c =
    let P : CoreRow g.row.T.Denot g.row.W.Denot → Type 0 = λ k. (d : Core g.row.T.Denot g.row.W.Denot) × IsNearlyDrained k c.args.place d in
    tells_straggler c.args.store.now c.args.place c.first_in.result (subst P c.cores.ensures (c.is_nearly_drained.ensures.yes c.if-not-is_nearly_drained.false)) c.first_in.ensures
