use Rattle.std.proofs.Common.{refl}
use Rattle.std.specs.Fn.{FnOnceReturnsAtMut}
use Rattle.dq_core.proofs.Cells.{changed_cell}
use Rattle.dq_core.proofs.slots.Cell.with_value.Goals as goal

pub returns : goal.returns
returns g c =
    changed_cell (FnOnceReturnsAtMut g.F.FnOnce c.args.call) _ _ _ c.args.self.now _ c.call.new.arg2 c.call.result c.self.view_is c.requires.held c.in-Some.is
    (record { shown = _; shows = refl; left = _; met = c.call.ensures; leaves = refl })
