use Rattle.std.proofs.Common.{sym, refl}
use Rattle.dq_apps.proofs.stock.timer_of.Goals as goal

pub returns-in-Some : goal.returns-in-Some
returns-in-Some g c = (c.in-Some.kept.now, sym c.in-Some.ensures.value, refl, refl)
