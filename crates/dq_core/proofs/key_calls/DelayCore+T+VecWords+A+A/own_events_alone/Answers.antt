use Rattle.dq_core.proofs.Ways.{own_events_alone}
use Rattle.dq_core.proofs.key_calls.DelayCore+T+VecWords+A+A.own_events_alone.Goals as goal

pub returns : goal.returns
returns g c = own_events_alone _
