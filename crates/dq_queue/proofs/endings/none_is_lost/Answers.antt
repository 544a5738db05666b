use Rattle.dq_queue.proofs.Leaving.{loses_none}
use Rattle.dq_queue.proofs.endings.none_is_lost.Goals as goal

pub returns : goal.returns
returns g c = loses_none _
