use Rattle.dq_queue.proofs.Outs.{given}
use Rattle.dq_queue.proofs.endings.inserts_are_given.Goals as goal

pub returns : goal.returns
returns g c = given _ c.stamps_end_once.ensures.once
