use Rattle.dq_shards.proofs.Headline.{given}
use Rattle.dq_shards.proofs.endings.inserts_are_given.Goals as goal

pub returns : goal.returns
returns g c = given _ c.stamps_end_once.ensures.once
