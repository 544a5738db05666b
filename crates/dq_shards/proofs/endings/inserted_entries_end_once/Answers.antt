use Rattle.dq_shards.proofs.Headline.{inserted_ends}
use Rattle.dq_shards.proofs.endings.inserted_entries_end_once.Goals as goal

pub returns : goal.returns
returns g c = inserted_ends _ c.entries_end_once.ensures
