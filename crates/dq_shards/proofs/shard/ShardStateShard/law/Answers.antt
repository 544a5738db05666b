use Rattle.std.proofs.Common.{subst}
use Rattle.dq_shards.specs.Shard.{ShardView, IsShard}
use Rattle.dq_shards.proofs.ParkedLaw.{told}
use Rattle.dq_shards.proofs.shard.ShardStateShard.law.Goals as goal

pub returns : goal.returns
returns g c =
    let law = c.law.ensures in
    subst (λ (s : ShardView g.row.T.Denot). IsShard s) c.self.view_is record {
      core = law.shard;
      wheel = law.wheel;
      known = law.words.0;
      counts = law.words.1;
      keeper = law.keeper.0;
      stood = law.keeper.1;
      parked = told c.self.inside.watched.core c.self.inside.watched.parked c.self.invariant;
    }
