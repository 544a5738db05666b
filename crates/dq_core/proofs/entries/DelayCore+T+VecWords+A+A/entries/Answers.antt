use Rattle.dq_core.proofs.Listings.{each_once}
use Rattle.dq_core.proofs.entries.DelayCore+T+VecWords+A+A.entries.Goals as goal

pub returns-clause-once : goal.returns-clause-once
returns-clause-once g c = each_once c.args.self.now
