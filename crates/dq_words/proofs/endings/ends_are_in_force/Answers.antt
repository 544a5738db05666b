use Rattle.dq_words.proofs.Ends.{ends}
use Rattle.dq_words.proofs.endings.ends_are_in_force.Goals as goal

pub returns : goal.returns
returns c = ends
