use Rattle.std.proofs.Common.{rules, append_assoc}
use Rattle.dq_replay.proofs.texts.removed_text.Goals as goal

pub returns : goal.returns
returns g c = search (rules, append_assoc)
