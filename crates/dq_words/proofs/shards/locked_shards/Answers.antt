use Rattle.std.proofs.lemmas.Result.{IfOk-from_err}
use Rattle.dq_words.proofs.shards.locked_shards.Goals as goal

pub returns-in_err-clone-clause-count : goal.returns-in_err-clone-clause-count
returns-in_err-clone-clause-count g c = IfOk-from_err _ _ c.from_residual.ensures.0

pub returns-in_err-row-clause-count : goal.returns-in_err-row-clause-count
returns-in_err-row-clause-count g c = IfOk-from_err _ _ c.from_residual-in_err-row.ensures.0

pub returns-in_err-shard-clause-count : goal.returns-in_err-shard-clause-count
returns-in_err-shard-clause-count g c = IfOk-from_err _ _ c.from_residual-in_err-shard.ensures.0
