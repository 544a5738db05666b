use Rattle.std.proofs.Common.{arith, ◌≡◌, ◌+◌}
use Rattle.dq_words.specs.Counts.{cancels_in}
use Rattle.dq_shards.specs.Handles.{all_cancels}
use Rattle.dq_shards.proofs.Summing.{total_append}
use Rattle.dq_shards.proofs.handle.give_back_all.Goals as goal

pub loop-caller-preserved : goal.loop-caller-preserved
loop-caller-preserved g c =
    let before = c.loop-caller.invariant in
    let left = c.pop.new.self.items in
    let split : all_cancels c.loop-caller.callers.items ≡ all_cancels left + cancels_in c.in-Some.caller.view.calls =
    rw c.in-Some.ensures.items (total_append _ left c.in-Some.caller) in
    let given = c.give_back-given.ensures in
    let few = c.law.ensures.caller.2 in
    let len = c.in-Some.ensures.len in
    (omega (arith, before.0, len), omega (arith, before.1, split, given), omega (arith, before.2, given, few, len))
