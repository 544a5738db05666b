use Rattle.std.proofs.Common.{◌≡◌, replicate, rules}
use Rattle.dq_core.proofs.PackedWords.{zeros_are_unused}
use Rattle.dq_core.proofs.packed_row.PackedRow.new.Goals as goal

pub returns : goal.returns
returns g c =
    let zeros : c.in_ok-words.words.items ≡ replicate c.args.capacity 0 = search rules in
    rw zeros (zeros_are_unused c.args.capacity)
