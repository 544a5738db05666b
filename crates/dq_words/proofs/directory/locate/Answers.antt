use Rattle.std.proofs.Common.{arith, ◌+◌}
use Rattle.dq_words.proofs.DirectoryPlaces.{row_below}
use Rattle.dq_words.proofs.directory.locate.Goals as goal

pub len_of-requires : goal.len_of-requires
len_of-requires c = let r = c.requires in row_below (c.args.number + 1) c.ilog2-row.result c.ilog2-row.ensures.power_le (omega arith)

pub returns : goal.returns
returns c =
    let r = c.requires in
    let low = c.ilog2-row.ensures.power_le in
    let high = c.ilog2-row.ensures.next_power_gt in
    let len = c.len_of.ensures in
    (row_below (c.args.number + 1) c.ilog2-row.result low (omega arith), omega arith, omega arith)
