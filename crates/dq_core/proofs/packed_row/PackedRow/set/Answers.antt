use Rattle.dq_core.proofs.PackedWords.{row_with}
use Rattle.dq_core.proofs.packed_row.PackedRow.set.Goals as goal

pub returns : goal.returns
returns g c =
    rw (← c.self.view_is, c.pack.ensures) (row_with c.self.inside.words.items c.args.index c.args.parts c.requires.stamp c.requires.field)
