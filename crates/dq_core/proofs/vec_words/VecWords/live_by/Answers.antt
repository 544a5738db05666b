use Rattle.std.proofs.Common.{ap, arith}
use Rattle.dq_core.proofs.WordRow.{live_by_key}
use Rattle.dq_core.proofs.vec_words.VecWords.live_by.Goals as goal

pub returns : goal.returns
returns g c =
    let named = ap (λ e. e.index) c.entry.ensures in
    rw (← ap (λ w. w.known) c.self.view_is)
    (live_by_key c.self.inside.row c.args.key.now c.index-index.result c.stamp-stamp.result c.live_at.result (omega arith) (omega arith) (omega arith) (omega arith) (omega arith) c.live_at.ensures)
