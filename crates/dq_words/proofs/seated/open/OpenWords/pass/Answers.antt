use Rattle.std.proofs.Common.{◌≡◌, ◌+◌, ◌<◌, ap, ◌∙◌, arith}
use Rattle.dq_words.specs.OpenCalls.{Open}
use Rattle.dq_words.proofs.OpenCalls.{passes_at}
use Rattle.dq_words.proofs.seated.open.OpenWords.pass.Goals as goal

pub load_new_seat-found-requires : goal.load_new_seat-found-requires
load_new_seat-found-requires g c =
    let e = c.deref.ensures in
    let rows = ap (λ (o : Open). o.rows) c.self.view_is in
    let words : c.deref.result.now.shared.table_id.words ≡ c.self.inside.rows + 1 = ap (λ b. b.shared.table_id.words) e ∙ c.self.invariant.1 in
    let inside = c.requires in
    let low : c.args.index < c.self.inside.rows = omega arith in
    (omega arith, rw (ap (λ b. b.shared.key) e ∙ c.self.invariant.0) (passes_at _ _ _ low))
