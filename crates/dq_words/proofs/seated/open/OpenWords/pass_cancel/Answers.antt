use Rattle.std.proofs.Common.{◌≡◌, ◌+◌, ◌<◌, ap, ◌∙◌, sym, arith}
use Rattle.dq_words.specs.OpenCalls.{Open}
use Rattle.dq_words.specs.Seats.{Sat}
use Rattle.dq_words.proofs.OpenCalls.{cancels_now, passing_cancel}
use Rattle.dq_words.proofs.seated.open.OpenWords.pass_cancel.Goals as goal

pub fetch_max-found-requires : goal.fetch_max-found-requires
fetch_max-found-requires g c =
    let e = c.deref.ensures in
    let rows = ap (λ (o : Open). o.rows) c.self.view_is in
    let own = ap (λ (s : Sat). s.view) c.passer.view_is in
    let words : c.deref.result.now.shared.table_id.words ≡ c.self.inside.rows + 1 = ap (λ b. b.shared.table_id.words) e ∙ c.self.invariant.1 in
    let inside = c.requires.inside in
    let low : c.args.index < c.self.inside.rows = omega arith in
    let table = ap (λ (s : Sat). s.table) c.passer.view_is ∙ c.requires.table ∙ sym (ap (λ (o : Open). o.table) c.self.view_is) ∙ sym (ap (λ b. b.shared.table_id) e) in
    (table, omega arith, rw (ap (λ b. b.shared.key) e ∙ c.self.invariant.0) (passing_cancel _ _ _ _ _ c.passer.invariant.0 _ (λ k. cancels_now _ _ _ _ _ _ low (rw own c.requires.caller.1) (rw own c.requires.caller.0) c.requires.new.0 c.requires.new.1 (omega arith) (rw own c.requires.given))))
