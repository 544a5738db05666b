use Rattle.std.proofs.Common.{◌≡◌, length, ap, ◌∙◌, arith}
use Rattle.dq_words.proofs.directory.Directory.make_row.Goals as goal

pub index-requires : goal.index-requires
index-requires g c =
    let low = c.locate-row.ensures.0 in
    let len = c.deref.result.now.ok.0 in
    let rows : length c.deref.result.now.items ≡ 32 = ap (λ v. length v.items) c.deref.ensures ∙ c.self.invariant.0 in
    omega (arith, low, len, rows)

pub index-requires-then-is_none : goal.index-requires-then-is_none
index-requires-then-is_none g c =
    let low = c.locate-row.ensures.0 in
    let len = c.deref-then-is_none.result.now.ok.0 in
    let rows : length c.deref-then-is_none.result.now.items ≡ 32 = ap (λ v. length v.items) c.deref-then-is_none.ensures ∙ c.self.invariant.0 in
    omega (arith, low, len, rows)
