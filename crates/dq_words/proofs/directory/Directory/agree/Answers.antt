use Rattle.std.proofs.Common.{◌≡◌, ℕ, sym, ap, subst, ◌∙◌}
use Rattle.dq_words.specs.DirectoryRows.{StandsAt, name_at}
use Rattle.dq_words.specs.Claims.{Claimed}
use Rattle.dq_words.proofs.DirectoryPlaces.{one_row}
use Rattle.dq_words.proofs.directory.Directory.agree.Goals as goal

pub agrees-requires : goal.agrees-requires
agrees-requires g c =
    let one = c.requires.one in
    let other = c.requires.other in
    let there = subst (λ (n : ℕ). StandsAt n other.0 other.1) (sym c.requires.number) other.2 in
    let same = one_row c.args.one.now.number one.0 one.1 other.0 other.1 one.2 there in
    ap (λ (w : Claimed _). w.row) c.one.view_is ∙ one.3 ∙ ap (name_at c.args.self.now) same
    ∙ sym (ap (λ (w : Claimed _). w.row) c.other.view_is ∙ other.3)

pub agrees-requires-2 : goal.agrees-requires-2
agrees-requires-2 g c =
    let row = c.locate.result.0 in
    let place = c.locate.result.1 in
    let same : c.one.inside.number ≡ c.other.inside.number =
    ap (λ (w : Claimed _). w.number) c.one.view_is ∙ c.requires.number ∙ sym (ap (λ (w : Claimed _). w.number) c.other.view_is) in
    let there = subst (λ (n : ℕ). StandsAt n row place) same c.locate.ensures in
    c.one.invariant.1 row place c.locate.ensures ∙ ap (λ r. name_at r.items place) c.agrees.ensures ∙ sym (c.other.invariant.1 row place there)
