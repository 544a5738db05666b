use Rattle.std.proofs.Common.{rules, ◌≡◌, ℕ, ap, subst, ◌∙◌}
use Rattle.dq_words.specs.DirectoryRows.{StandsAt, name_at}
use Rattle.dq_words.specs.Claims.{Claimed}
use Rattle.dq_words.proofs.DirectoryPlaces.{one_row, name_is}
use Rattle.dq_words.proofs.directory.Directory.thing.Goals as goal

pub value-requires : goal.value-requires
value-requires g c =
    let row = c.locate-at.result.0 in
    let place = c.locate-at.result.1 in
    let rows = c.args.self.now in
    let at = subst (λ (n : ℕ). StandsAt n row place) (ap (λ (w : Claimed _). w.number) c.claim.view_is) c.locate-at.ensures in
    let named : name_at rows row ≡ c.index.result.now.id = name_is rows row c.index.result.now (search rules) (search rules) in
    let is = c.requires in
    let same = one_row c.args.claim.now.number is.0 is.1 row place is.2 at in
    ap (λ (w : Claimed _). w.row) c.claim.view_is ∙ is.3 ∙ ap (name_at rows) same ∙ named
