use Rattle.std.proofs.Common.{rules, ◌≡◌, sym, ap, ◌∙◌}
use Rattle.dq_words.specs.DirectoryRows.{name_at}
use Rattle.dq_words.proofs.DirectoryPlaces.{one_place, name_is}
use Rattle.dq_words.proofs.directory.Directory.get.Goals as goal

pub invariant_of-result : goal.invariant_of-result
invariant_of-result g c =
    let row = c.locate-at.result.0 in
    let place = c.locate-at.result.1 in
    let places = c.in_ok-row.row.value.items in
    let spot = c.index-spot.result.now in
    let named : name_at places place ≡ spot.id = name_is places place spot (search rules) (search rules) in
    let of : c.in_ok-place.place.of ≡ spot.id = search rules in
    (search rules, λ k j at. of ∙ sym (ap (name_at places) (one_place c.args.number k j row place at c.locate-at.ensures) ∙ named))

pub returns-clause-of : goal.returns-clause-of
returns-clause-of g c =
    let row = c.locate-at.result.0 in
    let rows = c.args.self.now in
    let named : name_at rows row ≡ c.index.result.now.id = name_is rows row c.index.result.now (search rules) (search rules) in
    let of : c.in_ok-row.row.of ≡ c.index.result.now.id = search rules in
    (row, c.locate-at.result.1, c.locate-at.ensures, of ∙ sym named)
