use Rattle.std.proofs.Common.{rules, ◌≡◌, refl, sym, ap, ◌∙◌}
use Rattle.dq_words.specs.DirectoryRows.{name_at}
use Rattle.dq_words.proofs.DirectoryPlaces.{one_place, name_is}
use Rattle.dq_words.proofs.directory.Directory.put.Goals as goal

pub invariant_of-result : goal.invariant_of-result
invariant_of-result g c =
    let row = c.locate-at.result.0 in
    let place = c.locate-at.result.1 in
    let places = c.in-Some.row.value.items in
    let spot = c.index-3.result.now in
    let named : name_at places place ≡ spot.id = name_is places place spot (search rules) (search rules) in
    let of : c.in-Ok.place.of ≡ spot.id = search rules in
    (c.requires, λ k j at. of ∙ sym (ap (name_at places) (one_place c.args.number k j row place at c.locate-at.ensures) ∙ named))

pub returns-in-Ok-clause-claim : goal.returns-in-Ok-clause-claim
returns-in-Ok-clause-claim g c =
    let row = c.locate-at.result.0 in
    let rows = c.args.self.now in
    let named : name_at rows row ≡ c.index.result.now.id = name_is rows row c.index.result.now (search rules) (search rules) in
    let of : c.in-Some.row.of ≡ c.index.result.now.id = search rules in
    ((row, c.locate-at.result.1, c.locate-at.ensures, of ∙ sym named), refl, search rules)
