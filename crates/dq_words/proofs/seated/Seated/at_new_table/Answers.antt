use Rattle.std.proofs.Common.{◌≡◌, ◌+◌, length, replicate, ap, ◌∙◌, arith, rules}
use Rattle.std.proofs.lemmas.List.{length-replicate}
use Rattle.dq_words.proofs.Seats.{fits_new, starts_knew}
use Rattle.dq_words.proofs.Places.{opens}
use Rattle.dq_words.specs.Rule.{first_keeper}
use Rattle.dq_words.proofs.seated.Seated.at_new_table.Goals as goal

pub of_words-requires : goal.of_words-requires
of_words-requires g c =
    let words : c.as_slice.result.now ≡ replicate (c.args.rows + 1) 0 = search rules in
    opens c.args.rows _ words (omega arith)

pub invariant_of-result : goal.invariant_of-result
invariant_of-result g c =
    let made = c.in_ok-table.ensures in
    let held = c.in-Ok.ensures.ok in
    let words : c.as_slice.result.now ≡ replicate (c.args.rows + 1) 0 = search rules in
    let is : c.in_ok-table.seat.me.0.view ≡ first_keeper c.args.rows = search rules in
    (fits_new _ _ _ _ _ _ _ _ made.2 (ap (λ b. b.shared.table_id) held) (ap (λ b. b.shared.key) held) made.5 made.0 (ap length words ∙ length-replicate (c.args.rows + 1) 0) is, starts_knew c.args.rows _ (omega arith) is, search rules)
