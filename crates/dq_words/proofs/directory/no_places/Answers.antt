use Rattle.std.proofs.Common.{◌≡◌, ℕ, ◌+◌, List, [], ◌∷◌, ◌++◌, ◌∙◌, arith}
use Rattle.std.proofs.lemmas.Grind.{common_steps}
use Rattle.std.proofs.lemmas.Result.{IfOk-from_err}
use Rattle.boxcar.specs.Slot.{Named}
use Rattle.dq_words.specs.DirectoryRows.{AreNumbered}
use Rattle.dq_words.proofs.directory.no_places.Goals as goal

-- one row more, which is tagged with its number
one_row_more : (rows more : List Named) (n : ℕ) (x : Named) → AreNumbered n rows → x.tag ≡ n ∷ [] → more ≡ rows ++ x ∷ [] → AreNumbered (n + 1) more
one_row_more rows more n x are tagged is = grind (arith, common_steps)

pub loop-row-preserved : goal.loop-row-preserved
loop-row-preserved g c =
    let so_far = c.loop-row.invariant in
    let pushed = c.push_reserved.ensures in
    let below = c.loop-row-test.true in
    let room = so_far.1 in
    let same = pushed.capacity in
    (omega (arith, below), omega (arith, room, same), one_row_more _ _ _ _ so_far.2 (c.new.ensures ∙ c.of.ensures) pushed.items)

pub returns-in_err-rows : goal.returns-in_err-rows
returns-in_err-rows g c = IfOk-from_err _ _ c.from_residual.ensures.0
