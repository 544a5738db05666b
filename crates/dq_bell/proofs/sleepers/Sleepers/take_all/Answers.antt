use Rattle.std.proofs.Common.{◌≡◌, ◌+◌, ◌∙◌, arith, set, false, length}
use Rattle.std.proofs.lemmas.List.{length-set}
use Rattle.dq_bell.proofs.Taken.{count_on, up_to, from_on}
use Rattle.dq_bell.proofs.sleepers.Sleepers.take_all.Goals as goal

pub loop-at-preserved : goal.loop-at-preserved
loop-at-preserved g c =
    let i = c.loop-at.invariant in
    let s = c.loop-at.self in
    let at = c.loop-at.at in
    let e = c.take.ensures.sleeps in (
      rw e (count_on s at _ _ _ _ c.take.ensures.taken c.keep.ensures.one c.keep.ensures.none i.0),
      rw e (up_to s at i.1),
      rw e (from_on s at _ c.loop-at-test.true i.2),
      rw e (length-set s at false ∙ i.3),
      (let a = i.4 in let b = c.keep.ensures.len in let d = c.keep.ensures.capacity in omega arith),
    )
