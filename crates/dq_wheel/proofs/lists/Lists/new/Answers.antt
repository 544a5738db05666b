use Rattle.std.proofs.Common.{◌∙◌, refl, None}
use Rattle.dq_wheel.proofs.Rows.{circles_alone, seen_alone, filed_alone, moves_alone}
use Rattle.dq_wheel.proofs.Occupancy.{none_occupied}
use Rattle.dq_wheel.proofs.Shown.{plain_homes, plain_filed, seen_circles}
use Rattle.dq_wheel.proofs.lists.Lists.new.Goals as goal

pub invariant_of-result : goal.invariant_of-result
invariant_of-result g c =
    let made = c.in_ok-rows.ensures in (
      seen_circles c.args.capacity None c.in_ok-rows.rows.items refl (circles_alone _ _ c.requires made.0 made.1),
      rw (plain_homes c.args.capacity None c.in_ok-rows.rows.items refl ∙ seen_alone _ _ made.0 made.1) (none_occupied c.args.capacity),
    )

pub returns : goal.returns
returns g c =
    let made = c.in_ok-rows.ensures in (
      plain_homes c.args.capacity None c.in_ok-rows.rows.items refl ∙ seen_alone _ _ made.0 made.1,
      plain_filed c.args.capacity None c.in_ok-rows.rows.items refl 0 ∙ filed_alone _ _ made.0 made.1,
      moves_alone _ _ made.0 made.1,
      refl,
    )
