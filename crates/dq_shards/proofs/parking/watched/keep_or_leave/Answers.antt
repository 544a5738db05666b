use Rattle.std.proofs.Common.{◌≡◌, None, refl, sym, ap, ◌∙◌, subst}
use Rattle.dq_shards.specs.Attending.{MayWait, KeepsOrLeaves}
use Rattle.dq_shards.specs.Parking.{still_parked, Leaves}
use Rattle.dq_shards.proofs.KeptOrLeft.{no_wake, nobody, kept_at, may_wait_at}
use Rattle.dq_shards.proofs.parking.watched.keep_or_leave.Goals as goal

pub returns-then-is_some : goal.returns-then-is_some
returns-then-is_some g c =
    let lasts = g.N.Until.lasts in
    let told = c.next_wake.ensures in
    let left = c.keep_until.ensures in
    record {
      keeps = kept_at lasts c.args.core.now c.args.parked.now c.keep_until.new.parked c.next_wake.result told.wake left.stays;
      law = may_wait_at lasts c.args.core.now c.args.parked.now c.keep_until.new.parked c.next_wake.result told.wake left.stays;
      empty = λ none. left.stays ∙ ap (still_parked lasts c.args.parked.now) (no_wake c.next_wake.result (told.none.1 none));
      leaves = left.leaves;
    }

pub returns-else-is_some : goal.returns-else-is_some
returns-else-is_some g c =
    let lasts = g.N.Until.lasts in
    let none = sym (nobody c.args.parked.now c.if-is_some.ensures) in
    record {
      keeps = subst (λ p. KeepsOrLeaves lasts c.args.core.now p p) none refl;
      law = subst (λ p. MayWait lasts c.args.core.now p) none tt;
      empty = λ unlinked. subst (λ p. p ≡ still_parked lasts p None) none refl;
      leaves = subst (λ p. Leaves p None p) none refl;
    }
