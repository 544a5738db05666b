-- A poller that stays parked at a next wake, or has left.
use Rattle.std.proofs.Common.{◌≡◌, ℕ, Bool, true, false, if◌then◌else◌, Option, Some, None, is_some, refl, sym, subst}
use Rattle.std.specs.Prelude.{IsNone}
use Rattle.dq_core.specs.Core.{Core}
use Rattle.dq_core.specs.Calls.{TellsWake}
use Rattle.dq_words.specs.Seats.{Sat}
use Rattle.dq_shards.specs.declared.parking.parked.Parked.{Parked}
use Rattle.dq_shards.specs.Attending.{MayWait, KeepsOrLeaves}
use Rattle.dq_shards.specs.Parking.{still_parked}

pub no_wake : (wake : Option ℕ) → IsNone wake → wake ≡ None
no_wake None none = refl
no_wake (Some w) none = absurd (let is : true ≡ false = none in cc)

pub nobody : {A : Type 0} (o : Option A) → false ≡ is_some o → o ≡ None
nobody None none = refl
nobody (Some a) none = absurd (cc)

module _ {T N : Type 0} (lasts : N → Option ℕ → Bool) (c : Core T Sat) where
  pub kept_at : (old new : Option (Parked N)) (wake : Option ℕ) → TellsWake c wake → new ≡ still_parked lasts old wake → KeepsOrLeaves lasts c old new
  kept_at None new wake tells is = is
  kept_at (Some p) new wake tells is = (wake, tells, is)

  waits_on : (p : Parked N) (wake : Option ℕ) (b : Bool) → TellsWake c wake → lasts p.next wake ≡ b → MayWait lasts c (if b then Some p else None)
  waits_on p wake true tells is = (wake, tells, is)
  waits_on p wake false tells is = tt

  pub may_wait_at : (old new : Option (Parked N)) (wake : Option ℕ) → TellsWake c wake → new ≡ still_parked lasts old wake → MayWait lasts c new
  may_wait_at None new wake tells is = subst (MayWait lasts c) (sym is) tt
  may_wait_at (Some p) new wake tells is = subst (MayWait lasts c) (sym is) (waits_on p wake (lasts p.next wake) tells refl)
