-- The parked law: it stands where the wheel does, and as it is told of a shard.
use Rattle.std.proofs.Common.{◌≡◌, ℕ, ◌+◌, true, false, refl, sym, ap, Option, Some, None, IfSome}
use Rattle.std.proofs.lemmas.Bool.{leb-true, le-leb}
use Rattle.dq_core.specs.Core.{Core}
use Rattle.dq_core.specs.Deferring.{waiting_in, TakesDisplaced}
use Rattle.dq_core.specs.Readers.{with_words}
use Rattle.dq_core.specs.Slots.{SlotRows, DeferredValues}
use Rattle.dq_core.proofs.Dropped.{took_one}
use Rattle.dq_words.specs.Seats.{Sat}
use Rattle.dq_shards.specs.declared.parking.parked.Parked.{Parked}
use Rattle.dq_shards.specs.Attending.{MayWait}
use Rattle.dq_shards.specs.Parking.{still_parked}
use Rattle.dq_shards.specs.Waits.{lasts_until}
use Rattle.dq_shards.specs.Shard.{IsParked}

false_true : false ≡ true → ⊥
false_true is = cc

-- where nothing is linked nobody may wait
pub none_waits : (p : Option (Parked ℕ)) → still_parked lasts_until p None ≡ None
none_waits None = refl
none_waits (Some p) = refl

module _ {T : Type 0} where
  -- one fewer waits where one came out of the slot that the next insert fills
  pub one_displaced : (s : SlotRows T) (a b : DeferredValues T) (r : Option T) → TakesDisplaced s a r b → IfSome r (λ v. waiting_in a ≡ waiting_in b + 1)
  one_displaced s a b None t = tt
  one_displaced s a b (Some v) t = sym (took_one a b v (t.0.0, (t.1.0, t.1.3, t.1.4)))

  -- a queue with the same wheel keeps the parked law
  pub parked_still : (b c : Core T Sat) (p : Option (Parked ℕ)) → c.wheel ≡ b.wheel → MayWait lasts_until b p → MayWait lasts_until c p
  parked_still b c None same law = law
  parked_still b c (Some p) same (None, tells, is) = absurd (false_true is)
  parked_still b c (Some p) same (Some wake, tells, is) = (Some wake, rw same tells, is)

  -- a queue over other words keeps it
  pub parked_over : (b c : Core T Sat) (p : Option (Parked ℕ))
      → c ≡ with_words b c.words → MayWait lasts_until b p → MayWait lasts_until c p
  parked_over b c p same law = parked_still b c p (ap (λ k. k.wheel) same) law

  -- the tick of who may wait isn't after the next wake
  pub told : (c : Core T Sat) (p : Option (Parked ℕ)) → MayWait lasts_until c p → IsParked c p
  told c None law = tt
  told c (Some p) (None, tells, is) = absurd (false_true is)
  told c (Some p) (Some wake, tells, is) = (wake, tells, leb-true p.next wake is)

  pub may_wait : (c : Core T Sat) (p : Option (Parked ℕ)) → IsParked c p → MayWait lasts_until c p
  may_wait c None law = tt
  may_wait c (Some p) (wake, tells, least) = (Some wake, tells, le-leb p.next wake least)
