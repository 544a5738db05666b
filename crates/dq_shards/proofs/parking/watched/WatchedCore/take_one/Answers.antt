use Rattle.std.proofs.Common.{◌≡◌, ◌+◌, Bool, true, false, Option, Some, None, IfSome, is_some, refl, sym, ap, ◌∙◌, inl, inr, ⊎_elim}
use Rattle.std.specs.Prelude.{IfNone}
use Rattle.dq_core.specs.Deferring.{waiting_in, TakesDeferredValue}
use Rattle.dq_core.specs.Slots.{DeferredValues}
use Rattle.dq_core.proofs.Dropped.{took_one}
use Rattle.dq_shards.proofs.parking.watched.WatchedCore.take_one.Goals.{else-self-via-then-self+else-not-is_mine, else-self-via-else-self}
use Rattle.dq_shards.proofs.parking.watched.WatchedCore.take_one.Goals as goal

true_false : (b : Bool) → b ≡ true → b ≡ false → ⊥
true_false b is not = cc

module _ {T : Type 0} where
  alone : (r : Option T) (b : Bool) (P : Type 0) → b ≡ is_some r → P → IfSome r (λ v. (b ≡ true) × (b ≡ true) × P)
  alone None b P is so = tt
  alone (Some v) b P is so = (is, is, so)

  module _ (a b : DeferredValues T) where
    takes : (r : Option T) → TakesDeferredValue a r b → IfSome r (λ v. TakesDeferredValue a (Some v) b)
    takes None took = tt
    takes (Some v) took = took

    one : (r : Option T) → TakesDeferredValue a r b → IfSome r (λ v. waiting_in a ≡ waiting_in b + 1)
    one None took = tt
    one (Some v) took = sym (took_one a b v took)

    none : (r : Option T) → TakesDeferredValue a r b → IfNone r (waiting_in b ≡ 0)
    none None took = ap waiting_in took.1 ∙ took.0
    none (Some v) took = tt

pub returns-clause-stays : goal.returns-clause-stays
returns-clause-stays g c = (c.take_deferred-value.ensures.rest, refl)

pub returns-clause-alone : goal.returns-clause-alone
returns-clause-alone g c = alone c.take_deferred-value.result c.is_some-self.result _ c.is_some-self.ensures (elim c.else-self.branch [
  | else-self-via-then-self+else-not-is_mine w ↦ inr w.if-not-is_mine.false
  | else-self-via-else-self w ↦ inl w.if-self.false
])

pub returns-clause-over : goal.returns-clause-over
returns-clause-over g c = λ over. let is = c.is_some-self.ensures ∙ ap is_some over in (is, inl is)

pub returns-clause-takes : goal.returns-clause-takes
returns-clause-takes g c = takes c.args.self.now.core.deferred c.take_deferred-value.new.self.deferred c.take_deferred-value.result c.take_deferred-value.ensures.takes

pub returns-clause-one : goal.returns-clause-one
returns-clause-one g c = one c.args.self.now.core.deferred c.take_deferred-value.new.self.deferred c.take_deferred-value.result c.take_deferred-value.ensures.takes

pub returns-clause-kept : goal.returns-clause-kept
returns-clause-kept g c = c.take_deferred-value.ensures.kept

pub returns-clause-none : goal.returns-clause-none
returns-clause-none g c = λ mine. none c.args.self.now.core.deferred c.take_deferred-value.new.self.deferred c.take_deferred-value.result c.take_deferred-value.ensures.takes

pub returns-then-not-is_mine-clause-stays : goal.returns-then-not-is_mine-clause-stays
returns-then-not-is_mine-clause-stays g c = (refl, refl)

pub returns-then-not-is_mine-clause-over : goal.returns-then-not-is_mine-clause-over
returns-then-not-is_mine-clause-over g c = λ over. (c.if-not-is_mine.true, inr c.if-not-is_mine.true)

pub returns-then-not-is_mine-clause-kept : goal.returns-then-not-is_mine-clause-kept
returns-then-not-is_mine-clause-kept g c = refl

pub returns-then-not-is_mine-clause-none : goal.returns-then-not-is_mine-clause-none
returns-then-not-is_mine-clause-none g c =
    λ mine. ⊎_elim (λ e. absurd (true_false c.args.self.now.is_dropping c.if-self.true e)) (λ e. absurd (true_false c.args.is_mine.now e c.if-not-is_mine.true)) mine
