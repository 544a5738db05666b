use Rattle.std.proofs.Common.{◌≡◌, Some, Result, refl, sym, ap, ◌∙◌, subst, inl, inr}
use Rattle.dq_core.specs.Core.{Core}
use Rattle.dq_queue.specs.History.{entry}
use Rattle.dq_queue.specs.Once.{EntersOnce}
use Rattle.dq_growing.specs.declared.cores.TakeError.{TakeError}
use Rattle.dq_growing.specs.Sized.{SizedState}
use Rattle.dq_growing.specs.Store.{StoreState}
use Rattle.dq_words.specs.Seats.{Sat}
use Rattle.dq_queue.specs.Calls.{StoreRefuses, StoreTakesIn, IsStoreCall}
use Rattle.dq_queue.specs.Loans.{bare_answer, DrainedView}
use Rattle.dq_queue.specs.Shards.{HeldShard}
use Rattle.dq_queue.proofs.Claims.{comes_open, same_cores, still_claimed}
use Rattle.dq_queue.proofs.Histories.{goes_on_so, once}
use Rattle.dq_queue.proofs.Lending.{comes_back, comes_claimed_back, in_again, lent_now, stays_out}
use Rattle.dq_queue.proofs.shard.Shard.take_back.Goals.{in-Ok, in-Err}
use Rattle.dq_queue.proofs.shard.Shard.take_back.Goals as goal

pub invariant_of-self : goal.invariant_of-self
invariant_of-self g c =
    let made = c.bring-answer in
    let was = c.self.inside.sized.store in
    let is = made.new.self.store in
    let m = made.ensures in
    let takes : StoreTakesIn c.drained.inside.core made.result was is = (comes_open was is c.drained.inside.core made.result m.comes m.opens, m.back, m.stands, m.keeps, m.holds) in
    let P : Result (Unit {0}) (TakeError × Core _ Sat) → Type 0 = λ x. StoreTakesIn c.drained.inside.core x was is in
    let came = subst P c.in-Ok.is takes in
    let e = c.enter_for-2.ensures in
    let loan = c.enter_for.ensures in
    let s = c.self.invariant in
    let call : IsStoreCall was is = inr (inr (inr (inr (inr (inl (c.drained.inside.core, made.result, takes)))))) in
    let log = c.self.inside.history.view.log in
    let more = entry c.me.inside.history.view.number (Some made.new.self) in
    let kept = comes_back log more c.self.inside.sized made.new.self c.self.inside.loans.view c.drained.inside.loan.view c.enter_for.new.caller.view c.enter_for.new.self.view.log
    c.self.inside.claims.items c.drained.inside.core s.9 s.4 refl s.3 s.6 c.drained.invariant.1 loan.once loan.log came in
    let claimed = comes_claimed_back log more c.self.inside.sized made.new.self c.self.inside.loans.view c.drained.inside.loan.view c.enter_for.new.caller.view c.enter_for.new.self.view.log
    c.self.inside.claims.items c.drained.inside.core s.9 s.4 refl s.3 s.6 c.drained.invariant.1 loan.once loan.log came in
    goes_on_so g.J.Rooms.shards g.J.Rooms.history g.J.Rooms.loans g.J.Rooms.rows _ _ _ _ _ c.self.inside.history.view c.me.inside.history.view c.enter_for-2.new.caller.view c.enter_for-2.new.self.view
    c.self.inside.loans.view c.enter_for.new.self.view c.self.inside.sized made.new.self c.self.inside.claims.items c.self.inside.claims.items s call e.once e.log e.tables.0 e.keeper
    (s.5, claimed) loan.tables.0 loan.keeper kept

pub invariant_of-result : goal.invariant_of-result
invariant_of-result g c =
    let loan = c.enter_for.ensures in
    let again = c.enter_for-in-Err.ensures in
    let lent = c.drained.invariant.1 in (
      again.tables.1 ∙ (loan.tables.1 ∙ c.drained.invariant.0),
      lent_now c.enter_for.new.self.view c.enter_for.new.caller.view c.enter_for-in-Err.new.caller.view c.in-Err.back again.once c.enter_for-in-Err.new.self.view.log again.log again.caller
          (in_again c.self.inside.loans.view c.drained.inside.loan.view c.enter_for.new.caller.view c.drained.inside.core loan.once c.enter_for.new.self.view.log loan.log lent.1.0 lent.1.1),
    )

pub invariant_of-self-in-Err : goal.invariant_of-self-in-Err
invariant_of-self-in-Err g c =
    let made = c.bring-answer in
    let was = c.self.inside.sized.store in
    let is = made.new.self.store in
    let m = made.ensures in
    let takes : StoreTakesIn c.drained.inside.core made.result was is = (comes_open was is c.drained.inside.core made.result m.comes m.opens, m.back, m.stands, m.keeps, m.holds) in
    let R : Result (Unit {0}) (TakeError × Core _ Sat) → Type 0 = λ x. StoreTakesIn c.drained.inside.core x was is in
    let refused = subst R c.in-Err.is takes in
    let e = c.enter_for-2.ensures in
    let loan = c.enter_for.ensures in
    let again = c.enter_for-in-Err.ensures in
    let s = c.self.invariant in
    let call : IsStoreCall was is = inr (inr (inr (inr (inr (inl (c.drained.inside.core, made.result, takes)))))) in
    let log = c.self.inside.history.view.log in
    let more = entry c.me.inside.history.view.number (Some made.new.self) in
    let P : Core _ Sat → Type 0 = λ x. EntersOnce c.enter_for.new.self.view c.enter_for.new.caller.view (Some x) c.enter_for-in-Err.new.caller.view in
    let once_more = subst P refused.1.0 again.once in
    let kept = stays_out log more c.self.inside.sized made.new.self c.self.inside.loans.view c.drained.inside.loan.view c.enter_for.new.caller.view c.enter_for.new.self.view.log
    c.self.inside.claims.items c.drained.inside.core s.9 s.4 refl s.3 s.6 c.drained.invariant.1 loan.once loan.log
    c.enter_for.new.self.view c.enter_for-in-Err.new.caller.view c.enter_for-in-Err.new.self.view.log call refused.1.1 refl once_more again.log in
    goes_on_so g.J.Rooms.shards g.J.Rooms.history g.J.Rooms.loans g.J.Rooms.rows _ _ _ _ _ c.self.inside.history.view c.me.inside.history.view c.enter_for-2.new.caller.view c.enter_for-2.new.self.view
    c.self.inside.loans.view c.enter_for-in-Err.new.self.view c.self.inside.sized made.new.self c.self.inside.claims.items c.self.inside.claims.items s call e.once e.log e.tables.0 e.keeper
    (s.5, still_claimed c.self.inside.sized.store made.new.self.store c.self.inside.claims.items (same_cores c.self.inside.sized.store made.new.self.store refused.1.1) s.6)
    (again.tables.0 ∙ loan.tables.0) again.keeper kept

pub returns-clause-once : goal.returns-clause-once
returns-clause-once g c =
    let s = c.self.invariant in
    let made = c.bring-answer in
    let was = c.self.inside.sized.store in
    let is = made.new.self.store in
    let m = made.ensures in
    let takes : StoreTakesIn c.drained.inside.core made.result was is = (comes_open was is c.drained.inside.core made.result m.comes m.opens, m.back, m.stands, m.keeps, m.holds) in
    let gives : StoreState _ Sat → StoreState _ Sat → Type 0 = λ s t. StoreTakesIn c.args.drained.core (bare_answer c.match-answer.result) s t in
    let call : IsStoreCall was is = inr (inr (inr (inr (inr (inl (c.drained.inside.core, made.result, takes)))))) in
    let own = ap (λ (d : DrainedView _). d.core) c.drained.view_is in
    let same : made.result ≡ bare_answer c.match-answer.result = elim c.match-answer.branch [
      | in-Ok w ↦ w.in-Ok.is ∙ sym (ap bare_answer w.result-is)
      | in-Err w ↦ w.in-Err.is ∙ sym (ap bare_answer w.result-is)
    ] in
    let P : Core _ Sat × Result (Unit {0}) (TakeError × Core _ Sat) → Type 0 = λ x. StoreTakesIn x.0 x.1 c.self.inside.sized.store made.new.self.store in
    once gives c.self.inside.history.view c.me.inside.history.view c.enter_for-2.new.caller.view c.me.inside.shard _ c.self.inside.sized made.new.self c.me.view_is
    c.enter_for-2.ensures.once s.3 c.law.ensures.law c.law-2.ensures.law (subst P (λ n. (own n, same n)) takes) call s.4

pub returns-clause-takes : goal.returns-clause-takes
returns-clause-takes g c =
    let made = c.bring-answer in
    let was = c.self.inside.sized.store in
    let is = made.new.self.store in
    let m = made.ensures in
    let takes : StoreTakesIn c.drained.inside.core made.result was is = (comes_open was is c.drained.inside.core made.result m.comes m.opens, m.back, m.stands, m.keeps, m.holds) in
    let own = ap (λ (d : DrainedView _). d.core) c.drained.view_is in
    let same : made.result ≡ bare_answer c.match-answer.result = elim c.match-answer.branch [
      | in-Ok w ↦ w.in-Ok.is ∙ sym (ap bare_answer w.result-is)
      | in-Err w ↦ w.in-Err.is ∙ sym (ap bare_answer w.result-is)
    ] in
    let after : c.match-answer.self.sized ≡ made.new.self = elim c.match-answer.branch [
      | in-Ok w ↦ ap (λ (s : HeldShard _). s.sized) w.self-is
      | in-Err w ↦ ap (λ (s : HeldShard _). s.sized) w.self-is
    ] in
    let P : Core _ Sat × Result (Unit {0}) (TakeError × Core _ Sat) × HeldShard _ × SizedState _ Sat → Type 0 = λ x. StoreTakesIn x.0 x.1 x.2.sized.store x.3.store in
    subst P (λ n. (own n, same n, c.self.view_is n, sym after n)) takes

pub returns-clause-refused : goal.returns-clause-refused
returns-clause-refused g c =
    let made = c.bring-answer in
    let own = ap (λ (d : DrainedView _). d.core) c.drained.view_is in
    let same : made.result ≡ bare_answer c.match-answer.result = elim c.match-answer.branch [
      | in-Ok w ↦ w.in-Ok.is ∙ sym (ap bare_answer w.result-is)
      | in-Err w ↦ w.in-Err.is ∙ sym (ap bare_answer w.result-is)
    ] in
    let P : Core _ Sat × Result (Unit {0}) (TakeError × Core _ Sat) × HeldShard _ → Type 0 = λ x. StoreRefuses x.0 x.1 x.2.sized.store in
    subst P (λ n. (own n, same n, c.self.view_is n)) made.ensures.refused
