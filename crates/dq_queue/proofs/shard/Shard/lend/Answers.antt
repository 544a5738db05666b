use Rattle.std.proofs.Common.{◌≡◌, Option, Some, refl, sym, ap, ◌∙◌, subst, inl, inr}
use Rattle.dq_core.specs.Core.{Core}
use Rattle.dq_queue.specs.History.{entry}
use Rattle.dq_growing.specs.Sized.{SizedState}
use Rattle.dq_growing.specs.Store.{StoreState}
use Rattle.dq_words.specs.Seats.{Sat}
use Rattle.dq_queue.specs.Calls.{StoreGives, IsStoreCall}
use Rattle.dq_queue.specs.Loans.{core_out, is_away}
use Rattle.dq_queue.specs.Shards.{HeldShard}
use Rattle.dq_queue.proofs.Claims.{gives_of, still_claimed, were_there}
use Rattle.dq_queue.proofs.Histories.{goes_on_so, once, stays}
use Rattle.dq_queue.proofs.Lending.{goes_out, lent_now}
use Rattle.dq_queue.proofs.shard.Shard.lend.Goals.{in-None, in-Some}
use Rattle.dq_queue.proofs.shard.Shard.lend.Goals as goal

pub invariant_of-self : goal.invariant_of-self
invariant_of-self g c =
    let made = c.take_needless-answer in
    let was = c.self.inside.sized.store in
    let is = made.new.self.store in
    let m = made.ensures in
    let gives : StoreGives made.result was is = (gives_of was is made.result m.drained m.gone, m.opens, m.were, m.notes, m.stands, m.keeps, m.holds) in
    let e = c.enter_for.ensures in
    let call : IsStoreCall was is = inr (inr (inr (inr (inr (inr (inl (made.result, gives))))))) in
    stays g.J.Rooms.shards g.J.Rooms.history g.J.Rooms.loans g.J.Rooms.rows _ _ _ _ c.self.inside.history.view c.me.inside.history.view c.enter_for.new.caller.view c.enter_for.new.self.view
    c.self.inside.loans.view c.self.inside.sized made.new.self c.self.inside.claims.items c.self.invariant call e.once e.log e.tables.0 e.keeper (were_there was is m.were)

pub invariant_of-result : goal.invariant_of-result
invariant_of-result g c =
    let loan = c.enter_for-in-Some.ensures in (
      loan.tables.1 ∙ (c.requires.table ∙ ap g.J.Rooms.loans (sym c.number-shard.ensures)),
      lent_now c.self.inside.loans.view c.args.loan.view c.enter_for-in-Some.new.caller.view c.in-Some.core loan.once c.enter_for-in-Some.new.self.view.log loan.log loan.caller
          (ap is_away c.requires.unused.1),
    )

pub invariant_of-self-in-Some : goal.invariant_of-self-in-Some
invariant_of-self-in-Some g c =
    let made = c.take_needless-answer in
    let was = c.self.inside.sized.store in
    let is = made.new.self.store in
    let m = made.ensures in
    let gives : StoreGives made.result was is = (gives_of was is made.result m.drained m.gone, m.opens, m.were, m.notes, m.stands, m.keeps, m.holds) in
    let e = c.enter_for.ensures in
    let loan = c.enter_for-in-Some.ensures in
    let s = c.self.invariant in
    let call : IsStoreCall was is = inr (inr (inr (inr (inr (inr (inl (made.result, gives))))))) in
    let P : Option (Core _ Sat) → Type 0 = λ x. StoreGives x was is in
    let kept = goes_out c.self.inside.history.view.log (entry c.me.inside.history.view.number (Some made.new.self)) c.self.inside.sized made.new.self c.self.inside.loans.view c.args.loan.view
    c.enter_for-in-Some.new.caller.view c.enter_for-in-Some.new.self.view.log c.self.inside.claims.items c.in-Some.core s.9 s.4 refl s.3 (subst P c.in-Some.is gives) s.6
    loan.once loan.log in
    goes_on_so g.J.Rooms.shards g.J.Rooms.history g.J.Rooms.loans g.J.Rooms.rows _ _ _ _ _ c.self.inside.history.view c.me.inside.history.view c.enter_for.new.caller.view c.enter_for.new.self.view
    c.self.inside.loans.view c.enter_for-in-Some.new.self.view c.self.inside.sized made.new.self c.self.inside.claims.items c.self.inside.claims.items s call e.once e.log e.tables.0 e.keeper
    (s.5, still_claimed was is c.self.inside.claims.items (were_there was is m.were) s.6) loan.tables.0 loan.keeper kept

pub returns-clause-once : goal.returns-clause-once
returns-clause-once g c =
    let s = c.self.invariant in
    let made = c.take_needless-answer in
    let was = c.self.inside.sized.store in
    let is = made.new.self.store in
    let m = made.ensures in
    let gives : StoreGives made.result was is = (gives_of was is made.result m.drained m.gone, m.opens, m.were, m.notes, m.stands, m.keeps, m.holds) in
    let Q : StoreState _ Sat → StoreState _ Sat → Type 0 = λ s t. StoreGives (core_out c.match-answer.result) s t in
    let call : IsStoreCall was is = inr (inr (inr (inr (inr (inr (inl (made.result, gives))))))) in
    let same : made.result ≡ core_out c.match-answer.result = elim c.match-answer.branch [
      | in-None w ↦ w.in-None.is ∙ sym (ap core_out w.result-is)
      | in-Some w ↦ w.in-Some.is ∙ sym (ap core_out w.result-is)
    ] in
    let P : Option (Core _ Sat) → Type 0 = λ x. StoreGives x was is in
    once Q c.self.inside.history.view c.me.inside.history.view c.enter_for.new.caller.view c.me.inside.shard _ c.self.inside.sized made.new.self c.me.view_is
    c.enter_for.ensures.once s.3 c.law.ensures.law c.law-2.ensures.law (subst P same gives) call s.4

pub returns-clause-gives : goal.returns-clause-gives
returns-clause-gives g c =
    let made = c.take_needless-answer in
    let was = c.self.inside.sized.store in
    let is = made.new.self.store in
    let m = made.ensures in
    let gives : StoreGives made.result was is = (gives_of was is made.result m.drained m.gone, m.opens, m.were, m.notes, m.stands, m.keeps, m.holds) in
    let same : made.result ≡ core_out c.match-answer.result = elim c.match-answer.branch [
      | in-None w ↦ w.in-None.is ∙ sym (ap core_out w.result-is)
      | in-Some w ↦ w.in-Some.is ∙ sym (ap core_out w.result-is)
    ] in
    let after : c.match-answer.self.sized ≡ made.new.self = elim c.match-answer.branch [
      | in-None w ↦ ap (λ (s : HeldShard _). s.sized) w.self-is
      | in-Some w ↦ ap (λ (s : HeldShard _). s.sized) w.self-is
    ] in
    let P : Option (Core _ Sat) × HeldShard _ × SizedState _ Sat → Type 0 = λ x. StoreGives x.0 x.1.sized.store x.2.store in
    subst P (λ n. (same n, c.self.view_is n, sym after n)) gives
