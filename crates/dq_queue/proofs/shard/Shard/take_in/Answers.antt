use Rattle.std.proofs.Common.{IfErr, OnOk, Some, refl, sym, ap, ◌∙◌, subst, inl, inr}
use Rattle.dq_queue.specs.History.{entry}
use Rattle.dq_growing.specs.Store.{StoreState}
use Rattle.dq_words.specs.Seats.{Sat}
use Rattle.dq_queue.specs.Calls.{StoreTakesIn, IsStoreCall}
use Rattle.dq_queue.specs.Claims.{HasClaim, RefusedAsNew}
use Rattle.dq_queue.specs.Runs.{IsNewNumber}
use Rattle.dq_queue.specs.Shards.{CallerView, HeldShard}
use Rattle.dq_queue.proofs.Histories.{goes_on_so, once, one_name}
use Rattle.dq_queue.proofs.Lending.{new_number, takes_new}
use Rattle.dq_queue.proofs.shard.Shard.take_in.Goals as goal

pub enter_for-requires-clause-table : goal.enter_for-requires-clause-table
enter_for-requires-clause-table g c =
    let at = ap (λ (s : HeldShard _). s.number) c.self.view_is ∙ (sym c.requires.number ∙ sym (ap (λ (v : CallerView _). v.shard) c.me.view_is)) in
    let made = c.take_new-answer in
    one_name g.J.Rooms.history c.self.inside.history.table c.me.inside.history.table _ _ c.self.invariant.1 c.me.invariant.1 at

pub invariant_of-self : goal.invariant_of-self
invariant_of-self g c =
    let made = c.take_new-answer in
    let e = c.enter_for.ensures in
    let s = c.self.invariant in
    let call : IsStoreCall c.self.inside.sized.store made.new.sized.store = inr (inr (inr (inr (inr (inl (c.args.core, made.result, made.ensures.takes)))))) in
    let kept = takes_new g.J.Rooms.rows c.self.inside.history.view.log (entry c.me.inside.history.view.number (Some made.new.sized)) c.self.inside.sized made.new.sized c.self.inside.loans.view.log
    c.self.inside.claims.items made.new.claims.items c.args.core c.args.claim.now made.result s.9 s.4 refl s.3 made.ensures.takes (s.5, s.6) made.ensures.fresh made.ensures.more made.ensures.same
    c.requires.claim in
    goes_on_so g.J.Rooms.shards g.J.Rooms.history g.J.Rooms.loans g.J.Rooms.rows _ _ _ _ _ c.self.inside.history.view c.me.inside.history.view c.enter_for.new.caller.view c.enter_for.new.self.view
    c.self.inside.loans.view c.self.inside.loans.view c.self.inside.sized made.new.sized c.self.inside.claims.items made.new.claims.items s call e.once e.log e.tables.0 e.keeper
    (kept.0, kept.1) refl s.8 kept.2

pub returns-clause-once : goal.returns-clause-once
returns-clause-once g c =
    let s = c.self.invariant in
    let made = c.take_new-answer in
    let gives : StoreState _ Sat → StoreState _ Sat → Type 0 = λ s t. StoreTakesIn c.args.core made.result s t in
    let call : IsStoreCall c.self.inside.sized.store made.new.sized.store = inr (inr (inr (inr (inr (inl (c.args.core, made.result, made.ensures.takes)))))) in
    once gives c.self.inside.history.view c.me.inside.history.view c.enter_for.new.caller.view c.me.inside.shard _ c.self.inside.sized made.new.sized c.me.view_is
    c.enter_for.ensures.once s.3 made.ensures.stores.0 made.ensures.stores.1 made.ensures.takes call s.4

pub returns-clause-takes : goal.returns-clause-takes
returns-clause-takes g c =
    let made = c.take_new-answer in
    let P : HeldShard _ → Type 0 = λ s. StoreTakesIn c.args.core made.result s.sized.store made.new.sized.store in
    subst P c.self.view_is made.ensures.takes

pub returns-clause-fresh : goal.returns-clause-fresh
returns-clause-fresh g c =
    let made = c.take_new-answer in
    let P : HeldShard _ → Type 0 = λ s. OnOk made.result (IsNewNumber s.history.log c.args.core.shard) in
    subst P c.self.view_is (new_number c.self.inside.history.view.log c.self.inside.sized.store c.self.inside.loans.view.log c.self.inside.claims.items c.args.core c.args.claim.now made.result c.self.invariant.9
    made.ensures.fresh c.requires.claim.1)

pub returns-clause-refused : goal.returns-clause-refused
returns-clause-refused g c =
    let made = c.take_new-answer in
    let P : HeldShard _ → Type 0 = λ s. IfErr made.result (λ e. RefusedAsNew s.claims c.args.claim.now.number s.sized.store c.args.core e.0) in
    subst P c.self.view_is made.ensures.refused

pub returns-clause-unclaimed : goal.returns-clause-unclaimed
returns-clause-unclaimed g c =
    let made = c.take_new-answer in
    let P : HeldShard _ → Type 0 = λ s. OnOk made.result (¬ HasClaim s.claims c.args.claim.now.number) in
    subst P c.self.view_is made.ensures.fresh
