use Rattle.std.proofs.Common.{Some, sym, ap, ◌∙◌, subst, inl, inr}
use Rattle.dq_growing.specs.Store.{StoreState}
use Rattle.dq_words.specs.Seats.{Sat}
use Rattle.dq_queue.specs.Calls.{StorePollsBeside, IsStoreCall}
use Rattle.dq_queue.specs.Shards.{CallerView, HeldShard}
use Rattle.dq_queue.proofs.Histories.{once, one_name, stays}
use Rattle.dq_queue.proofs.shard.Shard.poll_beside.Goals as goal

pub enter_for-requires-clause-table : goal.enter_for-requires-clause-table
enter_for-requires-clause-table g c =
    let at = ap (λ (s : HeldShard _). s.number) c.self.view_is ∙ (sym c.requires ∙ sym (ap (λ (v : CallerView _). v.shard) c.me.view_is)) in
    let made = c.poll_beside-answer in
    one_name g.J.Rooms.history c.self.inside.history.table c.me.inside.history.table _ _ c.self.invariant.1 c.me.invariant.1 at

pub invariant_of-self : goal.invariant_of-self
invariant_of-self g c =
    let made = c.poll_beside-answer in
    let e = c.enter_for.ensures in
    let call : IsStoreCall c.self.inside.sized.store made.new.sized.store = inr (inr (inr (inr (inl (c.args.tick, Some c.args.most, made.result, made.ensures.polls))))) in
    stays g.J.Rooms.shards g.J.Rooms.history g.J.Rooms.loans g.J.Rooms.rows _ _ _ _ c.self.inside.history.view c.me.inside.history.view c.enter_for.new.caller.view c.enter_for.new.self.view
    c.self.inside.loans.view c.self.inside.sized made.new.sized c.self.inside.claims.items c.self.invariant call e.once e.log e.tables.0 e.keeper made.ensures.cores

pub returns-clause-once : goal.returns-clause-once
returns-clause-once g c =
    let s = c.self.invariant in
    let made = c.poll_beside-answer in
    let gives : StoreState _ Sat → StoreState _ Sat → Type 0 = λ s t. StorePollsBeside c.args.promise.now c.args.tick (Some c.args.most) made.result s t in
    let call : IsStoreCall c.self.inside.sized.store made.new.sized.store = inr (inr (inr (inr (inl (c.args.tick, Some c.args.most, made.result, made.ensures.polls))))) in
    once gives c.self.inside.history.view c.me.inside.history.view c.enter_for.new.caller.view c.me.inside.shard _ c.self.inside.sized made.new.sized c.me.view_is
    c.enter_for.ensures.once s.3 made.ensures.stores.0 made.ensures.stores.1 (made.ensures.polls, made.ensures.kept) call s.4

pub returns-clause-polls : goal.returns-clause-polls
returns-clause-polls g c =
    let made = c.poll_beside-answer in
    let P : HeldShard _ → Type 0 = λ s. StorePollsBeside c.args.promise.now c.args.tick (Some c.args.most) made.result s.sized.store made.new.sized.store in
    subst P c.self.view_is (made.ensures.polls, made.ensures.kept)
