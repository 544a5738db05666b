use Rattle.std.proofs.Common.{None, sym, ap, ◌∙◌, subst, inl, inr}
use Rattle.dq_growing.specs.Store.{StoreState}
use Rattle.dq_queue.specs.Calls.{StorePolls, IsStoreCall}
use Rattle.dq_queue.specs.Shards.{CallerView, HeldShard}
use Rattle.dq_words.specs.Seats.{Sat}
use Rattle.dq_queue.proofs.Claims.{brings_none, polls_long}
use Rattle.dq_queue.proofs.Histories.{once, one_name, stays}
use Rattle.dq_queue.proofs.Leaving.{numbers_kept}
use Rattle.dq_queue.proofs.shard.Shard.poll.Goals as goal

pub enter_for-requires-clause-table : goal.enter_for-requires-clause-table
enter_for-requires-clause-table g c =
    let at = ap (λ (s : HeldShard _). s.number) c.self.view_is ∙ (sym c.requires ∙ sym (ap (λ (v : CallerView _). v.shard) c.me.view_is)) in
    one_name g.J.Rooms.history c.self.inside.history.table c.me.inside.history.table _ _ c.self.invariant.1 c.me.invariant.1 at

pub invariant_of-self : goal.invariant_of-self
invariant_of-self g c =
    let e = c.enter_for.ensures in
    let made = c.poll-answer in
    let s = c.self.inside.sized.store in
    let t = made.new.self.store in
    let gives : StorePolls c.args.tick None made.result s t = (made.ensures.polls, made.ensures.keeps, made.ensures.goes_out, made.ensures.holds, made.ensures.in_force, numbers_kept s t made.ensures.words) in
    let call : IsStoreCall s t = inr (inr (inr (inr (inl (c.args.tick, None, made.result, gives))))) in
    stays g.J.Rooms.shards g.J.Rooms.history g.J.Rooms.loans g.J.Rooms.rows _ _ _ _ c.self.inside.history.view c.me.inside.history.view c.enter_for.new.caller.view c.enter_for.new.self.view
    c.self.inside.loans.view c.self.inside.sized made.new.self c.self.inside.claims.items c.self.invariant call e.once e.log e.tables.0 e.keeper (brings_none s t made.ensures.words (polls_long s t c.args.tick None made.result made.ensures.polls))

pub returns-clause-once : goal.returns-clause-once
returns-clause-once g c =
    let kept = c.self.invariant in
    let made = c.poll-answer in
    let s = c.self.inside.sized.store in
    let t = made.new.self.store in
    let gives : StorePolls c.args.tick None made.result s t = (made.ensures.polls, made.ensures.keeps, made.ensures.goes_out, made.ensures.holds, made.ensures.in_force, numbers_kept s t made.ensures.words) in
    let call : IsStoreCall s t = inr (inr (inr (inr (inl (c.args.tick, None, made.result, gives))))) in
    let P : StoreState _ Sat → StoreState _ Sat → Type 0 = λ x y. StorePolls c.args.tick None made.result x y in
    once P c.self.inside.history.view c.me.inside.history.view c.enter_for.new.caller.view c.me.inside.shard _ c.self.inside.sized made.new.self c.me.view_is
    c.enter_for.ensures.once kept.3 c.law.ensures.law c.law-2.ensures.law gives call kept.4

pub returns-clause-polls : goal.returns-clause-polls
returns-clause-polls g c =
    let made = c.poll-answer in
    let s = c.self.inside.sized.store in
    let t = made.new.self.store in
    let gives : StorePolls c.args.tick None made.result s t = (made.ensures.polls, made.ensures.keeps, made.ensures.goes_out, made.ensures.holds, made.ensures.in_force, numbers_kept s t made.ensures.words) in
    let P : HeldShard _ → Type 0 = λ x. StorePolls c.args.tick None made.result x.sized.store t in
    subst P c.self.view_is gives
