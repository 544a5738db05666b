use Rattle.std.proofs.Common.{sym, ap, ◌∙◌, subst, inr}
use Rattle.dq_growing.specs.Sizing.{way_for}
use Rattle.dq_growing.specs.Store.{StoreState}
use Rattle.dq_queue.specs.Calls.{StoreSweeps, IsStoreCall}
use Rattle.dq_queue.specs.Shards.{CallerView, HeldShard}
use Rattle.dq_words.specs.Seats.{Sat}
use Rattle.dq_queue.proofs.Claims.{brings_none, sweeps_long}
use Rattle.dq_queue.proofs.Histories.{once, one_name, stays}
use Rattle.dq_queue.proofs.Leaving.{numbers_kept}
use Rattle.dq_queue.proofs.shard.Shard.sweep.Goals as goal

pub enter_for-requires-clause-table : goal.enter_for-requires-clause-table
enter_for-requires-clause-table g c =
    let at = ap (λ (s : HeldShard _). s.number) c.self.view_is ∙ (sym c.requires ∙ sym (ap (λ (v : CallerView _). v.shard) c.me.view_is)) in
    one_name g.J.Rooms.history c.self.inside.history.table c.me.inside.history.table _ _ c.self.invariant.1 c.me.invariant.1 at

pub invariant_of-self : goal.invariant_of-self
invariant_of-self g c =
    let e = c.enter_for.ensures in
    let made = c.sweep-answer in
    let s = c.self.inside.sized.store in
    let t = made.new.self.store in
    let way = way_for c.self.inside.sized.sizing.sweep c.args.cancels s.cores in
    let gives : StoreSweeps made.result s t = ((λ is. (way, made.new.self.sizing.sweep, made.ensures.sweeps is)), made.ensures.rests, made.ensures.keeps, made.ensures.holds, numbers_kept s t made.ensures.words) in
    let call : IsStoreCall s t = inr (inr (inr (inr (inr (inr (inr (inr (inr (inr (inr (inr (inr (inr (made.result, gives)))))))))))))) in
    stays g.J.Rooms.shards g.J.Rooms.history g.J.Rooms.loans g.J.Rooms.rows _ _ _ _ c.self.inside.history.view c.me.inside.history.view c.enter_for.new.caller.view c.enter_for.new.self.view
    c.self.inside.loans.view c.self.inside.sized made.new.self c.self.inside.claims.items c.self.invariant call e.once e.log e.tables.0 e.keeper (brings_none s t made.ensures.words (sweeps_long s t way made.new.self.sizing.sweep made.result made.ensures.sweeps made.ensures.rests))

pub returns-clause-once : goal.returns-clause-once
returns-clause-once g c =
    let kept = c.self.invariant in
    let made = c.sweep-answer in
    let s = c.self.inside.sized.store in
    let t = made.new.self.store in
    let way = way_for c.self.inside.sized.sizing.sweep c.args.cancels s.cores in
    let gives : StoreSweeps made.result s t = ((λ is. (way, made.new.self.sizing.sweep, made.ensures.sweeps is)), made.ensures.rests, made.ensures.keeps, made.ensures.holds, numbers_kept s t made.ensures.words) in
    let call : IsStoreCall s t = inr (inr (inr (inr (inr (inr (inr (inr (inr (inr (inr (inr (inr (inr (made.result, gives)))))))))))))) in
    let P : StoreState _ Sat → StoreState _ Sat → Type 0 = λ x y. StoreSweeps made.result x y in
    once P c.self.inside.history.view c.me.inside.history.view c.enter_for.new.caller.view c.me.inside.shard _ c.self.inside.sized made.new.self c.me.view_is
    c.enter_for.ensures.once kept.3 c.law.ensures.law c.law-2.ensures.law gives call kept.4

pub returns-clause-sweeps : goal.returns-clause-sweeps
returns-clause-sweeps g c =
    let made = c.sweep-answer in
    let s = c.self.inside.sized.store in
    let t = made.new.self.store in
    let way = way_for c.self.inside.sized.sizing.sweep c.args.cancels s.cores in
    let gives : StoreSweeps made.result s t = ((λ is. (way, made.new.self.sizing.sweep, made.ensures.sweeps is)), made.ensures.rests, made.ensures.keeps, made.ensures.holds, numbers_kept s t made.ensures.words) in
    let P : HeldShard _ → Type 0 = λ x. StoreSweeps made.result x.sized.store t in
    subst P c.self.view_is gives
