use Rattle.std.proofs.Common.{refl, ap, ◌∙◌, inl, inr}
use Rattle.dq_words.specs.CallerCalls.{CallerExtends}
use Rattle.dq_shards.proofs.Handled.{beyond, of_caller, as_many}
use Rattle.dq_shards.proofs.handle.Handle.extend.Goals as goal

pub invariant_of-self : goal.invariant_of-self
invariant_of-self g c = as_many c.self.inside.callers.items c.shard-shard.result c.extend.new.self c.self.invariant

pub returns-then-shard-len : goal.returns-then-shard-len
returns-then-shard-len g c =
    inl (of_caller c.args.self.now c.self.inside.callers.items c.len.result c.shard-shard.result c.args.key.now.entry.shard
    c.self.view_is (c.len.ensures ∙ c.self.inside.callers.ok.0) (c.shard-shard.ensures ∙ ap (λ e. e.shard) c.entry.ensures)
    (λ v w. CallerExtends v c.args.key.now c.args.when c.extend.result w) c.index_mut.result.now c.extend.new.self
    c.if-shard-len.true c.index_mut.ensures.value c.extend.ensures.extends c.extend.ensures.table)

pub returns-then-when-gt-LAST_TICK : goal.returns-then-when-gt-LAST_TICK
returns-then-when-gt-LAST_TICK g c =
    inr (
      beyond c.args.self.now c.self.inside.callers.items c.len.result c.shard-shard.result c.args.key.now.entry.shard
          c.self.view_is (c.len.ensures ∙ c.self.inside.callers.ok.0) (c.shard-shard.ensures ∙ ap (λ e. e.shard) c.entry.ensures) c.if-shard-len.false,
      inl (c.if-when-gt-LAST_TICK.true, refl),
    )

pub returns : goal.returns
returns g c =
    inr (
      beyond c.args.self.now c.self.inside.callers.items c.len.result c.shard-shard.result c.args.key.now.entry.shard
          c.self.view_is (c.len.ensures ∙ c.self.inside.callers.ok.0) (c.shard-shard.ensures ∙ ap (λ e. e.shard) c.entry.ensures) c.if-shard-len.false,
      inr (c.if-when-gt-LAST_TICK.false, refl),
    )
