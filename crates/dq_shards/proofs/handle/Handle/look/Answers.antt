use Rattle.std.proofs.Common.{refl, ap, ◌∙◌, inl, inr}
use Rattle.dq_words.specs.CallerCalls.{CallerLooks}
use Rattle.dq_shards.proofs.Handled.{beyond, of_caller, as_many}
use Rattle.dq_shards.proofs.handle.Handle.look.Goals as goal

pub invariant_of-self : goal.invariant_of-self
invariant_of-self g c = as_many c.self.inside.callers.items c.shard-shard.result c.look.new.self c.self.invariant

pub returns-then-shard-len : goal.returns-then-shard-len
returns-then-shard-len g c =
    inl (of_caller c.args.self.now c.self.inside.callers.items c.len.result c.shard-shard.result c.args.key.now.entry.shard
    c.self.view_is (c.len.ensures ∙ c.self.inside.callers.ok.0) (c.shard-shard.ensures ∙ ap (λ e. e.shard) c.entry.ensures)
    (λ v w. CallerLooks v c.args.key.now c.look.result w) c.index_mut.result.now c.look.new.self
    c.if-shard-len.true c.index_mut.ensures.value c.look.ensures.looks c.look.ensures.table)

pub returns : goal.returns
returns g c =
    inr (
      beyond c.args.self.now c.self.inside.callers.items c.len.result c.shard-shard.result c.args.key.now.entry.shard
          c.self.view_is (c.len.ensures ∙ c.self.inside.callers.ok.0) (c.shard-shard.ensures ∙ ap (λ e. e.shard) c.entry.ensures) c.if-shard-len.false,
      refl,
    )
