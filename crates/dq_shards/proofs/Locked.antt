-- A call under a shard's lock, by the guard that holds it.
use Rattle.std.proofs.Common.{◌≡◌, ℕ, ap, sym, ◌∙◌, subst}
use Rattle.dq_shards.specs.Shard.{ShardView, IsShard}
use Rattle.dq_shards.specs.Changes.{OnNumbered}

pub on_numbered : {T R : Type 0} (n : ℕ) (gives : ShardView T → R → ShardView T → Type 0) (result : R) (held was now read : ShardView T)
    → IsShard held → held.core.shard ≡ n → was ≡ held → IsShard read → read ≡ now → gives was result now → OnNumbered {T = T} n gives result
on_numbered {T} n gives result held was now read law at e l f g =
    (was, now, subst (λ (s : ShardView T). IsShard s) (sym e) law, subst (λ (s : ShardView T). IsShard s) f l, (ap (λ (s : ShardView T). s.core.shard) e ∙ at, g))
