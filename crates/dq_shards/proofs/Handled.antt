-- A handle's call: it is that of the caller of the key's shard, or the key's shard is out of range.
use Rattle.std.proofs.Common.{◌≡◌, ℕ, ◌<◌, ◌≤◌, List, length, get_or, set, refl, sym, ap, subst, Some, length-set, arith}
use Rattle.std.specs.Prelude.{slice_get}
use Rattle.std.proofs.lemmas.Option.{slice_get_read}
use Rattle.dq_words.specs.declared.views.View.{View}
use Rattle.dq_words.specs.Seats.{Sat}
use Rattle.dq_shards.specs.declared.errors.TheConstants.{SHARD_LIMIT}
use Rattle.dq_shards.specs.Handles.{HandleCallers, OfShard, OutOfRange}

module _ (old inside : HandleCallers) (n i shard : ℕ) (own : inside ≡ old) (len : n ≡ length inside) (asked : i ≡ shard) where
  pub beyond : n ≤ i → OutOfRange old shard old
  beyond h = let same : length inside ≡ length old = ap length own in (omega (arith, same, len, asked, h), refl)

  pub of_caller : (goes : View → View → Type 0) (v w : Sat) → i < n → v ≡ get_or inside i v → goes v.view w.view → w.table ≡ v.table → OfShard old shard goes (set inside i w)
  of_caller goes v w inner read went stays =
      let got : slice_get inside i ≡ Some v = slice_get_read inside n i v len inner read in
      let there : slice_get old shard ≡ Some v = subst (λ (q : HandleCallers × ℕ). slice_get q.0 q.1 ≡ Some v) (λ q. (own q, asked q)) got in
      (v, w, there, went, stays, (λ q. set (own q) (asked q) w))

-- the callers stay as many
pub as_many : (vs : HandleCallers) (i : ℕ) (w : Sat) → length vs ≤ SHARD_LIMIT → length (set vs i w) ≤ SHARD_LIMIT
as_many vs i w few = subst (λ n. n ≤ SHARD_LIMIT) (sym (length-set vs i w)) few
