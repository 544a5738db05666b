-- What a search for the soonest entry has found so far.
use Rattle.std.proofs.Common.{◌≡◌, ℕ, ◌+◌, ◌<◌, ◌≤◌, List, length, get_or, sym, ap, ⊎_elim, arith}
use Rattle.std.proofs.lemmas.List.{get_or_read}
use Rattle.std.proofs.lemmas.Bool.{cases_lt}
use Rattle.dq_core.specs.declared.plain.Pending.{Pending}
use Rattle.dq_core.specs.Soonest.{IsSoonest}

-- of the first n entries none has a deadline before t, which is that of the entry at i
pub record IsSoonestOf {T : Type 0} (es : List (Pending T)) (n i t : ℕ) : Type 0 where
  pub inside : i < length es
  pub deadline : (d : Pending T) → (get_or es i d).deadline ≡ t
  pub least : (k : ℕ) (d : Pending T) → k < n → k < length es → t ≤ (get_or es k d).deadline
