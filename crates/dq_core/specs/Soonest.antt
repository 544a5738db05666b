-- No public clause cites this module.
-- What a search for the soonest entry finds.
use Rattle.std.specs.Prelude.{◌≡◌, ℕ, ◌<◌, List, length, slice_index_or}
use Rattle.dq_core.specs.declared.plain.Pending.{Pending}
use Rattle.dq_core.specs.Plain.{NoneSooner}

-- the entry at i has the deadline t, and none has one before it
pub record IsSoonest {T : Type 0} (es : List (Pending T)) (i t : ℕ) : Type 0 where
  pub inside : i < length es
  pub deadline : (d : Pending T) → (slice_index_or es i d).deadline ≡ t
  pub least : NoneSooner es t
