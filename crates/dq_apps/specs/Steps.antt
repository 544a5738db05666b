-- No public clause cites this module.
-- What the steps of the calls do.
use Rattle.std.specs.Prelude.{◌≡◌, ℕ, Bool, Result, Ok, Err}
use Rattle.dq_core.specs.declared.errors.CoreError.{CoreError}
use Rattle.dq_apps.specs.Cache.{Item, Cache, IsKeptAt}
use Rattle.dq_apps.specs.Calls.{IsKeptWorn, Replaces, Adds, AddRefused}

module _ {K V : Type 0} where
  -- the key is kept, at some slot
  abbrev pub IsKept : (K → K → Bool) → Cache K V → K → Type 0
  IsKept eq c key = (i : ℕ) × (x : Item K V) × IsKeptAt eq c key i x

  -- a put at a key that is kept: its value is replaced, or the new one comes back
  abbrev pub PutsKept : (K → K → Bool) → Cache K V → K → V → ℕ → Result V V → Cache K V
      → Type 0
  PutsKept eq b key value when (Ok old) c = Replaces eq b key value when old c
  PutsKept eq b key value when (Err back) c =
      IsKeptWorn eq b key × (back ≡ value) × (c ≡ b)

  -- a put at a key that isn't kept: it is added, or comes back with its value
  abbrev pub PutsNew : (K → K → Bool) → Cache K V → K → V → ℕ
      → Result (Unit {0}) (CoreError × K × V) → Cache K V → Type 0
  PutsNew eq b key value when (Ok done) c = Adds eq b key value when c
  PutsNew eq b key value when (Err e) c =
      AddRefused b e.0 × (e.1 ≡ key) × (e.2 ≡ value) × (c ≡ b)
