-- What claims and the clerk say.
use Rattle.std.specs.Prelude.{◌≡◌, ℕ, List, ◌==◌, if◌then◌else◌}
use Rattle.dq_words.specs.declared.directory.clerk.AddError.{AddError}
use Rattle.dq_words.specs.declared.directory.clerk.AddError.TheVariants.{Full, NoMemory}
use Rattle.boxcar.specs.Slot.{Named}
use Rattle.dq_words.specs.DirectoryRows.{StandsAt, name_at}

-- that a number is of a thing, in the directory that has this row
pub record Claimed (X : Type 0) : Type 0 where
  pub number : ℕ
  pub thing : X
  pub row : ℕ

-- the claim is of this directory: of the row in which its number stands there
abbrev pub IsOf : {X : Type 0} → List Named → Claimed X → Type 0
IsOf rows c = (k : ℕ) × (j : ℕ) × StandsAt c.number k j × (c.row ≡ name_at rows k)

-- whose directory it is, how many numbers were given, and how many may be
pub record Desk : Type 0 where
  pub rows : List Named
  pub given : ℕ
  pub most : ℕ

-- the directory is full exactly if it gave all its numbers; else memory was refused
abbrev pub why_refused : Desk → AddError
why_refused d = if d.given == d.most then Full d.most else NoMemory
