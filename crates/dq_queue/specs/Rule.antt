-- The rule over the views of all witnesses.
use Rattle.std.specs.Prelude.{◌≡◌, ℕ, ◌<◌, ◌≤◌, List, [], true}
use mathlib.Core.Option.{some}
use lib.ListN.{get_elem?}
use Rattle.atomic_table.specs.Table.{State}
use Rattle.dq_queue.specs.declared.journal.views.Entry.{Entry}
use Rattle.dq_queue.specs.declared.journal.views.View.{View}
use Rattle.dq_queue.specs.History.{entries_by, Continues}

-- what the rule says of one witness, where there is this history and so many callers were made
pub record Fits {E : Type 0} (log : List (Entry E)) (made j : ℕ) (v : View E) : Type 0 where
  pub keeper : v.keeps ≡ true → (j ≡ 0) × (v.log ≡ log) × (v.made ≡ made)
  pub seen : Continues log v.log
  pub told : Continues log v.told
  -- of the number that is with the witness, the history has just these entries
  pub mine : v.holds ≡ true → (v.number < made) × (entries_by v.number log ≡ v.mine)

-- a number is with one witness alone
abbrev pub AreApart : {E : Type 0} → List (View E) → Type 0
AreApart {E} views =
    (j k : ℕ) (u v : View E) → get_elem? views j ≡ some u → get_elem? views k ≡ some v
    → u.holds ≡ true → v.holds ≡ true → u.number ≡ v.number → j ≡ k

-- there is one history
pub record HasOne {E : Type 0} (log : List (Entry E)) (made : ℕ) (t : State ℕ (View E)) : Type 0 where
  pub each : (j : ℕ) (v : View E) → get_elem? t.views j ≡ some v → Fits log made j v
  pub apart : AreApart t.views
  pub unmade : (n : ℕ) → made ≤ n → entries_by n log ≡ []

abbrev pub HasOneHistory : {E : Type 0} → ℕ → State ℕ (View E) → Type 0
HasOneHistory {E} key t = (log : List (Entry E)) × (made : ℕ) × HasOne log made t
