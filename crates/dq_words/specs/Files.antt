-- What the lists of all views say of one slot at one stamp.
use Rattle.std.specs.Prelude.{◌≡◌, ◌⊎◌, ℕ, ◌+◌, ◌≤◌, ◌==◌, ◌&&◌, List, [], ◌∷◌, ◌++◌, Bool}
use Rattle.std.specs.Prelude.{if◌then◌else◌}
use Rattle.dq_words.specs.declared.views.Call.{Call}
use Rattle.dq_words.specs.declared.views.Call.TheVariants.{Extend, Cancel}
use Rattle.dq_words.specs.declared.views.Write.{Write}
use Rattle.dq_words.specs.declared.views.Write.TheVariants.{Begin, Expired, Renewed, Removed}
use Rattle.dq_words.specs.declared.views.View.{View}

-- whether two slots and two stamps are the same
abbrev pub is_at : ℕ → ℕ → ℕ → ℕ → Bool
is_at i s j t = (i == j) && (s == t)

-- the list, with x in front where the test holds
abbrev pub with_if : {A : Type 0} → Bool → A → List A → List A
with_if b x xs = if b then x ∷ xs else xs

-- the deadlines with which a stamp was given
abbrev pub bases_at : ℕ → ℕ → List Write → List ℕ
bases_at i s [] = []
bases_at i s (Begin j t b ∷ ws) = with_if (is_at i s j t) b (bases_at i s ws)
bases_at i s (Expired j t d ∷ ws) = bases_at i s ws
bases_at i s (Renewed j t d b ∷ ws) = with_if (is_at i s j (t + 1)) b (bases_at i s ws)
bases_at i s (Removed j t d ∷ ws) = bases_at i s ws

-- how the keeper ended a stamp: the mark that the word then had (0 for the next stamp), and the
-- deadline
abbrev pub ends_at : ℕ → ℕ → List Write → List (ℕ × ℕ)
ends_at i s [] = []
ends_at i s (Begin j t b ∷ ws) = ends_at i s ws
ends_at i s (Expired j t d ∷ ws) = with_if (is_at i s j t) (2, d) (ends_at i s ws)
ends_at i s (Renewed j t d b ∷ ws) = with_if (is_at i s j t) (0, d) (ends_at i s ws)
ends_at i s (Removed j t d ∷ ws) = with_if (is_at i s j t) (3, d) (ends_at i s ws)

-- the extends that were accepted at a stamp
abbrev pub extends_at : ℕ → ℕ → List Call → List ℕ
extends_at i s [] = []
extends_at i s (Extend j t w ∷ cs) = with_if (is_at i s j t) w (extends_at i s cs)
extends_at i s (Cancel j t d ∷ cs) = extends_at i s cs

-- the deadlines that accepted cancels gave up
abbrev pub cancels_at : ℕ → ℕ → List Call → List ℕ
cancels_at i s [] = []
cancels_at i s (Extend j t w ∷ cs) = cancels_at i s cs
cancels_at i s (Cancel j t d ∷ cs) = with_if (is_at i s j t) d (cancels_at i s cs)

-- the keeper's writes: its view is the first
abbrev pub keeper_writes : List View → List Write
keeper_writes [] = []
keeper_writes (v ∷ vs) = v.writes

-- f of the calls of each view, one after another
abbrev pub gathered : {A : Type 0} → (List Call → List A) → List View → List A
gathered f [] = []
gathered f (v ∷ vs) = f v.calls ++ gathered f vs

-- all that was written and called of one slot at one stamp
pub record File : Type 0 where
  pub bases : List ℕ
  pub ends : List (ℕ × ℕ)
  pub extends : List ℕ
  pub cancels : List ℕ

-- the file of a stamp that was not given
abbrev pub blank : File
blank = record { bases = []; ends = []; extends = []; cancels = [] }

-- the file of four lists
abbrev pub file_of_lists : List ℕ → List (ℕ × ℕ) → List ℕ → List ℕ → File
file_of_lists a b c d = record { bases = a; ends = b; extends = c; cancels = d }

-- what the views say of the slot i at the stamp s
abbrev pub file : ℕ → ℕ → List View → File
file i s views = file_of_lists
    (bases_at i s (keeper_writes views)) (ends_at i s (keeper_writes views))
    (gathered (extends_at i s) views) (gathered (cancels_at i s) views)

-- x is in the list
abbrev pub IsIn : {A : Type 0} → List A → A → Type 0
IsIn [] x = ⊥
IsIn (y ∷ ys) x = (x ≡ y) ⊎ IsIn ys x

-- d is the base or an accepted extend
abbrev pub Among : File → ℕ → Type 0
Among f d = IsIn f.bases d ⊎ IsIn f.extends d

-- the deadline in force: the greatest of the base and the accepted extends
abbrev pub IsDeadline : File → ℕ → Type 0
IsDeadline f d = Among f d × ((x : ℕ) → Among f x → x ≤ d)
