-- What stands at the places of a table: the seats, and what is carried from one seat to another.
use Rattle.std.specs.Prelude.{◌≡◌, ◌≢◌, ℕ, List, [], ◌∷◌, true, false, if◌then◌else◌, length}
use mathlib.Core.Option.{some}
use lib.ListN.{get_elem?}
use Rattle.atomic_table.specs.Table.{State, Me, Step}
use Rattle.dq_words.specs.declared.views.Call.{Call}
use Rattle.dq_words.specs.declared.views.Place.{Place}
use Rattle.dq_words.specs.declared.views.View.{View}
use Rattle.dq_words.specs.Files.{IsIn}
use Rattle.dq_words.specs.Plays.{Told}
use Rattle.dq_words.specs.Rule.{Ruled, new_view}

-- the views of the seats alone
abbrev pub views_in : List Place → List View
views_in [] = []
views_in (p ∷ ps) = if p.carries then views_in ps else p.view ∷ views_in ps

-- the table with its seats alone
abbrev pub seats_of : State ℕ Place → State ℕ View
seats_of t = record { words = t.words; homes = t.homes; views = views_in t.views }

-- an accepted call of some seat
abbrev pub IsShown : List View → Call → Type 0
IsShown views c = (j : ℕ) × (u : View) × (get_elem? views j ≡ some u) × IsIn u.calls c

-- each of them is one
abbrev pub AreShown : List View → List Call → Type 0
AreShown views calls = (c : Call) → IsIn calls c → IsShown views c

-- each of them is an accepted call of a seat that was given up
abbrev pub AreSpent : List Place → List Call → Type 0
AreSpent places calls =
    (c : Call) → IsIn calls c → (k : ℕ) × (q : Place) × (get_elem? places k ≡ some q)
    × (q.carries ≡ false) × (q.spent ≡ true) × IsIn q.view.calls c

-- The rule of the words holds of the seats, and what a seat was told of are accepted calls of seats.
pub record Placed (rows : ℕ) (t : State ℕ Place) : Type 0 where
  pub ruled : Ruled rows (seats_of t)
  pub told :
      (j : ℕ) (p : Place) → get_elem? t.views j ≡ some p → AreShown (views_in t.views) p.told
  pub apart : (j : ℕ) (p : Place) → get_elem? t.views j ≡ some p → AreSpent t.views p.apart

-- the place with another view of its seat
abbrev pub standing : Place → View → Place
standing p w = record p { view = w }

-- a seat's place, where nothing was told yet
abbrev pub placed : View → Place
placed v = record { view = v; carries = false; told = []; spent = false; apart = [] }

-- what carries those calls
abbrev pub carrier : List Call → Place
carrier calls = record (placed (new_view false 0)) { carries = true; told = calls }

-- a seat's calls, on their way to another seat
abbrev pub carried : Place → Place
carried p = carrier p.view.calls

-- a seat that was told what is carried
abbrev pub hearing : Place → Place → Place
hearing p q = record p { told = q.told }

-- a seat that is given up, and its calls on their way to another seat
abbrev pub spending : Place → Place
spending p = record p { spent = true }

abbrev pub parted : Place → Place
parted p = record (carrier []) { apart = p.view.calls }

-- the other seat, that got them
abbrev pub taking : Place → Place → Place
taking p q = record p { apart = q.apart }

-- a seat of the table: its place, and no slots of its own
abbrev pub PlaceMe : Type 0
PlaceMe = Me ℕ Place

-- a step of the seat, which changes nothing else of its place
abbrev pub InPlace : Told → Step ℕ → PlaceMe → ℕ → PlaceMe → Type 0
InPlace tells st m n m' =
    tells st (m.0.view, m.1) n (m'.0.view, m'.1) × (m'.0 ≡ standing m.0 m'.0.view)

-- There was a moment, between two steps of the keeper and its callers, at which the rule of the
-- words held, the keeper knew exactly this, and each of these calls was an accepted one of a seat.
abbrev pub StoodWith : View → List Call → Type 0
StoodWith v calls =
    (t : State ℕ View) × Ruled (length v.seen) t × (get_elem? t.views 0 ≡ some v)
    × AreShown t.views calls

-- each of them is an accepted call of another seat than the j-th
abbrev pub AreOthers : ℕ → List View → List Call → Type 0
AreOthers j views calls =
    (c : Call) → IsIn calls c
    → (k : ℕ) × (u : View) × (k ≢ j) × (get_elem? views k ≡ some u) × IsIn u.calls c

-- There was such a moment at which any seat knew exactly this, and each of these calls was an
-- accepted one of another seat.
abbrev pub StoodApart : View → List Call → Type 0
StoodApart v calls =
    (t : State ℕ View) × (j : ℕ) × Ruled (length v.seen) t × (get_elem? t.views j ≡ some v)
    × AreOthers j t.views calls

-- a load that tells the keeper of such a moment, and changes nothing
abbrev pub told_loaded : Step ℕ → PlaceMe → ℕ → PlaceMe → Type 0
told_loaded st m n m' = (m'.0 ≡ m.0) × StoodWith m.0.view m.0.told

-- a load that tells any seat of such a moment
abbrev pub apart_loaded : Step ℕ → PlaceMe → ℕ → PlaceMe → Type 0
apart_loaded st m n m' = (m'.0 ≡ m.0) × StoodApart m.0.view m.0.apart
