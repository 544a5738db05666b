-- A list whose entries go to other lists, one after the other.

use Rattle.std.proofs.Common.{◌≡◌, ◌≢◌, ◌⊎◌, ℕ, ◌+◌, ◌<◌, ◌≤◌, List, length, get_or, set, take, refl, sym, arith, ◌∙◌, ap, inl, inr}
use Rattle.std.proofs.lemmas.List.{length-take-le, length-map, get_or-take, set-get_or}
use Rattle.std.proofs.Math.Seq.{take-set-lt}
use Rattle.dq_wheel.specs.Rows.{nexts, prevs, homes, filed_numbers, moves_made, entry_homes, entry_filed, entry_moves}
use Rattle.dq_wheel.specs.Circle.{IsCircles, IsTakenOff}
use Rattle.dq_wheel.specs.Lists.{StandsIn, IsListEmpty}
use Rattle.dq_wheel.specs.Maps.{IsOccupied}
use Rattle.dq_wheel.specs.Homes.{list_number, CanGo, IsOpened}
use Rattle.dq_wheel.specs.Walks.{bit_of}
use Rattle.dq_wheel.proofs.Occupancy.{bit_cleared}
use Rattle.dq_wheel.specs.declared.lists.Row.{Row}
use Rattle.dq_wheel.specs.declared.TheConstants.{LISTS}
use Rattle.dq_wheel.proofs.Opening.{IsOpening, waiting, moves_were, opening_init, opening_falls, opening_due, opening_moved, opening_end, stood}
use Rattle.dq_wheel.proofs.Taken.{none_left, circles_back, stands_first}

-- what waits in list p was taken off it, and what went from it is placed again; all stay filed as in the old rows
pub record IsScattering (cap e p at : ℕ) (old rows : List Row) (maps : List ℕ) (made : ℕ) : Type 0 where
  pub taken : IsTakenOff cap p at (nexts rows) (prevs rows) (homes rows)
  pub kept : filed_numbers rows ≡ filed_numbers old
  pub turn : IsOpening e p (entry_filed cap old) (entry_homes cap old) (entry_moves cap old) (entry_homes cap rows) (entry_moves cap rows) maps made

module _ (cap p at : ℕ) (rows : List Row) (t : IsTakenOff cap p at (nexts rows) (prevs rows) (homes rows)) where
  size_is : length (entry_homes cap rows) ≡ cap
  size_is = length-take-le cap (homes rows) (omega (arith, t.homes_len))

  -- the first entry that waits stands in the list
  pub first_waits : at < cap → StandsIn (entry_homes cap rows) p at
  first_waits at_in = (omega (arith, size_is), get_or-take cap (homes rows) at 0 at_in ∙ stands_first cap p at _ _ _ t at_in)

  pub none_waits : cap ≤ at → IsListEmpty (entry_homes cap rows) p
  none_waits high x x_in here =
      let x_cap : x < cap = omega (arith, size_is) in
      none_left cap p at _ _ _ t high x x_cap (sym (get_or-take cap (homes rows) x 0 x_cap) ∙ here)

pub homes_put : (cap i v : ℕ) (old new : List Row) → i < cap → length (homes old) ≡ cap + LISTS → homes new ≡ set (homes old) i v →
    entry_homes cap new ≡ set (entry_homes cap old) i v
homes_put cap i v old new i_in size is = rw is (take-set-lt cap (homes old) i v (omega arith))

-- the rows are as many as their homes
length_is : (rows : List Row) → length (moves_made rows) ≡ length (homes rows)
length_is rows = length-map rows (λ r. r.moves) ∙ sym (length-map rows (λ r. r.home))

pub moves_put : (cap i v : ℕ) (old new : List Row) → i < cap → length (homes old) ≡ cap + LISTS → moves_made new ≡ set (moves_made old) i v →
    entry_moves cap new ≡ set (entry_moves cap old) i v
moves_put cap i v old new i_in size is = rw is (take-set-lt cap (moves_made old) i v (omega (arith, length_is old)))

module _ (cap e p at : ℕ) (old rows : List Row) (maps : List ℕ) (made : ℕ)
    (s : IsScattering cap e p at old rows maps made) (at_in : at < cap)
    (can_go : (i : ℕ) → StandsIn (entry_homes cap old) p i → CanGo e p (get_or (entry_filed cap old) i 0) (get_or (entry_moves cap old) i 0))
    (when : ℕ) (when_is : when ≡ get_or (filed_numbers rows) at 0) (moved : ℕ) (moved_is : moved ≡ get_or (moves_made rows) at 0) where
  abbrev filed : List ℕ
  filed = entry_filed cap old

  abbrev homes0 : List ℕ
  homes0 = entry_homes cap old

  abbrev moves0 : List ℕ
  moves0 = entry_moves cap old

  abbrev moves : List ℕ
  moves = entry_moves cap rows

  -- what one reads there is the tick at which it is filed, and its moves
  filed_is : when ≡ get_or filed at 0
  filed_is = when_is ∙ rw s.kept (sym (get_or-take cap (filed_numbers old) at 0 at_in))

  moves_is : moved ≡ get_or moves at 0
  moves_is = moved_is ∙ sym (get_or-take cap (moves_made rows) at 0 at_in)

  waits_here : StandsIn (entry_homes cap rows) p at
  waits_here = first_waits cap p at rows s.taken at_in

  abbrev to : ℕ
  to = list_number e (get_or filed at 0)

  -- it may go where the tick names
  pub may_go : CanGo e p when (get_or moves0 at 0)
  may_go = rw filed_is (can_go at (stood e p filed homes0 moves0 _ moves maps made s.turn at to waits_here refl))

  -- it moved less often than a byte can count
  pub few_moves : moved < 255
  few_moves = rw (moves_is, moves_were e p filed homes0 moves0 _ moves maps made s.turn at to waits_here refl) may_go.few

  -- it was put into a list, and the list's bit set
  module _ (rows3 : List Row) (maps3 : List ℕ) (put after : ℕ) (put_is : put ≡ list_number e when)
      (t3 : IsTakenOff cap p after (nexts rows3) (prevs rows3) (homes rows3))
      (put_there : homes rows3 ≡ set (homes rows) at (put + 1)) (kept3 : filed_numbers rows3 ≡ filed_numbers rows)
      (one : bit_of maps3 put ≡ 1) (others : (q : ℕ) → q ≢ put → bit_of maps3 q ≡ bit_of maps q) where
    pub away : put ≢ p
    away same = may_go.away (sym put_is ∙ same)

    put_to : put ≡ to
    put_to = put_is ∙ ap (list_number e) filed_is

    homes_now : entry_homes cap rows3 ≡ set (entry_homes cap rows) at (put + 1)
    homes_now = homes_put cap at (put + 1) rows rows3 at_in s.taken.homes_len put_there

    -- one fewer waits
    pub scattering_falls : waiting p (entry_homes cap rows3) < waiting p (entry_homes cap rows)
    scattering_falls = rw homes_now (opening_falls e p filed homes0 moves0 _ moves maps made s.turn at put waits_here put_to away)

    -- it is due
    scattering_due : moves_made rows3 ≡ moves_made rows → when ≡ e → IsScattering cap e p after old rows3 maps3 made
    scattering_due unmoved due =
        record {
          taken = t3;
          kept = kept3 ∙ s.kept;
          turn =
              rw (homes_now, ap (take cap) unmoved)
              (opening_due e p filed homes0 moves0 _ moves maps made s.turn at put waits_here put_to away maps3 one others (sym due ∙ filed_is));
        }

    -- it goes to a list that is not the due list
    scattering_moved : moves_made rows3 ≡ set (moves_made rows) at (moved + 1) → when ≢ e → IsScattering cap e p after old rows3 maps3 (made + 1)
    scattering_moved once later =
        let moves_now : entry_moves cap rows3 ≡ set moves at (get_or moves at 0 + 1) =
        moves_put cap at _ rows rows3 at_in s.taken.homes_len once ∙ ap (λ n. set moves at (n + 1)) moves_is in
        record {
          taken = t3;
          kept = kept3 ∙ s.kept;
          turn =
              rw (homes_now, moves_now)
              (opening_moved e p filed homes0 moves0 _ moves maps made s.turn at put waits_here put_to away maps3 one others (λ same. later (filed_is ∙ sym same)));
        }

    -- it goes, and its move is counted where that is one
    pub scattering_goes : (more : ℕ) → moves_made rows3 ≡ set (moves_made rows) at (moved + more) →
        (((when ≡ e) × (more ≡ 0)) ⊎ ((when ≢ e) × (more ≡ 1))) → IsScattering cap e p after old rows3 maps3 (made + more)
    scattering_goes more written which =
        elim which [
          | inl due ↦
              let same : made + more ≡ made = omega (arith, due.1) in
              let as_was : moved + more ≡ get_or (moves_made rows) at 0 = omega (arith, due.1, moved_is) in
              rw same (scattering_due (written ∙ ap (set (moves_made rows) at) as_was ∙ set-get_or (moves_made rows) at 0) due.0)
          | inr later ↦
              let one_more : made + more ≡ made + 1 = ap (λ n. made + n) later.1 in
              rw one_more (scattering_moved (written ∙ ap (λ n. set (moves_made rows) at (moved + n)) later.1) later.0)
        ]

pub scattering_init : (cap e p at : ℕ) (maps : List ℕ) (old rows : List Row) → IsTakenOff cap p at (nexts rows) (prevs rows) (homes rows) →
    homes rows ≡ homes old → filed_numbers rows ≡ filed_numbers old → moves_made rows ≡ moves_made old →
    IsOccupied maps (entry_homes cap old) → IsScattering cap e p at old rows maps 0
scattering_init cap e p at maps old rows t same kept unmoved ok =
    let long : length (entry_homes cap old) ≡ cap = rw (← same) (size_is cap p at rows t) in
    let size : length (moves_made old) ≡ cap + LISTS = length_is old ∙ rw (← same) t.homes_len in
    let moves_long : length (entry_moves cap old) ≡ cap = length-take-le cap (moves_made old) (omega arith) in
    record {
      taken = t;
      kept = kept;
      turn = rw (same, unmoved) (opening_init e p (entry_filed cap old) (entry_homes cap old) (entry_moves cap old) maps (moves_long ∙ sym long) ok);
    }

-- nothing waits any more
module _ (cap e p at : ℕ) (old rows : List Row) (maps : List ℕ) (made : ℕ)
    (s : IsScattering cap e p at old rows maps made) (high : cap ≤ at) where
  pub scattered_circles : IsCircles cap (nexts rows) (prevs rows) (homes rows)
  scattered_circles = circles_back cap p at _ _ _ s.taken high

  pub scattered : IsOpened e p (entry_filed cap old) (entry_homes cap old) (entry_moves cap old) (entry_homes cap rows) (entry_moves cap rows) made
  scattered = opening_end e p (entry_filed cap old) (entry_homes cap old) (entry_moves cap old) _ _ maps made s.turn (none_waits cap p at rows s.taken high)

  pub scattered_bits : (after : List ℕ) → bit_of after p ≡ 0 → ((q : ℕ) → q ≢ p → bit_of after q ≡ bit_of maps q) → IsOccupied after (entry_homes cap rows)
  scattered_bits after none others =
      bit_cleared maps (entry_homes cap rows) after p s.turn.occupied (none_waits cap p at rows s.taken high) none others
