-- The lawful wheel: each filed index stands in exactly one list, once, the one that its place
-- names; no other index stands in any; and each occupancy bit is 1 exactly where its list isn't
-- empty.

use Rattle.std.specs.Prelude.{◌≡◌, ◌≢◌, ℕ, ◌+◌, ◌<◌, ◌≤◌, ◌↔◌, List, [], length, slice_index}
use Rattle.std.specs.Prelude.{Option, Some}
use Rattle.dq_ticks.specs.Units.{tick_limit}
use Rattle.dq_ticks.specs.declared.TheConstants.{CAPACITY_LIMIT}
use Rattle.dq_wheel.specs.State.{filed_at, WheelState}
use Rattle.dq_wheel.specs.Places.{place_for, place_of_list, MovesFit}
use Rattle.dq_wheel.specs.Wakes.{IsWithin}
use Rattle.dq_wheel.specs.Walks.{IsWalk, occurrences, bit_of}
use Rattle.dq_wheel.specs.declared.TheConstants.{LISTS}

-- The lawful wheel, of list p. Walked along the wheel's links from its head until one is back
-- there, it has each index once whose place it is, and no other; its bit is 1 exactly where it
-- isn't empty.
pub record IsLawfulList
    (e : ℕ) (filed : List (Option ℕ)) (next maps : List ℕ) (p : ℕ) : Type 0 where
  pub list : List ℕ
  pub walk : IsWalk (length filed) (slice_index next) (length filed + p)
      (slice_index next (length filed + p)) list
  pub once : (i : ℕ) → i < length filed → place_for e (filed_at filed i) ≡ place_of_list e p →
      occurrences i list ≡ 1
  pub elsewhere : (i : ℕ) → i < length filed → place_for e (filed_at filed i) ≢ place_of_list e p →
      occurrences i list ≡ 0
  pub bit : (bit_of maps p ≡ 1) ↔ (list ≢ [])

-- what holds of every wheel
pub record IsLawfulWheel (w : WheelState) : Type 0 where
  pub large : 0 < length w.filing.filed
  pub small : length w.filing.filed ≤ CAPACITY_LIMIT
  pub moves_size : length w.filing.moves ≡ length w.filing.filed
  pub in_range : w.filing.tick < tick_limit
  pub lists : (p : ℕ) → p < LISTS → IsLawfulList w.filing.tick w.filing.filed w.next w.maps p
  pub placed : (i f : ℕ) → filed_at w.filing.filed i ≡ Some f →
      (p : ℕ) × (p < LISTS)
      × (place_for w.filing.tick (Some f) ≡ place_of_list w.filing.tick p)
  pub within : (i f : ℕ) → filed_at w.filing.filed i ≡ Some f → IsWithin w.filing.tick f
  pub moves : (i : ℕ) → i < length w.filing.filed →
      MovesFit (place_for w.filing.tick (filed_at w.filing.filed i)) (slice_index w.filing.moves i)
