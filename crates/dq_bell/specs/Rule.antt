-- The rule over the words and over what all seats know.

use Rattle.std.specs.Prelude.{◌≡◌, ℕ, ◌+◌, ◌*◌, ◌<◌, ◌≤◌, ◌⊎◌, List, true, length}
use Rattle.std.specs.Prelude.{slice_index}
use mathlib.Core.Option.{some}
use lib.ListN.{get_elem?}
use Rattle.atomic_table.specs.Table.{State}
use Rattle.dq_bell.specs.declared.TheConstants.{NEVER}
use Rattle.dq_bell.specs.declared.rule.SeatView.{SeatView}

-- the tick until which the leader sleeps, 0 where it was rung or never said
abbrev pub armed_until : List ℕ → ℕ
armed_until ws = slice_index ws 0

-- the hint of a place: each stands 16 words behind the one before, so that no cache line has two
abbrev pub hint_at : List ℕ → ℕ → ℕ
hint_at ws p = slice_index ws ((p + 1) * 16)

-- who wrote the place's hint is awake, and has yet to ask until when the leader sleeps
abbrev pub IsYetToAsk : List SeatView → ℕ → Type 0
IsYetToAsk views p =
    (j : ℕ) × (u : SeatView) × (get_elem? views j ≡ some u)
    × (u.writes ≡ true) × (u.owes ≡ true) × (u.place ≡ p)

-- a sleep until that tick isn't beyond the place's hint, or somebody will ask
abbrev pub IsHeeded : List ℕ → List SeatView → ℕ → ℕ → Type 0
IsHeeded ws views until p = (until ≤ hint_at ws p) ⊎ IsYetToAsk views p

-- the leader was rung, or it heeds each place at which it has looked
abbrev pub WakesInTime : List ℕ → List SeatView → SeatView → Type 0
WakesInTime ws views v =
    (armed_until ws ≡ 0)
    ⊎ ((armed_until ws ≡ v.until) × ((p : ℕ) → p < v.seen → IsHeeded ws views v.until p))

-- what the rule says of who leads at a bell of n places
pub record IsLead (n : ℕ) (ws : List ℕ) (views : List SeatView) (v : SeatView) : Type 0 where
  pub seen : v.seen ≤ n
  pub wakes : WakesInTime ws views v
  pub dealt : (j : ℕ) (u : SeatView) → get_elem? views j ≡ some u → u.writes ≡ true →
      u.place < v.dealt
  pub fresh : (p : ℕ) → v.dealt ≤ p → p < n → hint_at ws p ≡ NEVER

-- what it says of one seat: a hint is as its writer wrote it last
pub record IsSeat (n : ℕ) (ws : List ℕ) (views : List SeatView) (v : SeatView) : Type 0 where
  pub hint : v.writes ≡ true → (v.place < n) × (hint_at ws v.place ≡ v.hint)
  pub lead : v.leads ≡ true → IsLead n ws views v

-- a place's hint is written by one seat
abbrev pub OneWrites : List SeatView → Type 0
OneWrites views =
    (j k : ℕ) (x y : SeatView) → get_elem? views j ≡ some x → get_elem? views k ≡ some y
    → x.writes ≡ true → y.writes ≡ true → x.place ≡ y.place → j ≡ k

-- one leads
abbrev pub OneLeads : List SeatView → Type 0
OneLeads views =
    (j k : ℕ) (x y : SeatView) → get_elem? views j ≡ some x → get_elem? views k ≡ some y
    → x.leads ≡ true → y.leads ≡ true → j ≡ k

-- the rule of a bell of n places
pub record IsBell (n : ℕ) (t : State ℕ SeatView) : Type 0 where
  pub size : length t.words ≡ n * 16 + 1
  pub writers : OneWrites t.views
  pub leader : OneLeads t.views
  pub each : (j : ℕ) (v : SeatView) → get_elem? t.views j ≡ some v → IsSeat n t.words t.views v
