-- No wake is lost.

use Rattle.std.specs.Prelude.{◌≡◌, ◌≢◌, ℕ, ◌<◌, ◌≤◌, true, false}
use mathlib.Core.Option.{some}
use lib.ListN.{get_elem?}
use Rattle.atomic_table.specs.Table.{State}
use Rattle.dq_bell.specs.declared.rule.SeatView.{SeatView}
use Rattle.dq_bell.specs.Rule.{armed_until, hint_at, IsYetToAsk, IsBell}

-- nobody awake has yet to ask
abbrev pub AllHaveAsked : State ℕ SeatView → Type 0
AllHaveAsked t = (p : ℕ) → ¬ IsYetToAsk t.views p

-- seat j, which knows v, leads, has looked at all hints, and wasn't rung
abbrev pub SleepsUnrung : ℕ → State ℕ SeatView → ℕ → SeatView → Type 0
SleepsUnrung n t j v =
    (get_elem? t.views j ≡ some v) × (v.leads ≡ true) × (v.seen ≡ n) × (armed_until t.words ≢ 0)

-- Between any two steps: who sleeps, and wasn't rung, sleeps beyond no hint, once nobody awake has
-- yet to ask.
abbrev pub NoWakeIsLost : Type 0
NoWakeIsLost =
    (n : ℕ) (t : State ℕ SeatView) (j : ℕ) (v : SeatView)
    → IsBell n t → SleepsUnrung n t j v → AllHaveAsked t
    → (p : ℕ) → p < n → v.until ≤ hint_at t.words p

-- somebody closed: seat k keeps a place's hint at 0, and has asked
abbrev pub WasClosedBy : State ℕ SeatView → ℕ → Type 0
WasClosedBy t k =
    (u : SeatView) × (get_elem? t.views k ≡ some u)
    × (u.writes ≡ true) × (u.hint ≡ 0) × (u.owes ≡ false)

-- Between any two steps: once somebody closed, nobody sleeps who wasn't rung.
abbrev pub NobodySleepsOnceClosed : Type 0
NobodySleepsOnceClosed =
    (n : ℕ) (t : State ℕ SeatView) (k j : ℕ) (v : SeatView)
    → IsBell n t → WasClosedBy t k → ¬ SleepsUnrung n t j v
