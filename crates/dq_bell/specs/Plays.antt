-- What each step tells its seat.

use Rattle.std.specs.Prelude.{◌≡◌, ℕ, ◌<◌, ◌≤◌}
use Rattle.atomic_table.specs.Table.{Me, Step}
use Rattle.dq_bell.specs.declared.rule.SeatView.{SeatView}
use Rattle.dq_bell.specs.Views.{having_written, having_asked, having_heard, having_rung}
use Rattle.dq_bell.specs.Views.{having_armed, having_seen, having_found}

-- the hint is written, and its writer has yet to ask
abbrev pub lowers : Step ℕ → Me ℕ SeatView → ℕ → Me ℕ SeatView → Type 0
lowers s m n m' = m'.0 ≡ having_written m.0 s.first

-- it hears until when the leader sleeps; nothing is owed where that isn't beyond the hint
abbrev pub asks : Step ℕ → Me ℕ SeatView → ℕ → Me ℕ SeatView → Type 0
asks s m n m' =
    (n ≤ m.0.hint → m'.0 ≡ having_asked m.0 n) × (m.0.hint < n → m'.0 ≡ having_heard m.0 n)

-- nothing is owed once the leader is rung
abbrev pub rings : Step ℕ → Me ℕ SeatView → ℕ → Me ℕ SeatView → Type 0
rings s m n m' = m'.0 ≡ having_rung m.0

-- the leader said until when it sleeps
abbrev pub arms : Step ℕ → Me ℕ SeatView → ℕ → Me ℕ SeatView → Type 0
arms s m n m' = m'.0 ≡ having_armed m.0 s.first

-- it looked at a hint, which counts where it isn't before the leader's tick
abbrev pub looks : Step ℕ → Me ℕ SeatView → ℕ → Me ℕ SeatView → Type 0
looks s m n m' = (m.0.until ≤ n → m'.0 ≡ having_seen m.0) × (n < m.0.until → m'.0 ≡ having_found m.0)
