-- What levels and starts of slots mean, and what a wheel may count on.
use Rattle.std.specs.Prelude.{◌≡◌, ◌≢◌, ℕ, ◌+◌, ◌%◌, ◌<◌, ◌≤◌, ◌⊎◌, ◌==◌, nat_lt, if◌then◌else◌}
use Rattle.dq_ticks.specs.Digits.{digit_of, highest_differing, level, start, start_for, turn}
use Rattle.dq_ticks.specs.Digits.{IsAhead}
use Rattle.dq_ticks.specs.Units.{lap, tick_limit, top_span}

-- ticks of the same seven digits are one
abbrev pub DigitsTellTicks : Type 0
DigitsTellTicks =
    (e f : ℕ) → e < tick_limit → f < tick_limit →
    ((i : ℕ) → i < 7 → digit_of e i ≡ digit_of f i) → e ≡ f

-- where some of the first n digits differ, they do so at the highest differing place, and at no
-- higher one
abbrev pub HighestDiffers : Type 0
HighestDiffers =
    (n e f i : ℕ) → i < n → digit_of e i ≢ digit_of f i →
    (i ≤ highest_differing n e f) × (highest_differing n e f < n)
    × (digit_of e (highest_differing n e f) ≢ digit_of f (highest_differing n e f))

-- below the top level a slot starts at the tick with that digit set and all lower digits 0
abbrev pub StartsByDigits : Type 0
StartsByDigits =
    (e place k i : ℕ) → place < 5 → k < 64 →
    digit_of (start e place k) i
    ≡ (if nat_lt i place then 0 else (if i == place then k else digit_of e i))

-- a start at the top level: after e, a multiple of the span, with digit k at the top level
pub record IsLapStart (e k s : ℕ) : Type 0 where
  pub after : e < s
  pub multiple : s % top_span ≡ 0
  pub digit : digit_of s 5 ≡ k

-- at the top level a slot starts at the least such tick, at most a lap ahead
abbrev pub LapStartsAreLeast : Type 0
LapStartsAreLeast =
    (e k : ℕ) → k < 64 →
    IsLapStart e k (start e 5 k) × (start e 5 k ≤ e + lap)
    × ((m : ℕ) → IsLapStart e k m → start e 5 k ≤ m)

-- the slot in which f stands starts after e, and no later than f
abbrev pub SlotsStartAhead : Type 0
SlotsStartAhead = (e f : ℕ) → IsAhead e f → (e < start_for e f) × (start_for e f ≤ f)

-- a place is stable while the tick is before its slot's start
abbrev pub PlacesAreStable : Type 0
PlacesAreStable =
    (e n f : ℕ) → IsAhead e f → e ≤ n → n < start_for e f →
    (level n f ≡ level e f) × (start_for n f ≡ start_for e f)

-- opening a slot leads to a lower level, or to due
abbrev pub SlotsOpenDownward : Type 0
SlotsOpenDownward =
    (e f : ℕ) → IsAhead e f → (start_for e f ≡ f) ⊎ (level (start_for e f) f < level e f)

-- what stands at the lower level comes before the slot at the higher one starts
abbrev pub LowerLevelsComeFirst : Type 0
LowerLevelsComeFirst =
    (e f g : ℕ) → IsAhead e f → IsAhead e g → level e f < level e g → f < start_for e g

-- within a level, what stands in the slot of the earlier turn comes before the later slot starts
abbrev pub EarlierTurnsComeFirst : Type 0
EarlierTurnsComeFirst =
    (e f g : ℕ) → IsAhead e f → IsAhead e g → level e f ≡ level e g →
    turn e (level e f) (digit_of f (level e f)) < turn e (level e f) (digit_of g (level e f)) →
    f < start_for e g

-- f stands at a lower level than g, or at the same level in a slot whose turn is no later
abbrev pub IsNoLater : ℕ → ℕ → ℕ → Type 0
IsNoLater e f g =
    (level e f < level e g)
    ⊎ ((level e f ≡ level e g)
    × (turn e (level e f) (digit_of f (level e f)) ≤ turn e (level e f) (digit_of g (level e f))))

-- the lowest level and, there, the slot that comes soonest has the least start
abbrev pub SoonestSlotsStartFirst : Type 0
SoonestSlotsStartFirst =
    (e f g : ℕ) → IsAhead e f → IsAhead e g → IsNoLater e f g → start_for e f ≤ start_for e g
