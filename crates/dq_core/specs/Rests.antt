-- What a poll leaves that finds nothing due.
use Rattle.std.specs.Prelude.{◌≡◌, ℕ, ◌<◌, ◌≤◌, Bool, Some, None}
use Rattle.dq_wheel.specs.State.{filed_at}
use Rattle.dq_core.specs.declared.outcomes.Turn.{Turn}
use Rattle.dq_core.specs.declared.outcomes.Turn.TheVariants.{Out, Waiting, Idle}
use Rattle.dq_core.specs.Machine.{Entry, table_at}
use Rattle.dq_core.specs.Core.{Core, machine, IsLawfulCore}
use Rattle.dq_core.specs.Calls.{IsPolled}

-- nothing came out: the queue waits or is idle
abbrev pub IsRest : {T : Type 0} → Turn T → Type 0
IsRest (Out x) = ⊥
IsRest (Waiting next) = Unit {0}
IsRest Idle = Unit {0}

-- all that is linked is filed after t
abbrev pub AllFiledAfter : {T W : Type 0} → Core T W → ℕ → Type 0
AllFiledAfter c t = (i f : ℕ) → filed_at c.wheel.filing.filed i ≡ Some f → t < f

-- the entry at slot i is known as cancelled, and is filed at f
abbrev pub IsCancelledAt : {T W : Type 0} → Core T W → ℕ → ℕ → Type 0
IsCancelledAt {T} c i f =
    (e : Entry T) × ((table_at (machine c) i).entry ≡ Some e) × (e.due ≡ None)
    × (filed_at c.wheel.filing.filed i ≡ Some f)

-- those that are cancelled and filed up to the tick that c noted are gone from c
abbrev pub CancelledAreGone : {T W : Type 0} → Core T W → Core T W → Type 0
CancelledAreGone b c =
    (i f : ℕ) → IsCancelledAt b i f → f ≤ c.noted → (table_at (machine c) i).entry ≡ None

-- after a poll that finds nothing due all that is linked is filed after the noted tick; so each
-- cancelled entry that was filed up to it is gone
abbrev pub RestsLeaveNoCancelled : Type 0 → Type 0 → Type 0
RestsLeaveNoCancelled T W =
    (shared : Bool) (b c : Core T W) (tick : ℕ) (turn : Turn T) → IsLawfulCore b →
    IsLawfulCore c → IsPolled shared b tick turn c → IsRest turn →
    AllFiledAfter c c.noted × CancelledAreGone b c
