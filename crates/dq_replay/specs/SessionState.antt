-- No public clause cites this module.
-- A session of a script, as its lines see it.
use Rattle.std.specs.Prelude.{◌≡◌, ℕ, String, string_bytes}
use Rattle.dq_replay.specs.declared.command.Command.{Command}
use Rattle.dq_replay.specs.Script.{State, first_state, step}
use Rattle.dq_replay.specs.LeasesState.{LeasesState}

-- the script's state, and a bound on the stamps that were given
pub record SessionState : Type 0 where
  pub state : State
  pub given : ℕ

-- what a limit and leases show of a script
abbrev pub session_state : ℕ → LeasesState → SessionState
session_state limit l = record {
  state = record { capacity = l.capacity; limit = limit; live = l.live; noted = l.noted };
  given = l.given;
}

-- before the first line
abbrev pub first_session : ℕ → SessionState
first_session capacity = record { state = first_state capacity; given = 0 }

-- a command leads from a state to another, and its answer is that text
abbrev pub Steps : {A : Type 0} → State → Command → State → String A → Type 0
Steps old command new text = step old command ≡ (new, string_bytes text)
