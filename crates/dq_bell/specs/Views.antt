-- What seats know, and what each step makes of it.

use Rattle.std.specs.Prelude.{ℕ, ◌+◌, true, false, Bool}
use Rattle.dq_bell.specs.declared.TheConstants.{NEVER}
use Rattle.dq_bell.specs.declared.rule.SeatView.{SeatView}

-- the one that leads: it said that it sleeps until a tick, has looked at so many hints since, and
-- may have found an earlier one; so many places have a hint
abbrev pub leading : ℕ → ℕ → Bool → ℕ → SeatView
leading until seen found dealt = record {
  leads = true;
  until = until;
  seen = seen;
  found = found;
  dealt = dealt;
  writes = false;
  place = 0;
  hint = 0;
  owes = false;
  rings = 0;
  heard = 0;
}

-- the one that leads, of a bell without a place, before it ever said that it sleeps
abbrev pub first_leader : SeatView
first_leader = leading 0 0 false 0

-- the one that writes the hint of a place, has rung so often, and last heard that the leader sleeps
-- until so long
abbrev pub writing : ℕ → ℕ → Bool → ℕ → ℕ → SeatView
writing place hint owes rings heard = record {
  leads = false;
  until = 0;
  seen = 0;
  found = false;
  dealt = 0;
  writes = true;
  place = place;
  hint = hint;
  owes = owes;
  rings = rings;
  heard = heard;
}

-- the leader, once one place more has a hint
abbrev pub dealing : SeatView → SeatView
dealing v = record v { dealt = v.dealt + 1 }

-- who writes that hint
abbrev pub dealt_hint : SeatView → SeatView
dealt_hint v = writing v.dealt NEVER false 0 0

-- it wrote that hint, and has yet to ask until when the leader sleeps
abbrev pub having_written : SeatView → ℕ → SeatView
having_written v h = record v { hint = h; owes = true; heard = 0 }

-- it asked, and heard that the leader sleeps no longer than until its hint
abbrev pub having_asked : SeatView → ℕ → SeatView
having_asked v until = record v { owes = false; heard = until }

-- it asked, and heard that the leader sleeps beyond its hint
abbrev pub having_heard : SeatView → ℕ → SeatView
having_heard v until = record v { heard = until }

-- it rang the leader
abbrev pub having_rung : SeatView → SeatView
having_rung v = record v { owes = false; rings = v.rings + 1 }

-- it said that it sleeps until a tick, and has looked at no hint since
abbrev pub having_armed : SeatView → ℕ → SeatView
having_armed v t = record v { until = t; seen = 0; found = false }

-- it looked at one hint more, which isn't before its tick
abbrev pub having_seen : SeatView → SeatView
having_seen v = record v { seen = v.seen + 1 }

-- it found a hint before its tick
abbrev pub having_found : SeatView → SeatView
having_found v = record v { found = true }
