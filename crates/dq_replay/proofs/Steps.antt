-- What the commands of a script come to in each case.
use Rattle.std.proofs.Common.{◌≡◌, ℕ, ◌≤◌, List, [], ◌++◌, refl}
use Rattle.std.specs.Prelude.{Some, None, Ok, Err, length, max, filter, flat_map, nat_lt, nat_le}
use Rattle.std.proofs.lemmas.Bool.{le-ltb}
use Rattle.dq_replay.specs.declared.session.Lease.{Lease}
use Rattle.dq_replay.specs.declared.fault.FaultKind.TheVariants.{BadHeader}
use Rattle.dq_replay.specs.declared.line.TheConstants.{LINE_LIMIT}
use Rattle.dq_replay.specs.Script.{State, limit_of, line_does, tick_in, expired_line, tick_line}

pub tick_is : (s : State) (to now : ℕ) (live : List Lease) (text : List ℕ) → to ≤ s.limit → now ≡ max s.noted to
    → live ≡ filter (λ e. nat_lt now e.deadline) s.live
    → text ≡ flat_map expired_line (filter (λ e. nat_le e.deadline now) s.live) ++ tick_line now
    → tick_in s to ≡ (record { capacity = s.capacity; limit = s.limit; live = live; noted = now }, text)
tick_is s to now live text within same kept told = rw (le-ltb s.limit to within, ← same, kept, told) refl
