use Rattle.std.proofs.Common.{◌≡◌, None}
use Rattle.dq_apps.proofs.Leasts.{least_of}
use Rattle.dq_apps.proofs.stock.least_deadline.Given as goal

abbrev pub invariant-loop-key : goal.invariant-loop-key
invariant-loop-key g l = least_of l.least l._key-iterator ≡ least_of None l.stock.entries
