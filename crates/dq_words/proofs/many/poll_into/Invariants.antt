use Rattle.std.proofs.Common.{◌≡◌, ◌≤◌, vec_len}
use Rattle.std.specs.Prelude.{vec_capacity}
use Rattle.dq_ticks.specs.declared.TheConstants.{LAST_TICK}
use Rattle.dq_core.specs.Calls.{SameCore}
use Rattle.dq_core.specs.Words.{StillBegun}
use Rattle.dq_words.specs.KeeperCalls.{HasBegun}
use Rattle.dq_words.specs.Many.{ComeBehind}
use Rattle.dq_words.proofs.many.poll_into.Given as goal

abbrev pub invariant-loop-place : goal.invariant-loop-place
invariant-loop-place g l =
    (vec_len l.row ≡ l._place)
    × (l._place-end ≡ vec_capacity l.fn.row)
    × (vec_capacity l.row ≡ vec_capacity l.fn.row)
    × (l.fn.tick ≤ LAST_TICK)
    × ComeBehind l.fn.queue l.fn.tick l.fn.row.items l.row.items l.queue
    × SameCore l.fn.queue l.queue
    × (l.queue.words.table ≡ l.fn.queue.words.table)
    × StillBegun HasBegun l.fn.queue.words l.queue.words
