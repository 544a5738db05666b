use Rattle.std.proofs.Common.{◌≡◌, ◌<◌, ℕ, true, length, get_or}
use Rattle.dq_words.specs.Endings.{WritesStay}
use Rattle.dq_words.specs.Keeping.{counts_of, IsEnded}
use Rattle.dq_words.specs.KeeperCalls.{OnlyRemoves}
use Rattle.dq_words.proofs.keeper.Keeper.end_all.Given as goal

abbrev pub invariant-loop-index : goal.invariant-loop-index
invariant-loop-index g l = ((i : ℕ) → i < l.index → IsEnded (get_or l.self-inside.seat.view.seen i 0))
    × OnlyRemoves (counts_of l.fn.self.view.writes) (counts_of l.self-inside.seat.view.writes)
    × WritesStay l.fn.self.view l.self-inside.seat.view
    × (length l.self-inside.seat.view.seen ≡ length l.fn.self.view.seen)
    × (l.self-inside.seat.view.keeps ≡ true)
    × (l.self-inside.seat.view.issued ≡ l.fn.self.view.issued)
    × (l.self-inside.seat.table ≡ l.fn.self.table)
    × (l.self-inside.issued ≡ l.fn.self.view.issued)
    × (l.index-end ≡ length l.fn.self.view.seen)
