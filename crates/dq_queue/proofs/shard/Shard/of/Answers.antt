use Rattle.std.proofs.Common.{refl, sym, subst}
use Rattle.dq_core.specs.Core.{Core}
use Rattle.dq_queue.specs.declared.journal.views.View.{View}
use Rattle.dq_queue.specs.Once.{IsUnderLock}
use Rattle.dq_growing.specs.Sized.{SizedState}
use Rattle.dq_words.specs.Seats.{Sat}
use Rattle.dq_queue.specs.Shards.{IsAsLeft, IsStoreHistory}
use Rattle.dq_queue.proofs.Lending.{none_yet}
use Rattle.dq_queue.proofs.shard.Shard.of.Goals as goal

pub invariant_of-result : goal.invariant_of-result
invariant_of-result g c =
    let P : View (SizedState _ Sat) → Type 0 = λ v. IsUnderLock v × IsAsLeft v.log c.args.sized × IsStoreHistory v.log in
    let fresh = subst P (sym c.requires.history.1) ((refl, refl), tt {0}, tt {0}) in
    let U : View (Core _ _) → Type 0 = λ v. IsUnderLock v in
    let under = subst U (sym c.requires.loans.1) (refl, refl) in (
      c.requires.number,
      c.requires.history.0,
      fresh.0,
      fresh.1,
      fresh.2,
      c.requires.claims,
      c.requires.claimed,
      c.requires.loans.0,
      under,
      none_yet c.args.history.view c.args.loans.view c.args.sized c.args.claims.items c.requires.history.1 c.requires.loans.1,
    )
