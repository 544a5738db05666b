use Rattle.std.proofs.Common.{ap, subst}
use Rattle.dq_words.specs.Keeping.{IsKeeper, Stood}
use Rattle.dq_words.specs.Seats.{Sat}
use Rattle.dq_words.proofs.Seats.{keeper, stood}
use Rattle.dq_words.proofs.keeper.Keeper.law.Goals as goal

pub returns-clause-keeper : goal.returns-clause-keeper
returns-clause-keeper g c = let own = ap (λ (s : Sat). s.view) c.self.view_is in subst IsKeeper own (keeper _ (stood _ c.law.ensures c.self.invariant.0))

pub returns-clause-stood : goal.returns-clause-stood
returns-clause-stood g c = let own = ap (λ (s : Sat). s.view) c.self.view_is in subst Stood own (stood _ c.law.ensures c.self.invariant.0)
