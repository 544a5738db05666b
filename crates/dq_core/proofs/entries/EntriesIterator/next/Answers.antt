use Rattle.std.proofs.Common.{sym, ◌∙◌, arith}
use Rattle.dq_core.proofs.Listings.{ends}
use Rattle.dq_core.proofs.entries.EntriesIterator.next.Goals as goal

pub returns-clause-steps : goal.returns-clause-steps
returns-clause-steps g c =
    let at = c.loop-self.self-inside in
    let none = ends at.queue.now at.slot (omega (arith, c.capacity.ensures, c.loop-self-test.false)) in
    (sym c.loop-self.invariant ∙ none, none)
