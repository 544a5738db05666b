use Rattle.std.proofs.Common.{◌≡◌, inr, length, rules}
use Rattle.dq_growing.specs.Cores.{IsCoreAt}
use Rattle.dq_growing.proofs.store.SizedStore.note_next.Goals as goal

pub returns-clause-hint : goal.returns-clause-hint
returns-clause-hint g c =
    let one : length c.args.self.now.store.cores.cores ≡ 1 = search rules in
    let at : IsCoreAt c.args.self.now.store.cores.cores 0 c.in-Some.core.now = search rules in
    inr (c.in-Some.core.now, c.wake_of.result, one, at, c.wake_of.ensures.tells, c.unwrap_or-self-inside.ensures)
