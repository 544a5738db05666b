use Rattle.std.proofs.Common.{◌≡◌, false, rules}
use Rattle.dq_growing.proofs.Sizes.{busy_needless, no_work, straggler_there}
use Rattle.dq_growing.proofs.sizing.Sizing.is_busy.Goals as goal

pub returns-then-has_straggler-clause-yes : goal.returns-then-has_straggler-clause-yes
returns-then-has_straggler-clause-yes g c _ x = straggler_there c.args.store.now (c.has_straggler.ensures.yes c.if-has_straggler.true) x.1

pub returns-clause-yes : goal.returns-clause-yes
returns-clause-yes g c is = busy_needless c.args.self.now c.args.store.now _ c.cores.ensures (c.has_needless.ensures.yes is)

pub returns-clause-no : goal.returns-clause-no
returns-clause-no g c is =
    let idle : c.args.self.now.has_work ≡ false = search rules in
    no_work c.args.self.now c.args.store.now _ c.cores.ensures idle (c.has_straggler.ensures.no c.if-has_straggler.false) (c.has_needless.ensures.no is)
