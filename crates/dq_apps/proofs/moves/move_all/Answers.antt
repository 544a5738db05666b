use Rattle.dq_apps.proofs.MovedTimers.{moved_on}
use Rattle.dq_apps.proofs.moves.move_all.Goals as goal

pub loop-preserved : goal.loop-preserved
loop-preserved g c =
    let l = c.loop in
    moved_on g.met.K.Eq.laws c.args.stock.now.entries l.stock.entries c.move_one.new.stock.entries c.args.worn.now.slots l.worn.slots c.move_one.new.worn.slots c.args.fresh.now l.fresh c.move_one.new.fresh l.invariant c.move_one.ensures.moved

pub returns-clause-moved : goal.returns-clause-moved
returns-clause-moved g c =
    let l = c.loop in
    moved_on g.met.K.Eq.laws c.args.stock.now.entries l.stock.entries c.move_one.new.stock.entries c.args.worn.now.slots l.worn.slots c.move_one.new.worn.slots c.args.fresh.now l.fresh c.move_one.new.fresh l.invariant c.move_one.ensures.moved
