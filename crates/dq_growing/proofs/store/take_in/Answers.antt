use Rattle.std.proofs.Common.{◌≡◌, false, true, rules}
use Rattle.dq_growing.proofs.Sizes.{stays, takes_same, comes_same, opens_as, opens_only, stays_open}
use Rattle.dq_growing.proofs.Keeping.{then_keep_beside}
use Rattle.dq_growing.proofs.Holding.{comes_hold, opened_comes}
use Rattle.dq_growing.proofs.store.take_in.Goals as goal

pub returns-in-Err-clause-stands : goal.returns-in-Err-clause-stands
returns-in-Err-clause-stands g c = stays c.args.store.now c.take_in.new.self c.in-Err.ensures.back.1 c.in-Err.ensures.notes

pub returns-then-is_needed-clause-opens : goal.returns-then-is_needed-clause-opens
returns-then-is_needed-clause-opens g c =
    opens_as c.args.is_needed true c.args.store.now.cores c.take_in.new.self.cores c.if-is_needed.true c.in_default.ensures.takes.opened

pub returns-then-is_needed-clause-stands : goal.returns-then-is_needed-clause-stands
returns-then-is_needed-clause-stands g c =
    takes_same c.args.store.now c.take_in.new.self c.args.core c.law.ensures.shard c.in_default.ensures.takes c.in_default.ensures.notes

pub returns-clause-opens : goal.returns-clause-opens
returns-clause-opens g c =
    let same : c.opened-opened.result ≡ c.args.store.now.cores.opened = search rules in
    opens_as c.args.is_needed false c.args.store.now.cores c.open.new.self.cores c.if-is_needed.false
    (stays_open c.args.store.now.cores c.take_in.new.self.cores c.open.new.self.cores c.args.core c.open.result c.opened-opened.result same c.in_default.ensures.takes.cores
    c.open.ensures.opens c.open.ensures.refused)

pub returns-clause-stands : goal.returns-clause-stands
returns-clause-stands g c =
    let opens = opens_only c.take_in.new.self c.open.new.self c.open.result _ c.open.ensures.opens c.open.ensures.refused c.open.ensures.notes in
    comes_same c.args.store.now c.take_in.new.self c.open.new.self c.args.core c.law.ensures.shard c.in_default.ensures.takes c.in_default.ensures.notes opens

pub returns-clause-keeps : goal.returns-clause-keeps
returns-clause-keeps g c = then_keep_beside c.args.core c.args.store.now c.take_in.new.self c.open.new.self c.take_in.ensures.keeps c.open.ensures.keeps

pub returns-clause-holds : goal.returns-clause-holds
returns-clause-holds g c =
    comes_hold c.args.store.now c.open.new.self c.args.core c.law.ensures.shard
    (opened_comes c.args.store.now c.take_in.new.self c.open.new.self c.args.core c.open.result _ c.in_default.ensures.takes c.in_default.ensures.notes
    c.open.ensures.opens c.open.ensures.refused c.open.ensures.notes)
