use Rattle.std.proofs.Common.{◌∙◌, sym, ap}
use Rattle.dq_words.specs.KeeperCalls.{KeeperSettles}
use Rattle.dq_words.specs.Seats.{Sat}
use Rattle.dq_words.proofs.Bridge.{settles_parts}
use Rattle.dq_words.proofs.Begun.{settle_stays, settle_once}
use Rattle.dq_words.proofs.keeper.KeeperWords.settle.Goals as goal

pub returns-clause-settled : goal.returns-clause-settled
returns-clause-settled g c =
    let own = ap (λ (s : Sat). s.view) (sym c.self.view_is) in
    let h : KeeperSettles c.args.self.now.view c.args.index c.args.stamp c.args.at c.settle.result c.settle.new.seat.view = rw own c.settle.ensures.settles in
    (settles_parts _ _ _ _ c.requires.in_range _ _ c.requires.in_force c.requires.tick h).0

pub returns-clause-known : goal.returns-clause-known
returns-clause-known g c =
    let own = ap (λ (s : Sat). s.view) (sym c.self.view_is) in
    let h : KeeperSettles c.args.self.now.view c.args.index c.args.stamp c.args.at c.settle.result c.settle.new.seat.view = rw own c.settle.ensures.settles in
    (settles_parts _ _ _ _ c.requires.in_range _ _ c.requires.in_force c.requires.tick h).1

pub returns-clause-begun : goal.returns-clause-begun
returns-clause-begun g c =
    let own = ap (λ (s : Sat). s.view) (sym c.self.view_is) in
    let h : KeeperSettles c.args.self.now.view c.args.index c.args.stamp c.args.at c.settle.result c.settle.new.seat.view = rw own c.settle.ensures.settles in
    settle_stays c.args.self.now.view c.settle.new.seat.view c.args.index c.args.stamp c.args.at c.settle.result h

pub returns-clause-one_step : goal.returns-clause-one_step
returns-clause-one_step g c =
    let own = ap (λ (s : Sat). s.view) (sym c.self.view_is) in
    let h : KeeperSettles c.args.self.now.view c.args.index c.args.stamp c.args.at c.settle.result c.settle.new.seat.view = rw own c.settle.ensures.settles in
    settle_once c.args.self.now.view c.settle.new.seat.view c.args.index c.args.stamp c.args.at c.settle.result h

pub returns-clause-step : goal.returns-clause-step
returns-clause-step g c =
    let own = ap (λ (s : Sat). s.view) (sym c.self.view_is) in
    rw own c.settle.ensures.settles

pub returns-clause-origin : goal.returns-clause-origin
returns-clause-origin g c = c.settle.ensures.table ∙ ap (λ (s : Sat). s.table) c.self.view_is
