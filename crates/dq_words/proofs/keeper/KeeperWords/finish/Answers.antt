use Rattle.std.proofs.Common.{◌∙◌, sym, ap}
use Rattle.dq_words.specs.KeeperCalls.{KeeperFinishes}
use Rattle.dq_words.specs.Seats.{Sat}
use Rattle.dq_words.proofs.Bridge.{finishes_parts}
use Rattle.dq_words.proofs.Begun.{finish_stays}
use Rattle.dq_words.proofs.keeper.KeeperWords.finish.Goals as goal

pub returns-clause-changed : goal.returns-clause-changed
returns-clause-changed g c =
    let own = ap (λ (s : Sat). s.view) (sym c.self.view_is) in
    let h : KeeperFinishes c.args.self.now.view c.args.index c.args.stamp c.finish.result c.finish.new.seat.view = rw own c.finish.ensures.finishes in
    (finishes_parts _ _ _ _ c.requires.in_range _ h).0

pub returns-clause-known : goal.returns-clause-known
returns-clause-known g c =
    let own = ap (λ (s : Sat). s.view) (sym c.self.view_is) in
    let h : KeeperFinishes c.args.self.now.view c.args.index c.args.stamp c.finish.result c.finish.new.seat.view = rw own c.finish.ensures.finishes in
    (finishes_parts _ _ _ _ c.requires.in_range _ h).1

pub returns-clause-begun : goal.returns-clause-begun
returns-clause-begun g c =
    let own = ap (λ (s : Sat). s.view) (sym c.self.view_is) in
    let h : KeeperFinishes c.args.self.now.view c.args.index c.args.stamp c.finish.result c.finish.new.seat.view = rw own c.finish.ensures.finishes in
    finish_stays c.args.self.now.view c.finish.new.seat.view c.args.index c.args.stamp c.finish.result h

pub returns-clause-step : goal.returns-clause-step
returns-clause-step g c =
    let own = ap (λ (s : Sat). s.view) (sym c.self.view_is) in
    rw own c.finish.ensures.finishes

pub returns-clause-origin : goal.returns-clause-origin
returns-clause-origin g c = c.finish.ensures.table ∙ ap (λ (s : Sat). s.table) c.self.view_is
