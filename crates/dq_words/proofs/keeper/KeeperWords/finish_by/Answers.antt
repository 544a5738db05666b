use Rattle.std.proofs.Common.{◌∙◌, sym, ap}
use Rattle.dq_words.specs.KeeperCalls.{KeeperFinishesBy}
use Rattle.dq_words.specs.Seats.{Sat}
use Rattle.dq_words.proofs.Bridge.{finishes_by_parts}
use Rattle.dq_words.proofs.Begun.{finish_by_stays}
use Rattle.dq_words.proofs.keeper.KeeperWords.finish_by.Goals as goal

pub returns-clause-finished : goal.returns-clause-finished
returns-clause-finished g c =
    let own = ap (λ (s : Sat). s.view) (sym c.self.view_is) in
    let h : KeeperFinishesBy c.args.self.now.view c.args.index c.args.stamp c.args.tick c.finish_by.result c.finish_by.new.seat.view = rw own c.finish_by.ensures.finishes in
    (finishes_by_parts _ _ _ _ c.requires.in_range _ _ h).0

pub returns-clause-known : goal.returns-clause-known
returns-clause-known g c =
    let own = ap (λ (s : Sat). s.view) (sym c.self.view_is) in
    let h : KeeperFinishesBy c.args.self.now.view c.args.index c.args.stamp c.args.tick c.finish_by.result c.finish_by.new.seat.view = rw own c.finish_by.ensures.finishes in
    (finishes_by_parts _ _ _ _ c.requires.in_range _ _ h).1

pub returns-clause-begun : goal.returns-clause-begun
returns-clause-begun g c =
    let own = ap (λ (s : Sat). s.view) (sym c.self.view_is) in
    let h : KeeperFinishesBy c.args.self.now.view c.args.index c.args.stamp c.args.tick c.finish_by.result c.finish_by.new.seat.view = rw own c.finish_by.ensures.finishes in
    finish_by_stays c.args.self.now.view c.finish_by.new.seat.view c.args.index c.args.stamp c.args.tick c.finish_by.result h

pub returns-clause-step : goal.returns-clause-step
returns-clause-step g c =
    let own = ap (λ (s : Sat). s.view) (sym c.self.view_is) in
    rw own c.finish_by.ensures.finishes

pub returns-clause-origin : goal.returns-clause-origin
returns-clause-origin g c = c.finish_by.ensures.table ∙ ap (λ (s : Sat). s.table) c.self.view_is
