use Rattle.std.proofs.Common.{◌∙◌, sym, ap}
use Rattle.dq_words.specs.KeeperCalls.{KeeperRenews}
use Rattle.dq_words.specs.Seats.{Sat}
use Rattle.dq_words.proofs.Bridge.{renews_parts}
use Rattle.dq_words.proofs.Begun.{renew_stays}
use Rattle.dq_words.proofs.keeper.KeeperWords.renew.Goals as goal

pub returns-clause-changed : goal.returns-clause-changed
returns-clause-changed g c =
    let own = ap (λ (s : Sat). s.view) (sym c.self.view_is) in
    let h : KeeperRenews c.args.self.now.view c.args.index c.args.stamp c.args.when c.renew.result c.renew.new.seat.view = rw own c.renew.ensures.renews in
    (renews_parts _ _ _ _ c.requires.in_range _ _ c.requires.tick h).0

pub returns-clause-known : goal.returns-clause-known
returns-clause-known g c =
    let own = ap (λ (s : Sat). s.view) (sym c.self.view_is) in
    let h : KeeperRenews c.args.self.now.view c.args.index c.args.stamp c.args.when c.renew.result c.renew.new.seat.view = rw own c.renew.ensures.renews in
    (renews_parts _ _ _ _ c.requires.in_range _ _ c.requires.tick h).1

pub returns-clause-begun : goal.returns-clause-begun
returns-clause-begun g c =
    let own = ap (λ (s : Sat). s.view) (sym c.self.view_is) in
    let h : KeeperRenews c.args.self.now.view c.args.index c.args.stamp c.args.when c.renew.result c.renew.new.seat.view = rw own c.renew.ensures.renews in
    renew_stays c.args.self.now.view c.renew.new.seat.view c.args.index c.args.stamp c.args.when c.renew.result h

pub returns-clause-step : goal.returns-clause-step
returns-clause-step g c =
    let own = ap (λ (s : Sat). s.view) (sym c.self.view_is) in
    rw own c.renew.ensures.renews

pub returns-clause-origin : goal.returns-clause-origin
returns-clause-origin g c = c.renew.ensures.table ∙ ap (λ (s : Sat). s.table) c.self.view_is
