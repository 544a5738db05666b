use Rattle.std.proofs.Common.{◌∙◌, sym, ap}
use Rattle.dq_words.specs.Keeping.{counts_of}
use Rattle.dq_words.specs.Plays.{KeeperLoads}
use Rattle.dq_words.specs.Seats.{Sat}
use Rattle.dq_words.specs.declared.views.View.{View}
use Rattle.dq_words.proofs.Bridge.{row_set, unused_at}
use Rattle.dq_words.proofs.Begun.{load_stays, load_once}
use Rattle.dq_words.proofs.keeper.KeeperWords.look.Goals as goal

pub returns-clause-known : goal.returns-clause-known
returns-clause-known g c =
    let own = ap (λ (s : Sat). s.view) (sym c.self.view_is) in
    row_set _ _ _ _ _ (rw own (ap (λ (v : View). v.seen) c.keeper_load.ensures.step.0)) (sym c.unpack.ensures)

pub returns-clause-begun : goal.returns-clause-begun
returns-clause-begun g c =
    let own = ap (λ (s : Sat). s.view) (sym c.self.view_is) in
    let h : KeeperLoads c.args.self.now.view c.keeper_load.new.self.view c.args.index c.keeper_load.result = rw own c.keeper_load.ensures.step in
    load_stays c.args.self.now.view c.keeper_load.new.self.view c.args.index c.keeper_load.result h

pub returns-clause-one_step : goal.returns-clause-one_step
returns-clause-one_step g c =
    let own = ap (λ (s : Sat). s.view) (sym c.self.view_is) in
    let h : KeeperLoads c.args.self.now.view c.keeper_load.new.self.view c.args.index c.keeper_load.result = rw own c.keeper_load.ensures.step in
    load_once c.args.self.now.view c.keeper_load.new.self.view c.args.index c.keeper_load.result h

pub returns-clause-unused : goal.returns-clause-unused
returns-clause-unused g c =
    let own = ap (λ (s : Sat). s.view) (sym c.self.view_is) in
    let h : KeeperLoads c.args.self.now.view c.keeper_load.new.self.view c.args.index c.keeper_load.result = rw own c.keeper_load.ensures.step in
    unused_at c.args.self.now.view.seen c.args.index c.keeper_load.result _ h.1 (sym c.unpack.ensures)

pub returns-clause-origin : goal.returns-clause-origin
returns-clause-origin g c = c.keeper_load.ensures.table ∙ ap (λ (s : Sat). s.table) c.self.view_is

pub returns-clause-counts : goal.returns-clause-counts
returns-clause-counts g c =
    let own = ap (λ (s : Sat). s.view) (sym c.self.view_is) in
    let h : KeeperLoads c.args.self.now.view c.keeper_load.new.self.view c.args.index c.keeper_load.result = rw own c.keeper_load.ensures.step in
    ap (λ (v : View). counts_of v.writes) h.0
