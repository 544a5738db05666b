use Rattle.std.proofs.Common.{sym, ap, arith}
use Rattle.dq_words.specs.Plays.{BeginStep}
use Rattle.dq_words.specs.Seats.{Sat}
use Rattle.dq_words.specs.declared.views.View.{View}
use Rattle.dq_words.proofs.Bridge.{row_set, live_is}
use Rattle.dq_words.proofs.Begun.{begins, begin_stays}
use Rattle.dq_words.proofs.keeper.KeeperWords.begin.Goals as goal

pub returns-clause-known : goal.returns-clause-known
returns-clause-known g c =
    let own = ap (λ (s : Sat). s.view) (sym c.self.view_is) in
    row_set _ _ _ _ _ (rw own (ap (λ (v : View). v.seen) c.begin.ensures.step)) (live_is _ _ _ c.live_word.ensures (omega arith))

pub returns-clause-begins : goal.returns-clause-begins
returns-clause-begins g c = begins _ _ _ _ _ _ c.live_word.ensures (omega arith) c.begin.ensures.step

pub returns-clause-begun : goal.returns-clause-begun
returns-clause-begun g c =
    let own = ap (λ (s : Sat). s.view) (sym c.self.view_is) in
    let h : BeginStep c.args.self.now.view c.begin.new.self.view c.args.index c.live_word.result = rw own c.begin.ensures.step in
    begin_stays c.args.self.now.view c.begin.new.self.view c.args.index c.live_word.result h
