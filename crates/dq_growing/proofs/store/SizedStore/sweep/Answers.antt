use Rattle.std.proofs.Common.{ap, sym, subst}
use Rattle.dq_growing.specs.declared.sweeping.Sweep.{Sweep}
use Rattle.dq_growing.specs.Sizing.{SweepsNext, way_for}
use Rattle.dq_growing.proofs.Hints.{sweeps_for}
use Rattle.dq_growing.proofs.Keeping.{all_keep}
use Rattle.dq_growing.proofs.Standing.{all_words}
use Rattle.dq_growing.proofs.Sizes.{way_is}
use Rattle.dq_growing.proofs.store.SizedStore.sweep.Goals as goal

pub returns-clause-sweeps : goal.returns-clause-sweeps
returns-clause-sweeps g c =
    let s = c.self.inside.store in
    let was = c.self.inside.sizing.sweep in
    let r = c.sweep_some in
    let way = way_is _ s.cores was _ c.args.cancels c.cores.ensures (ap (λ z. z.sweep) c.begin_way.ensures) in
    let P : Sweep → Type 0 = λ w. SweepsNext g.W.Words.shared 256 w s r.new.self.sweep r.new.store in
    let Q : Sweep → Type 0 = λ v. SweepsNext g.W.Words.shared 256 (way_for was c.args.cancels s.cores) s v r.new.store in
    rw (← c.self.view_is) (λ _. subst Q (sym (ap (λ z. z.sweep) c.note_swept-2.ensures.rest)) (subst P way r.ensures.sweeps))

pub invariant_of-self-2 : goal.invariant_of-self-2
invariant_of-self-2 g c =
    let i = c.self.inside in
    let r = c.sweep_some in
    sweeps_for g.W.Words.shared 256 _ r.new.self.sweep i.store r.new.store i.hint r.ensures.sweeps c.self.invariant

pub returns-then-self-eq0-clause-keeps : goal.returns-then-self-eq0-clause-keeps
returns-then-self-eq0-clause-keeps g c = rw (← c.self.view_is) (all_keep c.self.inside.store)

pub returns-then-self-eq0-clause-holds : goal.returns-then-self-eq0-clause-holds
returns-then-self-eq0-clause-holds g c = rw (← c.self.view_is) (λ u used tick held. held)

pub returns-then-self-eq0-clause-words : goal.returns-then-self-eq0-clause-words
returns-then-self-eq0-clause-words g c = rw (← c.self.view_is) (all_words g.W.Words.origin g.W.Words.begun c.self.inside.store.cores)

pub returns-clause-keeps : goal.returns-clause-keeps
returns-clause-keeps g c = rw (← c.self.view_is) c.sweep_some.ensures.keeps

pub returns-clause-holds : goal.returns-clause-holds
returns-clause-holds g c = rw (← c.self.view_is) c.sweep_some.ensures.holds

pub returns-clause-words : goal.returns-clause-words
returns-clause-words g c = rw (← c.self.view_is) c.sweep_some.ensures.words
