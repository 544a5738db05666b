use Rattle.std.proofs.Common.{inl, refl}
use Rattle.dq_growing.proofs.Stored.{stored, law_answers, on_ok, refused_for}
use Rattle.dq_growing.proofs.Keeping.{takes_keep}
use Rattle.dq_growing.proofs.Holding.{holds_takes}
use Rattle.dq_growing.proofs.store.Store.take_in.Goals as goal

pub invariant_of-self : goal.invariant_of-self
invariant_of-self g c =
    let i = c.self.inside in
    let a = c.take_in-answer in
    let past = c.are_past_in.ensures.yes c.if-not-are_past_in.false in
    law_answers (stored i.cores i.notes) a.new.self c.args.core a.result c.self.invariant c.law.ensures.shard a.ensures.takes a.ensures.refused past.0 past.1

pub returns-clause-past : goal.returns-clause-past
returns-clause-past g c =
    rw (← c.self.view_is) (on_ok c.take_in-answer.result (c.are_past_in.ensures.yes c.if-not-are_past_in.false))

pub returns-clause-refused : goal.returns-clause-refused
returns-clause-refused g c =
    let i = c.self.inside in
    let past = c.are_past_in.ensures.yes c.if-not-are_past_in.false in
    rw (← c.self.view_is) (refused_for (stored i.cores i.notes) c.args.core c.take_in-answer.new.self c.take_in-answer.result past c.take_in-answer.ensures.refused)

pub returns-then-not-are_past_in-clause-refused : goal.returns-then-not-are_past_in-clause-refused
returns-then-not-are_past_in-clause-refused g c =
    let no = c.are_past_in.ensures.no c.if-not-are_past_in.true in
    rw (← c.self.view_is) (inl (refl, no))

pub returns-clause-keeps : goal.returns-clause-keeps
returns-clause-keeps g c =
    let i = c.self.inside in
    let a = c.take_in-answer in
    let past = c.are_past_in.ensures.yes c.if-not-are_past_in.false in
    rw (← c.self.view_is) (takes_keep (stored i.cores i.notes) a.new.self c.args.core a.result c.self.invariant c.law.ensures.shard past a.ensures.takes a.ensures.refused)

pub returns-clause-holds : goal.returns-clause-holds
returns-clause-holds g c =
    let i = c.self.inside in
    let a = c.take_in-answer in
    rw (← c.self.view_is) (holds_takes (stored i.cores i.notes) a.new.self c.args.core a.result c.law.ensures.shard a.ensures.takes a.ensures.refused)
