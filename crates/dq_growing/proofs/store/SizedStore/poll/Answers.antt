use Rattle.std.proofs.Common.{refl}
use Rattle.dq_growing.specs.Store.{piece_as}
use Rattle.dq_growing.proofs.Stored.{stored, law_after}
use Rattle.dq_growing.specs.Polls.{DoesPoll}
use Rattle.dq_growing.proofs.Keeping.{goes_after, keeps_after, polled_none, poll_gone}
use Rattle.dq_growing.proofs.Holding.{polls_raise, poll_at, polled_at, polled_raises, holds_after, piece_in_force}
use Rattle.dq_growing.proofs.Hints.{held_late, rests_for, polls_for}
use Rattle.std.specs.Prelude.{unwrap_or}
use Rattle.dq_growing.specs.declared.TheConstants.{NEVER}
use Rattle.dq_growing.specs.Polls.{NoneLiveIn}
use Rattle.dq_growing.proofs.store.SizedStore.poll.Goals as goal

pub invariant_of-self-inside : goal.invariant_of-self-inside
invariant_of-self-inside g c =
    let i = c.self-inside.inside.0.0 in
    let p = c.poll-made in
    law_after (stored i.cores i.notes) (stored p.new.self c.note_out-answer.new.notes) p.result c.self-inside.invariant p.ensures.ages c.law-2.ensures c.note_out-answer.ensures.notes

pub returns-clause-rests : goal.returns-clause-rests
returns-clause-rests g c =
    let p = c.poll-made in
    rw c.note_out-answer.ensures.answer
    (rests_for c.self-inside.inside.0.0.notes p.result (λ next. NoneLiveIn p.new.self (unwrap_or next NEVER)) p.ensures.rests)

pub returns-clause-words : goal.returns-clause-words
returns-clause-words g c = rw (← c.self.view_is, ← c.self-inside.view_is) c.poll-made.ensures.words

pub returns-clause-keeps : goal.returns-clause-keeps
returns-clause-keeps g c =
    let i = c.self-inside.inside.0.0 in
    let p = c.poll-made in
    rw (← c.self.view_is, ← c.self-inside.view_is)
    (keeps_after (stored i.cores i.notes) (stored p.new.self c.note_out-answer.new.notes) p.result c.self-inside.invariant p.ensures.ages c.note_out-answer.ensures.notes
    (polled_none (DoesPoll g.W.Words.shared) i.cores p.new.self c.args.tick p.result (poll_gone g.W.Words.shared) c.law.ensures p.ensures.polls))

pub returns-clause-goes_out : goal.returns-clause-goes_out
returns-clause-goes_out g c =
    let i = c.self-inside.inside.0.0 in
    let p = c.poll-made in
    rw (c.note_out-answer.ensures.answer, ← c.self.view_is, ← c.self-inside.view_is)
    (goes_after (stored i.cores i.notes) (stored p.new.self c.note_out-answer.new.notes) p.result c.self-inside.invariant p.ensures.ages c.note_out-answer.ensures.notes
    (polled_none (DoesPoll g.W.Words.shared) i.cores p.new.self c.args.tick p.result (poll_gone g.W.Words.shared) c.law.ensures p.ensures.polls))

pub returns-clause-holds : goal.returns-clause-holds
returns-clause-holds g c =
    let i = c.self-inside.inside.0.0 in
    let p = c.poll-made in
    rw (← c.self.view_is, ← c.self-inside.view_is)
    (holds_after (stored i.cores i.notes) (stored p.new.self c.note_out-answer.new.notes) p.result
    (polled_raises g.W.Words.origin g.W.Words.begun (DoesPoll g.W.Words.shared) i.cores p.new.self c.args.tick p.result (polls_raise g.W.Words.shared) p.ensures.words p.ensures.polls) c.note_out-answer.ensures.notes
    (polled_none (DoesPoll g.W.Words.shared) i.cores p.new.self c.args.tick p.result (poll_gone g.W.Words.shared) c.law.ensures p.ensures.polls))

pub returns-clause-in_force : goal.returns-clause-in_force
returns-clause-in_force g c =
    let i = c.self-inside.inside.0.0 in
    let p = c.poll-made in
    rw (c.note_out-answer.ensures.answer, ← c.self.view_is, ← c.self-inside.view_is)
    (piece_in_force (stored i.cores i.notes) p.result (polled_at (DoesPoll g.W.Words.shared) i.cores p.new.self c.args.tick p.result (poll_at g.W.Words.shared) p.ensures.polls))

pub invariant_of-self : goal.invariant_of-self
invariant_of-self g c =
    let i = c.self-inside.inside.0.0 in
    let p = c.poll-made in
    rw (c.note_hint.ensures, c.note_out-answer.ensures.answer)
    (polls_for g.W.Words.shared (stored i.cores i.notes) (stored p.new.self c.note_out-answer.new.notes) c.self-inside.inside.0.1.1.0 c.args.tick (piece_as i.notes p.result)
    (p.result, p.ensures.polls, refl, c.note_out-answer.ensures.notes)
    (rests_for i.notes p.result (λ next. NoneLiveIn p.new.self (unwrap_or next NEVER)) p.ensures.rests) (held_late _ c.self.inside c.self-inside.view_is c.self.invariant))
