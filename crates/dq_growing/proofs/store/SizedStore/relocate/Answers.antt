use Rattle.std.proofs.Common.{inl, inr, refl, sym, ◌∙◌}
use Rattle.dq_growing.proofs.Aging.{all_age}
use Rattle.dq_growing.proofs.Standing.{all_same}
use Rattle.dq_growing.proofs.Stored.{stored, law_reserved, same_reserved, moved_free, moved_law, moved_goes, moved_begun, moved_out, moved_refused, moved_notes}
use Rattle.dq_growing.proofs.Standing.{all_words}
use Rattle.dq_growing.proofs.Keeping.{keeps_reserved, keeps_moved}
use Rattle.dq_growing.proofs.Holding.{row_same, holds_reserved, holds_moved, holds_unless, moved_due, told_in_force, out_in_force}
use Rattle.dq_growing.proofs.Hints.{held_late, asked_for}
use Rattle.dq_growing.proofs.store.SizedStore.relocate.Goals as goal

pub invariant_of-self-inside : goal.invariant_of-self-inside
invariant_of-self-inside g c =
    let i = c.self-inside.inside.0.0 in
    law_reserved (stored i.cores i.notes) i.cores c.reserve.new.self c.self-inside.invariant (all_age i.cores) c.law.ensures c.reserve.ensures.same

pub returns-then-is_err-clause-refused : goal.returns-then-is_err-clause-refused
returns-then-is_err-clause-refused g c =
    let i = c.self-inside.inside.0.0 in
    rw (← c.self.view_is, ← c.self-inside.view_is) (same_reserved (stored i.cores i.notes) i.cores c.reserve.new.self c.reserve.ensures.same (all_same i.cores))

pub note_answer-answer-requires-clause-free : goal.note_answer-answer-requires-clause-free
note_answer-answer-requires-clause-free g c =
    let i = c.self-inside.inside.0.0 in
    let r = c.relocate-answer in
    moved_free (stored i.cores i.notes) r.new.self c.reserve.new.self c.reserve.new.self c.args.entry.now c.in-Some.place c.self-inside.invariant
    (sym c.place.ensures ∙ c.in-Some.is) c.reserve.ensures.same r.result.0 r.ensures.fresh

pub invariant_of-self-inside-2 : goal.invariant_of-self-inside-2
invariant_of-self-inside-2 g c =
    let i = c.self-inside.inside.0.0 in
    let r = c.relocate-answer in
    let a = c.note_answer-answer in
    moved_law (stored i.cores i.notes) r.new.self c.reserve.new.self a.new.notes c.args.entry.now c.in-Some.place c.self-inside.invariant
    (sym c.place.ensures ∙ c.in-Some.is) c.reserve.ensures.same r.result.0 r.ensures.ages c.law-4.ensures a.ensures.notes r.ensures.goes_on r.ensures.past

pub returns-clause-goes_on : goal.returns-clause-goes_on
returns-clause-goes_on g c =
    let i = c.self-inside.inside.0.0 in
    let r = c.relocate-answer in
    let a = c.note_answer-answer in
    rw (a.ensures.answer, ← c.self.view_is, ← c.self-inside.view_is)
    (moved_goes (stored i.cores i.notes) r.new.self c.reserve.new.self a.new.notes c.args.entry.now c.in-Some.place c.self-inside.invariant
    (sym c.place.ensures ∙ c.in-Some.is) c.reserve.ensures.same r.result.0 a.ensures.notes r.ensures.goes_on)

pub returns-clause-begins : goal.returns-clause-begins
returns-clause-begins g c =
    let i = c.self-inside.inside.0.0 in
    let r = c.relocate-answer in
    let a = c.note_answer-answer in
    rw (a.ensures.answer, ← c.self.view_is, ← c.self-inside.view_is)
    (moved_begun (stored i.cores i.notes) r.new.self c.reserve.new.self a.new.notes c.args.entry.now c.in-Some.place c.self-inside.invariant
    (sym c.place.ensures ∙ c.in-Some.is) c.reserve.ensures.same g.W.Words.begun r.result.0 a.ensures.notes r.ensures.begins)

pub returns-clause-came_out : goal.returns-clause-came_out
returns-clause-came_out g c =
    let i = c.self-inside.inside.0.0 in
    let r = c.relocate-answer in
    let a = c.note_answer-answer in
    rw (a.ensures.answer, ← c.self.view_is, ← c.self-inside.view_is)
    (moved_out (stored i.cores i.notes) r.new.self c.reserve.new.self a.new.notes c.args.entry.now c.in-Some.place c.self-inside.invariant
    (sym c.place.ensures ∙ c.in-Some.is) c.reserve.ensures.same r.result.0 a.ensures.notes r.ensures.came_out)

pub returns-clause-refused : goal.returns-clause-refused
returns-clause-refused g c =
    let i = c.self-inside.inside.0.0 in
    let r = c.relocate-answer in
    let a = c.note_answer-answer in
    rw (a.ensures.answer, ← c.self.view_is, ← c.self-inside.view_is)
    (moved_refused (stored i.cores i.notes) r.new.self c.reserve.new.self a.new.notes c.args.entry.now c.in-Some.place c.self-inside.invariant
    (sym c.place.ensures ∙ c.in-Some.is) c.reserve.ensures.same r.result.0 a.ensures.notes r.ensures.refused)

pub returns-clause-relocates : goal.returns-clause-relocates
returns-clause-relocates g c =
    let i = c.self-inside.inside.0.0 in
    let r = c.relocate-answer in
    let a = c.note_answer-answer in
    let notes = moved_notes (stored i.cores i.notes) r.new.self c.reserve.new.self a.new.notes c.args.entry.now c.in-Some.place c.self-inside.invariant
    (sym c.place.ensures ∙ c.in-Some.is) c.reserve.ensures.same r.result.0 a.ensures.notes in
    rw (← c.self.view_is, ← c.self-inside.view_is) (inl (c.in-Some.place, sym c.place.ensures ∙ c.in-Some.is, inr (r.result.0, r.ensures.relocates, a.ensures.answer, notes)))

pub returns-clause-words : goal.returns-clause-words
returns-clause-words g c = rw (← c.self.view_is, ← c.self-inside.view_is) c.relocate-answer.ensures.words

pub returns-then-is_err-clause-words : goal.returns-then-is_err-clause-words
returns-then-is_err-clause-words g c = rw (← c.self.view_is, ← c.self-inside.view_is) (all_words g.W.Words.origin g.W.Words.begun c.self-inside.inside.0.0.cores)

pub returns-then-is_err-clause-keeps : goal.returns-then-is_err-clause-keeps
returns-then-is_err-clause-keeps g c =
    let i = c.self-inside.inside.0.0 in
    rw (← c.self.view_is, ← c.self-inside.view_is) (keeps_reserved (stored i.cores i.notes) i.cores c.reserve.new.self c.self-inside.invariant (all_age i.cores) c.reserve.ensures.same)

pub returns-clause-keeps : goal.returns-clause-keeps
returns-clause-keeps g c =
    let i = c.self-inside.inside.0.0 in
    let r = c.relocate-answer in
    let a = c.note_answer-answer in
    rw (← c.self.view_is, ← c.self-inside.view_is)
    (keeps_moved (stored i.cores i.notes) r.new.self c.reserve.new.self a.new.notes c.args.entry.now c.in-Some.place c.self-inside.invariant
    (sym c.place.ensures ∙ c.in-Some.is) c.reserve.ensures.same r.result.0 r.ensures.ages c.law-4.ensures a.ensures.notes r.ensures.goes_on r.ensures.past r.ensures.came_out
    c.law-2.ensures c.law-3.ensures)

pub returns-then-is_err-clause-holds : goal.returns-then-is_err-clause-holds
returns-then-is_err-clause-holds g c =
    let i = c.self-inside.inside.0.0 in
    rw (← c.self.view_is, ← c.self-inside.view_is) (λ w ne given. holds_reserved (stored i.cores i.notes) i.cores c.reserve.new.self (λ q. row_same i.cores i.cores q refl) c.reserve.ensures.same w given)

pub returns-then-is_err-clause-same : goal.returns-then-is_err-clause-same
returns-then-is_err-clause-same g c =
    let i = c.self-inside.inside.0.0 in
    rw (← c.self.view_is, ← c.self-inside.view_is) (λ keeps. holds_reserved (stored i.cores i.notes) i.cores c.reserve.new.self (λ q. row_same i.cores i.cores q refl) c.reserve.ensures.same)

pub returns-then-is_err-clause-unless : goal.returns-then-is_err-clause-unless
returns-then-is_err-clause-unless g c =
    let i = c.self-inside.inside.0.0 in
    rw (← c.self.view_is, ← c.self-inside.view_is) (holds_reserved (stored i.cores i.notes) i.cores c.reserve.new.self (λ q. row_same i.cores i.cores q refl) c.reserve.ensures.same)

pub returns-clause-holds : goal.returns-clause-holds
returns-clause-holds g c =
    let i = c.self-inside.inside.0.0 in
    let r = c.relocate-answer in
    let a = c.note_answer-answer in
    let moved = holds_moved g.W.Words.origin g.W.Words.begun g.W.Words.shared (stored i.cores i.notes) r.new.self c.reserve.new.self a.new.notes c.args.entry.now c.in-Some.place c.args.next c.self-inside.invariant
    (sym c.place.ensures ∙ c.in-Some.is) c.reserve.ensures.same r.result.0 r.result.1
    (moved_law (stored i.cores i.notes) r.new.self c.reserve.new.self a.new.notes c.args.entry.now c.in-Some.place c.self-inside.invariant
    (sym c.place.ensures ∙ c.in-Some.is) c.reserve.ensures.same r.result.0 r.ensures.ages c.law-4.ensures a.ensures.notes r.ensures.goes_on r.ensures.past)
    c.law-3.ensures r.ensures.words a.ensures.notes r.ensures.relocates r.ensures.goes_on r.ensures.came_out in
    rw (← c.self.view_is, ← c.self-inside.view_is) (λ w ne given. moved w (λ is. absurd (ne is)))

pub returns-clause-same : goal.returns-clause-same
returns-clause-same g c =
    let i = c.self-inside.inside.0.0 in
    let r = c.relocate-answer in
    let a = c.note_answer-answer in
    let moved = holds_moved g.W.Words.origin g.W.Words.begun g.W.Words.shared (stored i.cores i.notes) r.new.self c.reserve.new.self a.new.notes c.args.entry.now c.in-Some.place c.args.next c.self-inside.invariant
    (sym c.place.ensures ∙ c.in-Some.is) c.reserve.ensures.same r.result.0 r.result.1
    (moved_law (stored i.cores i.notes) r.new.self c.reserve.new.self a.new.notes c.args.entry.now c.in-Some.place c.self-inside.invariant
    (sym c.place.ensures ∙ c.in-Some.is) c.reserve.ensures.same r.result.0 r.ensures.ages c.law-4.ensures a.ensures.notes r.ensures.goes_on r.ensures.past)
    c.law-3.ensures r.ensures.words a.ensures.notes r.ensures.relocates r.ensures.goes_on r.ensures.came_out in
    rw (← c.self.view_is, ← c.self-inside.view_is) (λ keeps w given. moved w (λ is. keeps))

pub returns-clause-unless : goal.returns-clause-unless
returns-clause-unless g c =
    let i = c.self-inside.inside.0.0 in
    let r = c.relocate-answer in
    let a = c.note_answer-answer in
    rw (a.ensures.answer, ← c.self.view_is, ← c.self-inside.view_is)
    (holds_unless g.W.Words.origin g.W.Words.begun g.W.Words.shared (stored i.cores i.notes) r.new.self c.reserve.new.self a.new.notes c.args.entry.now c.in-Some.place c.args.next c.self-inside.invariant
    (sym c.place.ensures ∙ c.in-Some.is) c.reserve.ensures.same r.result.0 r.result.1
    (moved_law (stored i.cores i.notes) r.new.self c.reserve.new.self a.new.notes c.args.entry.now c.in-Some.place c.self-inside.invariant
    (sym c.place.ensures ∙ c.in-Some.is) c.reserve.ensures.same r.result.0 r.ensures.ages c.law-4.ensures a.ensures.notes r.ensures.goes_on r.ensures.past)
    c.law-3.ensures r.ensures.words a.ensures.notes r.ensures.relocates r.ensures.goes_on r.ensures.came_out)

pub returns-clause-told : goal.returns-clause-told
returns-clause-told g c =
    let i = c.self-inside.inside.0.0 in
    let r = c.relocate-answer in
    let a = c.note_answer-answer in
    rw (a.ensures.answer, ← c.self.view_is, ← c.self-inside.view_is)
    (λ keeps. told_in_force g.W.Words.origin g.W.Words.begun g.W.Words.shared (stored i.cores i.notes) r.new.self c.reserve.new.self a.new.notes c.args.entry.now c.in-Some.place c.args.next c.self-inside.invariant
    (sym c.place.ensures ∙ c.in-Some.is) c.reserve.ensures.same r.result.0 r.result.1 r.ensures.relocates keeps)

pub returns-clause-in_force : goal.returns-clause-in_force
returns-clause-in_force g c =
    let i = c.self-inside.inside.0.0 in
    let r = c.relocate-answer in
    let a = c.note_answer-answer in
    rw (a.ensures.answer, ← c.self.view_is, ← c.self-inside.view_is)
    (out_in_force g.W.Words.origin g.W.Words.begun g.W.Words.shared (stored i.cores i.notes) r.new.self c.reserve.new.self a.new.notes c.args.entry.now c.in-Some.place c.args.next c.self-inside.invariant
    (sym c.place.ensures ∙ c.in-Some.is) c.reserve.ensures.same r.result.0 r.result.1 r.ensures.relocates)

pub returns-clause-due : goal.returns-clause-due
returns-clause-due g c =
    let i = c.self-inside.inside.0.0 in
    let r = c.relocate-answer in
    let a = c.note_answer-answer in
    rw (a.ensures.answer)
    (moved_due g.W.Words.origin g.W.Words.begun g.W.Words.shared (stored i.cores i.notes) r.new.self c.reserve.new.self a.new.notes c.args.entry.now c.in-Some.place c.args.next c.self-inside.invariant
    (sym c.place.ensures ∙ c.in-Some.is) c.reserve.ensures.same r.result.0
    (moved_law (stored i.cores i.notes) r.new.self c.reserve.new.self a.new.notes c.args.entry.now c.in-Some.place c.self-inside.invariant
    (sym c.place.ensures ∙ c.in-Some.is) c.reserve.ensures.same r.result.0 r.ensures.ages c.law-4.ensures a.ensures.notes r.ensures.goes_on r.ensures.past)
    c.law-3.ensures a.ensures.notes r.ensures.goes_on)

pub invariant_of-self : goal.invariant_of-self
invariant_of-self g c = held_late _ c.self.inside c.self-inside.view_is c.self.invariant

pub invariant_of-self-2 : goal.invariant_of-self-2
invariant_of-self-2 g c =
    let i = c.self-inside.inside.0.0 in
    let r = c.relocate-answer in
    let a = c.note_answer-answer in
    let notes = moved_notes (stored i.cores i.notes) r.new.self c.reserve.new.self a.new.notes c.args.entry.now c.in-Some.place c.self-inside.invariant
    (sym c.place.ensures ∙ c.in-Some.is) c.reserve.ensures.same r.result.0 a.ensures.notes in
    rw (c.note_asked.ensures)
    (asked_for g.W.Words.shared (stored i.cores i.notes) (stored r.new.self a.new.notes) c.self-inside.inside.0.1.1.0 c.args.entry.now c.args.next (a.result, r.result.1)
    (inl (c.in-Some.place, sym c.place.ensures ∙ c.in-Some.is, inr (r.result.0, r.ensures.relocates, a.ensures.answer, notes))) (held_late _ c.self.inside c.self-inside.view_is c.self.invariant))
