-- A poll that finds nothing due leaves nothing filed up to the noted tick.
use Rattle.std.proofs.Common.{◌≡◌, ◌≢◌, ℕ, ◌<◌, Bool, Option, Some, None, MatchOption, IsNone, ◌↔◌, refl, sym, ap, ◌∙◌, inl, inr, arith}
use Rattle.std.proofs.lemmas.Bool.{cases_eq, eq-eqb}
use Rattle.dq_ticks.specs.declared.words.Parts.{Parts}
use Rattle.dq_ticks.specs.declared.words.Mark.TheVariants.{LiveMark}
use Rattle.dq_wheel.specs.State.{filed_at}
use Rattle.dq_wheel.specs.Wakes.{IsNextWake, wake_for}
use Rattle.dq_core.specs.declared.outcomes.Turn.TheVariants.{Out, Waiting, Idle}
use Rattle.dq_core.specs.Words.{word_at, Learned}
use Rattle.dq_core.specs.Machine.{table_at, NoneLinked}
use Rattle.dq_core.specs.Core.{Core, machine, IsLawfulCore, due_by, entry_of}
use Rattle.dq_core.specs.Calls.{IsFiledOver, LooksOver}
use Rattle.dq_core.specs.Rests.{AllFiledAfter, IsCancelledAt, CancelledAreGone, RestsLeaveNoCancelled}
use Rattle.dq_core.specs.Slots.{row_at}
use Rattle.dq_core.proofs.Law.{filed_is, held_filed}
use Rattle.dq_core.proofs.Slotwise.{held_inside}
use Rattle.dq_core.proofs.Steps.{entry_none, none_linked}
use Rattle.dq_core.proofs.Ways.{table_row_is}

wakes_at_once : (e f : ℕ) → f ≡ e → wake_for e f ≡ e
wakes_at_once e f same = rw (eq-eqb e f (sym same)) refl

-- where the next wake is after the tick, nothing is filed at it
none_at_tick : {T W : Type 0} (c : Core T W) (next : ℕ) → IsLawfulCore c → IsNextWake c.wheel.filing.tick c.wheel.filing.filed next → c.wheel.filing.tick < next → AllFiledAfter c c.wheel.filing.tick
none_at_tick c next l wake less i f at =
    elim (cases_eq f c.wheel.filing.tick) [
      | inl same ↦
          let w = wake.least i f at in
          let now = wakes_at_once c.wheel.filing.tick f same in
          absurd (omega (arith, w, now, less))
      | inr ne ↦ let after = (filed_is l i f at).ahead in omega (arith, after, ne)
    ]

-- what is filed is linked
filed_linked : {T W : Type 0} (c : Core T W) → IsLawfulCore c → (i f : ℕ) → filed_at c.wheel.filing.filed i ≡ Some f → (table_at (machine c) i).entry ≢ None
filed_linked c l i f at none =
    let here = filed_is l i f at in
    let is : (table_at (machine c) i).entry ≡ entry_of (Some here.held) (word_at c.known i) =
    ap (λ s. s.entry) (table_row_is c.slots.rows c.known l.as_known i) ∙ ap (λ o. entry_of o (word_at c.known i)) here.is_held in
    cc

-- there is no wake exactly where nothing is linked
pub wakes_none : {T W : Type 0} (b : Core T W) → IsLawfulCore b → (o : Option ℕ) → MatchOption o ((i f : ℕ) → filed_at b.wheel.filing.filed i ≡ Some f → ⊥) (λ w. IsNextWake b.wheel.filing.tick b.wheel.filing.filed w) → IsNone o ↔ NoneLinked (machine b)
wakes_none b l None none = (λ _. none_linked b l none, λ _. refl)
wakes_none b l (Some w) is = (λ e. absurd (cc), λ none. absurd (filed_linked b l is.some.0 is.some.1 is.some.2 (none is.some.0)))

-- what isn't filed isn't linked
unfiled_gone : {T W : Type 0} (c : Core T W) → IsLawfulCore c → (i : ℕ) → filed_at c.wheel.filing.filed i ≡ None → (table_at (machine c) i).entry ≡ None
unfiled_gone c l i none =
    ap (λ s. s.entry) (table_row_is c.slots.rows c.known l.as_known i)
    ∙ entry_none (row_at c.slots.rows i).held (word_at c.known i)
    (λ h e. let at = held_filed l i h (held_inside c.slots.rows i h e) e in let filed = at.1.is_filed in cc)

not_live_due : (w : Parts) → due_by w.mark w.field ≡ None → w.mark ≢ LiveMark
not_live_due w none live = let due : due_by w.mark w.field ≡ Some w.field = ap (λ m. due_by m w.field) live in cc

-- the word of an entry that is known as cancelled isn't live
cancelled_word : {T W : Type 0} (b : Core T W) → IsLawfulCore b → (i f : ℕ) → IsCancelledAt b i f → (word_at b.known i).mark ≢ LiveMark
cancelled_word {T} b l i f (e, is, none, at) =
    let here = filed_is l i f at in
    let shown : entry_of (Some here.held) (word_at b.known i) ≡ Some e =
    ap (λ o. entry_of o (word_at b.known i)) (sym here.is_held) ∙ ap (λ s. s.entry) (sym (table_row_is b.slots.rows b.known l.as_known i)) ∙ is in
    let same : record { born = here.held.born; value = here.held.value; due = due_by (word_at b.known i).mark (word_at b.known i).field } ≡ e = cc in
    not_live_due (word_at b.known i) (ap (λ x. x.due) same ∙ none)

learned_dead : (shared : Bool) (w v : Parts) → Learned shared w v → w.mark ≢ LiveMark → v.mark ≢ LiveMark
learned_dead shared w v (inl same) dead live = dead (ap (λ p. p.mark) (sym same) ∙ live)
learned_dead shared w v (inr (open_, alive, how)) dead live = dead alive

cancelled_gone : {T W : Type 0} (shared : Bool) (b c : Core T W) → IsLawfulCore b → IsLawfulCore c → LooksOver shared b.known c.known → ((i : ℕ) → IsFiledOver b.wheel.filing b.known c.wheel.filing c.known i) → AllFiledAfter c c.noted → CancelledAreGone b c
cancelled_gone shared b c lb lc looks filed after i f at due =
    elim (filed i) [
      | inl (same, word) ↦ let later = after i f (same ∙ at.3) in absurd (omega (arith, later, due))
      | inr (inl none) ↦ unfiled_gone c lc i none
      | inr (inr (t, from, to, live, is)) ↦
          absurd (learned_dead shared (word_at b.known i) (word_at c.known i) (looks.1 i) (cancelled_word b lb i f at) live)
    ]

pub rests_leave_no_cancelled : (T W : Type 0) → RestsLeaveNoCancelled T W
rests_leave_no_cancelled T W shared b c tick (Out x) lb lc polled rest = absurd rest
rests_leave_no_cancelled T W shared b c tick (Waiting next) lb lc polled rest =
    let ans = polled.2 in
    let at : c.wheel.filing.tick ≡ c.noted = ans.run.2.1 in
    let ahead : c.noted < next = ans.run.2.4 in
    let none = none_at_tick c next lc ans.run.2.3 (omega (arith, at, ahead)) in
    let after : AllFiledAfter c c.noted = λ i f is. let later = none i f is in omega (arith, later, at) in
    (after, cancelled_gone shared b c lb lc ans.row ans.filed after)
rests_leave_no_cancelled T W shared b c tick Idle lb lc polled rest =
    let ans = polled.2 in
    let after : AllFiledAfter c c.noted = λ i f is. absurd (filed_linked c lc i f is (ans.run.2.3 i)) in
    (after, cancelled_gone shared b c lb lc ans.row ans.filed after)
