-- A call by key on plain words is the machine's event of its name.
use Rattle.std.proofs.Common.{◌≡◌, ℕ, ◌<◌, ◌≤◌, max, true, List, length, set, Option, Some, None, Result, Ok, Err, refl, sym, ap, ◌∙◌, subst, inl, inr, ◌⊎◌, arith}
use Rattle.dq_ticks.specs.declared.words.Parts.{Parts}
use Rattle.dq_ticks.specs.declared.words.Mark.TheVariants.{LiveMark, CancelledMark}
use Rattle.dq_ticks.specs.declared.keys.Key.{Key}
use Rattle.dq_ticks.specs.declared.TheConstants.{LAST_TICK}
use Rattle.dq_wheel.specs.State.{WheelState}
use Rattle.dq_core.specs.declared.slots.Held.{Held}
use Rattle.dq_core.specs.Words.{word_at, live, cancelled, IsOver, IsInForce}
use Rattle.dq_core.specs.declared.words.Look.{Look}
use Rattle.dq_core.specs.declared.words.CallError.{CallError}
use Rattle.dq_core.specs.declared.words.CallError.TheVariants.{TooFar, Unknown, Stale, Ended}
use Rattle.dq_core.specs.WordRows.{WordRow, IsCallable, CallRefused, ExtendRefused, LookRefused, IsExtend, IsCancel, IsLook, extended, given_up}
use Rattle.dq_core.specs.Slots.{SlotState, shown, row_at}
use Rattle.dq_core.specs.Machine.{Entry, put, with_due}
use Rattle.dq_core.specs.Core.{Core, machine, IsLawful, IsLawfulCore, due_by}
use Rattle.dq_core.specs.KeyCalls.{IsExtended, IsGivenUp, Extends, Cancels, Shows, ExtendingRefused, KeyRefused, LookingRefused}
use Rattle.dq_core.proofs.Law.{Filed, held_filed, loose_is, law_learned}
use Rattle.dq_core.proofs.Ways.{has, has_stamp, with_word, live_due, machine_is, core_of}

held_or_not : {T : Type 0} (o : Option (Held T)) → (o ≡ None) ⊎ ((h : Held T) × (o ≡ Some h))
held_or_not None = inl refl
held_or_not (Some h) = inr (h, refl)

not_over : (s d : ℕ) (w : Parts) → 0 < s → w ≡ live s d → IsOver w → ⊥
not_over s d w pos is (inl gone) =
    let stamp : s ≡ 0 = sym (ap (λ p. p.stamp) is) ∙ ap (λ p. p.stamp) gone in
    omega (arith, stamp, pos)
not_over s d w pos is (inr over) = over (ap (λ p. p.mark) is)

-- the slot of a word that a key names holds an entry
called_filed : {T W : Type 0} (b : Core T W) → IsLawfulCore b → (k : Key) → IsCallable b.known k → (f : ℕ) × Filed b.wheel.filing.tick b.slots.last_stamp b.slots.rows b.known b.wheel.filing.filed k.entry.index f
called_filed b l k called =
    let i = k.entry.index in
    let size = l.as_known in
    let inside : i < length b.slots.rows = omega (arith, called.0) in
    elim (held_or_not (row_at b.slots.rows i).held) [
      | inl none ↦ absurd (not_over k.stamp (word_at b.known i).field (word_at b.known i) called.1 called.2 (loose_is l i inside none).1)
      | inr held ↦ held_filed l i held.0 inside held.1
    ]

field_by : (s g : ℕ) (w : Parts) → IsInForce s g w → w.mark ≡ LiveMark → w.field ≤ LAST_TICK
field_by s g w (pos, inl (is, after, small)) mark = small
field_by s g w (pos, inr is) mark =
    let other : w.mark ≡ CancelledMark = ap (λ p. p.mark) is in
    absurd (cc)

module _ {T W : Type 0} (b : Core T W) (l : IsLawfulCore b) (k : Key) (called : IsCallable b.known k) where
  f : ℕ
  f = (called_filed b l k called).0

  at : Filed b.wheel.filing.tick b.slots.last_stamp b.slots.rows b.known b.wheel.filing.filed k.entry.index ((called_filed b l k called).0)
  at = (called_filed b l k called).1

  stamp : (row_at b.slots.rows k.entry.index).stamp ≡ k.stamp
  stamp = sym (at.stamp) ∙ ap (λ p. p.stamp) called.2

  mark : (word_at b.known k.entry.index).mark ≡ LiveMark
  mark = ap (λ p. p.mark) called.2

  -- the field of its word is a tick
  field_small : (word_at b.known k.entry.index).field ≤ LAST_TICK
  field_small = field_by (row_at b.slots.rows k.entry.index).stamp (called_filed b l k called).0 (word_at b.known k.entry.index) (at.in_force) mark

  -- what a call by key leaves of the machine
  machine_with : (c : Core T W) (v : Parts) → c.known ≡ set b.known k.entry.index v → c.wheel ≡ b.wheel → c.slots ≡ b.slots → c.noted ≡ b.noted → machine c ≡ put (machine b) k.entry.index k.stamp (Some (record { born = (at.held).born; value = (at.held).value; due = due_by v.mark v.field }))
  machine_with c v ek ew es en =
      machine_is c b.wheel.filing.tick b.noted b.slots.rows (set b.known k.entry.index v) (ap (λ w. w.filing.tick) ew) en (ap (λ s. s.rows) es) ek
      ∙ with_word true b.slots.last_stamp b.wheel.filing.tick b.noted b.slots.rows b.known l.as_known k.entry.index (at.inside) (at.held) (at.is_held) (at.stamp) v
      ∙ ap (λ s. put (machine b) k.entry.index s (Some (record { born = (at.held).born; value = (at.held).value; due = due_by v.mark v.field }))) stamp

  e : Entry T
  e = record { born = (at.held).born; value = (at.held).value; due = due_by (word_at b.known k.entry.index).mark (word_at b.known k.entry.index).field }

  pub extends : (c : Core T W) (when d : ℕ) → when ≤ LAST_TICK → k.entry.shard ≡ b.shard → d ≡ max when (word_at b.known k.entry.index).field → c.known ≡ extended b.known k d → c.wheel ≡ b.wheel → c.slots ≡ b.slots → c.counts ≡ b.counts → c.shard ≡ b.shard → c.noted ≡ b.noted → IsExtended b k when d c
  extends c when d small shard ed ek ew es ec esh en =
      let x : Entry T = record { born = (at.held).born; value = (at.held).value; due = due_by (word_at b.known k.entry.index).mark (word_at b.known k.entry.index).field } in
      let w = word_at b.known k.entry.index in
      let dues : Some d ≡ Some (max when w.field) = ap (λ n. let o : Option ℕ = Some n in o) ed in
      record {
        accepted = small;
        shard = shard;
        callable = called;
        deadline = ed;
        known = ek;
        step = (
          x,
          w.field,
          has true b.slots.last_stamp b.wheel.filing.tick b.noted b.slots.rows b.known l.as_known k.entry.index (at.inside) (at.held) (at.is_held) (at.stamp),
          has_stamp true b.slots.last_stamp b.wheel.filing.tick b.noted b.slots.rows b.known l.as_known k.entry.index (at.inside) (at.held) (at.is_held) (at.stamp) ∙ stamp,
          live_due true b.slots.last_stamp b.wheel.filing.tick b.noted b.slots.rows b.known l.as_known k.entry.index (at.inside) (at.held) (at.is_held) (at.stamp) mark,
          machine_with c (live k.stamp d) ek ew es en ∙ ap (λ o. put (machine b) k.entry.index k.stamp (with_due x o)) dues,
        );
        rest = record { shard = esh; noted = en; wheel = ew; slots = es; counts = ec };
      }

  pub cancels : (c : Core T W) (d : ℕ) → k.entry.shard ≡ b.shard → d ≡ (word_at b.known k.entry.index).field → c.known ≡ given_up b.known k → c.wheel ≡ b.wheel → c.slots ≡ b.slots → c.counts ≡ b.counts → c.shard ≡ b.shard → c.noted ≡ b.noted → IsGivenUp b k d c
  cancels c d shard ed ek ew es ec esh en =
      let x : Entry T = record { born = (at.held).born; value = (at.held).value; due = due_by (word_at b.known k.entry.index).mark (word_at b.known k.entry.index).field } in
      record {
        shard = shard;
        callable = called;
        deadline = ed;
        known = ek;
        step = (
          x,
          (word_at b.known k.entry.index).field,
          has true b.slots.last_stamp b.wheel.filing.tick b.noted b.slots.rows b.known l.as_known k.entry.index (at.inside) (at.held) (at.is_held) (at.stamp),
          has_stamp true b.slots.last_stamp b.wheel.filing.tick b.noted b.slots.rows b.known l.as_known k.entry.index (at.inside) (at.held) (at.is_held) (at.stamp) ∙ stamp,
          live_due true b.slots.last_stamp b.wheel.filing.tick b.noted b.slots.rows b.known l.as_known k.entry.index (at.inside) (at.held) (at.is_held) (at.stamp) mark,
          machine_with c (cancelled k.stamp) ek ew es en,
        );
        rest = record { shard = esh; noted = en; wheel = ew; slots = es; counts = ec };
      }

  word_stamp : (word_at b.known k.entry.index).stamp ≡ k.stamp
  word_stamp = ap (λ p. p.stamp) called.2

  -- the law is kept
  pub law_extended : (known : List Parts) (when d : ℕ) → when ≤ LAST_TICK → d ≡ max when (word_at b.known k.entry.index).field → known ≡ extended b.known k d → IsLawful b.noted b.wheel.filing b.slots known b.counts
  law_extended known when d small ed ek =
      let low = field_small in
      let w = word_at b.known k.entry.index in
      let stamps : live k.stamp d ≡ live w.stamp d = ap (λ s. live s d) (sym word_stamp) in
      law_learned l true k.entry.index (called_filed b l k called).0 (live k.stamp d) at (inr (refl, mark, inl (stamps, omega (arith, ed), omega (arith, ed, low)))) ek

  pub law_given_up : (known : List Parts) → known ≡ given_up b.known k → IsLawful b.noted b.wheel.filing b.slots known b.counts
  law_given_up known ek =
      let w = word_at b.known k.entry.index in
      law_learned l true k.entry.index (called_filed b l k called).0 (cancelled k.stamp) at (inr (refl, mark, inr (ap cancelled (sym word_stamp)))) ek

same_words : {T : Type 0} (shard noted : ℕ) (wheel : WheelState) (slots : SlotState T) (old new : WordRow) → new ≡ old → core_of shard noted wheel slots new.known new.counts new ≡ core_of shard noted wheel slots old.known old.counts old
same_words {T} shard noted wheel slots old new e = ap (λ (w : WordRow). core_of {T = T} {W = WordRow} shard noted wheel slots w.known w.counts w) e

extending_refused : {T : Type 0} (b : Core T WordRow) (k : Key) (when : ℕ) (e : CallError) → when ≤ LAST_TICK → k.entry.shard ≡ b.shard → ExtendRefused b.known k when e → ExtendingRefused b k when e
extending_refused b k when (TooFar limit) small shard r = r
extending_refused b k when Unknown small shard r = (small, inr r.1)
extending_refused b k when (Stale seen) small shard r = (small, (shard, r.1))
extending_refused b k when (Ended how) small shard r = (small, (shard, r.1))

key_refused : {T : Type 0} (b : Core T WordRow) (k : Key) (e : CallError) → k.entry.shard ≡ b.shard → CallRefused b.known k e → KeyRefused b k e
key_refused b k (TooFar limit) shard r = (shard, r)
key_refused b k Unknown shard r = inr r
key_refused b k (Stale seen) shard r = (shard, r)
key_refused b k (Ended how) shard r = (shard, r)

-- a call by key on the words is one on the queue
module _ {T : Type 0} (shard noted : ℕ) (wheel : WheelState) (slots : SlotState T) (old new : WordRow) (k : Key) (l : IsLawful noted wheel.filing (shown slots) old.known old.counts) (here : k.entry.shard ≡ shard) where
  pub extends_by : (when : ℕ) (r : Result ℕ CallError) → when ≤ LAST_TICK → IsExtend old k when r new → Extends (core_of shard noted wheel slots old.known old.counts old) k when r (core_of shard noted wheel slots new.known new.counts new)
  extends_by when (Ok d) small p =
      extends (core_of shard noted wheel slots old.known old.counts old) l k p.1 (core_of shard noted wheel slots new.known new.counts new) when d small here p.2 (ap (λ w. w.known) p.3) refl refl (ap (λ w. w.counts) p.3) refl refl
  extends_by when (Err e) small p =
      (extending_refused (core_of shard noted wheel slots old.known old.counts old) k when e small here p.0, same_words shard noted wheel slots old new p.1)

  pub extended_lawful : (when : ℕ) (r : Result ℕ CallError) → when ≤ LAST_TICK → IsExtend old k when r new → IsLawful noted wheel.filing (shown slots) new.known new.counts
  extended_lawful when (Ok d) small p =
      let P : WordRow → Type 0 = λ w. IsLawful noted wheel.filing (shown slots) w.known w.counts in
      subst P (sym p.3) (law_extended (core_of shard noted wheel slots old.known old.counts old) l k p.1 (extended old.known k d) when d small p.2 refl)
  extended_lawful when (Err e) small p =
      let P : WordRow → Type 0 = λ w. IsLawful noted wheel.filing (shown slots) w.known w.counts in
      subst P (sym p.1) l

  pub cancels_by : (r : Result ℕ CallError) → IsCancel old k r new → Cancels (core_of shard noted wheel slots old.known old.counts old) k r (core_of shard noted wheel slots new.known new.counts new)
  cancels_by (Ok d) p =
      cancels (core_of shard noted wheel slots old.known old.counts old) l k p.0 (core_of shard noted wheel slots new.known new.counts new) d here p.1 (ap (λ w. w.known) p.2) refl refl (ap (λ w. w.counts) p.2) refl refl
  cancels_by (Err e) p =
      (key_refused (core_of shard noted wheel slots old.known old.counts old) k e here p.0, same_words shard noted wheel slots old new p.1)

  pub cancelled_lawful : (r : Result ℕ CallError) → IsCancel old k r new → IsLawful noted wheel.filing (shown slots) new.known new.counts
  cancelled_lawful (Ok d) p =
      let P : WordRow → Type 0 = λ w. IsLawful noted wheel.filing (shown slots) w.known w.counts in
      subst P (sym p.2) (law_given_up (core_of shard noted wheel slots old.known old.counts old) l k p.0 (given_up old.known k) refl)
  cancelled_lawful (Err e) p =
      let P : WordRow → Type 0 = λ w. IsLawful noted wheel.filing (shown slots) w.known w.counts in
      subst P (sym p.1) l

-- the counts stay
pub extended_counts : (old new : WordRow) (k : Key) (when : ℕ) (r : Result ℕ CallError) → IsExtend old k when r new → new.counts ≡ old.counts
extended_counts old new k when (Ok d) p = ap (λ w. w.counts) p.3
extended_counts old new k when (Err e) p = ap (λ w. w.counts) p.1
