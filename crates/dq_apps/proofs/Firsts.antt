-- The first timer of a queue: what is filed least by its own deadline has the least deadline of all.
use Rattle.std.proofs.Common.{◌≡◌, ℕ, ◌≤◌, get_or, Option, Some, None, Ok, refl, sym, ap, ◌∙◌, subst, inl, inr, arith}
use Rattle.dq_ticks.specs.Keys.{KeyName}
use Rattle.dq_ticks.specs.declared.TheConstants.{LAST_TICK}
use Rattle.dq_ticks.specs.declared.words.Parts.{Parts}
use Rattle.dq_ticks.specs.declared.words.Mark.{Mark}
use Rattle.dq_ticks.specs.declared.words.Mark.TheVariants.{LiveMark, CancelledMark, ExpiredMark, RemovedMark}
use Rattle.dq_core.specs.declared.slots.Held.{Held}
use Rattle.dq_core.specs.declared.words.Look.TheVariants.{StillLive}
use Rattle.dq_core.specs.Words.{word_at, IsInForce, live, look_by}
use Rattle.dq_core.specs.Slots.{row_at}
use Rattle.dq_core.specs.Machine.{Entry}
use Rattle.dq_core.specs.Core.{Core, machine, IsLawfulCore, IsPlaced, entry_of, due_by}
use Rattle.dq_core.specs.Readers.{TellsLeast, TellsFiled}
use Rattle.dq_core.specs.KeyCalls.{Shows}
use Rattle.dq_apps.specs.TimerTable.{timer_at, running, AreInRange, IsFirst}
use Rattle.dq_apps.proofs.TimerRows.{slot_is, inside_slots, length-slots}

pub due_live : (m : Mark) (d e : ℕ) → due_by m d ≡ Some e → (m ≡ LiveMark) × (d ≡ e)
due_live LiveMark d e is = (refl, cc)
due_live CancelledMark d e is = absurd (cc)
due_live ExpiredMark d e is = absurd (cc)
due_live RemovedMark d e is = absurd (cc)

look_live : (m : Mark) (x d : ℕ) → StillLive d ≡ look_by m x → (m ≡ LiveMark) × (x ≡ d)
look_live LiveMark x d is = (refl, cc)
look_live CancelledMark x d is = absurd (cc)
look_live ExpiredMark x d is = absurd (cc)
look_live RemovedMark x d is = absurd (cc)

-- a live word in force is filed no later than its deadline
force_live : (s f : ℕ) (w : Parts) → IsInForce s f w → w.mark ≡ LiveMark → f ≤ w.field
force_live s f w (used, inl (is, within, small)) live = within
force_live s f w (used, inr is) live = let mark : w.mark ≡ CancelledMark = ap (λ p. p.mark) is in absurd (cc)

force_small : (s f : ℕ) (w : Parts) → IsInForce s f w → w.mark ≡ LiveMark → w.field ≤ LAST_TICK
force_small s f w (used, inl (is, within, small)) live = small
force_small s f w (used, inr is) live = let mark : w.mark ≡ CancelledMark = ap (λ p. p.mark) is in absurd (cc)

module _ {K : Type 0} where
  entry_parts : (o : Option (Held K)) (w : Parts) (e : Entry K) → entry_of o w ≡ Some e → (h : Held K) × (o ≡ Some h) × (e.due ≡ due_by w.mark w.field)
  entry_parts None w e is = absurd (cc)
  entry_parts (Some h) w e is =
      let x : Entry K = record { born = h.born; value = h.value; due = due_by w.mark w.field } in
      let same : x ≡ e = cc in
      (h, refl, ap (λ y. y.due) (sym same))

  placed_some : (tick noted s : ℕ) (h : Held K) (w : Parts) (o : Option ℕ) → IsPlaced tick noted s (Some h) w o → (f : ℕ) × (o ≡ Some f) × IsInForce s f w
  placed_some tick noted s h w None p = absurd p
  placed_some tick noted s h w (Some f) p = (f, refl, p.0)

module _ {K W : Type 0} (b : Core K W) (law : IsLawfulCore b) where
  -- what stands at a slot with an entry, and where it is filed
  at_slot : (i : ℕ) (e : Entry K) → (timer_at (machine b).table i).entry ≡ Some e → (f : ℕ) × (get_or b.wheel.filing.filed i None ≡ Some f) × IsInForce (row_at b.slots.rows i).stamp f (word_at b.known i) × (e.due ≡ due_by (word_at b.known i).mark (word_at b.known i).field)
  at_slot i e is =
      let r = row_at b.slots.rows i in
      let w = word_at b.known i in
      let slot = slot_is b.slots.rows b.known law.as_known i in
      let parts = entry_parts r.held w e (sym (ap (λ s. s.entry) slot) ∙ is) in
      let inside = inside_slots (machine b).table i e is in
      let size = length-slots b.slots.rows b.known law.as_known in
      let P : Option (Held K) → Type 0 = λ o. IsPlaced b.wheel.filing.tick b.noted r.stamp o w (get_or b.wheel.filing.filed i None) in
      let placed = placed_some b.wheel.filing.tick b.noted r.stamp parts.0 w (get_or b.wheel.filing.filed i None) (subst P parts.1 (law.each i (omega (arith, inside, size))).placed) in
      (placed.0, placed.1, placed.2, parts.2)

  -- a timer is filed no later than its deadline
  pub filed_within : (i born : ℕ) (key : K) (d : ℕ) → (timer_at (machine b).table i).entry ≡ running born key d → (f : ℕ) × (get_or b.wheel.filing.filed i None ≡ Some f) × (f ≤ d)
  filed_within i born key d is =
      let at = at_slot i (record { born = born; value = key; due = Some d }) is in
      let live = due_live (word_at b.known i).mark (word_at b.known i).field d (sym at.3) in
      let within = force_live (row_at b.slots.rows i).stamp at.0 (word_at b.known i) at.2 live.0 in
      let field = live.1 in
      (at.0, at.1, omega (arith, within, field))

  pub range_within : AreInRange (machine b).table
  range_within i born key d is =
      let at = at_slot i (record { born = born; value = key; due = Some d }) is in
      let live = due_live (word_at b.known i).mark (word_at b.known i).field d (sym at.3) in
      let small = force_small (row_at b.slots.rows i).stamp at.0 (word_at b.known i) at.2 live.0 in
      let field = live.1 in
      omega (arith, small, field)

  -- an entry that a look shows as live at d is a timer of that deadline
  shown_live : (k : KeyName) (e : Entry K) (d : ℕ) → (timer_at (machine b).table k.entry.index).entry ≡ Some e → Shows b k (Ok (StillLive d)) → (timer_at (machine b).table k.entry.index).entry ≡ running e.born e.value d
  shown_live k e d is shows =
      let at = at_slot k.entry.index e is in
      let live = look_live (word_at b.known k.entry.index).mark (word_at b.known k.entry.index).field d shows.1.3 in
      let due : e.due ≡ Some d = at.3 ∙ (λ i. due_by (live.0 i) (live.1 i)) in
      is ∙ ap (λ o. let x : Entry K = record { born = e.born; value = e.value; due = o } in Some x) due

  pub first_is : (k : KeyName) (d : ℕ) → TellsLeast b (Some k) → TellsFiled b k.entry (Some d) → Shows b k (Ok (StillLive d)) → IsFirst (machine b).table d
  first_is k d least filed shows = record {
    some = (k.entry.index, least.0.1.0.born, least.0.1.0.value, shown_live k least.0.1.0 d least.0.1.1.1 shows);
    least = λ i born key e is.
        let within = filed_within i born key e is in
        let here : ◌≡◌ {A = Option ℕ} (Some least.2.0) (Some d) = sym least.2.2 ∙ filed.1 in
        let same : least.2.0 ≡ d = cc in
        let first = least.2.3 i within.0 within.1 in
        let short = within.2 in
        omega (arith, same, first, short);
  }
