-- Each timer of a queue stays filed by its deadline, and when the queue looks at one next.
use Rattle.std.proofs.Common.{◌≡◌, ◌≢◌, ℕ, ◌<◌, ◌≤◌, zero, suc, false, List, length, set, replicate, Option, Some, None, refl, sym, ap, ◌∙◌, subst, inl, inr, arith}
use Rattle.std.proofs.lemmas.List.{get_or-set_same, get_or-set_other, get_or_past, length-set}
use Rattle.std.proofs.lemmas.Bool.{cases_lt, cases_eq, false≢true}
use Rattle.dq_ticks.specs.declared.words.Parts.{Parts}
use Rattle.dq_ticks.specs.declared.keys.EntryId.{EntryId}
use Rattle.dq_ticks.specs.Keys.{KeyName}
use Rattle.dq_ticks.specs.Digits.{IsAhead}
use Rattle.dq_ticks.proofs.Laws.{start_le}
use Rattle.dq_wheel.specs.State.{filed_at, linked, unlinked, fresh_filing}
use Rattle.dq_wheel.specs.Lawful.{IsLawfulWheel}
use Rattle.dq_wheel.specs.Wakes.{wake_for, IsNextWake, IsWithin}
use Rattle.dq_wheel.proofs.Wakes.{wake_same, wake_other}
use Rattle.dq_core.specs.declared.errors.CoreError.{CoreError}
use Rattle.dq_core.specs.declared.errors.CoreError.TheVariants.{TooFar, Full, Missing, WasCancelled, Worn, TickTooLarge, BadConfig, NoMemory}
use Rattle.dq_core.specs.declared.outcomes.Turn.{Turn}
use Rattle.dq_core.specs.declared.outcomes.Removed.{Removed}
use Rattle.dq_core.specs.Words.{word_at, never}
use Rattle.dq_core.specs.Machine.{Entry}
use Rattle.dq_core.specs.Core.{Core, machine, filing_for, entry_of, due_by, IsLawfulCore}
use Rattle.dq_core.specs.Calls.{IsLookedAt, IsInserted, IsReset, ResetRefused, IsRemoved, IsPolled, TellsWake}
use Rattle.dq_core.proofs.Law.{filed_is}
use Rattle.dq_ticks.specs.declared.keys.Key.{Key}
use Rattle.dq_apps.specs.TimerTable.{timer_at, running, AllRun, IsTimer, AreFiled, TellsTimersWake, timers_of}
use Rattle.dq_apps.proofs.TimerRows.{slot_is, length-slots}
use Rattle.dq_apps.proofs.Firsts.{due_live, filed_within}

-- what an index is filed at after another one was filed
filed_other : (filed : List (Option ℕ)) (i j : ℕ) (o : Option ℕ) → j ≢ i → filed_at (set filed i o) j ≡ filed_at filed j
filed_other filed i j o ne = get_or-set_other filed i j o None ne

-- an index that was taken out is filed nowhere
taken_out : (filed : List (Option ℕ)) (i : ℕ) → filed_at (set filed i None) i ≡ None
taken_out filed i = elim (cases_lt i (length filed)) [
  | inl inside ↦ get_or-set_same filed i None None inside
  | inr past ↦ let size = length-set filed i None in get_or_past (set filed i None) i None (omega (arith, past, size))
]

-- an index that is filed after another one was filed at g
filed_new : (filed : List (Option ℕ)) (i g f : ℕ) → filed_at (set filed i (Some g)) i ≡ Some f → f ≡ g
filed_new filed i g f is = elim (cases_lt i (length filed)) [
  | inl inside ↦
      let here : ◌≡◌ {A = Option ℕ} (Some f) (Some g) = sym is ∙ get_or-set_same filed i (Some g) None inside in
      cc
  | inr past ↦
      let size = length-set filed i (Some g) in
      let none : filed_at (set filed i (Some g)) i ≡ None = get_or_past (set filed i (Some g)) i None (omega (arith, past, size)) in
      absurd (cc)
]

-- a wake for a filed tick isn't after it
wake_le : (e f : ℕ) → IsWithin e f → wake_for e f ≤ f
wake_le e f w = elim (cases_eq e f) [
  | inl same ↦ let now = wake_same e f same in omega (arith, now, same)
  | inr other ↦
      let from = w.not_before in
      let a : IsAhead e f = record { later = omega (arith, from, other); near = w.near; in_range = w.in_range } in
      let start = wake_other e f other in
      let le = start_le e f a in
      omega (arith, start, le)
]

module _ {K W : Type 0} (b c : Core K W) (are : AreFiled b) where
  abbrev old : List (Option ℕ)
  old = b.wheel.filing.filed

  abbrev tick : ℕ
  tick = b.wheel.filing.tick

  -- nothing is filed anew
  same_filed : c.wheel.filing ≡ b.wheel.filing → ((j : ℕ) → word_at c.known j ≡ word_at b.known j) → AreFiled c
  same_filed wheel words j f is =
      let was = are j f (sym (ap (λ w. filed_at w.filed j) wheel) ∙ is) in
      let at = ap (λ w. w.tick) wheel in
      let before = was.1 in
      (was.0, omega (arith, at, before), was.2 ∙ ap (λ p. filing_for was.0 p.field) (sym (words j)))

  -- index i is filed anew, by the deadline of its word
  module _ (i d : ℕ) (p : Parts) (inside : i < length b.known) (wheel : c.wheel.filing ≡ linked b.wheel.filing i (filing_for tick d)) (known : c.known ≡ set b.known i p) (field : p.field ≡ d) where
    pub filed_anew : AreFiled c
    filed_anew j f is =
        let now : filed_at (set old i (Some (filing_for tick d))) j ≡ Some f = sym (ap (λ w. filed_at w.filed j) wheel) ∙ is in
        let at = ap (λ w. w.tick) wheel in
        elim (cases_eq j i) [
          | inl same ↦
              let P : ℕ → Type 0 = λ k. filed_at (set old i (Some (filing_for tick d))) k ≡ Some f in
              let f_is = filed_new old i (filing_for tick d) f (subst P same now) in
              let word : word_at c.known j ≡ p = (λ k. word_at (known k) (same k)) ∙ get_or-set_same b.known i p never inside in
              (tick, omega (arith, at), f_is ∙ ap (filing_for tick) (sym (ap (λ w. w.field) word ∙ field)))
          | inr ne ↦
              let was = are j f (sym (filed_other old i j (Some (filing_for tick d)) ne) ∙ now) in
              let before = was.1 in
              let word : word_at c.known j ≡ word_at b.known j = ap (λ k. word_at k j) known ∙ get_or-set_other b.known i j p never ne in
              (was.0, omega (arith, at, before), was.2 ∙ ap (λ w. filing_for was.0 w.field) (sym word))
        ]

  -- index i is taken out
  module _ (i : ℕ) (p : Parts) (wheel : c.wheel.filing ≡ unlinked b.wheel.filing i) (known : c.known ≡ set b.known i p) where
    filed_less : AreFiled c
    filed_less j f is =
        let now : filed_at (set old i None) j ≡ Some f = sym (ap (λ w. filed_at w.filed j) wheel) ∙ is in
        let at = ap (λ w. w.tick) wheel in
        elim (cases_eq j i) [
          | inl same ↦
              let P : ℕ → Type 0 = λ k. filed_at (set old i None) k ≡ Some f in
              let there = subst P same now in
              let gone = taken_out old i in
              absurd (cc)
          | inr ne ↦
              let was = are j f (sym (filed_other old i j None ne) ∙ now) in
              let before = was.1 in
              let word : word_at c.known j ≡ word_at b.known j = ap (λ k. word_at k j) known ∙ get_or-set_other b.known i j p never ne in
              (was.0, omega (arith, at, before), was.2 ∙ ap (λ w. filing_for was.0 w.field) (sym word))
        ]

  -- a word that nobody shares was looked at
  looked_word : (i : ℕ) (v : Parts) → IsLookedAt false b i v c → v ≡ word_at b.known i
  looked_word i v l = elim l.learned [
    | inl same ↦ same
    | inr new ↦ absurd (false≢true new.0)
  ]

  looked_filed : (i : ℕ) (v : Parts) → IsLookedAt false b i v c → AreFiled c
  looked_filed i v l = same_filed (ap (λ w. w.filing) l.wheel) (λ j. ap (λ k. word_at k j) l.known ∙ by j)
    where
      by : (j : ℕ) → word_at (set b.known i v) j ≡ word_at b.known j
      by j = elim (cases_eq j i) [
        | inl same ↦ elim (cases_lt i (length b.known)) [
          | inl inside ↦
              (λ k. word_at (set b.known i v) (same k))
              ∙ (get_or-set_same b.known i v never inside ∙ (looked_word i v l ∙ (λ k. word_at b.known (sym same k))))
          | inr past ↦
              let size = length-set b.known i v in
              get_or_past (set b.known i v) j never (omega (arith, past, size, same)) ∙ sym (get_or_past b.known j never (omega (arith, past, same)))
        ]
        | inr ne ↦ get_or-set_other b.known i j v never ne
      ]

  unchanged : c ≡ b → AreFiled c
  unchanged is = subst (λ (x : Core K W). AreFiled x) (sym is) are

  -- insert, reset and remove
  pub inserted_filed : (key : K) (when : ℕ) (k : Key) → IsLawfulCore b → IsInserted b key when k c → AreFiled c
  inserted_filed key when k law ins =
      let inside = ins.step.0 in
      let size = length-slots b.slots.rows b.known law.as_known in
      let known = law.as_known in
      filed_anew k.entry.index _ _ (omega (arith, inside, size, known)) ins.filed ins.known refl

  pub reset_filed : (id : EntryId) (when : ℕ) (k : Key) → id.index < length b.known → IsReset false b id when k c → AreFiled c
  reset_filed id when k inside r = filed_anew id.index _ _ inside r.filed r.known refl

  pub refused_filed : (id : EntryId) (when : ℕ) (e : CoreError) → ResetRefused false b id when e c → AreFiled c
  refused_filed id when (TooFar limit) r = unchanged r.2
  refused_filed id when (Full linked worn) r = absurd r
  refused_filed id when Missing r = unchanged r.2
  refused_filed id when WasCancelled r = looked_filed id.index _ r.1.looked
  refused_filed id when Worn r = looked_filed id.index _ r.1.1.looked
  refused_filed id when (TickTooLarge limit) r = absurd r
  refused_filed id when BadConfig r = absurd r
  refused_filed id when NoMemory r = absurd r

  pub removed_filed : (id : EntryId) (x : Removed K) → IsRemoved false b id x c → AreFiled c
  removed_filed id x r = filed_less id.index _ r.filed r.known

  -- poll
  pub polled_filed : (now : ℕ) (turn : Turn K) → IsPolled false b now turn c → AreFiled c
  polled_filed now turn p j f is =
      let up = p.2.ticks in
      elim (p.2.filed j) [
        | inl same ↦
            let was = are j f (sym same.0 ∙ is) in
            let before = was.1 in
            (was.0, omega (arith, up, before), was.2 ∙ ap (λ w. filing_for was.0 w.field) (sym same.1))
        | inr (inl none) ↦ absurd (cc)
        | inr (inr new) ↦
            let here : ◌≡◌ {A = Option ℕ} (Some f) (Some (filing_for new.0 (word_at c.known j).field)) = sym is ∙ new.4 in
            let same : f ≡ filing_for new.0 (word_at c.known j).field = cc in
            (new.0, new.2, same)
      ]

-- the slot that a timer's key names has a word
pub named_inside : {K W : Type 0} (b : Core K W) (k : KeyName) → IsLawfulCore b → IsTimer (machine b).table k → k.entry.index < length b.known
named_inside b k law timer =
    let inside = timer.2.inside in
    let size = length-slots b.slots.rows b.known law.as_known in
    let known = law.as_known in
    omega (arith, inside, size, known)

-- a fresh queue
pub fresh_filed : {K W : Type 0} (c : Core K W) (capacity : ℕ) → c.wheel.filing ≡ fresh_filing capacity → AreFiled c
fresh_filed c capacity is j f at =
    let none : filed_at c.wheel.filing.filed j ≡ None = ap (λ w. filed_at w.filed j) is ∙ nowhere capacity j in
    absurd (cc)
  where
    nowhere : (n i : ℕ) → filed_at (replicate n None) i ≡ None
    nowhere zero i = refl
    nowhere (suc n) zero = refl
    nowhere (suc n) (suc i) = nowhere n i

-- the next wake
module _ {K W : Type 0} (b : Core K W) (law : IsLawfulCore b) (wheel : IsLawfulWheel b.wheel) (run : AllRun (machine b).table) (are : AreFiled b) where
  -- what is filed is a timer, by the deadline of its word
  filed_timer : (i f : ℕ) → filed_at b.wheel.filing.filed i ≡ Some f → (born : ℕ) × (key : K) × (d : ℕ) × ((timer_at (machine b).table i).entry ≡ running born key d) × ((word_at b.known i).field ≡ d)
  filed_timer i f at =
      let w = word_at b.known i in
      let s = filed_is law i f at in
      let slot = slot_is b.slots.rows b.known law.as_known i in
      let e : Entry K = record { born = s.held.born; value = s.held.value; due = due_by w.mark w.field } in
      let entry : (timer_at (machine b).table i).entry ≡ Some e = ap (λ r. r.entry) slot ∙ ap (λ o. entry_of o w) s.is_held in
      let runs = run i e entry in
      let live = due_live w.mark w.field runs.0 runs.1 in
      (s.held.born, s.held.value, runs.0, entry ∙ ap (λ o. let x : Entry K = record { born = s.held.born; value = s.held.value; due = o } in Some x) runs.1, live.1)

  timers_wake : (w : ℕ) → IsNextWake b.wheel.filing.tick b.wheel.filing.filed w → TellsTimersWake (timers_of b) (Some w)
  timers_wake w n =
      let i = n.some.0 in
      let f = n.some.1 in
      let t = filed_timer i f n.some.2 in
      let g = are i f n.some.2 in
      record {
        some = (i, t.0, t.1, t.2, g.0, b.wheel.filing.tick, t.3, g.1, law.tick, n.some.3 ∙ ap (wake_for b.wheel.filing.tick) (g.2 ∙ ap (filing_for g.0) t.4));
        least = λ j born key d is.
            let at = filed_within b law j born key d is in
            let first = n.least j at.0 at.1 in
            let le = wake_le b.wheel.filing.tick at.0 (wheel.within j at.0 at.1) in
            let short = at.2 in
            omega (arith, first, le, short);
      }

  pub tells_wake : (o : Option ℕ) → TellsWake b o → TellsTimersWake (timers_of b) o
  tells_wake None none = none
  tells_wake (Some w) n = timers_wake w n
