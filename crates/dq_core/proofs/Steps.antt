-- The steps of a poll: each keeps the shard law, goes the machine's way, and leaves less to do.
use Rattle.std.proofs.Common.{◌≡◌, ◌≢◌, ℕ, ◌+◌, ◌-◌, ◌<◌, ◌≤◌, max, Bool, List, length, get_or, set, Option, Some, None, MatchOption, refl, sym, ap, ◌∙◌, subst, inl, inr, arith}
use Rattle.std.specs.List.{sum_by}
use Rattle.std.proofs.lemmas.List.{get_or-set_same, get_or-set_other, set-set, set-get_or}
use Rattle.std.proofs.lemmas.List.Sums.{sum_by-set}
use Rattle.std.proofs.lemmas.Bool.{cases_eq}
use Rattle.dq_ticks.specs.declared.words.Parts.{Parts}
use Rattle.dq_ticks.specs.declared.words.Mark.TheVariants.{LiveMark, CancelledMark, ExpiredMark}
use Rattle.dq_ticks.specs.declared.keys.Key.{Key}
use Rattle.dq_ticks.specs.declared.keys.EntryId.{EntryId}
use Rattle.dq_ticks.specs.declared.TheConstants.{LAST_TICK}
use Rattle.dq_ticks.specs.Units.{lap}
use Rattle.dq_wheel.specs.State.{Filing, filed_at, linked, unlinked}
use Rattle.dq_core.specs.declared.slots.Held.{Held}
use Rattle.dq_core.specs.declared.outcomes.Expired.{Expired}
use Rattle.dq_core.specs.declared.outcomes.Turn.{Turn}
use Rattle.dq_core.specs.declared.outcomes.Turn.TheVariants.{Out, Waiting, Idle}
use Rattle.dq_core.specs.declared.words.Settled.TheVariants.{SettledExpired, Later, SettledCancelled}
use Rattle.dq_core.specs.Words.{Counts, word_at, never, IsInForce, Learned, IsSettled, settled_counts}
use Rattle.dq_core.specs.Slots.{SlotRows, unused, row_at, vacated, vacated_row}
use Rattle.dq_core.specs.Machine.{Machine, Reap, Pass, RunOf, IsCallers, IsOnTheWay, Has, table_at, put, NoneLiveBefore, NoneLinked}
use Rattle.dq_core.specs.Core.{Core, machine, IsPlaced, IsLawful, IsLawfulCore, filing_for, due_by, entry_of}
use Rattle.dq_core.specs.TableRows.{machine_of}
use Rattle.dq_core.specs.Calls.{SameCore, LooksOver, IsFiledOver, IsUnderWay, IsAnswered, IsLeft, IsOut, IsTurn, IsPolled, TurnRow, turn_counts, TellsWake, WakesAhead, cost, work, noting}
use Rattle.dq_wheel.specs.Wakes.{IsNextWake, WakesAreAhead}
use Rattle.dq_wheel.specs.Lawful.{IsLawfulWheel}
use Rattle.dq_core.proofs.Slotwise.{held_inside}
use Rattle.dq_core.proofs.Law.{Filed, filed_is, held_filed, law_kept, law_vacated, force_learned, force_live}
use Rattle.dq_core.specs.WheelWays.{GoesOn}
use Rattle.dq_core.proofs.Looks.{looks_none, looks_one, looks_more}
use Rattle.dq_core.proofs.WheelSteps.{goes_more, goes_one, goes_none}
use Rattle.dq_core.proofs.Ways.{run_of_more, run_of_into, run_of_none, run_of_one, callers_on_the_way, learning, machine_is, vacated_of, none_before, none_due, table_row_is}

-- filed anew where it was filed before
pub relinked : (w : Filing) (i f : ℕ) → linked (unlinked w i) i f ≡ linked w i f
relinked w i f =
    ap (λ xs. let x : Filing = record { tick = w.tick; filed = xs; moves = set (set w.moves i 0) i 0; moved = w.moved } in x) (set-set w.filed i None (Some f))
    ∙ ap (λ xs. let x : Filing = record { tick = w.tick; filed = set w.filed i (Some f); moves = xs; moved = w.moved } in x) (set-set w.moves i 0 0)

-- how one index is filed after two ways
filed_more : (u : Filing) (a : List Parts) (v : Filing) (b : List Parts) (w : Filing) (c : List Parts) (i : ℕ) → u.tick ≤ v.tick → v.tick ≤ w.tick → IsFiledOver u a v b i → IsFiledOver v b w c i → IsFiledOver u a w c i
filed_more u a v b w c i up up' (inl (f, k)) (inl (f', k')) = inl (f' ∙ f, k' ∙ k)
filed_more u a v b w c i up up' (inr (inl f)) (inl (f', k')) = inr (inl (f' ∙ f))
filed_more u a v b w c i up up' (inr (inr (t, from, to, mark, f))) (inl (f', k')) =
    inr (inr (t, from, omega (arith, to, up'), ap (λ p. p.mark) k' ∙ mark, f' ∙ f ∙ ap (λ p. let o : Option ℕ = Some (filing_for t p.field) in o) (sym k')))
filed_more u a v b w c i up up' x (inr (inl f')) = inr (inl f')
filed_more u a v b w c i up up' x (inr (inr (t, from, to, mark, f))) = inr (inr (t, omega (arith, from, up), to, mark, f))

-- one way after another
pub under_way_more : {T W : Type 0} (shared : Bool) (a b c : Core T W) → b.slots.last_stamp ≡ a.slots.last_stamp → b.noted ≡ a.noted → IsUnderWay shared a b → IsUnderWay shared b c → IsUnderWay shared a c
under_way_more shared a b c last noted x y =
    let P : ℕ → Type 0 = λ n. RunOf (IsOnTheWay shared) n (machine b) (machine c) in
    let ticks = x.ticks in
    let ticks' = y.ticks in
    record {
      way = run_of_more (IsOnTheWay shared) a.slots.last_stamp (machine a) (machine b) (machine c) x.way (subst P last y.way);
      looks = looks_more shared a.known b.known c.known x.looks y.looks;
      wheel = goes_more shared a.known b.known a.noted b.noted a.wheel.filing b.wheel.filing c.wheel.filing noted x.looks x.wheel y.wheel;
      ticks = omega arith;
      filed = λ i. filed_more a.wheel.filing a.known b.wheel.filing b.known c.wheel.filing c.known i ticks ticks' (x.filed i) (y.filed i);
      counts = y.counts ∙ x.counts;
    }

-- how the indexes are filed where one index changes
filed_one : (v w : Filing) (old new : List Parts) (i : ℕ) (o : Option ℕ) (p : Parts) → w.filed ≡ set v.filed i o → new ≡ set old i p → IsFiledOver v old w new i → (j : ℕ) → IsFiledOver v old w new j
filed_one v w old new i o p ef ek here j =
    elim (cases_eq j i) [
      | inl same ↦ let P : ℕ → Type 0 = λ k. IsFiledOver v old w new k in subst P (sym same) here
      | inr ne ↦
          inl (ap (λ xs. filed_at xs j) ef ∙ get_or-set_other v.filed i j o None ne, ap (λ ws. word_at ws j) ek ∙ get_or-set_other old i j p never ne)
    ]

-- the work that is left, where one index is filed otherwise
work_one : (filed : List (Option ℕ)) (i : ℕ) (o : Option ℕ) → i < length filed → sum_by cost (set filed i o) + cost (get_or filed i None) ≡ sum_by cost filed + cost o
work_one filed i o inside = sum_by-set cost filed i o None inside

-- there is less to do where an index that was due is filed later, or not at all
work_less : {T W : Type 0} (b c : Core T W) (i : ℕ) (o : Option ℕ) → i < length b.wheel.filing.filed → filed_at b.wheel.filing.filed i ≡ Some b.wheel.filing.tick → b.wheel.filing.tick ≤ LAST_TICK → cost o < LAST_TICK + 1 - b.wheel.filing.tick → c.wheel.filing.filed ≡ set b.wheel.filing.filed i o → c.wheel.filing.tick ≡ b.wheel.filing.tick → c.noted ≡ b.noted → work c < work b
work_less b c i o inside at small less ef et en =
    let w = work_one b.wheel.filing.filed i o inside in
    let was : cost (filed_at b.wheel.filing.filed i) ≡ LAST_TICK + 1 - b.wheel.filing.tick = ap cost at in
    let now : sum_by cost c.wheel.filing.filed ≡ sum_by cost (set b.wheel.filing.filed i o) = ap (sum_by cost) ef in
    rw (now, et, en) (omega (arith, w, was, less))

-- what is in force is filed after the tick, where it is later
later_filed : (tick d : ℕ) → tick < d → (tick < filing_for tick d) × (filing_for tick d ≤ d) × (filing_for tick d < tick + lap)
later_filed tick d later = (omega arith, omega arith, omega arith)

module _ {T W : Type 0} (shared : Bool) (b c : Core T W) (l : IsLawfulCore b) (i : ℕ) (due : filed_at b.wheel.filing.filed i ≡ Some b.wheel.filing.tick) (en : c.noted ≡ b.noted) where
  here : Filed b.wheel.filing.tick b.slots.last_stamp b.slots.rows b.known b.wheel.filing.filed i b.wheel.filing.tick
  here = filed_is l i b.wheel.filing.tick due

  stamp : ℕ
  stamp = (row_at b.slots.rows i).stamp

  inside_known : i < length b.known
  inside_known = let size = l.as_known in let inside = here.inside in omega arith

  inside_filed : i < length b.wheel.filing.filed
  inside_filed = let size = l.as_filed in let inside = here.inside in omega arith

  low : b.wheel.filing.tick ≤ LAST_TICK
  low = let t = l.tick in let n = l.noted_bound in omega arith

  -- a due entry that is live at a later deadline is filed again
  pub step_later : (d : ℕ) → IsSettled shared (row_at b.slots.rows i).stamp b.wheel.filing.tick (word_at b.known i) (Later d) (word_at c.known i) → c.wheel.filing ≡ linked (unlinked b.wheel.filing i) i (filing_for b.wheel.filing.tick d) → c.slots ≡ b.slots → c.known ≡ set b.known i (word_at c.known i) → c.counts ≡ b.counts → IsUnderWay shared b c × (work c < work b)
  step_later d settled ew es ek ec =
      let at = here in
      let v = word_at c.known i in
      let s = (row_at b.slots.rows i).stamp in
      let filing : c.wheel.filing ≡ linked b.wheel.filing i (filing_for b.wheel.filing.tick d) = ew ∙ relinked b.wheel.filing i (filing_for b.wheel.filing.tick d) in
      let filed : c.wheel.filing.filed ≡ set b.wheel.filing.filed i (Some (filing_for b.wheel.filing.tick d)) = ap (λ f. f.filed) filing in
      let ticks : c.wheel.filing.tick ≡ b.wheel.filing.tick = ap (λ f. f.tick) filing in
      let vs : v.stamp ≡ s = ap (λ p. p.stamp) settled.1 in
      let vm : v.mark ≡ LiveMark = ap (λ p. p.mark) settled.1 in
      let vf : v.field ≡ d = ap (λ p. p.field) settled.1 in
      let lea = learning shared b.slots.last_stamp b.wheel.filing.tick b.noted b.slots.rows b.known i at.held v l.as_known at.inside at.is_held at.stamp vs settled.2 in
      let mc : machine c ≡ machine_of b.wheel.filing.tick b.noted b.slots.rows (set b.known i v) = machine_is c b.wheel.filing.tick b.noted b.slots.rows (set b.known i v) ticks en (ap (λ x. x.rows) es) ek in
      let P : Machine T → Type 0 = λ m. RunOf (IsOnTheWay shared) b.slots.last_stamp (machine b) m in
      let Q : List Parts → Type 0 = λ ws. LooksOver shared b.known ws in
      let L : Parts → Type 0 = λ p. Learned shared (word_at b.known i) p in
      let later = later_filed b.wheel.filing.tick d settled.0 in
      let at_i : filed_at c.wheel.filing.filed i ≡ Some (filing_for b.wheel.filing.tick v.field) =
      ap (λ xs. filed_at xs i) filed ∙ get_or-set_same b.wheel.filing.filed i (Some (filing_for b.wheel.filing.tick d)) None inside_filed ∙ ap (λ n. let o : Option ℕ = Some (filing_for b.wheel.filing.tick n) in o) (sym vf) in
      let t0 : b.wheel.filing.tick ≤ c.wheel.filing.tick = omega (arith, ticks) in
      let before : d ≤ LAST_TICK =
      let f : IsInForce s b.wheel.filing.tick v = force_learned shared s b.wheel.filing.tick (word_at b.known i) v at.in_force settled.2 in
      let R : Parts → Type 0 = λ p. IsInForce s b.wheel.filing.tick p in
      (force_live s b.wheel.filing.tick d (subst R settled.1 f)).1 in
      let low_ = low in
      let inside_ = inside_filed in (
        record {
          way = subst P (sym mc) (run_of_into (IsCallers shared) (IsOnTheWay shared) (callers_on_the_way shared) b.slots.last_stamp (machine b) (machine_of b.wheel.filing.tick b.noted b.slots.rows (set b.known i v)) lea.way);
          looks = subst Q (sym ek) (looks_one shared b.known i v inside_known settled.2);
          wheel = goes_one shared b.known b.noted b.wheel.filing c.wheel.filing (inr (inl (i, s, d, due, settled.0, subst L settled.1 settled.2, filing)));
          ticks = t0;
          filed = filed_one b.wheel.filing c.wheel.filing b.known c.known i (Some (filing_for b.wheel.filing.tick d)) v filed ek (inr (inr (b.wheel.filing.tick, omega arith, t0, vm, at_i)));
          counts = ec;
        },
        work_less b c i (Some (filing_for b.wheel.filing.tick d)) inside_ due low_ (omega (arith, later, before, low_)) filed ticks en,
      )

  -- the law is kept then
  pub later_lawful : (d : ℕ) → IsSettled shared (row_at b.slots.rows i).stamp b.wheel.filing.tick (word_at b.known i) (Later d) (word_at c.known i) → c.wheel.filing ≡ linked (unlinked b.wheel.filing i) i (filing_for b.wheel.filing.tick d) → c.slots ≡ b.slots → c.known ≡ set b.known i (word_at c.known i) → c.counts ≡ b.counts → IsLawfulCore c
  later_lawful d settled ew es ek ec =
      let at = here in
      let v = word_at c.known i in
      let s = (row_at b.slots.rows i).stamp in
      let g = filing_for b.wheel.filing.tick d in
      let filing : c.wheel.filing ≡ linked b.wheel.filing i g = ew ∙ relinked b.wheel.filing i g in
      let later = later_filed b.wheel.filing.tick d settled.0 in
      let vs : v.stamp ≡ s = ap (λ p. p.stamp) settled.1 in
      let f : IsInForce s b.wheel.filing.tick v = force_learned shared s b.wheel.filing.tick (word_at b.known i) v at.in_force settled.2 in
      let R : Parts → Type 0 = λ p. IsInForce s b.wheel.filing.tick p in
      let small = (force_live s b.wheel.filing.tick d (subst R settled.1 f)).1 in
      let S : Parts → Type 0 = λ p. IsInForce s g p in
      let force : IsInForce s g v = subst S (sym settled.1) (at.in_force.0, inl (refl, later.1, small)) in
      let rows : c.slots.rows ≡ set b.slots.rows i (row_at b.slots.rows i) = ap (λ x. x.rows) es ∙ sym (set-get_or b.slots.rows i unused) in
      let N : ℕ → Type 0 = λ n. IsLawful n c.wheel.filing c.slots c.known c.counts in
      let C : Counts → Type 0 = λ n. IsLawful b.noted c.wheel.filing c.slots c.known n in
      subst N (sym en) (subst C (sym ec) (law_kept l i b.wheel.filing.tick g at.held (row_at b.slots.rows i) v at (ap (λ x. x.tick) filing) (ap (λ x. x.filed) filing) (ap (λ x. x.last_stamp) es) rows ek refl (omega arith) at.bound vs force (omega (arith, later)) later.2))

  -- a due entry that is found cancelled is reaped
  pub step_cancelled : IsSettled shared (row_at b.slots.rows i).stamp b.wheel.filing.tick (word_at b.known i) SettledCancelled (word_at c.known i) → c.wheel.filing ≡ unlinked b.wheel.filing i → c.slots ≡ vacated b.slots i → c.known ≡ set b.known i (word_at c.known i) → c.counts ≡ b.counts → IsUnderWay shared b c × (work c < work b)
  step_cancelled settled ew es ek ec =
      let at = here in
      let v = word_at c.known i in
      let s = (row_at b.slots.rows i).stamp in
      let t = b.wheel.filing.tick in
      let filed : c.wheel.filing.filed ≡ set b.wheel.filing.filed i None = ap (λ f. f.filed) ew in
      let ticks : c.wheel.filing.tick ≡ t = ap (λ f. f.tick) ew in
      let vs : v.stamp ≡ s = ap (λ p. p.stamp) settled.0 in
      let gone : due_by v.mark v.field ≡ None = ap (λ p. due_by p.mark p.field) settled.0 in
      let lea = learning shared b.slots.last_stamp t b.noted b.slots.rows b.known i at.held v l.as_known at.inside at.is_held at.stamp vs settled.1 in
      let m1 = machine_of t b.noted b.slots.rows (set b.known i v) in
      let twice : c.known ≡ set (set b.known i v) i v = ek ∙ sym (set-set b.known i v v) in
      let mc : machine c ≡ put m1 i (table_at m1 i).stamp None =
      machine_is c t b.noted (set b.slots.rows i (vacated_row (row_at b.slots.rows i))) (set (set b.known i v) i v) ticks en (ap (λ x. x.rows) es) twice
      ∙ vacated_of t b.noted b.slots.rows (set b.known i v) i v lea.sizes in
      let reap : RunOf (IsOnTheWay shared) b.slots.last_stamp m1 (machine c) =
      run_of_one (IsOnTheWay shared) b.slots.last_stamp m1 (machine c) (Reap i at.held.born) tt (record { born = at.held.born; value = at.held.value; due = due_by v.mark v.field }, lea.has, refl, gone, mc) in
      let Q : List Parts → Type 0 = λ ws. LooksOver shared b.known ws in
      let t0 : t ≤ c.wheel.filing.tick = omega (arith, ticks) in
      let at_i : filed_at c.wheel.filing.filed i ≡ None = ap (λ xs. filed_at xs i) filed ∙ get_or-set_same b.wheel.filing.filed i None None inside_filed in
      let low_ = low in
      let inside_ = inside_filed in (
        record {
          way = run_of_more (IsOnTheWay shared) b.slots.last_stamp (machine b) m1 (machine c) (run_of_into (IsCallers shared) (IsOnTheWay shared) (callers_on_the_way shared) b.slots.last_stamp (machine b) m1 lea.way) reap;
          looks = subst Q (sym ek) (looks_one shared b.known i v inside_known settled.1);
          wheel = goes_one shared b.known b.noted b.wheel.filing c.wheel.filing (inl (i, due, ew));
          ticks = t0;
          filed = filed_one b.wheel.filing c.wheel.filing b.known c.known i None v filed ek (inr (inl at_i));
          counts = ec;
        },
        work_less b c i None inside_ due low_ (omega (arith, low_)) filed ticks en,
      )

  pub cancelled_lawful : IsSettled shared (row_at b.slots.rows i).stamp b.wheel.filing.tick (word_at b.known i) SettledCancelled (word_at c.known i) → c.wheel.filing ≡ unlinked b.wheel.filing i → c.slots ≡ vacated b.slots i → c.known ≡ set b.known i (word_at c.known i) → c.counts ≡ b.counts → IsLawfulCore c
  cancelled_lawful settled ew es ek ec =
      let v = word_at c.known i in
      let vs : v.stamp ≡ (row_at b.slots.rows i).stamp = ap (λ p. p.stamp) settled.0 in
      let vm : v.mark ≡ CancelledMark = ap (λ p. p.mark) settled.0 in
      let begins : c.counts.begins ≡ b.counts.begins = ap (λ n. n.begins) ec in
      let expiries : c.counts.expiries ≡ b.counts.expiries = ap (λ n. n.expiries) ec in
      let removals : c.counts.removals ≡ b.counts.removals = ap (λ n. n.removals) ec in
      let N : ℕ → Type 0 = λ n. IsLawful n c.wheel.filing c.slots c.known c.counts in
      subst N (sym en) (law_vacated l i b.wheel.filing.tick v here ew es ek vs (λ e. cc) (λ e. absurd (cc)) begins (omega (arith, expiries, removals)))

  -- a due entry that is live at the tick comes out
  pub step_expired : (h : Held T) (id : EntryId) (x : Expired T) → IsSettled shared (row_at b.slots.rows i).stamp b.wheel.filing.tick (word_at b.known i) SettledExpired (word_at c.known i) → (row_at b.slots.rows i).held ≡ Some h → c.wheel.filing ≡ unlinked b.wheel.filing i → c.slots ≡ vacated b.slots i → c.known ≡ set b.known i (word_at c.known i) → c.counts ≡ settled_counts b.counts SettledExpired → id ≡ record { shard = b.shard; index = i; born = h.born } → x.key ≡ record { entry = id; stamp = (row_at b.slots.rows i).stamp } → x.deadline ≡ b.wheel.filing.tick → x.noted ≡ b.noted → x.value ≡ h.value → IsAnswered shared b (Out x) c
  step_expired h id x settled held ew es ek ec eid ekey ed exn ev =
      let at = here in
      let v = word_at c.known i in
      let s = (row_at b.slots.rows i).stamp in
      let t = b.wheel.filing.tick in
      let filed : c.wheel.filing.filed ≡ set b.wheel.filing.filed i None = ap (λ f. f.filed) ew in
      let ticks : c.wheel.filing.tick ≡ t = ap (λ f. f.tick) ew in
      let size = l.as_known in
      let w = word_at b.known i in
      let lea = learning shared b.slots.last_stamp t b.noted b.slots.rows b.known i h w l.as_known at.inside held at.stamp at.stamp (inl refl) in
      let same : set b.known i w ≡ b.known = set-get_or b.known i never in
      let dues : due_by w.mark w.field ≡ Some t = ap (λ p. due_by p.mark p.field) settled.0 in
      let Has_ : List Parts → Option ℕ → Type 0 = λ ws o. Has (machine_of t b.noted b.slots.rows ws) i (record { born = h.born; value = h.value; due = o }) in
      let has : Has (machine b) i (record { born = h.born; value = h.value; due = Some t }) =
      let F : List Parts → Type 0 = λ ws. Has_ ws (Some t) in
      let G : Option ℕ → Type 0 = λ o. Has_ (set b.known i w) o in
      subst F same (subst G dues lea.has) in
      let slot : (table_at (machine b) i).stamp ≡ s = let F : List Parts → Type 0 = λ ws. (table_at (machine_of t b.noted b.slots.rows ws) i).stamp ≡ s in subst F same lea.stamp in
      let mc : machine c ≡ put (machine b) i (table_at (machine b) i).stamp None =
      machine_is c t b.noted (set b.slots.rows i (vacated_row (row_at b.slots.rows i))) (set b.known i v) ticks en (ap (λ y. y.rows) es) ek
      ∙ vacated_of t b.noted b.slots.rows b.known i v l.as_known in
      let noted = l.tick in
      let none : NoneLiveBefore (machine b) t = none_before t b.noted b.slots.last_stamp t b.slots.rows b.known b.wheel.filing.filed l.as_known l.each (λ j f e. (filed_is l j f e).ahead) in
      let left : IsLeft b.slots.last_stamp (machine b) i h.born s t h.value (machine c) =
      ((record { born = h.born; value = h.value; due = Some t }, has, refl, refl, refl, noted, none, mc), has, slot) in
      let kid : x.key.entry ≡ id = ap (λ k. k.entry) ekey in
      let ki : x.key.entry.index ≡ i = ap (λ e. e.index) kid ∙ ap (λ e. e.index) eid in
      let kb : x.key.entry.born ≡ h.born = ap (λ e. e.born) kid ∙ ap (λ e. e.born) eid in
      let ksh : x.key.entry.shard ≡ b.shard = ap (λ e. e.shard) kid ∙ ap (λ e. e.shard) eid in
      let ks : x.key.stamp ≡ s = ap (λ k. k.stamp) ekey in
      let out : IsOut b.shard b.slots.last_stamp (machine b) x (machine c) = (rw (ki, kb, ks, ed, ev) left, ksh, exn ∙ sym en) in
      let row : TurnRow shared b.known (Out x) c.known =
      (b.known, looks_none shared b.known, rw (ki, ks, ed) settled.0, rw (ki, ks, ed) (ek ∙ ap (λ p. set b.known i p) settled.1)) in
      let at_i : filed_at c.wheel.filing.filed i ≡ None = ap (λ xs. filed_at xs i) filed ∙ get_or-set_same b.wheel.filing.filed i None None inside_filed in
      record {
        run = (machine b, run_of_none (IsOnTheWay shared) b.slots.last_stamp (machine b) (machine b) refl, out);
        row = row;
        wheel = goes_one shared b.known b.noted b.wheel.filing c.wheel.filing (inl (i, due, ew));
        ticks = omega (arith, ticks);
        filed = filed_one b.wheel.filing c.wheel.filing b.known c.known i None v filed ek (inr (inl at_i));
        counts = ec;
      }

  pub expired_lawful : IsSettled shared (row_at b.slots.rows i).stamp b.wheel.filing.tick (word_at b.known i) SettledExpired (word_at c.known i) → c.wheel.filing ≡ unlinked b.wheel.filing i → c.slots ≡ vacated b.slots i → c.known ≡ set b.known i (word_at c.known i) → c.counts ≡ settled_counts b.counts SettledExpired → IsLawfulCore c
  expired_lawful settled ew es ek ec =
      let v = word_at c.known i in
      let tick = l.tick in
      let vs : v.stamp ≡ (row_at b.slots.rows i).stamp = ap (λ p. p.stamp) settled.1 in
      let vm : v.mark ≡ ExpiredMark = ap (λ p. p.mark) settled.1 in
      let vf : v.field ≡ b.wheel.filing.tick = ap (λ p. p.field) settled.1 in
      let begins : c.counts.begins ≡ b.counts.begins = ap (λ n. n.begins) ec in
      let expiries : c.counts.expiries ≡ b.counts.expiries + 1 = ap (λ n. n.expiries) ec in
      let removals : c.counts.removals ≡ b.counts.removals = ap (λ n. n.removals) ec in
      let N : ℕ → Type 0 = λ n. IsLawful n c.wheel.filing c.slots c.known c.counts in
      subst N (sym en) (law_vacated l i b.wheel.filing.tick v here ew es ek vs (λ e. cc) (λ e. omega (arith, vf, tick)) begins (omega (arith, expiries, removals)))

-- with nothing due, the tick passes on
pub step_advanced : {T W : Type 0} (shared : Bool) (b c : Core T W) → IsLawfulCore b → GoesOn b.noted b.wheel.filing c.wheel.filing → c.wheel.filing.filed ≡ b.wheel.filing.filed → c.wheel.filing.tick ≤ b.noted → b.wheel.filing.tick < c.wheel.filing.tick → ((i f : ℕ) → filed_at c.wheel.filing.filed i ≡ Some f → c.wheel.filing.tick ≤ f) → c.slots ≡ b.slots → c.known ≡ b.known → c.counts ≡ b.counts → c.noted ≡ b.noted → IsUnderWay shared b c × (work c < work b)
step_advanced {T} {W} shared b c l goes ef small up before es ek ec en =
    let t = c.wheel.filing.tick in
    let Q : List Parts → Type 0 = λ ws. LooksOver shared b.known ws in
    let late : (i f : ℕ) → filed_at b.wheel.filing.filed i ≡ Some f → t ≤ f = λ i f e. before i f (ap (λ xs. filed_at xs i) ef ∙ e) in
    let none : NoneLiveBefore (machine b) t = none_before b.wheel.filing.tick b.noted b.slots.last_stamp t b.slots.rows b.known b.wheel.filing.filed l.as_known l.each late in
    let mc : machine c ≡ machine_of t b.noted b.slots.rows b.known = machine_is c t b.noted b.slots.rows b.known refl en (ap (λ x. x.rows) es) ek in
    let sums : sum_by cost c.wheel.filing.filed ≡ sum_by cost b.wheel.filing.filed = ap (sum_by cost) ef in (
      record {
        way = run_of_one (IsOnTheWay shared) b.slots.last_stamp (machine b) (machine c) (Pass t) tt (omega (arith, up), small, none, mc);
        looks = subst Q (sym ek) (looks_none shared b.known);
        wheel = goes_one shared b.known b.noted b.wheel.filing c.wheel.filing (inr (inr goes));
        ticks = omega (arith, up);
        filed = λ i. inl (ap (λ xs. filed_at xs i) ef, ap (λ ws. word_at ws i) ek);
        counts = ec;
      },
      rw (sums, en) (omega (arith, up, small)),
    )

-- at rest the wheel stands at the noted tick, and none is due there
rests : {T W : Type 0} (b : Core T W) → IsLawfulCore b → b.noted ≤ b.wheel.filing.tick → ((i : ℕ) → filed_at b.wheel.filing.filed i ≢ Some b.wheel.filing.tick) → (b.wheel.filing.tick ≡ b.noted) × NoneLiveBefore (machine b) (b.noted + 1) × ((i : ℕ) → filed_at b.wheel.filing.filed i ≢ Some b.wheel.filing.tick)
rests b l up none =
    let tick = l.tick in
    let same : b.wheel.filing.tick ≡ b.noted = omega arith in (
      same,
      none_before b.wheel.filing.tick b.noted b.slots.last_stamp (b.noted + 1) b.slots.rows b.known b.wheel.filing.filed l.as_known l.each
          (λ i f e.
          let after = (filed_is l i f e).ahead in
          let other : f ≢ b.wheel.filing.tick = λ eq. none i (e ∙ ap (λ n. let o : Option ℕ = Some n in o) eq) in
          omega (arith, same, after)),
      none,
    )

pub entry_none : {T : Type 0} (o : Option (Held T)) (w : Parts) → ((h : Held T) → o ≡ Some h → ⊥) → entry_of o w ≡ None
entry_none None w h = refl
entry_none (Some x) w h = absurd (h x refl)

-- where nothing is filed, nothing is linked
pub none_linked : {T W : Type 0} (b : Core T W) → IsLawfulCore b → ((i f : ℕ) → filed_at b.wheel.filing.filed i ≡ Some f → ⊥) → NoneLinked (machine b)
none_linked b l none i =
    ap (λ s. s.entry) (table_row_is b.slots.rows b.known l.as_known i)
    ∙ entry_none (row_at b.slots.rows i).held (word_at b.known i)
    (λ h e. let at = held_filed l i h (held_inside b.slots.rows i h e) e in none i at.0 at.1.is_filed)

placed_noted : {T : Type 0} (tick noted later stamp : ℕ) (o : Option (Held T)) (w : Parts) (ff : Option ℕ) → noted ≤ later → IsPlaced tick noted stamp o w ff → IsPlaced tick later stamp o w ff
placed_noted tick noted later stamp None w None up p = (p.0, λ e. let low = p.1 e in omega (arith, low, up))
placed_noted tick noted later stamp None w (Some f) up p = p
placed_noted tick noted later stamp (Some h) w None up p = p
placed_noted tick noted later stamp (Some h) w (Some f) up p = p

-- a way and then an answer
answered_more : {T W : Type 0} (shared : Bool) (a b c : Core T W) (x : Expired T) → SameCore a b → b.noted ≡ a.noted → IsUnderWay shared a b → IsAnswered shared b (Out x) c → IsAnswered shared a (Out x) c
answered_more {T} shared a b c x same noted way ans =
    let L : ℕ → Type 0 = λ s. (m : Machine T) × RunOf (IsOnTheWay shared) s (machine b) m × IsOut b.shard s m x (machine c) in
    let S : ℕ → Type 0 = λ s. (m : Machine T) × RunOf (IsOnTheWay shared) a.slots.last_stamp (machine b) m × IsOut s a.slots.last_stamp m x (machine c) in
    let run = subst S same.0 (subst L same.1 ans.run) in
    let up = way.ticks in
    let up' = ans.ticks in
    record {
      run = (run.0, run_of_more (IsOnTheWay shared) a.slots.last_stamp (machine a) (machine b) run.0 way.way run.1, run.2);
      row = (ans.row.0, looks_more shared a.known b.known ans.row.0 way.looks ans.row.1, ans.row.2, ans.row.3);
      wheel = goes_more shared a.known b.known a.noted b.noted a.wheel.filing b.wheel.filing c.wheel.filing noted way.looks way.wheel ans.wheel;
      ticks = omega arith;
      filed = λ i. filed_more a.wheel.filing a.known b.wheel.filing b.known c.wheel.filing c.known i up up' (way.filed i) (ans.filed i);
      counts = ans.counts ∙ ap (λ n. settled_counts n SettledExpired) way.counts;
    }

-- a poll ends with what a step gave
pub polled_gave : {T W : Type 0} (shared : Bool) (b n cur c : Core T W) (t : ℕ) (x : Expired T) → t ≤ LAST_TICK → n ≡ noting b t → SameCore n cur → cur.noted ≡ n.noted → IsUnderWay shared n cur → IsAnswered shared cur (Out x) c → c.noted ≡ cur.noted → IsPolled shared b t (Out x) c
polled_gave {T} {W} shared b n cur c t x small en same noted way ans cn =
    let P : Core T W → Type 0 = λ m. IsAnswered shared m (Out x) c in
    (small, refl, subst P en (answered_more shared n cur c x same noted way ans), cn ∙ noted ∙ ap (λ m. m.noted) en)

-- a poll that rests
pub polled_rests : {T W : Type 0} (shared : Bool) (b n cur : Core T W) (t : ℕ) (turn : Turn T) → t ≤ LAST_TICK → n ≡ noting b t → SameCore n cur → cur.noted ≡ n.noted → IsUnderWay shared n cur → IsTurn cur.shard cur.slots.last_stamp (machine cur) turn (machine cur) cur.wheel.filing → TurnRow shared n.known turn cur.known → turn_counts n.counts turn ≡ n.counts → IsPolled shared b t turn cur
polled_rests {T} {W} shared b n cur t turn small en same noted way is row counts =
    let P : Core T W → Type 0 = λ m. IsAnswered shared m turn cur in
    let S : ℕ → Type 0 = λ s. IsTurn s cur.slots.last_stamp (machine cur) turn (machine cur) cur.wheel.filing in
    let L : ℕ → Type 0 = λ s. IsTurn n.shard s (machine cur) turn (machine cur) cur.wheel.filing in (
      small,
      refl,
      subst P en (record {
        run = (machine cur, way.way, subst L same.1 (subst S same.0 is));
        row = row;
        wheel = way.wheel;
        ticks = way.ticks;
        filed = way.filed;
        counts = way.counts ∙ sym counts;
      }),
      noted ∙ ap (λ m. m.noted) en,
    )

-- where an index is filed that was due and is linked again
pub refiled : (w w' w'' : Filing) (i f t d : ℕ) → w'' ≡ linked w' i f → w' ≡ unlinked w i → f ≡ filing_for t d → t ≡ w.tick → w'' ≡ linked (unlinked w i) i (filing_for w.tick d)
refiled w w' w'' i f t d e e' ef et = e ∙ ap (λ x. linked x i f) e' ∙ ap (λ x. linked (unlinked w i) i x) (ef ∙ ap (λ x. filing_for x d) et)

-- a key, by its stamp
pub key_at : (k : Key) (id : EntryId) (s s' : ℕ) → k ≡ record { entry = id; stamp = s } → s ≡ s' → k ≡ record { entry = id; stamp = s' }
key_at k id s s' e es = e ∙ ap (λ n. let x : Key = record { entry = id; stamp = n } in x) es

-- the tick goes on
pub advanced_on : (noted new mid old : ℕ) {tick : ℕ} → tick ≡ old → mid ≡ old → tick < noted → (mid < noted → mid < new) → old < new
advanced_on noted new mid old e e' less on = let up = on (omega arith) in omega arith

-- what a step that rests leaves of the queue b
abbrev pub IsAtRest : {T W : Type 0} → Core T W → Core T W → Type 0
IsAtRest b c =
    (c ≡ b) × (c.wheel.filing.tick ≡ c.noted) × NoneLiveBefore (machine c) (c.noted + 1)
    × ((i : ℕ) → filed_at c.wheel.filing.filed i ≢ Some c.wheel.filing.tick)

-- a step that rests leaves the queue as it was
pub rests_at : {T W : Type 0} (b c : Core T W) → c ≡ b → IsLawfulCore c → c.noted ≤ c.wheel.filing.tick → ((i : ℕ) → filed_at c.wheel.filing.filed i ≢ Some c.wheel.filing.tick) → IsAtRest b c
rests_at b c same l up none = let r = rests c l up none in (same, r.0, r.1, r.2)

-- the next wake, by what the wheel tells
pub tells_wake : {T W : Type 0} (b : Core T W) → IsLawfulCore b → (o : Option ℕ) → MatchOption o ((i f : ℕ) → filed_at b.wheel.filing.filed i ≡ Some f → ⊥) (λ w. IsNextWake b.wheel.filing.tick b.wheel.filing.filed w) → TellsWake b o
tells_wake b l None none = none_linked b l none
tells_wake b l (Some w) is = is

-- what wakes next wakes after the wheel's tick, where nothing is filed there
pub wakes_ahead : {T W : Type 0} (b : Core T W) (o : Option ℕ) → WakesAreAhead → IsLawfulWheel b.wheel → MatchOption o ((i f : ℕ) → filed_at b.wheel.filing.filed i ≡ Some f → ⊥) (λ w. IsNextWake b.wheel.filing.tick b.wheel.filing.filed w) → WakesAhead b o
wakes_ahead b None ahead l is none = tt
wakes_ahead b (Some w) ahead l is none = ahead b.wheel.filing.tick b.wheel.filing.filed w l.within none is

-- what a loop of steps keeps
abbrev pub IsOnWay : {T W : Type 0} → Bool → Core T W → ℕ → Core T W → Type 0
IsOnWay shared b t cur = (t ≤ LAST_TICK) × SameCore (noting b t) cur × (cur.noted ≡ max b.noted t) × IsUnderWay shared (noting b t) cur

pub on_way_more : {T W : Type 0} (shared : Bool) (b cur c : Core T W) (t : ℕ) → IsOnWay shared b t cur → SameCore cur c → c.noted ≡ cur.noted → IsUnderWay shared cur c → IsOnWay shared b t c
on_way_more shared b cur c t on same noted way =
    (on.0, (same.0 ∙ on.1.0, same.1 ∙ on.1.1, same.2 ∙ on.1.2), noted ∙ on.2, under_way_more shared (noting b t) cur c on.1.1 on.2 on.3 way)

pub polled_out : {T W : Type 0} (shared : Bool) (b cur c : Core T W) (t : ℕ) (x : Expired T) → IsOnWay shared b t cur → IsAnswered shared cur (Out x) c → c.noted ≡ cur.noted → IsPolled shared b t (Out x) c
polled_out shared b cur c t x on ans noted = polled_gave shared b (noting b t) cur c t x on.0 refl on.1 on.2 on.3 ans noted

-- a poll that rests, with a next wake or without one
rested : {T W : Type 0} (shared : Bool) (b cur after : Core T W) (t : ℕ) → IsOnWay shared b t cur → (after ≡ cur) → IsOnWay shared b t after
rested {T} {W} shared b cur after t on e = let P : Core T W → Type 0 = λ m. IsOnWay shared b t m in subst P (sym e) on

-- a wake for which a queue at rest waits is after the noted tick
wakes_later : {T W : Type 0} (c : Core T W) (next : ℕ) → c.wheel.filing.tick ≡ c.noted → ((i : ℕ) → filed_at c.wheel.filing.filed i ≢ Some c.wheel.filing.tick) → WakesAhead c (Some next) → c.noted < next
wakes_later c next at none ahead = let later = ahead none in omega (arith, at, later)

pub polled_waiting : {T W : Type 0} (shared : Bool) (b cur after : Core T W) (t next : ℕ) → IsOnWay shared b t cur → IsAtRest cur after → TellsWake after (Some next) → WakesAhead after (Some next) → IsPolled shared b t (Waiting next) after
polled_waiting shared b cur after t next on r wake ahead =
    let now = rested shared b cur after t on r.0 in
    polled_rests shared b (noting b t) after t (Waiting next) now.0 refl now.1 now.2 now.3 (refl, r.1, none_due (machine after) after.noted r.2, wake, wakes_later after next r.1 r.3 ahead) now.3.looks refl

pub polled_idle : {T W : Type 0} (shared : Bool) (b cur after : Core T W) (t : ℕ) → IsOnWay shared b t cur → IsAtRest cur after → TellsWake after None → IsPolled shared b t Idle after
polled_idle shared b cur after t on r wake =
    let now = rested shared b cur after t on r.0 in
    polled_rests shared b (noting b t) after t Idle now.0 refl now.1 now.2 now.3 (refl, r.1, none_due (machine after) after.noted r.2, wake) now.3.looks refl
