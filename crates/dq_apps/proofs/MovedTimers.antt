-- How timers move to fresh ones: what each move keeps, and what is reached when none is left.
use Rattle.std.proofs.Common.{◌≡◌, ◌≢◌, ℕ, ◌+◌, ◌<◌, ◌≤◌, zero, suc, Bool, true, false, cond, ◌&&◌, not, nat_lt, List, [], ◌∷◌, length, set, replicate, Option, Some, None, is_some, is_none, refl, sym, ap, ◌∙◌, subst, inl, inr, ◌⊎◌, arith}
use Rattle.std.specs.Cmp.{IsEquivalence}
use Rattle.std.specs.List.{count_by}
use Rattle.std.specs.Map.{lookup}
use Rattle.std.specs.Option.{option_map}
use Rattle.std.proofs.lemmas.List.{length-set, length-replicate}
use Rattle.std.proofs.lemmas.List.Sums.{sum_by-set, count_by-le-length}
use Rattle.std.proofs.lemmas.Bool.{cases_eq, cases_Bool, true≢false, lt-ltb}
use Rattle.dq_ticks.specs.Keys.{KeyName}
use Rattle.dq_ticks.specs.declared.TheConstants.{LAST_TICK}
use Rattle.dq_core.specs.Machine.{Entry, TableRow}
use Rattle.dq_apps.specs.declared.kept.Kept.{Kept}
use Rattle.dq_apps.specs.TimerTable.{TimerTable, timer_at, unset, running, IsRunning, is_set, is_spent, HasRoom, stopped, set_at, Starts, NoneDue, AreInRange, fresh_timers}
use Rattle.dq_apps.specs.Tied.{IsTied, IsWritten}
use Rattle.dq_apps.specs.Moves.{HasKey, IsOnce, said, AreMoving, SaysTheSame, HaveMoved}
use Rattle.dq_apps.proofs.TimerRows.{count-cons, set_here, set_there, none_new}
use Rattle.dq_apps.proofs.Ties.{looked_alike, at_slot}

abbrev one_if : Bool → ℕ
one_if b = cond b 1 0

pub none_set : (K : Type 0) (n : ℕ) → count_by is_set (replicate n (unset {K = K})) ≡ 0
none_set K zero = refl
none_set K (suc n) =
    let rest = none_set K n in
    let count = count-cons is_set (unset {K = K}) (replicate n unset) in
    omega (arith, count, rest)

-- counts
module _ {K : Type 0} where
  unspent_by : (last stamp : ℕ) → 0 < last → (o : Option (Entry K)) → stamp ≡ cond (is_some o) 1 0 → (is_none o && not (nat_lt stamp last)) ≡ false
  unspent_by last stamp used None is = rw (is, lt-ltb 0 last used) refl
  unspent_by last stamp used (Some e) is = refl

  -- a slot that was used once at most is not spent
  pub none_spent : (last : ℕ) → 0 < last → (ss : List (TableRow K)) → ((i : ℕ) → IsOnce (timer_at ss i)) → count_by (is_spent last) ss ≡ 0
  none_spent last used [] h = refl
  none_spent last used (s ∷ ss) h =
      let rest = none_spent last used ss (λ i. h (suc i)) in
      let first : one_if (is_spent last s) ≡ 0 = ap one_if (unspent_by last s.stamp used s.entry (h 0)) in
      let count = count-cons (is_spent last) s ss in
      omega (arith, count, first, rest)

  pub one_less : (ss : List (TableRow K)) (i : ℕ) (e : Entry K) → i < length ss → (timer_at ss i).entry ≡ Some e → count_by is_set (stopped ss i) + 1 ≡ count_by is_set ss
  one_less ss i e inside at =
      let count = sum_by-set (λ (s : TableRow K). cond (is_set s) 1 0) ss i (record { stamp = (timer_at ss i).stamp; entry = None }) unset inside in
      let one : one_if (is_set (timer_at ss i)) ≡ 1 = ap (λ o. one_if (is_some o)) at in
      omega (arith, count, one)

  pub one_more : (ss : List (TableRow K)) (i stamp born : ℕ) (key : K) (d : ℕ) → i < length ss → (timer_at ss i).entry ≡ None → count_by is_set (set_at ss i stamp born key d) ≡ count_by is_set ss + 1
  one_more ss i stamp born key d inside at =
      let count = sum_by-set (λ (s : TableRow K). cond (is_set s) 1 0) ss i (record { stamp = stamp; entry = running born key d }) unset inside in
      let none : one_if (is_set (timer_at ss i)) ≡ 0 = ap (λ o. one_if (is_some o)) at in
      omega (arith, count, none)

module _ {K V : Type 0} {eq : K → K → Bool} (laws : IsEquivalence eq) where
  -- before the first move
  module _ (es : List (K × Kept V)) (t : TimerTable K) (tied : IsTied eq es t.slots) (range : AreInRange t.slots) (used : 0 < t.last_stamp) where
    abbrev blank : TimerTable K
    blank = fresh_timers (length t.slots) t.last_stamp

    no_timer : (i : ℕ) (e : Entry K) → (timer_at blank.slots i).entry ≡ Some e → ⊥
    no_timer i e at =
        let gone : (timer_at blank.slots i).entry ≡ None = ap (λ z. z.entry) (none_new (length t.slots) i) in
        absurd (cc)

    blank_moving : AreMoving eq es t.slots blank
    blank_moving = record {
      distinct = tied.distinct;
      deadlines = λ q s at. let f = tied.forth q s at in range s.key.entry.index s.key.entry.born f.0 s.deadline (ap (λ z. z.entry) f.1.timer);
      forth = λ q s at.
          let f = tied.forth q s at in
          inr (f.0, (s.key.entry.index, record { born = s.key.entry.born; value = f.0; due = Some s.deadline }, ap (λ z. z.entry) f.1.timer, refl), f.2);
      back = λ i e at. absurd (no_timer i e at);
      due = λ i e at.
          let a = at_slot laws es t.slots tied i e at in
          let here : (timer_at t.slots i).entry ≡ running a.0.key.entry.born e.value a.0.deadline = ap (λ z. z.entry) a.3 in
          let r : Entry K = record { born = a.0.key.entry.born; value = e.value; due = Some a.0.deadline } in
          let one : ◌≡◌ {A = Option (Entry K)} (Some e) (Some r) = sym at ∙ here in
          let same : e ≡ r = cc in
          (a.0.deadline, ap (λ z. z.due) same, range i a.0.key.entry.born e.value a.0.deadline here);
      there = λ i e at. let b = tied.back i e at in (b.0, b.1);
      apart = λ i j e x at ax. absurd (no_timer j x ax);
      once = λ i j e x at ax same.
          let b = tied.back i e at in
          let c = tied.back j x ax in
          let one : ◌≡◌ {A = Option (Kept V)} (Some b.0) (Some c.0) = sym b.1 ∙ (looked_alike laws es e.value x.value same ∙ c.1) in
          let kept : b.0 ≡ c.0 = cc in
          sym b.2 ∙ (ap (λ s. s.key.entry.index) kept ∙ c.2);
      few =
          let none = none_set K (length t.slots) in
          let size = length-replicate (length t.slots) (unset {K = K}) in
          let count = count_by-le-length is_set t.slots in
          omega (arith, none, size, count);
      stamps = λ i.
          let P : TableRow K → Type 0 = λ s. IsOnce s in
          subst P (sym (none_new (length t.slots) i)) refl;
      used = used;
      noted = refl;
    }

    pub begins : (u : TimerTable K) → u ≡ blank → AreMoving eq es t.slots u
    begins u is = let P : TimerTable K → Type 0 = λ x. AreMoving eq es t.slots x in subst P (sym is) blank_moving

  -- nothing moved yet
  pub unmoved : (es : List (K × Kept V)) (o : List (TableRow K)) (f : TimerTable K) → AreMoving eq es o f → HaveMoved eq es o f es o f
  unmoved es o f moving = record { moving = moving; same = λ q. refl; last = refl; size = refl; count = refl; stay = λ key h. h; came = λ key h. h }

  -- one after the other
  pub moved_on : (es fs gs : List (K × Kept V)) (o p r : List (TableRow K)) (f g h : TimerTable K) → HaveMoved eq es o f fs p g → HaveMoved eq fs p g gs r h → HaveMoved eq es o f gs r h
  moved_on es fs gs o p r f g h a b = record {
    moving = b.moving;
    same = λ q. b.same q ∙ a.same q;
    last = b.last ∙ a.last;
    size = b.size ∙ a.size;
    count = b.count ∙ a.count;
    stay = λ key x. b.stay key (a.stay key x);
    came = λ key x. a.came key (b.came key x);
  }

  module _ (es : List (K × Kept V)) (o : List (TableRow K)) (f : TimerTable K) (moving : AreMoving eq es o f) where
    -- where one is left, there is room for it
    pub room : (i : ℕ) (e : Entry K) → i < length o → (timer_at o i).entry ≡ Some e → HasRoom f
    room i e inside at full =
        let less = one_less o i e inside at in
        let few = moving.few in
        let spent = none_spent f.last_stamp moving.used f.slots moving.stamps in
        omega (arith, less, few, spent, full)

    -- at the last tick all are due
    pub none_left : NoneDue LAST_TICK o → (i : ℕ) → (timer_at o i).entry ≡ None
    none_left none i = by (timer_at o i).entry refl
      where
        by : (x : Option (Entry K)) → (timer_at o i).entry ≡ x → (timer_at o i).entry ≡ None
        by None at = at
        by (Some e) at =
            let d = moving.due i e at in
            let r : Entry K = record { born = e.born; value = e.value; due = Some d.0 } in
            let here : (timer_at o i).entry ≡ running e.born e.value d.0 = at ∙ ap (λ k. let x : Entry K = record { born = e.born; value = e.value; due = k } in Some x) d.1 in
            let late = none i e.born e.value d.0 here in
            let small = d.2 in
            absurd (omega (arith, late, small))

    -- what the map has of one that is left
    pub left_there : (i : ℕ) (born : ℕ) (key : K) (d : ℕ) → (timer_at o i).entry ≡ running born key d → (s : Kept V) × (lookup (eq key) es ≡ Some s)
    left_there i born key d at = moving.there i (record { born = born; value = key; due = Some d }) at

    -- one moves
    module _ (i born d : ℕ) (key : K) (inside : i < length o) (at : (timer_at o i).entry ≡ running born key d)
        (fs : List (K × Kept V)) (g : TimerTable K) (s : Kept V) (has : lookup (eq key) es ≡ Some s) (k : KeyName) (starts : Starts f key s.deadline k g)
        (written : IsWritten eq es key (Some (record { value = s.value; deadline = s.deadline; key = k })) fs) where
      abbrev mine : Entry K
      mine = record { born = born; value = key; due = Some d }

      abbrev next : Kept V
      next = record { value = s.value; deadline = s.deadline; key = k }

      abbrev j : ℕ
      j = k.entry.index

      abbrev timer : TableRow K
      timer = record { stamp = k.stamp; entry = running k.entry.born key s.deadline }

      slots_are : g.slots ≡ set f.slots j timer
      slots_are = ap (λ x. x.slots) starts.after

      -- the slots after it
      g_here : timer_at g.slots j ≡ timer
      g_here = ap (λ ss. timer_at ss j) slots_are ∙ set_here f.slots j timer starts.inside

      g_there : (n : ℕ) → n ≢ j → timer_at g.slots n ≡ timer_at f.slots n
      g_there n ne = ap (λ ss. timer_at ss n) slots_are ∙ set_there f.slots j n timer ne

      g_size : length g.slots ≡ length f.slots
      g_size = ap length slots_are ∙ length-set f.slots j timer

      abbrev rest : List (TableRow K)
      rest = stopped o i

      rest_here : (timer_at rest i).entry ≡ None
      rest_here = ap (λ z. z.entry) (set_here o i (record { stamp = (timer_at o i).stamp; entry = None }) inside)

      rest_there : (n : ℕ) → n ≢ i → timer_at rest n ≡ timer_at o n
      rest_there n ne = set_there o i n (record { stamp = (timer_at o i).stamp; entry = None }) ne

      -- what is left was there, at another slot
      was_left : (n : ℕ) (e : Entry K) → (timer_at rest n).entry ≡ Some e → (n ≢ i) × ((timer_at o n).entry ≡ Some e)
      was_left n e an = elim (cases_eq n i) [
        | inl same ↦
            let P : ℕ → Type 0 = λ m. (timer_at rest m).entry ≡ Some e in
            let some = subst P same an in
            let gone = rest_here in
            absurd (cc)
        | inr ne ↦ (ne, sym (ap (λ z. z.entry) (rest_there n ne)) ∙ an)
      ]

      -- a key that is left is another
      other_left : (n : ℕ) (e : Entry K) → (timer_at rest n).entry ≡ Some e → eq key e.value ≡ false
      other_left n e an =
          let w = was_left n e an in
          elim (cases_Bool (eq key e.value)) [
            | inl same ↦ absurd (w.0 (sym (moving.once i n mine e at w.1 same)))
            | inr apart ↦ apart
          ]

      looks_other : (q : K) → eq key q ≡ false → lookup (eq q) fs ≡ lookup (eq q) es
      looks_other q apart = written.0 q ∙ ap (λ b. cond b (Some next) (lookup (eq q) es)) apart

      looks_key : (q : K) → eq key q ≡ true → lookup (eq q) fs ≡ Some next
      looks_key q same = written.0 q ∙ ap (λ b. cond b (Some next) (lookup (eq q) es)) same

      es_key : (q : K) → eq key q ≡ true → lookup (eq q) es ≡ Some s
      es_key q same = sym (looked_alike laws es key q same) ∙ has

      says : SaysTheSame eq es fs
      says q = elim (cases_Bool (eq key q)) [
        | inl same ↦ ap (option_map said) (looks_key q same) ∙ sym (ap (option_map said) (es_key q same))
        | inr apart ↦ ap (option_map said) (looks_other q apart)
      ]

      in_range : (q : K) (z : Kept V) → lookup (eq q) fs ≡ Some z → z.deadline ≤ LAST_TICK
      in_range q z az = elim (cases_Bool (eq key q)) [
        | inl same ↦
            let one : ◌≡◌ {A = Option (Kept V)} (Some next) (Some z) = sym (looks_key q same) ∙ az in
            let is : next ≡ z = cc in
            let dl : s.deadline ≡ z.deadline = ap (λ x. x.deadline) is in
            let bound = moving.deadlines key s has in
            omega (arith, dl, bound)
        | inr apart ↦ moving.deadlines q z (sym (looks_other q apart) ∙ az)
      ]

      runs_here : IsRunning g.slots k key s.deadline
      runs_here = let size = g_size in let within = starts.inside in record { shard = starts.shard; inside = omega (arith, size, within); timer = g_here }

      -- a timer of before isn't at the free slot
      not_free : (n : ℕ) (e : Entry K) → (timer_at f.slots n).entry ≡ Some e → n ≢ j
      not_free n e an same =
          let P : ℕ → Type 0 = λ m. (timer_at f.slots m).entry ≡ Some e in
          let some = subst P same an in
          let free = starts.free in
          absurd (cc)

      still_runs : (x : KeyName) (copy : K) (dl : ℕ) → IsRunning f.slots x copy dl → IsRunning g.slots x copy dl
      still_runs x copy dl r =
          let ne = not_free x.entry.index (record { born = x.entry.born; value = copy; due = Some dl }) (ap (λ z. z.entry) r.timer) in
          let size = g_size in
          let within = r.inside in
          record { shard = r.shard; inside = omega (arith, size, within); timer = g_there x.entry.index ne ∙ r.timer }

      go_forth : (q : K) (z : Kept V) → lookup (eq q) fs ≡ Some z → ((copy : K) × IsRunning g.slots z.key copy z.deadline × (eq q copy ≡ true)) ⊎ ((copy : K) × HasKey rest copy × (eq q copy ≡ true))
      go_forth q z az = elim (cases_Bool (eq key q)) [
        | inl same ↦
            let one : ◌≡◌ {A = Option (Kept V)} (Some next) (Some z) = sym (looks_key q same) ∙ az in
            let is : next ≡ z = cc in
            let P : Kept V → Type 0 = λ x. IsRunning g.slots x.key key x.deadline in
            inl (key, subst P is runs_here, laws.symm q key ∙ same)
        | inr apart ↦ elim (moving.forth q z (sym (looks_other q apart) ∙ az)) [
          | inl r ↦ inl (r.0, still_runs z.key r.0 z.deadline r.1, r.2)
          | inr h ↦ inr (h.0, keep_left h.0 h.1 (λ same. true≢false (sym (sym (laws.congr h.0 key q (laws.symm h.0 key ∙ same)) ∙ (laws.symm h.0 q ∙ h.2)) ∙ apart)), h.2)
        ]
      ]
        where
          keep_left : (copy : K) → HasKey o copy → (eq key copy ≡ true → ⊥) → HasKey rest copy
          keep_left copy h apart =
              let ne : h.0 ≢ i = λ same.
              let P : ℕ → Type 0 = λ m. (timer_at o m).entry ≡ Some h.1 in
              let here = subst P same h.2 in
              let one : ◌≡◌ {A = Option (Entry K)} (Some mine) (Some h.1) = sym at ∙ here in
              let is : mine ≡ h.1 = cc in
              apart (ap (eq key) (sym (ap (λ x. x.value) is ∙ h.3)) ∙ laws.refl key) in
              (h.0, h.1, ap (λ z. z.entry) (rest_there h.0 ne) ∙ h.2, h.3)

      go_back : (n : ℕ) (e : Entry K) → (timer_at g.slots n).entry ≡ Some e → (z : Kept V) × (lookup (eq e.value) fs ≡ Some z) × (z.key.entry.index ≡ n)
      go_back n e an = elim (cases_eq n j) [
        | inl same ↦
            let P : ℕ → Type 0 = λ m. (timer_at g.slots m).entry ≡ Some e in
            let r : Entry K = record { born = k.entry.born; value = key; due = Some s.deadline } in
            let one : ◌≡◌ {A = Option (Entry K)} (Some r) (Some e) = sym (ap (λ z. z.entry) g_here) ∙ subst P same an in
            let is : r ≡ e = cc in
            (next, ap (λ (x : Entry K). lookup (eq x.value) fs) (sym is) ∙ looks_key key (laws.refl key), sym same)
        | inr ne ↦
            let before = sym (ap (λ z. z.entry) (g_there n ne)) ∙ an in
            let b = moving.back n e before in
            (b.0, looks_other e.value (moving.apart i n mine e at before) ∙ b.1, b.2)
      ]

      go_apart : (n m : ℕ) (e x : Entry K) → (timer_at rest n).entry ≡ Some e → (timer_at g.slots m).entry ≡ Some x → eq e.value x.value ≡ false
      go_apart n m e x an am = elim (cases_eq m j) [
        | inl same ↦
            let P : ℕ → Type 0 = λ y. (timer_at g.slots y).entry ≡ Some x in
            let r : Entry K = record { born = k.entry.born; value = key; due = Some s.deadline } in
            let one : ◌≡◌ {A = Option (Entry K)} (Some r) (Some x) = sym (ap (λ z. z.entry) g_here) ∙ subst P same am in
            let is : r ≡ x = cc in
            ap (λ (y : Entry K). eq e.value y.value) (sym is) ∙ (laws.symm e.value key ∙ other_left n e an)
        | inr ne ↦ moving.apart n m e x (was_left n e an).1 (sym (ap (λ z. z.entry) (g_there m ne)) ∙ am)
      ]

      go_stamps : (n : ℕ) → IsOnce (timer_at g.slots n)
      go_stamps n = elim (cases_eq n j) [
        | inl same ↦
            let P : ℕ → Type 0 = λ m. IsOnce (timer_at g.slots m) in
            let Q : TableRow K → Type 0 = λ z. IsOnce z in
            let old : (timer_at f.slots j).stamp ≡ 0 = moving.stamps j ∙ ap (λ z. cond (is_some z) 1 0) starts.free in
            let one = starts.stamp in
            let first : k.stamp ≡ 1 = omega (arith, old, one) in
            subst P (sym same) (subst Q (sym g_here) first)
        | inr ne ↦ let Q : TableRow K → Type 0 = λ z. IsOnce z in subst Q (sym (g_there n ne)) (moving.stamps n)
      ]

      fewer : count_by is_set rest + 1 ≡ count_by is_set o
      fewer = one_less o i mine inside at

      more : count_by is_set g.slots ≡ count_by is_set f.slots + 1
      more = ap (count_by is_set) slots_are ∙ one_more f.slots j k.stamp k.entry.born key s.deadline starts.inside starts.free

      same_last : g.last_stamp ≡ f.last_stamp
      same_last = ap (λ x. x.last_stamp) starts.after

      one_moving : AreMoving eq fs rest g
      one_moving = record {
        distinct = written.1;
        deadlines = in_range;
        forth = go_forth;
        back = go_back;
        due = λ n e an. moving.due n e (was_left n e an).1;
        there = λ n e an. let z = moving.there n e (was_left n e an).1 in (z.0, looks_other e.value (other_left n e an) ∙ z.1);
        apart = go_apart;
        once = λ n m e x an am same. moving.once n m e x (was_left n e an).1 (was_left m x am).1 same;
        few = let a = fewer in let b = more in let c = g_size in let d = moving.few in omega (arith, a, b, c, d);
        stamps = go_stamps;
        used = let l = same_last in let u = moving.used in omega (arith, l, u);
        noted = ap (λ x. x.noted) starts.after ∙ moving.noted;
      }

      kept_key : (copy : K) → HasKey o copy → HasKey rest copy ⊎ HasKey g.slots copy
      kept_key copy h = elim (cases_eq h.0 i) [
        | inl same ↦
            let P : ℕ → Type 0 = λ m. (timer_at o m).entry ≡ Some h.1 in
            let one : ◌≡◌ {A = Option (Entry K)} (Some mine) (Some h.1) = sym at ∙ subst P same h.2 in
            let is : mine ≡ h.1 = cc in
            inr (j, record { born = k.entry.born; value = key; due = Some s.deadline }, ap (λ z. z.entry) g_here, ap (λ x. x.value) is ∙ h.3)
        | inr ne ↦ inl (h.0, h.1, ap (λ z. z.entry) (rest_there h.0 ne) ∙ h.2, h.3)
      ]

      went_key : (copy : K) → HasKey g.slots copy → HasKey o copy ⊎ HasKey f.slots copy
      went_key copy h = elim (cases_eq h.0 j) [
        | inl same ↦
            let P : ℕ → Type 0 = λ m. (timer_at g.slots m).entry ≡ Some h.1 in
            let r : Entry K = record { born = k.entry.born; value = key; due = Some s.deadline } in
            let one : ◌≡◌ {A = Option (Entry K)} (Some r) (Some h.1) = sym (ap (λ z. z.entry) g_here) ∙ subst P same h.2 in
            let is : r ≡ h.1 = cc in
            inl (i, mine, at, ap (λ x. x.value) is ∙ h.3)
        | inr ne ↦ inr (h.0, h.1, sym (ap (λ z. z.entry) (g_there h.0 ne)) ∙ h.2, h.3)
      ]

      pub one_moved : HaveMoved eq es o f fs rest g
      one_moved = record {
        moving = one_moving;
        same = says;
        last = same_last;
        size = g_size;
        count = let a = fewer in let b = more in omega (arith, a, b);
        stay = λ copy h. elim h [
          | inl x ↦ kept_key copy x
          | inr x ↦ inr (x.0, x.1, ap (λ z. z.entry) (g_there x.0 (not_free x.0 x.1 x.2)) ∙ x.2, x.3)
        ];
        came = λ copy h. elim h [
          | inl x ↦ inl (x.0, x.1, (was_left x.0 x.1 x.2).1, x.3)
          | inr x ↦ went_key copy x
        ];
      }

      pub one_fewer : count_by is_set rest + 1 ≡ count_by is_set o
      one_fewer = fewer
