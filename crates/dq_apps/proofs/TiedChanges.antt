-- How a map stays tied to its timers where one key changes, and what the two show then.
use Rattle.std.proofs.Common.{◌≡◌, ◌≢◌, ℕ, ◌<◌, Bool, true, false, cond, List, [], ◌∷◌, length, set, Option, Some, None, refl, sym, ap, ◌∙◌, subst, inl, inr, ◌⊎◌, arith}
use Rattle.std.specs.Cmp.{IsEquivalence}
use Rattle.std.specs.List.{IsDistinct}
use Rattle.std.specs.Map.{lookup, keys_of}
use Rattle.std.proofs.lemmas.List.{get_or-set_same, get_or-set_other, ext_get_or, length-set, length-map}
use Rattle.std.proofs.lemmas.Bool.{cases_eq, cases_Bool, true≢false}
use Rattle.dq_core.specs.Machine.{Entry, TableRow}
use Rattle.dq_apps.specs.declared.kept.Kept.{Kept}
use Rattle.dq_apps.specs.Cache.{bare, slot_at}
use Rattle.dq_apps.specs.TimerTable.{timer_at, running, IsRunning}
use Rattle.dq_apps.specs.Tied.{item_of, item_at, shown_slot, shown_slots, IsTied, IsWritten}
use Rattle.dq_apps.proofs.TimerRows.{set_here, set_there}
use Rattle.dq_apps.proofs.Shows.{joined}
use Rattle.dq_apps.proofs.Ties.{shown_at, shown_timer, looked_alike, at_slot}

-- a look-up that was found was not taken out
cond_found : {X : Type 0} (b : Bool) (o : Option X) (x : X) → cond b None o ≡ Some x → (b ≡ false) × (o ≡ Some x)
cond_found true o x e = absurd (cc)
cond_found false o x e = (refl, e)

module _ {K V : Type 0} {eq : K → K → Bool} (laws : IsEquivalence eq) where
  -- the same timers under another map that looks up the same
  module _ (es fs : List (K × Kept V)) (slots : List (TableRow K)) (same : (q : K) → lookup (eq q) fs ≡ lookup (eq q) es) where
    item_same : (o : Option (Entry K)) → item_at eq fs o ≡ item_at eq es o
    item_same None = refl
    item_same (Some e) = ap (item_of e.value e.due) (same e.value)

    pub same_shown : shown_slots eq fs slots ≡ shown_slots eq es slots
    same_shown = by slots
      where
        by : (ss : List (TableRow K)) → shown_slots eq fs ss ≡ shown_slots eq es ss
        by [] = refl
        by (s ∷ ss) = λ i. record { stamp = s.stamp; item = item_same s.entry i } ∷ by ss i

    pub same_tied : IsTied eq es slots → IsDistinct eq (keys_of fs) → IsTied eq fs slots
    same_tied tied apart = record {
      distinct = apart;
      forth = λ q s at. tied.forth q s (sym (same q) ∙ at);
      back = λ i e at. let b = tied.back i e at in (b.0, same e.value ∙ b.1, b.2);
    }

  -- slot i changes, for one key: the map has that key there or nowhere, and no other key's timer was there
  module _ (es fs : List (K × Kept V)) (slots : List (TableRow K)) (i : ℕ) (key : K) (tied : IsTied eq es slots) (inside : i < length slots)
      (only : (s : Kept V) → lookup (eq key) es ≡ Some s → s.key.entry.index ≡ i)
      (mine : (e : Entry K) → (timer_at slots i).entry ≡ Some e → eq key e.value ≡ true) where
    -- the key of another slot is another
    other_key : (j : ℕ) (e : Entry K) → j ≢ i → (timer_at slots j).entry ≡ Some e → eq key e.value ≡ false
    other_key j e ne at = elim (cases_Bool (eq key e.value)) [
      | inl same ↦
          let a = at_slot laws es slots tied j e at in
          let here = only a.0 (looked_alike laws es key e.value same ∙ a.1) in
          absurd (ne (sym a.2 ∙ here))
      | inr apart ↦ apart
    ]

    looks_there : (w : Option (Kept V)) → IsWritten eq es key w fs → (j : ℕ) (e : Entry K) → j ≢ i → (timer_at slots j).entry ≡ Some e → lookup (eq e.value) fs ≡ lookup (eq e.value) es
    looks_there w written j e ne at = written.0 e.value ∙ ap (λ b. cond b w (lookup (eq e.value) es)) (other_key j e ne at)

    shown_there : (w : Option (Kept V)) → IsWritten eq es key w fs → (j : ℕ) → j ≢ i → shown_slot eq fs (timer_at slots j) ≡ shown_slot eq es (timer_at slots j)
    shown_there w written j ne = λ k. record { stamp = (timer_at slots j).stamp; item = by (timer_at slots j).entry refl k }
      where
        by : (o : Option (Entry K)) → (timer_at slots j).entry ≡ o → item_at eq fs (timer_at slots j).entry ≡ item_at eq es (timer_at slots j).entry
        by None at = ap (item_at eq fs) at ∙ sym (ap (item_at eq es) at)
        by (Some e) at = ap (item_at eq fs) at ∙ (ap (item_of e.value e.due) (looks_there w written j e ne at) ∙ sym (ap (item_at eq es) at))

    pub shown_put : (w : Option (Kept V)) → IsWritten eq es key w fs → (x : TableRow K) → shown_slots eq fs (set slots i x) ≡ set (shown_slots eq es slots) i (shown_slot eq fs x)
    shown_put w written x = ext_get_or bare (shown_slots eq fs (set slots i x)) (set (shown_slots eq es slots) i (shown_slot eq fs x)) sizes (λ j within. by j (cases_eq j i))
      where
        size : length (shown_slots eq es slots) ≡ length slots
        size = length-map slots (shown_slot eq es)

        sizes : length (shown_slots eq fs (set slots i x)) ≡ length (set (shown_slots eq es slots) i (shown_slot eq fs x))
        sizes = length-map (set slots i x) (shown_slot eq fs) ∙ (length-set slots i x ∙ sym (length-set (shown_slots eq es slots) i (shown_slot eq fs x) ∙ size))

        by : (j : ℕ) → (j ≡ i) ⊎ (j ≡ i → ⊥) → slot_at (shown_slots eq fs (set slots i x)) j ≡ slot_at (set (shown_slots eq es slots) i (shown_slot eq fs x)) j
        by j (inl same) =
            let P : ℕ → Type 0 = λ k. slot_at (shown_slots eq fs (set slots i x)) k ≡ slot_at (set (shown_slots eq es slots) i (shown_slot eq fs x)) k in
            subst P (sym same)
            (shown_at laws fs (set slots i x) i ∙ (ap (shown_slot eq fs) (set_here slots i x inside) ∙ sym (get_or-set_same (shown_slots eq es slots) i (shown_slot eq fs x) bare (omega (arith, size, inside)))))
        by j (inr ne) =
            shown_at laws fs (set slots i x) j
            ∙ (ap (shown_slot eq fs) (set_there slots i j x ne)
            ∙ (shown_there w written j ne ∙ sym (get_or-set_other (shown_slots eq es slots) i j (shown_slot eq fs x) bare ne ∙ shown_at laws es slots j)))

    -- the timer of another key still runs
    forth_there : (x : TableRow K) (q : K) (s : Kept V) → eq key q ≡ false → lookup (eq q) es ≡ Some s → (copy : K) × IsRunning (set slots i x) s.key copy s.deadline × (eq q copy ≡ true)
    forth_there x q s apart at =
        let f = tied.forth q s at in
        let ne : s.key.entry.index ≢ i = λ e.
        let P : ℕ → Type 0 = λ k. (timer_at slots k).entry ≡ running s.key.entry.born f.0 s.deadline in
        let mine_too = mine (record { born = s.key.entry.born; value = f.0; due = Some s.deadline }) (subst P e (ap (λ t. t.entry) f.1.timer)) in
        true≢false (sym (joined laws f.0 key q (laws.symm f.0 key ∙ mine_too) (laws.symm f.0 q ∙ f.2)) ∙ apart) in
        let size = length-set slots i x in
        let within = f.1.inside in
        (f.0, record { shard = f.1.shard; inside = omega (arith, size, within); timer = set_there slots i s.key.entry.index x ne ∙ f.1.timer }, f.2)

    back_there : (w : Option (Kept V)) → IsWritten eq es key w fs → (x : TableRow K) (j : ℕ) (e : Entry K) → j ≢ i → (timer_at (set slots i x) j).entry ≡ Some e → (s : Kept V) × (lookup (eq e.value) fs ≡ Some s) × (s.key.entry.index ≡ j)
    back_there w written x j e ne at =
        let before = sym (ap (λ t. t.entry) (set_there slots i j x ne)) ∙ at in
        let b = tied.back j e before in
        (b.0, looks_there w written j e ne before ∙ b.1, b.2)

    -- the slot is left without a timer, and the map without the key
    pub tied_emptied : (stamp : ℕ) → IsWritten eq es key None fs → IsTied eq fs (set slots i (record { stamp = stamp; entry = None }))
    tied_emptied stamp written = record {
      distinct = written.1;
      forth = λ q s at.
          let f = cond_found (eq key q) (lookup (eq q) es) s (sym (written.0 q) ∙ at) in
          forth_there (record { stamp = stamp; entry = None }) q s f.0 f.1;
      back = λ j e at. elim (cases_eq j i) [
        | inl same ↦
            let P : ℕ → Type 0 = λ k. (timer_at (set slots i (record { stamp = stamp; entry = None })) k).entry ≡ Some e in
            let gone : (timer_at (set slots i (record { stamp = stamp; entry = None })) i).entry ≡ None = ap (λ t. t.entry) (set_here slots i (record { stamp = stamp; entry = None }) inside) in
            let some = subst P same at in
            absurd (cc)
        | inr ne ↦ back_there None written (record { stamp = stamp; entry = None }) j e ne at
      ];
    }

    -- the slot has a timer of the key, and the map has the key
    module _ (s : Kept V) (copy : K) (written : IsWritten eq es key (Some s) fs) (at_i : s.key.entry.index ≡ i) (shard : s.key.entry.shard ≡ 0) (same : eq key copy ≡ true) where
      abbrev pub timed : TableRow K
      timed = record { stamp = s.key.stamp; entry = running s.key.entry.born copy s.deadline }

      looks_here : lookup (eq copy) fs ≡ Some s
      looks_here = written.0 copy ∙ ap (λ b. cond b (Some s) (lookup (eq copy) es)) same

      forth_here : (q : K) (t : Kept V) (b : Bool) → eq key q ≡ b → cond b (Some s) (lookup (eq q) es) ≡ Some t → (k : K) × IsRunning (set slots i timed) t.key k t.deadline × (eq q k ≡ true)
      forth_here q t false apart at = forth_there timed q t apart at
      forth_here q t true equal at =
          let one : s ≡ t = cc in
          let size = length-set slots i timed in
          let P : ℕ → Type 0 = λ k. timer_at (set slots i timed) k ≡ timed in
          let runs : IsRunning (set slots i timed) s.key copy s.deadline = record { shard = shard; inside = omega (arith, size, at_i, inside); timer = subst P (sym at_i) (set_here slots i timed inside) } in
          let Q : Kept V → Type 0 = λ k. IsRunning (set slots i timed) k.key copy k.deadline in
          (copy, subst Q one runs, joined laws key q copy equal same)

      pub tied_written : IsTied eq fs (set slots i timed)
      tied_written = record {
        distinct = written.1;
        forth = λ q t at. forth_here q t (eq key q) refl (sym (written.0 q) ∙ at);
        back = λ j e at. elim (cases_eq j i) [
          | inl here ↦
              let P : ℕ → Type 0 = λ k. (timer_at (set slots i timed) k).entry ≡ Some e in
              let r : Entry K = record { born = s.key.entry.born; value = copy; due = Some s.deadline } in
              let one : ◌≡◌ {A = Option (Entry K)} (Some r) (Some e) = sym (ap (λ t. t.entry) (set_here slots i timed inside)) ∙ subst P here at in
              let is : r ≡ e = cc in
              (s, ap (λ (x : Entry K). lookup (eq x.value) fs) (sym is) ∙ looks_here, at_i ∙ sym here)
          | inr ne ↦ back_there (Some s) written timed j e ne at
        ];
      }

      pub shown_written : shown_slots eq fs (set slots i timed) ≡ set (shown_slots eq es slots) i (record { stamp = s.key.stamp; item = Some (record { key = copy; value = s.value; deadline = s.deadline }) })
      shown_written = shown_put (Some s) written timed ∙ ap (λ x. set (shown_slots eq es slots) i x) (shown_timer laws fs s.key.stamp s.key.entry.born copy s.deadline s looks_here)
