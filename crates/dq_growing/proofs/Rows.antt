-- One core of a list changes.
use Rattle.std.proofs.Common.{◌≡◌, ◌≢◌, ◌⊎◌, ℕ, zero, suc, ◌<◌, ◌≤◌, List, [], ◌∷◌, ◌++◌, ◌+◌, ◌-◌, max, length, get_or, set, remove, refl, sym, ap, ◌∙◌, subst, inl, inr, ⊎_elim, arith}
use mathlib.Core.Logic.{dite}
use native.Mathlib.Decide.{ℕ_discrete}
use Rattle.std.proofs.lemmas.List.{length-set, get_or-set_same, get_or-set_other, get_or_default}
use Rattle.std.proofs.lemmas.List.Edits.{length-remove, get_or-remove_below, get_or-remove_above}
use Rattle.dq_ticks.specs.declared.TheConstants.{LAST_TICK}
use Rattle.dq_wheel.proofs.Links.{nat_le_or_lt}
use Rattle.dq_core.specs.Core.{Core}
use Rattle.std.specs.Prelude.{IfOk, Result, Ok, Err, ◌↔◌}
use Rattle.dq_ticks.specs.declared.keys.EntryId.{EntryId}
use Rattle.dq_core.specs.declared.errors.CoreError.{CoreError}
use Rattle.dq_core.specs.declared.outcomes.Removed.{Removed}
use Rattle.dq_core.specs.AtTheCall.{HoldsValue}
use Rattle.dq_core.specs.Calls.{IsMissing}
use Rattle.dq_growing.specs.Cores.{HoldsIn, IsMissingIn, CoreRow, AreCores, IsCoreAt, HaveOwnNumbers, AreBelow, AreBehind, HasAt, OnCoreOr, OnCoreAt, MayComeIn, HasDrained, GivesDrained, with_core, opened_without}

pub snoc_long : {X : Type 0} (l : List X) (a : X) → length (l ++ a ∷ []) ≡ suc (length l)
snoc_long [] a = refl
snoc_long (x ∷ xs) a = ap suc (snoc_long xs a)

pub snoc_before : {X : Type 0} (l : List X) (a d : X) (i : ℕ) → i < length l → get_or (l ++ a ∷ []) i d ≡ get_or l i d
snoc_before [] a d i h = absurd (omega arith)
snoc_before (x ∷ xs) a d zero h = refl
snoc_before (x ∷ xs) a d (suc i) h = snoc_before xs a d i (omega arith)

pub snoc_last : {X : Type 0} (l : List X) (a d : X) → get_or (l ++ a ∷ []) (length l) d ≡ a
snoc_last [] a d = refl
snoc_last (x ∷ xs) a d = snoc_last xs a d

module _ {T W : Type 0} where
  -- what stands at a place after a core changed: that core, or what stood there
  pub at_after : (cores : List (Core T W)) (i j : ℕ) (c d : Core T W) → i < length cores → IsCoreAt (set cores i c) j d
      → ((j ≡ i) × (d ≡ c)) ⊎ ((j ≢ i) × IsCoreAt cores j d)
  at_after cores i j c d h at =
      dite (ℕ_discrete j i)
      (λ e. let P : ℕ → Type 0 = λ k. get_or (set cores i c) k d ≡ d in
      inl (e, sym (sym (get_or-set_same cores i c d h) ∙ subst P e at.1)))
      (λ n. inr (n, (rw (length-set cores i c) at at.0, sym (get_or-set_other cores i j c d n) ∙ at.1)))

  -- one core at a place
  pub one_at : (cores : List (Core T W)) (i : ℕ) (b c : Core T W) → IsCoreAt cores i b → IsCoreAt cores i c → b ≡ c
  one_at cores i b c x y = sym x.1 ∙ (get_or_default cores i b c x.0 ∙ y.1)

  -- who had a number at a place has it there still
  pub had : (cores : List (Core T W)) (i : ℕ) (b c : Core T W) → IsCoreAt cores i b → c.shard ≡ b.shard
      → (j : ℕ) (d : Core T W) → IsCoreAt (set cores i c) j d → (e : Core T W) × IsCoreAt cores j e × (e.shard ≡ d.shard)
  had cores i b c at same j d x =
      ⊎_elim
      (λ (y : (j ≡ i) × (d ≡ c)). let P : ℕ → Type 0 = λ k. IsCoreAt cores k b in
      let N : Core T W → ℕ = λ k. k.shard in
      (b, subst P (sym y.0) at, sym same ∙ sym (ap N y.1)))
      (λ (y : (j ≢ i) × IsCoreAt cores j d). (d, y.1, refl))
      (at_after cores i j c d at.0 x)

  -- the law stays where a core keeps its number, and notes no later tick than the row did
  pub keeps_law : (s : CoreRow T W) (i : ℕ) (b c : Core T W) → AreCores s → IsCoreAt s.cores i b → c.shard ≡ b.shard → c.noted ≤ max b.noted s.noted
      → AreCores (with_core s i c)
  keeps_law s i b c law at same noted = record {
    apart = λ j k d e x y z.
        let p = had s.cores i b c at same j d x in
        let q = had s.cores i b c at same k e y in
        law.apart j k p.0 q.0 p.1 q.1 (p.2 ∙ (z ∙ sym q.2));
    below = λ j d x. let p = had s.cores i b c at same j d x in let P : ℕ → Type 0 = λ k. k < s.next in subst P p.2 (law.below j p.0 p.1);
    behind = λ j d x.
        ⊎_elim
        (λ (y : (j ≡ i) × (d ≡ c)). let N : Core T W → ℕ = λ k. k.noted in let is = ap N y.1 in let own = law.behind i b at in omega arith)
        (λ (y : (j ≢ i) × IsCoreAt s.cores j d). law.behind j d y.1)
        (at_after s.cores i j c d at.0 x);
    in_range = law.in_range;
  }

  -- a call on the core that was found at a place
  pub on_found : (s : CoreRow T W) (i number : ℕ) (P : Core T W → Core T W → Type 0) (R : Type 0) (b c : Core T W)
      → ((x : Core T W) × HasAt s.cores number i x) → b ≡ get_or s.cores i b → P b c → OnCoreOr number P R s (with_core s i c)
  on_found s i number P R b c found at did =
      let here : IsCoreAt s.cores i b = (found.1.0.0, sym at) in
      let N : Core T W → ℕ = λ k. k.shard in
      let same = one_at s.cores i b found.0 here found.1.0 in
      inl (record { place = i; before = b; after = c; at = (here, ap N same ∙ found.1.1); did = did; rest = refl })

  -- a call on the core at a place
  pub on_place : (s : CoreRow T W) (i : ℕ) (P : Core T W → Core T W → Type 0) (b c : Core T W) → i < length s.cores
      → b ≡ get_or s.cores i b → P b c → OnCoreAt i P s (with_core s i c)
  on_place s i P b c inside at did = record { before = b; after = c; at = (inside, sym at); did = did; rest = refl }

  pub at_snoc : (cores : List (Core T W)) (a d : Core T W) (j : ℕ) → IsCoreAt (cores ++ a ∷ []) j d
      → IsCoreAt cores j d ⊎ ((j ≡ length cores) × (a ≡ d))
  at_snoc cores a d j at =
      dite (ℕ_discrete j (length cores))
      (λ e. let P : ℕ → Type 0 = λ k. get_or (cores ++ a ∷ []) k d ≡ d in
      inr (e, sym (snoc_last cores a d) ∙ subst P e at.1))
      (λ n. let long = snoc_long cores a in let inside = at.0 in
      let before : j < length cores = omega arith in
      inl (before, sym (snoc_before cores a d j before) ∙ at.1))

  pub takes_law : (s t : CoreRow T W) (c : Core T W) → AreCores s → MayComeIn s c → t.cores ≡ s.cores ++ c ∷ []
      → t.next ≡ max s.next (c.shard + 1) → t.noted ≡ max s.noted c.noted → c.noted ≤ LAST_TICK → AreCores t
  takes_law s t c law may is next noted bound =
      let cores = s.cores in
      let N : Core T W → ℕ = λ k. k.shard in
      let apart : HaveOwnNumbers (cores ++ c ∷ []) = λ i j d e p q z.
      ⊎_elim
      (λ (y : IsCoreAt cores i d). ⊎_elim
      (λ (w : IsCoreAt cores j e). law.apart i j d e y w z)
      (λ (w : (j ≡ length cores) × (c ≡ e)). absurd (may.2 i d y (z ∙ sym (ap N w.1))))
      (at_snoc cores c e j q))
      (λ (y : (i ≡ length cores) × (c ≡ d)). ⊎_elim
      (λ (w : IsCoreAt cores j e). absurd (may.2 j e w (sym z ∙ sym (ap N y.1))))
      (λ (w : (j ≡ length cores) × (c ≡ e)). y.0 ∙ sym w.0)
      (at_snoc cores c e j q))
      (at_snoc cores c d i p)
      in
      let below : AreBelow (cores ++ c ∷ []) (max s.next (c.shard + 1)) = λ i d p.
      ⊎_elim
      (λ (y : IsCoreAt cores i d). let b = law.below i d y in omega arith)
      (λ (y : (i ≡ length cores) × (c ≡ d)). let e = ap N y.1 in omega arith)
      (at_snoc cores c d i p)
      in
      let behind : AreBehind (cores ++ c ∷ []) (max s.noted c.noted) = λ i d p.
      ⊎_elim
      (λ (y : IsCoreAt cores i d). let b = law.behind i d y in omega arith)
      (λ (y : (i ≡ length cores) × (c ≡ d)). let M : Core T W → ℕ = λ k. k.noted in let e = ap M y.1 in omega arith)
      (at_snoc cores c d i p)
      in
      let B : List (Core T W) → Type 0 = λ l. AreBehind l (max s.noted c.noted) in
      let N2 : ℕ → Type 0 = λ n. AreBehind t.cores n in
      let range = law.in_range in
      let P : List (Core T W) → Type 0 = λ l. HaveOwnNumbers l in
      let Q : List (Core T W) → Type 0 = λ l. AreBelow l (max s.next (c.shard + 1)) in
      let R : ℕ → Type 0 = λ n. AreBelow t.cores n in
      record { apart = subst P (sym is) apart; below = subst R (sym next) (subst Q (sym is) below); behind = subst N2 (sym noted) (subst B (sym is) behind); in_range = rw noted (omega arith) }

  -- what stands at a place after a removal stood there before, or one place further on
  pub removed_at : (cores : List (Core T W)) (i j : ℕ) (d : Core T W) → i < length cores → IsCoreAt (remove cores i) j d
      → ((j < i) × IsCoreAt cores j d) ⊎ ((i ≤ j) × IsCoreAt cores (j + 1) d)
  removed_at cores i j d h at =
      let fewer = length-remove cores i h in
      let inside = at.0 in
      elim (nat_le_or_lt i j) [
        | inl y ↦ inr (y, (omega arith, sym (get_or-remove_above cores i d j y h) ∙ at.1))
        | inr y ↦ inl (y, (omega arith, sym (get_or-remove_below cores i d j y h) ∙ at.1))
      ]

  -- every other core is still there
  pub removed_from : (cores : List (Core T W)) (i k : ℕ) (d : Core T W) → i < length cores → k ≢ i → IsCoreAt cores k d → (j : ℕ) × IsCoreAt (remove cores i) j d
  removed_from cores i k d h ne at =
      let fewer = length-remove cores i h in
      let inside = at.0 in
      ⊎_elim
      (λ (y : suc k ≤ i). (k, (omega (arith, y, fewer, h), get_or-remove_below cores i d k (omega (arith, y)) h ∙ at.1)))
      (λ (y : i < suc k). ⊎_elim
      (λ (z : k ≤ i). absurd (ne (omega (arith, y, z))))
      (λ (z : i < k). let e : k ≡ (k - 1) + 1 = omega (arith, z) in
      let A : ℕ → Type 0 = λ m. IsCoreAt cores m d in
      let there = subst A e at in
      (k - 1, (omega (arith, inside, fewer, z), get_or-remove_above cores i d (k - 1) (omega (arith, z)) h ∙ there.1)))
      (nat_le_or_lt k i))
      (nat_le_or_lt (suc k) i)

  pub removed_law : (s t : CoreRow T W) (i : ℕ) → AreCores s → i < length s.cores → t.cores ≡ remove s.cores i → t.next ≡ s.next → t.noted ≡ s.noted → AreCores t
  removed_law s t i law h cores next noted =
      let apart : HaveOwnNumbers (remove s.cores i) = λ j k d e p q z.
      ⊎_elim
      (λ (x : (j < i) × IsCoreAt s.cores j d). ⊎_elim
      (λ (y : (k < i) × IsCoreAt s.cores k e). law.apart j k d e x.1 y.1 z)
      (λ (y : (i ≤ k) × IsCoreAt s.cores (k + 1) e). let w = law.apart j (k + 1) d e x.1 y.1 z in let l = x.0 in let m = y.0 in absurd (omega arith))
      (removed_at s.cores i k e h q))
      (λ (x : (i ≤ j) × IsCoreAt s.cores (j + 1) d). ⊎_elim
      (λ (y : (k < i) × IsCoreAt s.cores k e). let w = law.apart (j + 1) k d e x.1 y.1 z in let l = x.0 in let m = y.0 in absurd (omega arith))
      (λ (y : (i ≤ k) × IsCoreAt s.cores (k + 1) e). let w = law.apart (j + 1) (k + 1) d e x.1 y.1 z in omega arith)
      (removed_at s.cores i k e h q))
      (removed_at s.cores i j d h p)
      in
      let below : AreBelow (remove s.cores i) s.next = λ j d p.
      ⊎_elim
      (λ (x : (j < i) × IsCoreAt s.cores j d). law.below j d x.1)
      (λ (x : (i ≤ j) × IsCoreAt s.cores (j + 1) d). law.below (j + 1) d x.1)
      (removed_at s.cores i j d h p)
      in
      let behind : AreBehind (remove s.cores i) s.noted = λ j d p.
      ⊎_elim
      (λ (x : (j < i) × IsCoreAt s.cores j d). law.behind j d x.1)
      (λ (x : (i ≤ j) × IsCoreAt s.cores (j + 1) d). law.behind (j + 1) d x.1)
      (removed_at s.cores i j d h p)
      in
      let B : List (Core T W) → Type 0 = λ l. AreBehind l s.noted in
      let N2 : ℕ → Type 0 = λ n. AreBehind t.cores n in
      let P : List (Core T W) → Type 0 = λ l. HaveOwnNumbers l in
      let Q : List (Core T W) → Type 0 = λ l. AreBelow l s.next in
      let R : ℕ → Type 0 = λ n. AreBelow t.cores n in
      record { apart = subst P (sym cores) apart; below = subst R (sym next) (subst Q (sym cores) below); behind = subst N2 (sym noted) (subst B (sym cores) behind); in_range = rw noted law.in_range }

  pub gives : (s : CoreRow T W) (i o : ℕ) (c : Core T W) (cores : List (Core T W)) → ((x : Core T W) × HasDrained s i x)
      → c ≡ get_or s.cores i c → cores ≡ remove s.cores i → o ≡ opened_without s.opened i
      → GivesDrained s c (record s { cores = cores; opened = o })
  gives s i o c cores found at is opened =
      let P : Core T W → Type 0 = λ k. HasDrained s i k in
      let same = one_at s.cores i found.0 c found.1.0 (found.1.0.0, sym at) in
      record { place = i; drained = subst P same found.1; rest = rw (is, opened) refl }

  -- where an entry is missing from the core of its number, it is missing from each
  pub missing_in : (s : CoreRow T W) (law : AreCores s) (i : ℕ) (b : Core T W) (id : EntryId) (Q : Type 0) → ((x : Core T W) × HasAt s.cores id.shard i x)
      → b ≡ get_or s.cores i b → (Q ↔ IsMissing b id) → Q ↔ IsMissingIn s id
  missing_in s law i b id Q found at iff =
      let here : IsCoreAt s.cores i b = (found.1.0.0, sym at) in
      let N : Core T W → ℕ = λ k. k.shard in
      let number : b.shard ≡ id.shard = ap N (one_at s.cores i b found.0 here found.1.0) ∙ found.1.1 in
      let P : Core T W → Type 0 = λ k. IsMissing k id in (
        (λ q j c there same e is.
            let place : j ≡ i = law.apart j i c b there here (sym same ∙ sym number) in
            let A : ℕ → Type 0 = λ k. IsCoreAt s.cores k c in
            let missing : IsMissing c id = subst P (one_at s.cores i b c here (subst A place there)) (iff.0 q) in
            missing same e is),
        (λ m. iff.1 (m i b here)),
      )

  -- what a core held, the store held
  pub out_in : (s : CoreRow T W) (i : ℕ) (b : Core T W) (id : EntryId) (r : Result (Removed T) CoreError) → i < length s.cores
      → b ≡ get_or s.cores i b → IfOk r (λ x. (x.key.entry ≡ id) × HoldsValue b id x.value)
      → IfOk r (λ x. (x.key.entry ≡ id) × HoldsIn s id x.value)
  out_in s i b id (Ok x) inside at out = (out.0, (i, b, (inside, sym at), out.1))
  out_in s i b id (Err e) inside at out = tt {0}
