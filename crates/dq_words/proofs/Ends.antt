-- Each given stamp, and each inserted entry, ends exactly once or is still queued.
use Rattle.std.proofs.Common.{◌≡◌, ◌≢◌, ℕ, suc, ◌+◌, ◌<◌, ◌≤◌, eqb, ◌&&◌, if◌then◌else◌, Bool, true, false, List, [], ◌∷◌, length, get_or, sym, refl, ap, ◌∙◌, subst, inl, inr, ⊎_elim, eq-eqb, ne_eqb, arith}
use Rattle.dq_ticks.specs.Word.{word, stamp_of, mark_of}
use Rattle.dq_words.specs.Keeping.{IsEnded}
use Rattle.dq_words.specs.Word.{Left, LearnedWord}
use Rattle.dq_words.specs.Files.{File, file, blank, IsIn, IsDeadline}
use Rattle.dq_words.specs.Rule.{UnbornStamp, LivingStamp, CancelledStamp, EndedStamp, Law}
use Rattle.dq_words.specs.Endings.{lives_at, closed_in, StampsEndOnce, OthersAreBlank, EndsAreInForce, EndedWordsStay}
use Rattle.dq_words.proofs.Advances.{by_order}
use Rattle.dq_words.proofs.Keepings.{Grown}
use Rattle.dq_words.proofs.Steps.{law_beyond}

lives_here : (n s : ℕ) → mark_of n ≡ 0 → stamp_of n ≡ s → lives_at n s ≡ 1
lives_here n s m e = ap (λ (p : Bool × Bool). if p.0 && p.1 then 1 else 0) (λ k. (eq-eqb (mark_of n) 0 m k, eq-eqb (stamp_of n) s e k))

not_live : (n s : ℕ) → mark_of n ≢ 0 → lives_at n s ≡ 0
not_live n s m = ap (λ (p : Bool). if p && eqb (stamp_of n) s then 1 else 0) (ne_eqb (mark_of n) 0 m)

not_here : (n s : ℕ) → stamp_of n ≢ s → lives_at n s ≡ 0
not_here n s e = ap (λ (p : Bool). if eqb (mark_of n) 0 && p then 1 else 0) (ne_eqb (stamp_of n) s e) ∙ by (eqb (mark_of n) 0) where
  by : (b : Bool) → ◌≡◌ {A = ℕ} (if b && false then 1 else 0) 0
  by true = refl
  by false = refl

-- of the keeper's ends, those that gave the next stamp
abbrev pub renewed_in : List (ℕ × ℕ) → ℕ
renewed_in [] = 0
renewed_in (e ∷ es) = (if eqb e.0 0 then 1 else 0) + renewed_in es

pub both_ways : (es : List (ℕ × ℕ)) → closed_in es + renewed_in es ≡ length es
both_ways [] = omega arith
both_ways (e ∷ es) = by (eqb e.0 0) (both_ways es) where
  by : (b : Bool) → closed_in es + renewed_in es ≡ length es → ((if b then 0 else 1) + closed_in es) + ((if b then 1 else 0) + renewed_in es) ≡ suc (length es)
  by true h = omega arith
  by false h = omega arith

-- one stamp that was given
given_once : (n s : ℕ) (f : File) → s ≤ stamp_of n → Law n s f → (length f.bases ≡ 1) × (length f.ends + length f.cancels + lives_at n s ≡ 1)
given_once n s f at law = ⊎_elim
    (λ (u : UnbornStamp n s f). absurd (let b = u.below in omega arith))
    (⊎_elim (λ (l : LivingStamp n s f). let a = l.now in let b = l.small in
    let e : length f.ends ≡ 0 = ap length l.unended in let c : length f.cancels ≡ 0 = ap length l.uncancelled in let live = lives_here n s (omega arith) (omega arith) in
    (ap length l.given, omega arith))
    (⊎_elim (λ (c : CancelledStamp n s f).
    let e : length f.ends ≡ 0 = ap length c.unended in let k : length f.cancels ≡ 1 = ap length c.cancelled in
    let dead : lives_at n s ≡ 0 = ⊎_elim (λ (now : n ≡ word s 1 0). not_live n s (λ z. omega arith)) (λ (now : Left n s). not_here n s (λ z. omega arith)) c.now in
    (ap length c.given, omega arith))
    (λ (e : EndedStamp n s f).
    let k : length f.ends ≡ 1 = ap length e.ended in let c : length f.cancels ≡ 0 = ap length e.uncancelled in let small = e.small in
    let dead : lives_at n s ≡ 0 = ⊎_elim (λ (now : (n ≡ word s e.mark e.deadline) × (1 < e.mark) × (e.mark < 4)). let x = now.0 in let y = now.1 in let z = now.2 in not_live n s (λ q. omega arith)) (λ (now : Left n s). not_here n s (λ z. omega arith)) e.now in
    (ap length e.given, omega arith))))
    law

pub stamps : StampsEndOnce
stamps rows t r i s inside pos at = given_once (get_or t.words i 0) s (file i s t.views) at (r.kept.cells i s inside pos)

pub others : OthersAreBlank
others rows t r i s h = by_order rows i (file i s t.views ≡ blank)
    (λ far. r.kept.outside i s (inl far))
    (λ inside. ⊎_elim (λ far. absurd (omega arith)) (⊎_elim (λ zeroth. r.kept.outside i s (inr zeroth)) (λ (beyond : stamp_of (get_or t.words i 0) < s). law_beyond (get_or t.words i 0) s (file i s t.views) beyond (r.kept.cells i s inside (omega arith)))) h)

one_of : {A : Type 0} (xs : List A) (x y : A) → xs ≡ x ∷ [] → IsIn xs y → y ≡ x
one_of xs x y e h = ⊎_elim (λ k. k) (λ no. absurd no) (let P = λ (zs : List _). IsIn zs y in let g : IsIn (x ∷ []) y = subst P e h in g)

none_of : {A : Type 0} (xs : List A) (y : A) → xs ≡ [] → IsIn xs y → ⊥
none_of xs y e h = let P = λ (zs : List _). IsIn zs y in subst P e h

in_force : (n s : ℕ) (f : File) → Law n s f → ((e : ℕ × ℕ) → IsIn f.ends e → IsDeadline f e.1) × ((d : ℕ) → IsIn f.cancels d → IsDeadline f d)
in_force n s f law =
    let P : ℕ → Type 0 = λ d. IsDeadline f d in ⊎_elim
    (λ (u : UnbornStamp n s f). ((λ e h. absurd (none_of f.ends e (ap (λ (g : File). g.ends) u.none) h)), λ d h. absurd (none_of f.cancels d (ap (λ (g : File). g.cancels) u.none) h)))
    (⊎_elim (λ (l : LivingStamp n s f). ((λ e h. absurd (none_of f.ends e l.unended h)), λ d h. absurd (none_of f.cancels d l.uncancelled h)))
    (⊎_elim (λ (c : CancelledStamp n s f). ((λ e h. absurd (none_of f.ends e c.unended h)), λ d h. subst P (sym (one_of f.cancels c.deadline d c.cancelled h)) c.in_force))
    (λ (e : EndedStamp n s f). ((λ x h. subst P (sym (ap (λ (z : ℕ × ℕ). z.1) (one_of f.ends (e.mark, e.deadline) x e.ended h))) e.in_force), λ d h. absurd (none_of f.cancels d e.uncancelled h)))))
    law

pub ends : EndsAreInForce
ends rows t r i s = by_order rows i _
    (λ far. nothing (r.kept.outside i s (inl far)))
    (λ inside. by_order 1 s _ (λ pos. in_force (get_or t.words i 0) s (file i s t.views) (r.kept.cells i s inside pos)) (λ zeroth. nothing (r.kept.outside i s (inr (omega arith))))) where
      nothing : file i s t.views ≡ blank → ((e : ℕ × ℕ) → IsIn (file i s t.views).ends e → IsDeadline (file i s t.views) e.1) × ((d : ℕ) → IsIn (file i s t.views).cancels d → IsDeadline (file i s t.views) d)
      nothing e = ((λ x h. absurd (none_of (file i s t.views).ends x (ap (λ (g : File). g.ends) e) h)), λ d h. absurd (none_of (file i s t.views).cancels d (ap (λ (g : File). g.cancels) e) h))

-- a word that was seen ended is still ended
pub still_ended : (x n : ℕ) → LearnedWord x n → IsEnded x → IsEnded n
still_ended x n h over = ⊎_elim
    (λ (e : n ≡ x). let P : ℕ → Type 0 = λ y. IsEnded y in subst P (sym e) over)
    (λ (l : Grown x n). let a = l.2 in let b = l.3 in let c = l.4 in absurd (over (omega arith) (omega arith)))
    h

pub ended_stay : EndedWordsStay
ended_stay rows t r v is none i inside =
    let seen = r.kept.sees 0 v is in
    let row = seen.row in
    still_ended (get_or v.seen i 0) (get_or t.words i 0) (seen.learns seen.role.0 i inside) (none i (omega arith))
