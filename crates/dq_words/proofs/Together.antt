-- A caller's accepted calls in the files of all views.
use mathlib.Core.Option.{some, some-injective, some-ne-none}
use lib.ListN.{get_elem?}
use Rattle.std.proofs.Common.{◌≡◌, ◌≢◌, ℕ, zero, suc, ◌+◌, ◌<◌, ◌≤◌, ◌⊎◌, Bool, true, false, List, [], ◌∷◌, length, length-append, get_or, sym, refl, ap, subst, inl, inr, ⊎_elim, arith}
use Rattle.dq_words.specs.declared.views.Call.{Call}
use Rattle.dq_words.specs.declared.views.Call.TheVariants.{Extend, Cancel}
use Rattle.dq_words.specs.declared.views.View.{View}
use Rattle.dq_words.specs.Files.{File, file, blank, IsDeadline, IsIn, is_at, with_if, ends_at, extends_at, cancels_at, gathered}
use Rattle.dq_words.specs.Places.{AreShown, AreOthers, StoodWith, StoodApart}
use Rattle.atomic_table.specs.Table.{State}
use Rattle.dq_words.specs.Rule.{Ruled, UnbornStamp, LivingStamp, CancelledStamp, EndedStamp, Law}
use Rattle.dq_words.specs.Together.{EndsCover, CancelsCover}
use Rattle.dq_words.proofs.Advances.{by_order}
use Rattle.dq_words.proofs.Ends.{ends}
use Rattle.dq_words.proofs.Gathers.{gathered_own, has_with_if, writes_own}

if_has : (b : Bool) (y : ℕ) (ys zs : List ℕ) (x : ℕ) → IsIn (with_if b y ys) x → IsIn (with_if b y zs) x ⊎ IsIn ys x
if_has true y ys zs x h = ⊎_elim (λ e. inl (inl e)) inr h
if_has false y ys zs x h = inr h

if_one : (b : Bool) (y : ℕ) (zs : List ℕ) (x : ℕ) → IsIn (with_if b y []) x → IsIn (with_if b y zs) x
if_one true y zs x h = ⊎_elim inl (λ no. absurd no) h
if_one false y zs x h = absurd h

-- what a list of calls says of one slot at one stamp, taken call by call
pub record CallByCall (f : List Call → List ℕ) : Type 0 where
  pub none : f [] ≡ []
  pub apart : (c : Call) (cs : List Call) (x : ℕ) → IsIn (f (c ∷ cs)) x → IsIn (f (c ∷ [])) x ⊎ IsIn (f cs) x
  pub first : (c : Call) (cs : List Call) (x : ℕ) → IsIn (f (c ∷ [])) x → IsIn (f (c ∷ cs)) x
  pub rest : (c : Call) (cs : List Call) (x : ℕ) → IsIn (f cs) x → IsIn (f (c ∷ cs)) x

reads_extends : (i s : ℕ) → CallByCall (extends_at i s)
reads_extends i s = record { none = refl; apart = apart; first = first; rest = rest }
  where
    apart : (c : Call) (cs : List Call) (x : ℕ) → IsIn (extends_at i s (c ∷ cs)) x → IsIn (extends_at i s (c ∷ [])) x ⊎ IsIn (extends_at i s cs) x
    apart (Extend j t w) cs x h = if_has (is_at i s j t) w (extends_at i s cs) [] x h
    apart (Cancel j t d) cs x h = inr h

    first : (c : Call) (cs : List Call) (x : ℕ) → IsIn (extends_at i s (c ∷ [])) x → IsIn (extends_at i s (c ∷ cs)) x
    first (Extend j t w) cs x h = if_one (is_at i s j t) w (extends_at i s cs) x h
    first (Cancel j t d) cs x h = absurd h

    rest : (c : Call) (cs : List Call) (x : ℕ) → IsIn (extends_at i s cs) x → IsIn (extends_at i s (c ∷ cs)) x
    rest (Extend j t w) cs x h = has_with_if (is_at i s j t) w (extends_at i s cs) x h
    rest (Cancel j t d) cs x h = h

reads_cancels : (i s : ℕ) → CallByCall (cancels_at i s)
reads_cancels i s = record { none = refl; apart = apart; first = first; rest = rest }
  where
    apart : (c : Call) (cs : List Call) (x : ℕ) → IsIn (cancels_at i s (c ∷ cs)) x → IsIn (cancels_at i s (c ∷ [])) x ⊎ IsIn (cancels_at i s cs) x
    apart (Extend j t w) cs x h = inr h
    apart (Cancel j t d) cs x h = if_has (is_at i s j t) d (cancels_at i s cs) [] x h

    first : (c : Call) (cs : List Call) (x : ℕ) → IsIn (cancels_at i s (c ∷ [])) x → IsIn (cancels_at i s (c ∷ cs)) x
    first (Extend j t w) cs x h = absurd h
    first (Cancel j t d) cs x h = if_one (is_at i s j t) d (cancels_at i s cs) x h

    rest : (c : Call) (cs : List Call) (x : ℕ) → IsIn (cancels_at i s cs) x → IsIn (cancels_at i s (c ∷ cs)) x
    rest (Extend j t w) cs x h = h
    rest (Cancel j t d) cs x h = has_with_if (is_at i s j t) d (cancels_at i s cs) x h

module _ (f : List Call → List ℕ) (r : CallByCall f) where
  within : (calls : List Call) (c : Call) (x : ℕ) → IsIn calls c → IsIn (f (c ∷ [])) x → IsIn (f calls) x
  within [] c x k h = absurd k
  within (y ∷ ys) c x k h = ⊎_elim
      (λ (e : c ≡ y). let P : Call → Type 0 = λ z. IsIn (f (z ∷ [])) x in r.first y ys x (subst P e h))
      (λ t. r.rest y ys x (within ys c x t h))
      k

  -- shown calls are in what all views say
  pub shown_in : (views : List View) (calls : List Call) → AreShown views calls → (x : ℕ) → IsIn (f calls) x → IsIn (gathered f views) x
  shown_in views [] shown x h = absurd (let P : List ℕ → Type 0 = λ l. IsIn l x in subst P r.none h)
  shown_in views (c ∷ cs) shown x h = ⊎_elim
      (λ a. let s = shown c (inl refl) in gathered_own f views s.0 s.1 x s.2 (within s.1.calls c x s.3 a))
      (λ b. shown_in views cs (λ d k. shown d (inr k)) x b)
      (r.apart c cs x h)

pub extends_shown : (i s : ℕ) (views : List View) (calls : List Call) → AreShown views calls → (x : ℕ) → IsIn (extends_at i s calls) x → IsIn (file i s views).extends x
extends_shown i s = shown_in (extends_at i s) (reads_extends i s)

none_in : (xs : List ℕ) → ((x : ℕ) → IsIn xs x → ⊥) → xs ≡ []
none_in [] h = refl
none_in (x ∷ xs) h = absurd (h x (inl refl))

no_one : {A : Type 0} (xs : List A) (y : A) → xs ≡ [] → IsIn xs y → ⊥
no_one xs y e h = let P = λ (zs : List _). IsIn zs y in subst P e h

-- a stamp that the keeper ended was not cancelled
ended_alone : (n s : ℕ) (f : File) → Law n s f → (e : ℕ × ℕ) → IsIn f.ends e → f.cancels ≡ []
ended_alone n s f law e h = ⊎_elim
    (λ (u : UnbornStamp n s f). ap (λ (g : File). g.cancels) u.none)
    (⊎_elim (λ (l : LivingStamp n s f). l.uncancelled)
    (⊎_elim (λ (c : CancelledStamp n s f). absurd (no_one f.ends e c.unended h))
    (λ (k : EndedStamp n s f). k.uncancelled)))
    law

pub ends_cover : (v u : View) → StoodWith v u.calls → EndsCover v u
ends_cover v u stood i s e h =
    let t = stood.0 in
    let r = stood.1 in
    let P : _ → Type 0 = λ ws. IsIn (ends_at i s ws) e in
    let ended : IsIn (file i s t.views).ends e = subst P (sym (writes_own t.views v stood.2)) h in
    let deadline = (ends _ t r i s).0 e ended in
    let alone : (file i s t.views).cancels ≡ [] = by_order (length v.seen) i _
    (λ far. ap (λ (g : File). g.cancels) (r.kept.outside i s (inl far)))
    (λ inside. by_order 1 s _
    (λ pos. ended_alone (get_or t.words i 0) s (file i s t.views) (r.kept.cells i s inside pos) e ended)
    (λ zeroth. ap (λ (g : File). g.cancels) (r.kept.outside i s (inr (omega arith))))) in (
      (λ x asked. deadline.1 x (inr (extends_shown i s t.views u.calls stood.3 x asked))),
      none_in (cancels_at i s u.calls) (λ x gone. no_one (file i s t.views).cancels x alone (shown_in (cancels_at i s) (reads_cancels i s) t.views u.calls stood.3 x gone)),
    )

-- calls of two seats are two in what all views say
gathered_one : (f : List Call → List ℕ) (vs : List View) (id : ℕ) (v : View) → get_elem? vs id ≡ some v → length (f v.calls) ≤ length (gathered f vs)
gathered_one f [] id v at = absurd (some-ne-none v (sym at))
gathered_one f (u ∷ vs) zero v at =
    let e : length (f u.calls) ≡ length (f v.calls) = ap (λ (x : View). length (f x.calls)) (some-injective u v at) in
    let l = length-append (f u.calls) (gathered f vs) in omega arith
gathered_one f (u ∷ vs) (suc id) v at = let h = gathered_one f vs id v at in let l = length-append (f u.calls) (gathered f vs) in omega arith

gathered_two : (f : List Call → List ℕ) (vs : List View) (j k : ℕ) (v w : View) → get_elem? vs j ≡ some v → get_elem? vs k ≡ some w → k ≢ j → length (f v.calls) + length (f w.calls) ≤ length (gathered f vs)
gathered_two f [] j k v w at there ne = absurd (some-ne-none v (sym at))
gathered_two f (u ∷ vs) zero zero v w at there ne = absurd (ne refl)
gathered_two f (u ∷ vs) zero (suc k) v w at there ne =
    let e : length (f u.calls) ≡ length (f v.calls) = ap (λ (x : View). length (f x.calls)) (some-injective u v at) in
    let h = gathered_one f vs k w there in let l = length-append (f u.calls) (gathered f vs) in omega arith
gathered_two f (u ∷ vs) (suc j) zero v w at there ne =
    let e : length (f u.calls) ≡ length (f w.calls) = ap (λ (x : View). length (f x.calls)) (some-injective u w there) in
    let h = gathered_one f vs j v at in let l = length-append (f u.calls) (gathered f vs) in omega arith
gathered_two f (u ∷ vs) (suc j) (suc k) v w at there ne =
    let h = gathered_two f vs j k v w at there (λ e. ne (ap suc e)) in let l = length-append (f u.calls) (gathered f vs) in omega arith

some_in : (xs : List ℕ) (x : ℕ) → IsIn xs x → 0 < length xs
some_in [] x h = absurd h
some_in (y ∷ ys) x h = omega arith

-- a stamp is cancelled at most once
once : (n s : ℕ) (f : File) → Law n s f → length f.cancels ≤ 1
once n s f law = ⊎_elim
    (λ (u : UnbornStamp n s f). let e : length f.cancels ≡ 0 = ap (λ (g : File). length g.cancels) u.none in omega arith)
    (⊎_elim (λ (l : LivingStamp n s f). let e : length f.cancels ≡ 0 = ap length l.uncancelled in omega arith)
    (⊎_elim (λ (c : CancelledStamp n s f). let e : length f.cancels ≡ 1 = ap length c.cancelled in omega arith)
    (λ (k : EndedStamp n s f). let e : length f.cancels ≡ 0 = ap length k.uncancelled in omega arith)))
    law

cancelled_once : (rows i s : ℕ) (t : State ℕ View) → Ruled rows t → length (file i s t.views).cancels ≤ 1
cancelled_once rows i s t r =
    let nothing : file i s t.views ≡ blank → length (file i s t.views).cancels ≤ 1 = λ e. let z : length (file i s t.views).cancels ≡ 0 = ap (λ (g : File). length g.cancels) e in omega arith in
    by_order rows i _ (λ far. nothing (r.kept.outside i s (inl far)))
    (λ inside. by_order 1 s _ (λ pos. once (get_or t.words i 0) s (file i s t.views) (r.kept.cells i s inside pos)) (λ zeroth. nothing (r.kept.outside i s (inr (omega arith)))))

-- a seat of which a call is, and another
other_of : (f : List Call → List ℕ) (r : CallByCall f) (j : ℕ) (views : List View) (calls : List Call) → AreOthers j views calls → (x : ℕ) → IsIn (f calls) x
    → (k : ℕ) × (w : View) × (k ≢ j) × (get_elem? views k ≡ some w) × IsIn (f w.calls) x
other_of f r j views [] others x h = absurd (let P : List ℕ → Type 0 = λ l. IsIn l x in subst P r.none h)
other_of f r j views (c ∷ cs) others x h = ⊎_elim
    (λ a. let s = others c (inl refl) in (s.0, s.1, s.2, s.3, within f r s.1.calls c x s.4 a))
    (λ b. other_of f r j views cs (λ d k. others d (inr k)) x b)
    (r.apart c cs x h)

-- what one of two seats gave up covers the other's calls
module _ (v u : View) (stood : StoodApart v u.calls) where
  abbrev t : State ℕ View
  t = stood.0

  mine : AreShown t.views v.calls
  mine c h = (stood.1, v, stood.3, h)

  theirs : AreShown t.views u.calls
  theirs c h = let s = stood.4 c h in (s.0, s.1, s.3, s.4)

  not_both : (i s d e : ℕ) → IsIn (cancels_at i s v.calls) d → IsIn (cancels_at i s u.calls) e → ⊥
  not_both i s d e one other =
      let w = other_of (cancels_at i s) (reads_cancels i s) stood.1 t.views u.calls stood.4 e other in
      let two = gathered_two (cancels_at i s) t.views stood.1 w.0 v w.1 stood.3 w.3 w.2 in
      let a = some_in (cancels_at i s v.calls) d one in let b = some_in (cancels_at i s w.1.calls) e w.4 in
      let c = cancelled_once _ i s t stood.2 in omega arith

  in_force : (i s d : ℕ) (calls : List Call) → AreShown t.views calls → IsIn (cancels_at i s calls) d → IsDeadline (file i s t.views) d
  in_force i s d calls shown h = (ends _ t stood.2 i s).1 d (shown_in (cancels_at i s) (reads_cancels i s) t.views calls shown d h)

  pub cancels_cover : CancelsCover v u × CancelsCover u v
  cancels_cover = (
    (λ i s d h. ((λ x asked. (in_force i s d v.calls mine h).1 x (inr (extends_shown i s t.views u.calls theirs x asked))), none_in (cancels_at i s u.calls) (λ e gone. not_both i s d e h gone))),
    (λ i s d h. ((λ x asked. (in_force i s d u.calls theirs h).1 x (inr (extends_shown i s t.views v.calls mine x asked))), none_in (cancels_at i s v.calls) (λ e gone. not_both i s e d gone h))),
  )
