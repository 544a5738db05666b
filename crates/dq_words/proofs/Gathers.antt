-- What one seat's new view changes of the files.
use Rattle.std.proofs.Common.{◌≡◌, ◌≢◌, ℕ, zero, suc, ◌<◌, ◌⊎◌, ◌&&◌, eqb, Bool, true, false, List, [], ◌∷◌, ◌++◌, length, set, sym, refl, ap, ◌∙◌, subst, inl, inr, ⊎_elim, eq-eqb, ne_eqb, arith}
use mathlib.Core.Option.{some, some-injective, some-ne-none}
use lib.ListN.{get_elem?}
use Rattle.dq_words.specs.declared.views.View.{View}
use Rattle.dq_words.specs.declared.views.Call.{Call}
use Rattle.dq_words.specs.Files.{is_at, with_if, bases_at, ends_at, extends_at, cancels_at, keeper_writes, gathered, file_of_lists, file, IsIn}

pub at_here : (i s : ℕ) → is_at i s i s ≡ true
at_here i s = rw (eq-eqb i i refl, eq-eqb s s refl)

pub at_other_slot : (i s j t : ℕ) → i ≢ j → is_at i s j t ≡ false
at_other_slot i s j t n = rw (ne_eqb i j n)

pub at_other_stamp : (i s j t : ℕ) → s ≢ t → is_at i s j t ≡ false
at_other_stamp i s j t n = rw (ne_eqb s t n) (by (eqb i j)) where
  by : (b : Bool) → (b && false) ≡ false
  by true = refl
  by false = refl

pub if_here : {A : Type 0} (i s : ℕ) (x : A) (xs : List A) → with_if (is_at i s i s) x xs ≡ x ∷ xs
if_here i s x xs = ap (λ b. with_if b x xs) (at_here i s)

pub if_other : {A : Type 0} (b : Bool) (x : A) (xs : List A) → b ≡ false → with_if b x xs ≡ xs
if_other b x xs h = ap (λ c. with_if c x xs) h

pub has_with_if : {A : Type 0} (b : Bool) (y : A) (ys : List A) (x : A) → IsIn ys x → IsIn (with_if b y ys) x
has_with_if true y ys x h = inr h
has_with_if false y ys x h = h

module _ {A : Type 0} where
  pub has_right : (xs ys : List A) (x : A) → IsIn ys x → IsIn (xs ++ ys) x
  has_right [] ys x h = h
  has_right (y ∷ xs) ys x h = inr (has_right xs ys x h)

  pub has_left : (xs ys : List A) (x : A) → IsIn xs x → IsIn (xs ++ ys) x
  has_left [] ys x h = absurd h
  has_left (y ∷ xs) ys x h = ⊎_elim inl (λ k. inr (has_left xs ys x k)) h

  pub has_either : (xs ys : List A) (x : A) → IsIn (xs ++ ys) x → IsIn xs x ⊎ IsIn ys x
  has_either [] ys x h = inr h
  has_either (y ∷ xs) ys x h = ⊎_elim (λ e. inl (inl e)) (λ k. ⊎_elim (λ a. inl (inr a)) inr (has_either xs ys x k)) h

  module _ (f : List Call → List A) where
    pub gathered_same : (vs : List View) (id : ℕ) (v w : View) → get_elem? vs id ≡ some v → f w.calls ≡ f v.calls → gathered f (set vs id w) ≡ gathered f vs
    gathered_same [] id v w at e = refl
    gathered_same (u ∷ vs) zero v w at e = ap (λ xs. xs ++ gathered f vs) (e ∙ ap (λ (x : View). f x.calls) (sym (some-injective u v at)))
    gathered_same (u ∷ vs) (suc id) v w at e = ap (λ xs. f u.calls ++ xs) (gathered_same vs id v w at e)

    -- the members after a change of one view
    pub gathered_back : (vs : List View) (id : ℕ) (v w : View) (x : A) → get_elem? vs id ≡ some v → IsIn (gathered f (set vs id w)) x → IsIn (f w.calls) x ⊎ IsIn (gathered f vs) x
    gathered_back [] id v w x at h = absurd h
    gathered_back (u ∷ vs) zero v w x at h = ⊎_elim inl (λ k. inr (has_right (f u.calls) (gathered f vs) x k)) (has_either (f w.calls) (gathered f vs) x h)
    gathered_back (u ∷ vs) (suc id) v w x at h =
        ⊎_elim (λ k. inr (has_left (f u.calls) (gathered f vs) x k)) (λ k. ⊎_elim inl (λ a. inr (has_right (f u.calls) (gathered f vs) x a)) (gathered_back vs id v w x at k)) (has_either (f u.calls) (gathered f (set vs id w)) x h)

    pub gathered_grows : (vs : List View) (id : ℕ) (v w : View) (x : A) → get_elem? vs id ≡ some v → (IsIn (f v.calls) x → IsIn (f w.calls) x) → IsIn (gathered f vs) x → IsIn (gathered f (set vs id w)) x
    gathered_grows [] id v w x at g h = h
    gathered_grows (u ∷ vs) zero v w x at g h =
        ⊎_elim (λ k. has_left (f w.calls) (gathered f vs) x (g (subst (λ (y : View). IsIn (f y.calls) x) (some-injective u v at) k))) (λ k. has_right (f w.calls) (gathered f vs) x k) (has_either (f u.calls) (gathered f vs) x h)
    gathered_grows (u ∷ vs) (suc id) v w x at g h =
        ⊎_elim (λ k. has_left (f u.calls) (gathered f (set vs id w)) x k) (λ k. has_right (f u.calls) (gathered f (set vs id w)) x (gathered_grows vs id v w x at g k)) (has_either (f u.calls) (gathered f vs) x h)

    pub gathered_own : (vs : List View) (id : ℕ) (v : View) (x : A) → get_elem? vs id ≡ some v → IsIn (f v.calls) x → IsIn (gathered f vs) x
    gathered_own [] id v x at h = absurd (some-ne-none v (sym at))
    gathered_own (u ∷ vs) zero v x at h = has_left (f u.calls) (gathered f vs) x (subst (λ (y : View). IsIn (f y.calls) x) (sym (some-injective u v at)) h)
    gathered_own (u ∷ vs) (suc id) v x at h = has_right (f u.calls) (gathered f vs) x (gathered_own vs id v x at h)

    -- the first of its kind
    nil_left : (xs ys : List A) → xs ++ ys ≡ [] → xs ≡ []
    nil_left [] ys e = refl
    nil_left (x ∷ xs) ys e = cc

    nil_right : (xs ys : List A) → xs ++ ys ≡ [] → ys ≡ []
    nil_right [] ys e = e
    nil_right (x ∷ xs) ys e = cc

    pub gathered_nil : (vs : List View) (id : ℕ) (v : View) → get_elem? vs id ≡ some v → gathered f vs ≡ [] → f v.calls ≡ []
    gathered_nil [] id v at h = absurd (some-ne-none v (sym at))
    gathered_nil (u ∷ vs) zero v at h = ap (λ (x : View). f x.calls) (sym (some-injective u v at)) ∙ nil_left (f u.calls) (gathered f vs) h
    gathered_nil (u ∷ vs) (suc id) v at h = gathered_nil vs id v at (nil_right (f u.calls) (gathered f vs) h)

    pub gathered_one : (vs : List View) (id : ℕ) (v w : View) (c : A) → get_elem? vs id ≡ some v → f w.calls ≡ c ∷ f v.calls → gathered f vs ≡ [] → gathered f (set vs id w) ≡ c ∷ []
    gathered_one [] id v w c at e h = absurd (some-ne-none v (sym at))
    gathered_one (u ∷ vs) zero v w c at e h =
        let a : f v.calls ≡ [] = gathered_nil (u ∷ vs) zero v at h in
        let b : gathered f vs ≡ [] = nil_right (f u.calls) (gathered f vs) h in
        ap (λ xs. xs ++ gathered f vs) (e ∙ ap (λ xs. c ∷ xs) a) ∙ ap (λ xs. c ∷ xs) b
    gathered_one (u ∷ vs) (suc id) v w c at e h =
        let a : f u.calls ≡ [] = nil_left (f u.calls) (gathered f vs) h in
        let b : gathered f (set vs id w) ≡ c ∷ [] = gathered_one vs id v w c at e (nil_right (f u.calls) (gathered f vs) h) in
        ap (λ xs. xs ++ gathered f (set vs id w)) a ∙ b

    pub gathered_new : (vs : List View) (u : View) → f u.calls ≡ [] → gathered f (vs ++ u ∷ []) ≡ gathered f vs
    gathered_new [] u e = ap (λ xs. xs ++ []) e
    gathered_new (v ∷ vs) u e = ap (λ xs. f v.calls ++ xs) (gathered_new vs u e)

pub writes_same : (vs : List View) (id : ℕ) (v w : View) → get_elem? vs id ≡ some v → w.writes ≡ v.writes → keeper_writes (set vs id w) ≡ keeper_writes vs
writes_same [] id v w at e = refl
writes_same (u ∷ vs) zero v w at e = e ∙ ap (λ (x : View). x.writes) (sym (some-injective u v at))
writes_same (u ∷ vs) (suc id) v w at e = refl

pub writes_own : (vs : List View) (v : View) → get_elem? vs 0 ≡ some v → keeper_writes vs ≡ v.writes
writes_own [] v at = absurd (some-ne-none v (sym at))
writes_own (u ∷ vs) v at = ap (λ (x : View). x.writes) (some-injective u v at)

pub writes_new : (vs : List View) (u : View) → 0 < length vs → keeper_writes (vs ++ u ∷ []) ≡ keeper_writes vs
writes_new [] u h = absurd (omega arith)
writes_new (v ∷ vs) u h = refl

-- the view that a seat was given
pub set_at : (vs : List View) (id : ℕ) (v w : View) → get_elem? vs id ≡ some v → get_elem? (set vs id w) id ≡ some w
set_at [] id v w at = absurd (some-ne-none v (sym at))
set_at (u ∷ vs) zero v w at = refl
set_at (u ∷ vs) (suc id) v w at = set_at vs id v w at

-- a file from its four lists
pub file_of : (a a' : List ℕ) (b b' : List (ℕ × ℕ)) (c c' d d' : List ℕ) → a ≡ a' → b ≡ b' → c ≡ c' → d ≡ d' → file_of_lists a b c d ≡ file_of_lists a' b' c' d'
file_of a a' b b' c c' d d' p q r s = λ k. file_of_lists (p k) (q k) (r k) (s k)

-- a view that adds neither a write nor a call leaves each file
pub file_same : (vs : List View) (id : ℕ) (v w : View) (i s : ℕ) → get_elem? vs id ≡ some v → w.calls ≡ v.calls → w.writes ≡ v.writes → file i s (set vs id w) ≡ file i s vs
file_same vs id v w i s at c e =
    let k = writes_same vs id v w at e in
    file_of _ _ _ _ _ _ _ _ (ap (bases_at i s) k) (ap (ends_at i s) k) (gathered_same (extends_at i s) vs id v w at (ap (extends_at i s) c)) (gathered_same (cancels_at i s) vs id v w at (ap (cancels_at i s) c))
