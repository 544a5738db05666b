-- What the keeper learns.
use Rattle.std.proofs.Common.{◌≡◌, ◌⊎◌, ℕ, ◌<◌, ◌≤◌, sym, ap, subst, inl, inr, ⊎_elim, arith}
use Rattle.dq_ticks.specs.Word.{word, stamp_of, field_of}
use Rattle.dq_words.specs.Word.{LearnedWord}
use Rattle.dq_words.specs.Keeping.{IsOpen}

-- the second case of LearnedWord: a live word was extended or cancelled
abbrev pub Grown : ℕ → ℕ → Type 0
Grown x n = (s : ℕ) × (d : ℕ) × (x ≡ word s 0 d) × (0 < s) × (d ≤ 4398046511103) × (((e : ℕ) × (d ≤ e) × (e ≤ 4398046511103) × (n ≡ word s 0 e)) ⊎ (n ≡ word s 1 0))

pub learned_stamp : (x n : ℕ) → LearnedWord x n → stamp_of n ≡ stamp_of x
learned_stamp x n h = ⊎_elim (λ e. ap stamp_of e)
    (λ (l : Grown x n). let a = l.2 in let b = l.4 in ⊎_elim
    (λ (e : (e : ℕ) × (l.1 ≤ e) × (e ≤ 4398046511103) × (n ≡ word l.0 0 e)). let c = e.2 in let d = e.3 in omega arith)
    (λ (e : n ≡ word l.0 1 0). omega arith) l.5) h

pub learned_on : (x n m : ℕ) → LearnedWord x n → LearnedWord n m → LearnedWord x m
learned_on x n m g h = ⊎_elim
    (λ (e : n ≡ x). let P : ℕ → Type 0 = λ y. LearnedWord y m in subst P e h)
    (λ (l : Grown x n). ⊎_elim
    (λ (e : m ≡ n). let P : ℕ → Type 0 = λ y. LearnedWord x y in subst P (sym e) g)
    (λ (k : Grown n m). let a = l.2 in let b = l.4 in let c = k.2 in let d = k.4 in inr (
      l.0,
      l.1,
      l.2,
      l.3,
      l.4,
      ⊎_elim
          (λ (e : (e : ℕ) × (l.1 ≤ e) × (e ≤ 4398046511103) × (n ≡ word l.0 0 e)). let e1 = e.1 in let e2 = e.2 in let e3 = e.3 in ⊎_elim
          (λ (f : (f : ℕ) × (k.1 ≤ f) × (f ≤ 4398046511103) × (m ≡ word k.0 0 f)). let f1 = f.1 in let f3 = f.3 in inl (f.0, omega arith, f.2, omega arith))
          (λ (f : m ≡ word k.0 1 0). inr (omega arith)) k.5)
          (λ (e : n ≡ word l.0 1 0). absurd (omega arith)) l.5,
    )) h) g

pub open_on : (x n s : ℕ) → IsOpen x s → LearnedWord x n → IsOpen n s
open_on x n s o h = (
  o.0,
  ⊎_elim
      (λ (e : n ≡ x). let P : ℕ → Type 0 = λ y. (y ≡ word s 1 0) ⊎ (y ≡ word s 0 (field_of y)) in subst P (sym e) o.1)
      (λ (l : Grown x n). let a = l.2 in let b = l.4 in
      let same : l.0 ≡ s = ⊎_elim (λ (y : x ≡ word s 1 0). absurd (omega arith)) (λ (y : x ≡ word s 0 (field_of x)). omega arith) o.1 in ⊎_elim
      (λ (e : (e : ℕ) × (l.1 ≤ e) × (e ≤ 4398046511103) × (n ≡ word l.0 0 e)). let c = e.2 in let d = e.3 in inr (omega arith))
      (λ (e : n ≡ word l.0 1 0). inl (omega arith)) l.5) h,
)
