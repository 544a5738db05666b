-- What a keeper learned of its words, one look after another.
use Rattle.std.proofs.Common.{◌≡◌, ℕ, ◌<◌, Bool, List, length, set, refl, sym, ap, ◌∙◌, subst, inl, inr, arith}
use Rattle.std.proofs.lemmas.List.{length-set, get_or-set_same, get_or-set_other}
use Rattle.std.proofs.lemmas.Bool.{cases_eq}
use Rattle.dq_ticks.specs.declared.words.Parts.{Parts}
use Rattle.dq_ticks.specs.declared.words.Mark.TheVariants.{CancelledMark}
use Rattle.dq_core.specs.Words.{word_at, never, Learned, live, cancelled}
use Rattle.dq_core.specs.Calls.{LooksOver}

-- nothing was looked at
pub looks_none : (shared : Bool) (known : List Parts) → LooksOver shared known known
looks_none shared known = (refl, λ i. inl refl)

-- one word was looked at
pub looks_one : (shared : Bool) (known : List Parts) (i : ℕ) (v : Parts) → i < length known → Learned shared (word_at known i) v → LooksOver shared known (set known i v)
looks_one shared known i v inside learned = (
  length-set known i v,
  λ j.
      elim (cases_eq j i) [
        | inl same ↦
            let P : ℕ → Type 0 = λ k. Learned shared (word_at known k) (word_at (set known i v) k) in
            let Q : Parts → Type 0 = λ w. Learned shared (word_at known i) w in
            subst P (sym same) (subst Q (sym (get_or-set_same known i v never inside)) learned)
        | inr ne ↦ inl (get_or-set_other known i j v never ne)
      ],
)

-- what is learned after what was learned
pub learned_more : (shared : Bool) (a b c : Parts) → Learned shared a b → Learned shared b c → Learned shared a c
learned_more shared a b c (inl ab) bc = let P : Parts → Type 0 = λ x. Learned shared x c in subst P ab bc
learned_more shared a b c (inr x) (inl bc) = let P : Parts → Type 0 = λ y. Learned shared a y in subst P (sym bc) (inr x)
learned_more shared a b c (inr (open_, alive, inl (is, more, small))) (inr (open', alive', inl (is', more', small'))) =
    let stamp : b.stamp ≡ a.stamp = ap (λ p. p.stamp) is in
    inr (open_, alive, inl (is' ∙ ap (λ s. live s c.field) stamp, omega (arith, more, more'), small'))
learned_more shared a b c (inr (open_, alive, inl (is, more, small))) (inr (open', alive', inr is')) =
    let stamp : b.stamp ≡ a.stamp = ap (λ p. p.stamp) is in
    inr (open_, alive, inr (is' ∙ ap cancelled stamp))
learned_more shared a b c (inr (open_, alive, inr is)) (inr (open', alive', more)) =
    let mark : b.mark ≡ CancelledMark = ap (λ p. p.mark) is in
    absurd (cc)

pub looks_more : (shared : Bool) (a b c : List Parts) → LooksOver shared a b → LooksOver shared b c → LooksOver shared a c
looks_more shared a b c x y = (y.0 ∙ x.0, λ i. learned_more shared (word_at a i) (word_at b i) (word_at c i) (x.1 i) (y.1 i))
