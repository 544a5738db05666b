-- What the keeper's calls that try again ask for, and what their last try leaves.
use Rattle.std.proofs.Common.{◌≡◌, ◌≢◌, ℕ, ◌+◌, ◌<◌, ◌≤◌, length, get_or, sym, ap, ◌∙◌, subst, ⊎_elim, get_or-set_same, arith}
use Rattle.dq_ticks.specs.Word.{word, stamp_of, mark_of, field_of}
use Rattle.dq_words.specs.declared.views.View.{View}
use Rattle.dq_words.specs.Keeping.{IsOpen}
use Rattle.dq_words.specs.KeeperCalls.{after_failures}
use Rattle.dq_words.specs.Plays.{KeeperLoads}
use Rattle.dq_words.specs.Word.{LearnedWord}
use Rattle.dq_words.proofs.Keepings.{Grown, open_on}
use Rattle.dq_words.proofs.Trying.{Loaded}

-- before the first try
pub loaded_first : (v w : View) (i s x : ℕ) → KeeperLoads v w i x → IsOpen (get_or v.seen i 0) s → Loaded v w i s x
loaded_first v w i s x l o = record { many = 0; is = l.0; learned = l.1; open_word = open_on (get_or v.seen i 0) x s o l.1 }

-- an open word that is live
pub live_word_is : (x s : ℕ) → IsOpen x s → mark_of x ≡ 0 → x ≡ word s 0 (field_of x)
live_word_is x s o live = ⊎_elim (λ (e : x ≡ word s 1 0). absurd (omega (arith, e, live))) (λ (e : x ≡ word s 0 (field_of x)). e) o.1

pub live_stamp_is : (x s : ℕ) → IsOpen x s → mark_of x ≡ 0 → stamp_of x ≡ s
live_stamp_is x s o live = let e = live_word_is x s o live in omega (arith, e, live)

pub given_live : (x s : ℕ) → IsOpen x s → mark_of x ≡ 0 → (0 < stamp_of x) × (mark_of x ≡ 0)
given_live x s o live = let e = live_stamp_is x s o live in let p = o.0 in (omega (arith, e, p), live)

-- the word that a try wants in its place
pub next_stamp : (x s new when : ℕ) → stamp_of x ≡ s → when ≤ 4398046511103 → new ≡ word (s + 1) 0 when → (stamp_of new ≡ stamp_of x + 1) × (mark_of new ≡ 0)
next_stamp x s new when at small is = (omega (arith, at, small, is), omega (arith, small, is))

pub same_removed : (x s new d : ℕ) → stamp_of x ≡ s → d ≡ field_of x → d ≤ 4398046511103 → new ≡ word s 3 d → (stamp_of new ≡ stamp_of x) × (field_of new ≡ field_of x)
same_removed x s new d at field small is = (omega (arith, at, small, is), omega (arith, field, small, is))

pub is_removed : (s new d : ℕ) → d ≤ 4398046511103 → new ≡ word s 3 d → mark_of new ≡ 3
is_removed s new d small is = omega (arith, small, is)

-- a try that failed found a greater word
grown_more : (x n : ℕ) → LearnedWord x n → n ≢ x → x < n
grown_more x n h other = ⊎_elim (λ (e : n ≡ x). absurd (other e))
    (λ (l : Grown x n). let a = l.2 in let b = l.4 in ⊎_elim
    (λ (e : (e : ℕ) × (l.1 ≤ e) × (e ≤ 4398046511103) × (n ≡ word l.0 0 e)). let c = e.1 in let d = e.3 in omega (arith, a, c, d, other))
    (λ (e : n ≡ word l.0 1 0). omega (arith, a, b, e)) l.5) h

pub tries_rise : (v u : View) (i s x y : ℕ) → i < length v.seen → Loaded v u i s x → LearnedWord (get_or u.seen i 0) y → y ≢ x → x < y
tries_rise v u i s x y inside l learned other =
    let here : get_or u.seen i 0 ≡ x = ap (λ (z : View). get_or z.seen i 0) l.is ∙ get_or-set_same v.seen i x 0 inside in
    let P : ℕ → Type 0 = λ k. LearnedWord k y in
    grown_more x y (subst P here learned) other

-- what an exchange of the live word leaves
pub exchanged : (f : View → ℕ → ℕ → ℕ → View) (v u w : View) (i s x d new made : ℕ) → Loaded v u i s x → mark_of x ≡ 0 → d ≡ field_of x → d ≤ 4398046511103 → new ≡ made → w ≡ f u i x new
    → (d ≤ 4398046511103) × LearnedWord (get_or v.seen i 0) (word s 0 d) × ((n : ℕ) × (w ≡ f (after_failures v i (word s 0 d) n) i (word s 0 d) made))
exchanged f v u w i s x d new made l live at small is step =
    let live_is : x ≡ word s 0 d = live_word_is x s l.open_word live ∙ ap (λ k. word s 0 k) (sym at) in
    let P : ℕ → Type 0 = λ y. LearnedWord (get_or v.seen i 0) y in
    let seen : u ≡ after_failures v i (word s 0 d) l.many = l.is ∙ ap (λ y. after_failures v i y l.many) live_is in
    (small, subst P live_is l.learned, (l.many, step ∙ (λ q. f (seen q) i (live_is q) (is q))))
