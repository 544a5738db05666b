-- Ids that are found by their numbers.
use Rattle.std.proofs.Common.{◌≡◌, ◌≢◌, ◌⊎◌, ℕ, Bool, true, false, ◌&&◌, nat_eq, List, length, Option, Some, None, refl, sym, ap, ◌∙◌, subst, inl, inr, ⊎_elim, [], ◌∷◌}
use Rattle.std.proofs.lemmas.Bool.{eqb-true, eq-eqb}
use Rattle.std.proofs.lemmas.List.{nil_from_length, get_or-set_same, get_or-set_other}
use Rattle.std.specs.Prelude.{◌<◌, slice_index_or, slice_set}
use Rattle.std.specs.Map.{lookup, keys_of}
use Rattle.dq_ticks.specs.declared.keys.EntryId.{EntryId}
use mathlib.Core.Logic.{dite}
use native.Mathlib.Decide.{ℕ_discrete}
use Rattle.dq_growing.specs.Notes.{Pairs, Book, AreNotes, AreMarked, HasNone, Forgets, note_mark, numbers_of, same_numbers, with_id, or_own, user_at, place_by, meant_place, SetsPair, TakesPair}
use Rattle.dq_growing.proofs.Standing.{same_id, some_is}
use Rattle.dq_growing.proofs.Leasts.{some_not_none}

all_three : (a b c : Bool) → (a ≡ true → b ≡ true → c ≡ true → ⊥) → (a && b) && c ≡ false
all_three true true true h = absurd (h refl refl refl)
all_three true true false h = refl
all_three true false c h = refl
all_three false b c h = refl

pub other_numbers : (a b : EntryId) → b ≢ a → same_numbers (numbers_of a) (numbers_of b) ≡ false
other_numbers a b n =
    all_three (nat_eq a.shard b.shard) (nat_eq a.index b.index) (nat_eq a.born b.born)
    (λ s i o. n (same_id b a (sym (eqb-true a.shard b.shard s)) (sym (eqb-true a.index b.index i)) (sym (eqb-true a.born b.born o))))

pub sets_pair : (p q : Pairs) (key : ℕ × ℕ × ℕ) (id : EntryId) (o : Option EntryId) → key ≡ numbers_of id → lookup (same_numbers key) q.entries ≡ o
    → ((k : ℕ × ℕ × ℕ) → same_numbers key k ≡ false → lookup (same_numbers k) q.entries ≡ lookup (same_numbers k) p.entries) → SetsPair p id o q
sets_pair p q key id o is here others =
    let P : ℕ × ℕ × ℕ → Type 0 = λ k. lookup (same_numbers k) q.entries ≡ o in
    let Q : ℕ × ℕ × ℕ → Type 0 = λ n. (k : ℕ × ℕ × ℕ) → same_numbers n k ≡ false → lookup (same_numbers k) q.entries ≡ lookup (same_numbers k) p.entries in
    record { here = subst P is here; else = λ k n. subst Q is others (numbers_of k) (other_numbers id k n) }

-- two ids are one or two
pub one_or_two : (a b : EntryId) → (a ≡ b) ⊎ (a ≢ b)
one_or_two a b =
    dite (ℕ_discrete a.shard b.shard)
    (λ s. dite (ℕ_discrete a.index b.index)
    (λ i. dite (ℕ_discrete a.born b.born) (λ o. inl (same_id a b s i o)) (λ n. inr (λ e. n (ap (λ k. k.born) e))))
    (λ n. inr (λ e. n (ap (λ k. k.index) e))))
    (λ n. inr (λ e. n (ap (λ k. k.shard) e)))

abbrev pub book : Pairs → Pairs → Book
book places users = record { places = places; users = users }

-- what a table has after ids were taken from it
left_over : (p q : Pairs) (o : Option EntryId) → TakesPair p o q → (k : EntryId) → o ≢ Some k → with_id q k ≡ with_id p k
left_over p q None t k n = ap (λ x. with_id x k) t
left_over p q (Some id) t k n = t.else k (λ e. n (ap (λ x. let o : Option EntryId = Some x in o) (sym e)))

taken : (p q : Pairs) (o : Option EntryId) → TakesPair p o q → (k : EntryId) → o ≡ Some k → with_id q k ≡ None
taken p q None t k is = absurd (some_not_none k (sym is))
taken p q (Some id) t k is = let P : EntryId → Type 0 = λ x. with_id q x ≡ None in subst P (some_is id k is) t.here

module _ (n : Book) (u p : EntryId) (o : Option EntryId) (places users users' : Pairs) (law : AreNotes n) (free : with_id n.users p ≡ None)
    (is : o ≡ with_id n.places u) (takes : TakesPair n.users o users) (sets : SetsPair n.places u (Some p) places) (puts : SetsPair users p (Some u) users') where
  forth : (a q : EntryId) → with_id places a ≡ Some q → with_id users' q ≡ Some a
  forth a q at =
      ⊎_elim
      (λ (e : a ≡ u). let P : EntryId → Type 0 = λ k. with_id places k ≡ Some q in
      let same = some_is p q (sym sets.here ∙ subst P e at) in
      let Q : EntryId → Type 0 = λ k. with_id users' k ≡ Some u in
      subst Q same puts.here ∙ ap (λ k. let r : Option EntryId = Some k in r) (sym e))
      (λ (ne : a ≢ u). let was = sym (sets.else a ne) ∙ at in
      let noted = (law a q).0 was in
      let P : EntryId → Type 0 = λ k. with_id n.users k ≡ None in
      let apart : q ≢ p = λ e. some_not_none a (sym noted ∙ subst P (sym e) free) in
      let kept : o ≢ Some q = λ e. ne (some_is a u (sym noted ∙ (law u q).0 (sym is ∙ e))) in
      puts.else q apart ∙ (left_over n.users users o takes q kept ∙ noted))
      (one_or_two a u)

  back_again : (a q : EntryId) → with_id users' q ≡ Some a → with_id places a ≡ Some q
  back_again a q at =
      ⊎_elim
      (λ (e : q ≡ p). let P : EntryId → Type 0 = λ k. with_id users' k ≡ Some a in
      let same = some_is u a (sym puts.here ∙ subst P e at) in
      let Q : EntryId → Type 0 = λ k. with_id places k ≡ Some p in
      subst Q same sets.here ∙ ap (λ k. let r : Option EntryId = Some k in r) (sym e))
      (λ (ne : q ≢ p). let was = sym (puts.else q ne) ∙ at in
      let kept : o ≢ Some q = λ e. some_not_none a (sym was ∙ taken n.users users o takes q e) in
      let noted = (law a q).1 (sym (left_over n.users users o takes q kept) ∙ was) in
      let P : EntryId → Type 0 = λ k. with_id n.places k ≡ Some q in
      let apart : a ≢ u = λ e. kept (is ∙ subst P e noted) in
      sets.else a apart ∙ noted)
      (one_or_two q p)

  pub noted_law : AreNotes (book places users')
  noted_law a q = (forth a q, back_again a q)

-- nothing is among no entries
pub none_listed : (es : List ((ℕ × ℕ × ℕ) × EntryId)) → length es ≡ 0 → (k : EntryId) → lookup (same_numbers (numbers_of k)) es ≡ None
none_listed es none k = ap (λ l. lookup (same_numbers (numbers_of k)) l) (nil_from_length es none)

-- where no user's id has a place, no place has a user's id
module _ (n : Book) (law : AreNotes n) (none : HasNone n.places) where
  no_user : (p : EntryId) (o : Option EntryId) → o ≡ with_id n.users p → o ≡ None
  no_user p None at = refl
  no_user p (Some w) at = absurd (some_not_none p (sym ((law w p).1 (sym at)) ∙ none w))

  no_users : (p : EntryId) → with_id n.users p ≡ None
  no_users p = no_user p (with_id n.users p) refl

  own_by : (u : EntryId) (a b : Option EntryId) → a ≡ None → b ≡ None → Some u ≡ place_by u a b
  own_by u None None x y = refl
  own_by u (Some p) b x y = absurd (some_not_none p x)
  own_by u None (Some w) x y = absurd (some_not_none w y)

  pub own_place : (u : EntryId) → Some u ≡ meant_place n u
  own_place u = own_by u (with_id n.places u) (with_id n.users u) (none u) (no_users u)

  pub own_user : (p : EntryId) → p ≡ user_at n p
  own_user p = sym (ap (or_own p) (no_users p))

  pub nothing_to_forget : (p : EntryId) → Forgets n p None n
  nothing_to_forget p = (no_users p, ((λ k. refl), (λ k. refl)))

-- the marks of a table
module _ (p q : Pairs) (id : EntryId) (marks : List Bool) (marked : AreMarked p marks) where
  pub marks_stay : SetsPair p id None q → AreMarked q marks
  marks_stay s k o at =
      ⊎_elim
      (λ (e : k ≡ id). let P : EntryId → Type 0 = λ x. with_id q x ≡ Some o in absurd (some_not_none o (sym (subst P e at) ∙ s.here)))
      (λ (n : k ≢ id). marked k o (sym (s.else k n) ∙ at))
      (one_or_two k id)

  kept_mark : (m : ℕ) → m < length marks → (j : ℕ) → slice_index_or marks j false ≡ true → slice_index_or (slice_set marks m true) j false ≡ true
  kept_mark m inside j was =
      dite (ℕ_discrete j m)
      (λ e. let P : ℕ → Type 0 = λ x. slice_index_or (slice_set marks m true) x false ≡ true in subst P (sym e) (get_or-set_same marks m true false inside))
      (λ n. get_or-set_other marks m j true false n ∙ was)

  pub marks_more : (o : EntryId) (m : ℕ) → m ≡ note_mark id → m < length marks → SetsPair p id (Some o) q → AreMarked q (slice_set marks m true)
  marks_more other m is inside s k o at =
      ⊎_elim
      (λ (e : k ≡ id). let P : ℕ → Type 0 = λ x. slice_index_or (slice_set marks m true) x false ≡ true in
      subst P (is ∙ ap note_mark (sym e)) (get_or-set_same marks m true false inside))
      (λ (n : k ≢ id). kept_mark m inside (note_mark k) (marked k o (sym (s.else k n) ∙ at)))
      (one_or_two k id)

-- keys of a list of pairs, one after the other

-- one of a list
abbrev pub Among : {X : Type 0} → X → List X → Type 0
Among k [] = ⊥
Among k (x ∷ xs) = (k ≡ x) ⊎ Among k xs

true_not_false : true ≡ false → ⊥
true_not_false e = absurd (cc)

bool_cases : (b : Bool) → (b ≡ true) ⊎ (b ≡ false)
bool_cases true = inl refl
bool_cases false = inr refl

all_true : (a b c : Bool) → (a && b) && c ≡ true → (a ≡ true) × (b ≡ true) × (c ≡ true)
all_true true true true e = (refl, refl, refl)
all_true true true false e = absurd (cc)
all_true true false c e = absurd (cc)
all_true false b c e = absurd (cc)

same_is : (a b : ℕ × ℕ × ℕ) → same_numbers a b ≡ true → a ≡ b
same_is a b e =
    let all = all_true (nat_eq a.0 b.0) (nat_eq a.1 b.1) (nat_eq a.2 b.2) e in
    let p = eqb-true a.0 b.0 all.0 in
    let q = eqb-true a.1 b.1 all.1 in
    let r = eqb-true a.2 b.2 all.2 in
    λ n. (p n, q n, r n)

-- what is found is one of the keys
pub found_among : (es : List ((ℕ × ℕ × ℕ) × EntryId)) (k : ℕ × ℕ × ℕ) (o : EntryId) → lookup (same_numbers k) es ≡ Some o → Among k (keys_of es)
found_among [] k o e = absurd (some_not_none o (sym e))
found_among (x ∷ es) k o e =
    elim (bool_cases (same_numbers k x.0)) [
      | inl here ↦ inl (same_is k x.0 here)
      | inr other ↦ inr (found_among es k o (rw other at e))
    ]

pub one_less : (Q : ℕ × ℕ × ℕ → Type 0) (k x : ℕ × ℕ × ℕ) (xs ys : List (ℕ × ℕ × ℕ)) → ys ≡ x ∷ xs → Q x → Among k ys ⊎ Q k → Among k xs ⊎ Q k
one_less Q k x xs ys is here (inr far) = inr far
one_less Q k x xs ys is here (inl among) =
    let P : List (ℕ × ℕ × ℕ) → Type 0 = λ l. Among k l in
    ⊎_elim (λ (e : k ≡ x). inr (subst Q (sym e) here)) (λ (e : Among k xs). inl e) (subst P is among)

pub none_left : (Q : ℕ × ℕ × ℕ → Type 0) (k : ℕ × ℕ × ℕ) (ys : List (ℕ × ℕ × ℕ)) → ys ≡ [] → Among k ys ⊎ Q k → Q k
none_left Q k ys is (inr far) = far
none_left Q k ys is (inl among) = let P : List (ℕ × ℕ × ℕ) → Type 0 = λ l. Among k l in absurd (subst P is among)

-- what is among those that are left was among all
pub one_more : (k x : ℕ × ℕ × ℕ) (xs ys : List (ℕ × ℕ × ℕ)) → ys ≡ x ∷ xs → Among k xs → Among k ys
one_more k x xs ys is among = let P : List (ℕ × ℕ × ℕ) → Type 0 = λ l. Among k l in subst P (sym is) (inr among)

pub first_among : (x : ℕ × ℕ × ℕ) (xs ys : List (ℕ × ℕ × ℕ)) → ys ≡ x ∷ xs → Among x ys
first_among x xs ys is = let P : List (ℕ × ℕ × ℕ) → Type 0 = λ l. Among x l in subst P (sym is) (inl refl)

both_true : (a b c : Bool) → a ≡ true → b ≡ true → c ≡ true → (a && b) && c ≡ true
both_true true true true x y z = refl
both_true true true false x y z = z
both_true true false c x y z = y
both_true false b c x y z = x

same_as_own : (k : ℕ × ℕ × ℕ) → same_numbers k k ≡ true
same_as_own k = both_true (nat_eq k.0 k.0) (nat_eq k.1 k.1) (nat_eq k.2 k.2) (eq-eqb k.0 k.0 refl) (eq-eqb k.1 k.1 refl) (eq-eqb k.2 k.2 refl)

-- each key is found
pub among_found : (es : List ((ℕ × ℕ × ℕ) × EntryId)) (k : ℕ × ℕ × ℕ) → Among k (keys_of es) → (o : EntryId) × (lookup (same_numbers k) es ≡ Some o)
among_found [] k among = absurd among
among_found (x ∷ es) k among =
    elim (bool_cases (same_numbers k x.0)) [
      | inl here ↦ (x.1, rw here refl)
      | inr other ↦
          ⊎_elim
          (λ (e : k ≡ x.0). let P : ℕ × ℕ × ℕ → Type 0 = λ y. same_numbers k y ≡ true in absurd (true_not_false (sym (subst P e (same_as_own k)) ∙ other)))
          (λ (m : Among k (keys_of es)). let f = among_found es k m in (f.0, rw other f.1))
          among
    ]
