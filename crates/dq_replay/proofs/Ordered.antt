-- The order of live names, and lists that are kept in it.
use Rattle.std.proofs.Common.{◌≡◌, ℕ, inl, inr, Bool, true, false, cond, List, [], ◌∷◌, ◌++◌, length, refl, ap, sym, ◌∙◌, suc}
use Rattle.std.specs.Prelude.{nat_lt, filter, ◌&&◌, ◌||◌, ◌==◌}
use Rattle.std.specs.Cmp.{IsTotalOrder}
use Rattle.std.specs.Cmp.Lexicographic.{slice_cmp}
use Rattle.std.specs.declared.cmp.Ordering.{Ordering}
use Rattle.std.specs.declared.cmp.Ordering.TheVariants.{Less, Equal, Greater}
use Rattle.std.specs.Ordering.{nat_cmp, ordering_then, ordering_reverse, is_lt, is_gt}
use Rattle.std.specs.List.{AllByRecursion, list_any}
use Rattle.std.specs.Cmp.{then_total, on_total, nat_cmp_total, upto, tied_itself}
use Rattle.std.proofs.lemmas.Cmp.{nat_list_cmp_total}
use Rattle.std.proofs.lemmas.Map.Lookups.{exact_bytes, exact_unsigned}
use Rattle.std.proofs.lemmas.Bool.{true≢false, false≢true, cases_Bool}
use Rattle.dq_replay.specs.declared.session.Lease.{Lease}
use Rattle.dq_replay.specs.Script.{comes_before, with_lease}
use Rattle.dq_replay.specs.Order.{lease_cmp, IsLined}

-- those entries, each put at its place
abbrev pub in_order : List Lease → List Lease
in_order [] = []
in_order (e ∷ es) = with_lease e (in_order es)

pub entry_total : IsTotalOrder lease_cmp
entry_total = then_total (on_total (λ (e : Lease). e.deadline) nat_cmp_total) (on_total (λ (e : Lease). e.name) nat_list_cmp_total)

before_by : (t u : Bool) (o : Ordering) → is_lt (ordering_then (cond t Less (cond u Equal Greater)) o) ≡ (t || (u && is_lt o))
before_by true u o = refl
before_by false true o = refl
before_by false false o = refl

pub before_is : (a b : Lease) → comes_before a b ≡ is_lt (lease_cmp a b)
before_is a b = sym (before_by (nat_lt a.deadline b.deadline) (a.deadline == b.deadline) (slice_cmp nat_cmp a.name b.name))

then_equal : (o p : Ordering) → ordering_then o p ≡ Equal → (o ≡ Equal) × (p ≡ Equal)
then_equal Less p e = absurd (true≢false (ap is_lt e))
then_equal Equal p e = (refl, e)
then_equal Greater p e = absurd (true≢false (ap is_gt e))

abbrev entry : List ℕ → ℕ → Lease
entry name deadline = record { name = name; deadline = deadline }

-- entries that the order doesn't tell apart are the same
pub same_entry : (a b : Lease) → lease_cmp a b ≡ Equal → a ≡ b
same_entry a b e =
    let both = then_equal (nat_cmp a.deadline b.deadline) (slice_cmp nat_cmp a.name b.name) e in
    let names : a.name ≡ b.name = exact_bytes a.name b.name both.1 in
    let deadlines : a.deadline ≡ b.deadline = exact_unsigned a.deadline b.deadline both.0 in
    ap (λ n. entry n a.deadline) names ∙ ap (λ d. entry b.name d) deadlines

neither : (o : Ordering) → is_lt o ≡ false → is_lt (ordering_reverse o) ≡ false → o ≡ Equal
neither Less p q = absurd (true≢false p)
neither Equal p q = refl
neither Greater p q = absurd (true≢false q)

pub before_either : (a b : Lease) → comes_before a b ≡ false → comes_before b a ≡ false → a ≡ b
before_either a b p q =
    same_entry a b (neither (lease_cmp a b) (sym (before_is a b) ∙ p) (ap is_lt (sym (entry_total.antisymm b a)) ∙ (sym (before_is b a) ∙ q)))

turned : (o : Ordering) → is_lt o ≡ true → is_lt (ordering_reverse o) ≡ false
turned Less p = refl
turned Equal p = refl
turned Greater p = absurd (false≢true p)

pub before_one_way : (a b : Lease) → comes_before a b ≡ true → comes_before b a ≡ false
before_one_way a b p = before_is b a ∙ (ap is_lt (entry_total.antisymm b a) ∙ turned (lease_cmp a b) (sym (before_is a b) ∙ p))

is_less : (o : Ordering) → is_lt o ≡ true → o ≡ Less
is_less Less p = refl
is_less Equal p = absurd (false≢true p)
is_less Greater p = absurd (false≢true p)

pub before_through : (a b c : Lease) → comes_before a b ≡ true → comes_before b c ≡ true → comes_before a c ≡ true
before_through a b c p q =
    before_is a c ∙ ap is_lt (entry_total.trans a b c (is_less (lease_cmp a b) (sym (before_is a b) ∙ p)) (is_less (lease_cmp b c) (sym (before_is b c) ∙ q)))

pub not_before_itself : (a : Lease) → comes_before a a ≡ false
not_before_itself a = before_is a a ∙ ap is_lt (tied_itself entry_total a)

greater_turned : (o : Ordering) → is_lt o ≡ is_gt (ordering_reverse o)
greater_turned Less = refl
greater_turned Equal = refl
greater_turned Greater = refl

turned_greater : (a b : Lease) → comes_before a b ≡ false → is_gt (lease_cmp b a) ≡ false
turned_greater a b p = ap is_gt (entry_total.antisymm b a) ∙ (sym (greater_turned (lease_cmp a b)) ∙ (sym (before_is a b) ∙ p))

less_turned : (o : Ordering) → is_gt o ≡ is_lt (ordering_reverse o)
less_turned Less = refl
less_turned Equal = refl
less_turned Greater = refl

-- c doesn't come before b, b doesn't come before a: so c doesn't come before a
pub not_before_through : (a b c : Lease) → comes_before b a ≡ false → comes_before c b ≡ false → comes_before c a ≡ false
not_before_through a b c p q =
    before_is c a ∙ (ap is_lt (entry_total.antisymm c a) ∙ (sym (less_turned (lease_cmp a c)) ∙ upto entry_total a b c (turned_greater b a p) (turned_greater c b q)))

-- where an entry goes
pub with_first : (e x : Lease) (xs : List Lease) → comes_before e x ≡ true → with_lease e (x ∷ xs) ≡ e ∷ x ∷ xs
with_first e x xs p = rw p refl

pub with_later : (e x : Lease) (xs : List Lease) → comes_before e x ≡ false → with_lease e (x ∷ xs) ≡ x ∷ with_lease e xs
with_later e x xs p = rw p refl

-- two entries go in alike in either order

commute_by : (a b : Lease) (xs : List Lease) → comes_before a b ≡ true → with_lease a (with_lease b xs) ≡ with_lease b (with_lease a xs)
commute_by a b [] p = rw (with_first a b [] p, with_later b a [] (before_one_way a b p)) refl
commute_by a b (x ∷ xs) p = elim (cases_Bool (comes_before b x)) [
  | inl bx ↦
      let ax : comes_before a x ≡ true = before_through a b x p bx in
      rw (bx, ax, p, before_one_way a b p, bx) refl
  | inr bx ↦ elim (cases_Bool (comes_before a x)) [
    | inl ax ↦ rw (with_later b x xs bx, with_first a x xs ax, with_first a x (with_lease b xs) ax, with_later b a (x ∷ xs) (before_one_way a b p), with_later b x xs bx) refl
    | inr ax ↦ rw (with_later b x xs bx, with_later a x xs ax, with_later a x (with_lease b xs) ax, with_later b x (with_lease a xs) bx) (ap (λ ys. x ∷ ys) (commute_by a b xs p))
  ]
]

pub with_commutes : (a b : Lease) (xs : List Lease) → with_lease a (with_lease b xs) ≡ with_lease b (with_lease a xs)
with_commutes a b xs = elim (cases_Bool (comes_before a b)) [
  | inl p ↦ commute_by a b xs p
  | inr p ↦ elim (cases_Bool (comes_before b a)) [
    | inl q ↦ sym (commute_by b a xs q)
    | inr q ↦ let same = before_either a b p q in rw same refl
  ]
]

pub length-with_lease : (e : Lease) (xs : List Lease) → length (with_lease e xs) ≡ suc (length xs)
length-with_lease e [] = refl
length-with_lease e (x ∷ xs) = elim (cases_Bool (comes_before e x)) [
  | inl p ↦ rw (with_first e x xs p) refl
  | inr p ↦ rw (with_later e x xs p) (ap suc (length-with_lease e xs))
]

-- what a test says of the entry and of the others
pub any-with_lease : (t : Lease → Bool) (e : Lease) (xs : List Lease) → list_any t (with_lease e xs) ≡ (t e || list_any t xs)
any-with_lease t e [] = refl
any-with_lease t e (x ∷ xs) = elim (cases_Bool (comes_before e x)) [
  | inl p ↦ rw (with_first e x xs p) refl
  | inr p ↦ rw (with_later e x xs p, any-with_lease t e xs) (or_swapped (t x) (t e) (list_any t xs))
]
  where
    or_swapped : (a b c : Bool) → (a || (b || c)) ≡ (b || (a || c))
    or_swapped true true c = refl
    or_swapped true false c = refl
    or_swapped false b c = refl

-- an entry that doesn't pass isn't there after a filter
pub filter-with_lease_no : (p : Lease → Bool) (e : Lease) (xs : List Lease) → p e ≡ false → filter p (with_lease e xs) ≡ filter p xs
filter-with_lease_no p e [] fails = rw fails refl
filter-with_lease_no p e (x ∷ xs) fails = elim (cases_Bool (comes_before e x)) [
  | inl first ↦ rw (with_first e x xs first, fails) refl
  | inr later ↦ rw (with_later e x xs later, filter-with_lease_no p e xs fails) refl
]

-- order is kept
put_behind : (x e : Lease) (xs : List Lease) → comes_before e x ≡ false → AllByRecursion (λ y. comes_before y x ≡ false) xs → AllByRecursion (λ y. comes_before y x ≡ false) (with_lease e xs)
put_behind x e [] p a = (p, tt)
put_behind x e (y ∷ ys) p a = elim (cases_Bool (comes_before e y)) as (λ _. AllByRecursion (λ y. comes_before y x ≡ false) (with_lease e (y ∷ ys))) [
  | inl first ↦ rw (with_first e y ys first) (p, (a.0, a.1))
  | inr later ↦ rw (with_later e y ys later) (a.0, put_behind x e ys p a.1)
]

behind_all : (e x : Lease) (xs : List Lease) → comes_before e x ≡ true → AllByRecursion (λ y. comes_before y x ≡ false) xs → AllByRecursion (λ y. comes_before y e ≡ false) xs
behind_all e x [] p a = tt
behind_all e x (y ∷ ys) p a = (not_before_through e x y (before_one_way e x p) a.0, behind_all e x ys p a.1)

pub order-with_lease : (e : Lease) (xs : List Lease) → IsLined xs → IsLined (with_lease e xs)
order-with_lease e [] o = (tt, tt)
order-with_lease e (x ∷ xs) o = elim (cases_Bool (comes_before e x)) as (λ _. IsLined (with_lease e (x ∷ xs))) [
  | inl first ↦ rw (with_first e x xs first) ((before_one_way e x first, behind_all e x xs first o.0), (o.0, o.1))
  | inr later ↦ rw (with_later e x xs later) (put_behind x e xs later o.0, order-with_lease e xs o.1)
]

pub order-in_order : (xs : List Lease) → IsLined (in_order xs)
order-in_order [] = tt
order-in_order (x ∷ xs) = order-with_lease x (in_order xs) (order-in_order xs)

-- at the front, where none comes before it
pub with_front : (e : Lease) (xs : List Lease) → AllByRecursion (λ y. comes_before y e ≡ false) xs → with_lease e xs ≡ e ∷ xs
with_front e [] a = refl
with_front e (x ∷ xs) a = elim (cases_Bool (comes_before e x)) [
  | inl first ↦ with_first e x xs first
  | inr later ↦
      let same = before_either e x later a.0 in
      let rest = with_front e xs a.1 in
      rw (with_later e x xs later, rest, same) refl
]

-- a list that is in order stays as it is
pub in_order-same : (xs : List Lease) → IsLined xs → in_order xs ≡ xs
in_order-same [] o = refl
in_order-same (x ∷ xs) o = rw (in_order-same xs o.1) (with_front x xs o.0)

filter_behind : (p : Lease → Bool) (x : Lease) (xs : List Lease) → AllByRecursion (λ y. comes_before y x ≡ false) xs → AllByRecursion (λ y. comes_before y x ≡ false) (filter p xs)
filter_behind p x [] a = tt
filter_behind p x (y ∷ ys) a = elim (cases_Bool (p y)) as (λ _. AllByRecursion (λ y. comes_before y x ≡ false) (filter p (y ∷ ys))) [
  | inl passes ↦ rw passes (a.0, filter_behind p x ys a.1)
  | inr fails ↦ rw fails (filter_behind p x ys a.1)
]

-- an entry that passes is put at its place among those that pass
pub filter-with_lease_yes : (p : Lease → Bool) (e : Lease) (xs : List Lease) → IsLined xs → p e ≡ true → filter p (with_lease e xs) ≡ with_lease e (filter p xs)
filter-with_lease_yes p e [] o passes = rw passes refl
filter-with_lease_yes p e (x ∷ xs) o passes = elim (cases_Bool (comes_before e x)) [
  | inl first ↦ rw (with_first e x xs first, passes) (sym (with_front e (filter p (x ∷ xs)) (filter_behind p e (x ∷ xs) (before_one_way e x first, behind_all e x xs first o.0))))
  | inr later ↦ elim (cases_Bool (p x)) [
    | inl px ↦ rw (with_later e x xs later, px, filter-with_lease_yes p e xs o.1 passes, with_later e x (filter p xs) later) refl
    | inr px ↦ rw (with_later e x xs later, px) (filter-with_lease_yes p e xs o.1 passes)
  ]
]

-- a filter before or behind
pub filter-in_order : (p : Lease → Bool) (xs : List Lease) → filter p (in_order xs) ≡ in_order (filter p xs)
filter-in_order p [] = refl
filter-in_order p (x ∷ xs) = elim (cases_Bool (p x)) [
  | inl passes ↦ rw (filter-with_lease_yes p x (in_order xs) (order-in_order xs) passes, filter-in_order p xs, passes) refl
  | inr fails ↦ rw (filter-with_lease_no p x (in_order xs) fails, filter-in_order p xs, fails) refl
]

pub in_order-append : (xs ys : List Lease) → in_order (xs ++ ys) ≡ in_order (xs ++ in_order ys)
in_order-append [] ys = sym (in_order-same (in_order ys) (order-in_order ys))
in_order-append (x ∷ xs) ys = ap (with_lease x) (in_order-append xs ys)
