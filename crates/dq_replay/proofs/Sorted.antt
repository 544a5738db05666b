-- A sorted list is the one that its entries make when each is put at its place.
use Rattle.std.proofs.Common.{◌≡◌, ℕ, ◌+◌, ◌<◌, inl, inr, Bool, true, false, cond, not, List, [], ◌∷◌, length, refl, ap, sym, ◌∙◌, arith, suc, zero, get_or, set}
use Rattle.std.specs.Prelude.{◌&&◌}
use Rattle.std.specs.List.{AllByRecursion, swap}
use Rattle.std.specs.List.Sorted.{IsPermutation, IsSorted}
use Rattle.std.proofs.lemmas.List.{get_or-set_same, get_or-set_other}
use Rattle.std.proofs.lemmas.List.Sorted.{IsPermutation-keeps}
use Rattle.std.proofs.lemmas.Bool.{cases_Bool, cases_eq}
use Rattle.dq_replay.specs.declared.session.Lease.{Lease}
use Rattle.dq_replay.specs.Script.{comes_before, with_lease}
use Rattle.dq_replay.specs.Order.{lease_cmp, IsLined}
use Rattle.dq_replay.proofs.Ordered.{in_order, before_is, before_either, not_before_itself, not_before_through, with_first, with_later, with_commutes, with_front, order-in_order, in_order-same}

-- the first entry that the order doesn't tell from e is taken out
abbrev same : Lease → Lease → Bool
same e x = not (comes_before e x) && not (comes_before x e)

abbrev taken_out : Lease → List Lease → List Lease
taken_out e [] = []
taken_out e (x ∷ xs) = cond (same e x) xs (x ∷ taken_out e xs)

taken_out-with_lease : (e : Lease) (xs : List Lease) → IsLined xs → taken_out e (with_lease e xs) ≡ xs
taken_out-with_lease e [] o = rw (not_before_itself e) refl
taken_out-with_lease e (x ∷ xs) o = elim (cases_Bool (comes_before e x)) [
  | inl first ↦ rw (with_first e x xs first, not_before_itself e) refl
  | inr later ↦ elim (cases_Bool (comes_before x e)) [
    | inl back ↦ rw (with_later e x xs later, later, back) (ap (λ ys. x ∷ ys) (taken_out-with_lease e xs o.1))
    | inr level ↦
        let twin = before_either e x later level in
        rw (with_later e x xs later, later, level, twin) (with_front x xs o.0)
  ]
]

-- so nothing else is told by the list with one more entry
with_lease_tells : (e : Lease) (xs ys : List Lease) → IsLined xs → IsLined ys → with_lease e xs ≡ with_lease e ys → xs ≡ ys
with_lease_tells e xs ys o q h = sym (taken_out-with_lease e xs o) ∙ (ap (taken_out e) h ∙ taken_out-with_lease e ys q)

-- an entry in place of another
exchanged : (xs : List Lease) (i : ℕ) (e d : Lease) → i < length xs → with_lease (get_or xs i d) (in_order (set xs i e)) ≡ with_lease e (in_order xs)
exchanged [] i e d h = absurd (omega arith)
exchanged (x ∷ xs) zero e d h = with_commutes x e (in_order xs)
exchanged (x ∷ xs) (suc i) e d h =
    let inner = exchanged xs i e d (omega arith) in
    with_commutes (get_or xs i d) x (in_order (set xs i e)) ∙ (ap (with_lease x) inner ∙ with_commutes x e (in_order xs))

length-set : (xs : List Lease) (i : ℕ) (e : Lease) → length (set xs i e) ≡ length xs
length-set [] i e = refl
length-set (x ∷ xs) zero e = refl
length-set (x ∷ xs) (suc i) e = ap suc (length-set xs i e)

after_first : (xs : List Lease) (i j : ℕ) (d : Lease) → i < length xs → j < length xs → get_or (set xs i (get_or xs j d)) j d ≡ get_or xs j d
after_first xs i j d h k = elim (cases_eq j i) [
  | inl e ↦ rw e (get_or-set_same xs i (get_or xs i d) d h)
  | inr ne ↦ get_or-set_other xs i j (get_or xs j d) d ne
]

swapped_by : (xs : List Lease) (i j : ℕ) (d : Lease) → i < length xs → j < length xs → in_order (set (set xs i (get_or xs j d)) j (get_or xs i d)) ≡ in_order xs
swapped_by xs i j d h k =
    let a = get_or xs i d in
    let b = get_or xs j d in
    let once = set xs i b in
    let twice = set once j a in
    let first : with_lease a (in_order once) ≡ with_lease b (in_order xs) = exchanged xs i b d h in
    let inside : j < length once = rw (length-set xs i b) k in
    let second : with_lease (get_or once j d) (in_order twice) ≡ with_lease a (in_order once) = exchanged once j a d inside in
    let here : get_or once j d ≡ b = after_first xs i j d h k in
    let whole : with_lease b (in_order twice) ≡ with_lease b (in_order xs) = ap (λ e. with_lease e (in_order twice)) (sym here) ∙ (second ∙ first) in
    with_lease_tells b (in_order twice) (in_order xs) (order-in_order twice) (order-in_order xs) whole

in_order-swap : (xs : List Lease) (i j : ℕ) → i < length xs → j < length xs → in_order (swap xs i j) ≡ in_order xs
in_order-swap [] i j h k = refl
in_order-swap (x ∷ xs) i j h k = swapped_by (x ∷ xs) i j x h k

pub in_order-permuted : (xs ys : List Lease) → IsPermutation xs ys → in_order ys ≡ in_order xs
in_order-permuted xs ys p = IsPermutation-keeps xs (λ zs. in_order zs ≡ in_order xs) refl (λ zs i j h k q. in_order-swap zs i j h k ∙ q) ys p

behind_both : (x y : Lease) (zs : List Lease) → comes_before y x ≡ false → AllByRecursion (λ z. comes_before z y ≡ false) zs → AllByRecursion (λ z. comes_before z x ≡ false) zs
behind_both x y [] h a = tt
behind_both x y (z ∷ zs) h a = (not_before_through x y z h a.0, behind_both x y zs h a.1)

sorted_tail : (x : Lease) (xs : List Lease) → IsSorted lease_cmp (x ∷ xs) → IsSorted lease_cmp xs
sorted_tail x xs s = λ k d low high. let e : suc k + 1 ≡ suc (k + 1) = omega arith in rw e at (s (suc k) d (omega arith) (omega arith))

-- what a sort ensures
behind_first : (x : Lease) (xs : List Lease) → IsSorted lease_cmp (x ∷ xs) → AllByRecursion (λ y. comes_before y x ≡ false) xs
behind_first x [] s = tt
behind_first x (y ∷ ys) s =
    let h : comes_before y x ≡ false = before_is y x ∙ s 0 x (omega arith) (omega arith) in
    (h, behind_both x y ys h (behind_first y ys (sorted_tail x (y ∷ ys) s)))

pub sorted_in_order : (xs : List Lease) → IsSorted lease_cmp xs → IsLined xs
sorted_in_order [] s = tt
sorted_in_order (x ∷ xs) s = (behind_first x xs s, sorted_in_order xs (sorted_tail x xs s))

pub sorted_is : (xs ys : List Lease) → IsPermutation xs ys → IsSorted lease_cmp ys → ys ≡ in_order xs
sorted_is xs ys p s = sym (in_order-same ys (sorted_in_order ys s)) ∙ in_order-permuted xs ys p
