-- As many pairs are given as keys are seen: both lists have the same keys, each once.
use Rattle.std.proofs.Common.{◌≡◌, ℕ, ◌≤◌, suc, Bool, true, false, cond, nat_lt, inl, inr, List, [], ◌∷◌, length, filter, Option, Some, None, is_some, refl, sym, ◌∙◌, arith}
use Rattle.std.specs.Cmp.{IsEquivalence}
use Rattle.std.specs.Option.{option_map}
use Rattle.std.specs.List.{IsDistinct, AllByRecursion}
use Rattle.std.specs.Map.{lookup, keys_of}
use Rattle.std.proofs.lemmas.Bool.{cases_Bool}
use Rattle.std.proofs.lemmas.List.Sums.{length-filter, count_by-le-length}
use Rattle.std.proofs.lemmas.Map.Entries.{length-keys_of}
use Rattle.std.proofs.lemmas.Map.Keys.{IsDistinct-head, IsDistinct-tail, IsDistinct-cons, IsDistinct-from_apart}
use Rattle.std.proofs.lemmas.Map.Made.{is_some-lookup}
use Rattle.std.proofs.lemmas.Map.Steps.{length-le_from_keys}
use Rattle.dq_apps.specs.Cache.{Item, CacheSlot, Stored, slot_at, with_item, entries_of, seen, AreDistinct}

module _ {K X : Type 0} (p : K × X → Bool) where
  -- what holds of all keys holds of those that pass
  all_filter : (P : K → Type 0) (es : List (K × X)) → AllByRecursion P (keys_of es) → AllByRecursion P (keys_of (filter p es))
  all_filter P [] a = a
  all_filter P (e ∷ es) a = by (p e) (all_filter P es a.1)
    where
      by : (b : Bool) → AllByRecursion P (keys_of (filter p es)) → AllByRecursion P (keys_of (cond b (e ∷ filter p es) (filter p es)))
      by true rest = (a.0, rest)
      by false rest = rest

  -- keys that differ still do
  pub distinct_filter : (eq : K → K → Bool) (es : List (K × X)) → IsDistinct eq (keys_of es) → IsDistinct eq (keys_of (filter p es))
  distinct_filter eq [] d = d
  distinct_filter eq (e ∷ es) d = by (p e) (distinct_filter eq es (IsDistinct-tail eq e.0 (keys_of es) d))
    where
      by : (b : Bool) → IsDistinct eq (keys_of (filter p es)) → IsDistinct eq (keys_of (cond b (e ∷ filter p es) (filter p es)))
      by true rest = IsDistinct-cons eq e.0 (keys_of (filter p es)) (all_filter (λ y. eq e.0 y ≡ false) es (IsDistinct-head eq e.0 (keys_of es) d)) rest
      by false rest = rest

module _ {K V : Type 0} where
  -- what holds of the key of each item holds of all entries' keys
  all_items : (P : K → Type 0) (ss : List (CacheSlot K V)) → ((i : ℕ) (y : Item K V) → (slot_at ss i).item ≡ Some y → P y.key) → AllByRecursion P (keys_of (entries_of ss))
  all_items P [] h = tt
  all_items P (s ∷ ss) h = by s.item refl (all_items P ss (λ i. h (suc i)))
    where
      by : (o : Option (Item K V)) → s.item ≡ o → AllByRecursion P (keys_of (entries_of ss)) → AllByRecursion P (keys_of (with_item s.stamp o (entries_of ss)))
      by None at rest = rest
      by (Some x) at rest = (h 0 x at, rest)

  pub entries_distinct : (eq : K → K → Bool) (ss : List (CacheSlot K V)) → AreDistinct eq ss → IsDistinct eq (keys_of (entries_of ss))
  entries_distinct eq [] apart = IsDistinct-from_apart eq [] (λ i j d before within. absurd (omega arith))
  entries_distinct eq (s ∷ ss) apart =
      by s.item refl (entries_distinct eq ss (λ i j x y ix jy same.
      let e = apart (suc i) (suc j) x y ix jy same in
      omega (arith, e)))
    where
      by : (o : Option (Item K V)) → s.item ≡ o → IsDistinct eq (keys_of (entries_of ss)) → IsDistinct eq (keys_of (with_item s.stamp o (entries_of ss)))
      by None at rest = rest
      by (Some x) at rest = IsDistinct-cons eq x.key (keys_of (entries_of ss)) (all_items (λ k. eq x.key k ≡ false) ss (λ i y iy. elim (cases_Bool (eq x.key y.key)) [
        | inl same ↦ let e = apart 0 (suc i) x y at iy same in absurd (omega (arith, e))
        | inr other ↦ other
      ])) rest

  pub entries_few : (ss : List (CacheSlot K V)) → length (entries_of ss) ≤ length ss
  entries_few [] = omega arith
  entries_few (s ∷ ss) = by s.item (entries_few ss)
    where
      by : (o : Option (Item K V)) → length (entries_of ss) ≤ length ss → length (with_item s.stamp o (entries_of ss)) ≤ length (s ∷ ss)
      by None rest = omega (arith, rest)
      by (Some x) rest = omega (arith, rest)

  pub seen_few : (m : ℕ) (ss : List (CacheSlot K V)) → length (seen m (entries_of ss)) ≤ length ss
  seen_few m ss =
      let late : K × Stored V → Bool = λ e. nat_lt m e.1.deadline in
      omega (arith, length-filter late (entries_of ss), count_by-le-length late (entries_of ss), entries_few ss)

pub some_map : {A B : Type 0} (f : A → B) (o : Option A) → is_some (option_map f o) ≡ is_some o
some_map f None = refl
some_map f (Some x) = refl

-- two lists with the same keys, each once, have the same length
pub same_length : {K X Y : Type 0} {eq : K → K → Bool} → IsEquivalence eq → (es : List (K × X)) (fs : List (K × Y)) → IsDistinct eq (keys_of es) → IsDistinct eq (keys_of fs) → ((q : K) → is_some (lookup (eq q) es) ≡ is_some (lookup (eq q) fs)) → length es ≡ length fs
same_length {eq = eq} laws es fs de df same =
    let a = length-le_from_keys laws (keys_of es) fs de (λ q t. sym (same q) ∙ (is_some-lookup (eq q) es ∙ t)) in
    let b = length-le_from_keys laws (keys_of fs) es df (λ q t. same q ∙ (is_some-lookup (eq q) fs ∙ t)) in
    omega (arith, a, b, length-keys_of es, length-keys_of fs)
