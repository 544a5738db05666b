-- What is seen of the map of a cache, as keys with their values.
use Rattle.std.proofs.Common.{◌≡◌, ℕ, Bool, true, false, cond, nat_lt, List, [], ◌∷◌, length, is_some, map, filter, Option, Some, None, max, refl, sym, ap, ◌∙◌, subst}
use Rattle.std.specs.Cmp.{IsEquivalence}
use Rattle.std.specs.Option.{option_map}
use Rattle.std.specs.List.{IsDistinct}
use Rattle.std.specs.Map.{lookup, keys_of}
use Rattle.std.proofs.lemmas.Map.Entries.{option_filter, lookup-filter-values}
use Rattle.dq_apps.specs.declared.kept.Kept.{Kept}
use Rattle.dq_apps.specs.Cache.{Stored, seen, entries_of, value_at}
use Rattle.dq_apps.specs.Calls.{IsAllSeen}
use Rattle.dq_apps.specs.TimerTable.{TimerTable}
use Rattle.dq_apps.specs.Tied.{cache_of, IsStock, pairs_seen}
use Rattle.dq_apps.proofs.CacheReads.{gets_none, gets_value}
use Rattle.dq_apps.proofs.Ties.{distinct_shown}
use Rattle.dq_apps.proofs.SeenCounts.{distinct_filter, entries_distinct, same_length, some_map}

module _ {K V : Type 0} (m : ℕ) where
  abbrev late : K × Kept V → Bool
  late e = nat_lt m e.1.deadline

  abbrev pair : K × Kept V → K × V
  pair e = (e.0, e.1.value)

  lookup_pairs : (test : K → Bool) (es : List (K × Kept V)) → lookup test (map pair es) ≡ option_map (λ (s : Kept V). s.value) (lookup test es)
  lookup_pairs test [] = refl
  lookup_pairs test (e ∷ es) = by (test e.0) (lookup_pairs test es)
    where
      by : (b : Bool) → lookup test (map pair es) ≡ option_map (λ (s : Kept V). s.value) (lookup test es) → cond b (Some e.1.value) (lookup test (map pair es)) ≡ option_map (λ (s : Kept V). s.value) (cond b (Some e.1) (lookup test es))
      by true rest = refl
      by false rest = rest

  keys_pairs : (es : List (K × Kept V)) → keys_of (map pair es) ≡ keys_of es
  keys_pairs [] = refl
  keys_pairs (e ∷ es) = ap (λ ks. e.0 ∷ ks) (keys_pairs es)

  distinct_pairs : (eq : K → K → Bool) (es : List (K × Kept V)) → IsDistinct eq (keys_of es) → IsDistinct eq (keys_of (pairs_seen m es))
  distinct_pairs eq es d = let P : List K → Type 0 = λ ks. IsDistinct eq ks in subst P (sym (keys_pairs (filter late es))) (distinct_filter late eq es d)

module _ {K V : Type 0} {eq : K → K → Bool} (laws : IsEquivalence eq) (es : List (K × Kept V)) (t : TimerTable K) (moment : ℕ) (stock : IsStock eq es t moment) (m : ℕ) where
  seen_by : (q : K) (o : Option (Kept V)) → lookup (eq q) es ≡ o → option_map (λ (s : Kept V). s.value) (option_filter (λ (s : Kept V). nat_lt m s.deadline) o) ≡ value_at (eq q) (seen m (entries_of (cache_of eq es t moment).slots))
  seen_by q None at = sym (gets_none laws es t moment stock q m at)
  seen_by q (Some s) at = by (nat_lt m s.deadline) ∙ sym (gets_value laws es t moment stock q s m at)
    where
      by : (b : Bool) → option_map (λ (z : Kept V). z.value) (cond b (Some s) None) ≡ cond b (Some s.value) None
      by true = refl
      by false = refl

  pair_values : (q : K) → lookup (eq q) (pairs_seen m es) ≡ value_at (eq q) (seen m (entries_of (cache_of eq es t moment).slots))
  pair_values q =
      lookup_pairs m (eq q) (filter (λ e. nat_lt m e.1.deadline) es)
      ∙ (ap (option_map (λ (s : Kept V). s.value)) (lookup-filter-values laws (λ (s : Kept V). nat_lt m s.deadline) q es stock.tied.distinct) ∙ seen_by q (lookup (eq q) es) refl)

  entries_apart : IsDistinct eq (keys_of (seen m (entries_of (cache_of eq es t moment).slots)))
  entries_apart =
      distinct_filter (λ e. nat_lt m e.1.deadline) eq (entries_of (cache_of eq es t moment).slots) (entries_distinct eq (cache_of eq es t moment).slots (distinct_shown laws es t.slots stock.tied))

  pair_count : length (pairs_seen m es) ≡ length (seen m (entries_of (cache_of eq es t moment).slots))
  pair_count =
      same_length laws (pairs_seen m es) (seen m (entries_of (cache_of eq es t moment).slots)) (distinct_pairs m eq es stock.tied.distinct) entries_apart (λ q.
      ap is_some (pair_values q) ∙ some_map (λ (s : Stored V). s.value) (lookup (eq q) (seen m (entries_of (cache_of eq es t moment).slots))))

  -- what an iterator over the map gives
  pub all_are_seen : (now : ℕ) (entries : List (K × Kept V)) → entries ≡ es → m ≡ max now moment → IsAllSeen eq (cache_of eq es t moment) now (pairs_seen m entries)
  all_are_seen now entries ee em =
      let P : List (K × Kept V) → Type 0 = λ x. IsAllSeen eq (cache_of eq es t moment) now (pairs_seen m x) in
      subst P (sym ee) (record {
        values = λ q. pair_values q ∙ ap (λ n. value_at (eq q) (seen n (entries_of (cache_of eq es t moment).slots))) em;
        distinct = distinct_pairs m eq es stock.tied.distinct;
        count = pair_count ∙ ap (λ n. length (seen n (entries_of (cache_of eq es t moment).slots))) em;
      })
