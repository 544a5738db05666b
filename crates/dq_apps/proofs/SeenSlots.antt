-- What is seen of a list of slots, slot by slot.
use Rattle.std.proofs.Common.{◌≡◌, ◌≢◌, ℕ, ◌<◌, ◌≤◌, zero, suc, Bool, true, false, cond, ◌&&◌, nat_lt, List, [], ◌∷◌, length, Option, Some, None, refl, sym, ap, ◌∙◌, inl, inr, arith}
use Rattle.std.specs.Option.{option_map}
use Rattle.std.specs.Map.{lookup}
use Rattle.std.proofs.lemmas.Bool.{cases_Bool, le-ltb}
use Rattle.dq_apps.specs.Cache.{Item, CacheSlot, Stored, slot_at, with_item, entries_of, seen, value_at}

abbrev or_else : {V : Type 0} → Option V → Option V → Option V
or_else None o = o
or_else (Some v) o = Some v

or_none : {V : Type 0} (o : Option V) → or_else o None ≡ o
or_none None = refl
or_none (Some v) = refl

first_by : {V : Type 0} (b c : Bool) (s : Stored V) (o : Option (Stored V)) → option_map (λ (x : Stored V). x.value) (cond b (cond c (Some s) o) o) ≡ or_else (cond (c && b) (Some s.value) None) (option_map (λ (x : Stored V). x.value) o)
first_by true true s o = refl
first_by true false s o = refl
first_by false true s o = refl
first_by false false s o = refl

module _ {K V : Type 0} where
  -- what an item shows at m to a test of keys
  abbrev pub part : (K → Bool) → ℕ → Option (Item K V) → Option V
  part p m None = None
  part p m (Some x) = cond (p x.key && nat_lt m x.deadline) (Some x.value) None

  lookup_cond : (p : K → Bool) (b : Bool) (e : K × Stored V) (es : List (K × Stored V)) → lookup p (cond b (e ∷ es) es) ≡ cond b (cond (p e.0) (Some e.1) (lookup p es)) (lookup p es)
  lookup_cond p true e es = refl
  lookup_cond p false e es = refl

  -- the first slot, and the others
  seen_cons : (p : K → Bool) (m stamp : ℕ) (o : Option (Item K V)) (es : List (K × Stored V)) → value_at p (seen m (with_item stamp o es)) ≡ or_else (part p m o) (value_at p (seen m es))
  seen_cons p m stamp None es = refl
  seen_cons p m stamp (Some x) es =
      let e : K × Stored V = (x.key, record { value = x.value; deadline = x.deadline; stamp = stamp }) in
      ap (option_map (λ (s : Stored V). s.value)) (lookup_cond p (nat_lt m x.deadline) e (seen m es)) ∙ first_by (nat_lt m x.deadline) (p x.key) e.1 (lookup p (seen m es))

  -- where no slot shows anything, nothing is seen
  pub none_seen : (p : K → Bool) (m : ℕ) (ss : List (CacheSlot K V)) → ((i : ℕ) → part p m (slot_at ss i).item ≡ None) → value_at p (seen m (entries_of ss)) ≡ None
  none_seen p m [] h = refl
  none_seen p m (s ∷ ss) h =
      seen_cons p m s.stamp s.item (entries_of ss) ∙ ((λ i. or_else (h 0 i) (value_at p (seen m (entries_of ss)))) ∙ none_seen p m ss (λ i. h (suc i)))

  -- where one slot alone may show something, that is seen
  pub only_seen : (p : K → Bool) (m : ℕ) (ss : List (CacheSlot K V)) (i : ℕ) → i < length ss → ((j : ℕ) → j ≢ i → part p m (slot_at ss j).item ≡ None) → value_at p (seen m (entries_of ss)) ≡ part p m (slot_at ss i).item
  only_seen p m [] i inside h = absurd (omega arith)
  only_seen p m (s ∷ ss) zero inside h =
      let rest = none_seen p m ss (λ j. h (suc j) (λ e. absurd (omega (arith, e)))) in
      seen_cons p m s.stamp s.item (entries_of ss) ∙ (ap (λ o. or_else (part p m s.item) o) rest ∙ or_none (part p m s.item))
  only_seen p m (s ∷ ss) (suc i) inside h =
      let first = h 0 (λ e. absurd (omega (arith, e))) in
      let rest = only_seen p m ss i (omega arith) (λ j ne. h (suc j) (λ e. ne (omega (arith, e)))) in
      seen_cons p m s.stamp s.item (entries_of ss) ∙ (ap (λ o. or_else o (value_at p (seen m (entries_of ss)))) first ∙ rest)

  -- slots that show the same let the same be seen
  pub same_seen : (p : K → Bool) (m n : ℕ) (ss ts : List (CacheSlot K V)) → length ts ≡ length ss → ((i : ℕ) → part p n (slot_at ts i).item ≡ part p m (slot_at ss i).item) → value_at p (seen n (entries_of ts)) ≡ value_at p (seen m (entries_of ss))
  same_seen p m n [] [] size h = refl
  same_seen p m n [] (t ∷ ts) size h = absurd (omega arith)
  same_seen p m n (s ∷ ss) [] size h = absurd (omega arith)
  same_seen p m n (s ∷ ss) (t ∷ ts) size h =
      let rest = same_seen p m n ss ts (omega arith) (λ i. h (suc i)) in
      seen_cons p n t.stamp t.item (entries_of ts)
      ∙ ((λ i. or_else (h 0 i) (rest i)) ∙ sym (seen_cons p m s.stamp s.item (entries_of ss)))

  -- an item shows nothing where it is due, or its key fails the test
  hidden_by : (p : K → Bool) (m : ℕ) (x : Item K V) → ((p x.key ≡ true) → x.deadline ≤ m) → cond (p x.key && nat_lt m x.deadline) (Some x.value) None ≡ None
  hidden_by p m x h = elim (cases_Bool (p x.key)) [
    | inl passes ↦ rw (passes, le-ltb m x.deadline (h passes)) refl
    | inr fails ↦ rw fails refl
  ]

  pub part_hidden : (p : K → Bool) (m : ℕ) (o : Option (Item K V)) → ((x : Item K V) → o ≡ Some x → p x.key ≡ true → x.deadline ≤ m) → part p m o ≡ None
  part_hidden p m None h = refl
  part_hidden p m (Some x) h = hidden_by p m x (h x refl)

  -- it shows its value up to its deadline, where its key passes the test
  pub part_shown : (p : K → Bool) (m : ℕ) (x : Item K V) → p x.key ≡ true → part p m (Some x) ≡ cond (nat_lt m x.deadline) (Some x.value) None
  part_shown p m x passes = rw passes refl
