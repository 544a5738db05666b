-- What one changed slot does to the live names and to their keys.
use Rattle.std.proofs.Common.{◌≡◌, ◌≢◌, ℕ, ◌<◌, inl, inr, Bool, true, false, not, List, [], ◌∷◌, length, refl, ap, sym, ◌∙◌, arith, suc, zero, get_or, set}
use Rattle.std.specs.Prelude.{Option, Some, None, bytes_eq, ◌||◌}
use Rattle.std.specs.List.{list_any}
use Rattle.std.proofs.lemmas.List.{get_or-set_same, get_or-set_other, get_or_past}
use Rattle.std.proofs.lemmas.Bool.{true≢false, cases_Bool, cases_lt}
use Rattle.std.proofs.lemmas.Slice.Eq.{bytes_eq-Decides}
use Rattle.dq_core.specs.Machine.{TableRow, Machine, table_at, put}
use Rattle.dq_core.specs.Machine.{Entry}
use Rattle.dq_replay.specs.declared.session.Lease.{Lease}
use Rattle.dq_replay.specs.Script.{comes_before, with_lease, has_name, deadline_of, without}
use Rattle.dq_replay.specs.Leases.{lease_of, with_lease_if, live_of, vacant}
use Rattle.dq_replay.proofs.Ordered.{with_commutes, any-with_lease, filter-with_lease_no, with_first, with_later}

-- slots

pub put_here : (m : Machine (List ℕ)) (i s : ℕ) (e : Option (Entry (List ℕ))) → i < length m.table → table_at (put m i s e) i ≡ record { stamp = s; entry = e }
put_here m i s e h = get_or-set_same m.table i (record { stamp = s; entry = e }) (record { stamp = 0; entry = None }) h

pub put_there : (m : Machine (List ℕ)) (i s : ℕ) (e : Option (Entry (List ℕ))) (j : ℕ) → j ≢ i → table_at (put m i s e) j ≡ table_at m j
put_there m i s e j h = get_or-set_other m.table i j (record { stamp = s; entry = e }) (record { stamp = 0; entry = None }) h

none_some : {T : Type 0} (x : T) → ◌≡◌ {A = Option T} None (Some x) → ⊥
none_some x e = cc

-- past the slots there is no entry
pub inside_slots : (m : Machine (List ℕ)) (i : ℕ) (e : Entry (List ℕ)) → (table_at m i).entry ≡ Some e → i < length m.table
inside_slots m i e h = elim (cases_lt i (length m.table)) [
  | inl within ↦ within
  | inr past ↦
      let away : table_at m i ≡ vacant = get_or_past m.table i vacant past in
      absurd (none_some e (ap (λ s. s.entry) (sym away) ∙ h))
]

-- the live names

pub lease_commutes : (a b : Option Lease) (xs : List Lease) → with_lease_if a (with_lease_if b xs) ≡ with_lease_if b (with_lease_if a xs)
lease_commutes None b xs = refl
lease_commutes (Some a) None xs = refl
lease_commutes (Some a) (Some b) xs = with_commutes a b xs

-- a slot's lease, and those of the other slots
pub live_set : (ss : List (TableRow (List ℕ))) (i : ℕ) (x : TableRow (List ℕ)) → i < length ss → live_of (set ss i x) ≡ with_lease_if (lease_of x.entry) (live_of (set ss i vacant))
live_set [] i x h = absurd (omega arith)
live_set (s ∷ ss) zero x h = refl
live_set (s ∷ ss) (suc i) x h =
    ap (with_lease_if (lease_of s.entry)) (live_set ss i x (omega arith)) ∙ lease_commutes (lease_of s.entry) (lease_of x.entry) (live_of (set ss i vacant))

pub live_here : (ss : List (TableRow (List ℕ))) (i : ℕ) → i < length ss → live_of ss ≡ with_lease_if (lease_of (get_or ss i vacant).entry) (live_of (set ss i vacant))
live_here [] i h = absurd (omega arith)
live_here (s ∷ ss) zero h = refl
live_here (s ∷ ss) (suc i) h =
    ap (with_lease_if (lease_of s.entry)) (live_here ss i (omega arith)) ∙ lease_commutes (lease_of s.entry) (lease_of (get_or ss i vacant).entry) (live_of (set ss i vacant))

-- none of the live names passes a test, where no slot's does
pub none_live : (t : Lease → Bool) (ss : List (TableRow (List ℕ))) → ((i : ℕ) (x : Lease) → lease_of (get_or ss i vacant).entry ≡ Some x → t x ≡ false) → list_any t (live_of ss) ≡ false
none_live t [] h = refl
none_live t (s ∷ ss) h = by (lease_of s.entry) (λ x e. h 0 x e) (none_live t ss (λ i x e. h (suc i) x e))
  where
    by : (o : Option Lease) → ((x : Lease) → o ≡ Some x → t x ≡ false) → list_any t (live_of ss) ≡ false → list_any t (with_lease_if o (live_of ss)) ≡ false
    by None g rest = rest
    by (Some x) g rest = any-with_lease t x (live_of ss) ∙ rw (g x refl, rest) refl

-- names

pub name_is : (a b : List ℕ) → bytes_eq a b ≡ true → a ≡ b
name_is a b h = (bytes_eq-Decides a b).0 h

pub name_same : (a : List ℕ) → bytes_eq a a ≡ true
name_same a = (bytes_eq-Decides a a).1 refl

pub name_other : (a b : List ℕ) → (a ≡ b → ⊥) → bytes_eq a b ≡ false
name_other a b h = elim (cases_Bool (bytes_eq a b)) [ inl e ↦ absurd (h (name_is a b e)) | inr e ↦ e ]

-- a live list in which a name stands once
pub record IsLease (live : List Lease) (name : List ℕ) (d : ℕ) (rest : List Lease) : Type 0 where
  pub is : live ≡ with_lease (record { name = name; deadline = d }) rest
  pub once : has_name name rest ≡ false

all_others : (name : List ℕ) (xs : List Lease) → has_name name xs ≡ false → without name xs ≡ xs
all_others name [] h = refl
all_others name (x ∷ xs) h = by (bytes_eq x.name name) refl h (λ g. all_others name xs g)
  where
    by : (t : Bool) → bytes_eq x.name name ≡ t → (t || has_name name xs) ≡ false → (has_name name xs ≡ false → without name xs ≡ xs) → without name (x ∷ xs) ≡ x ∷ xs
    by true e g f = absurd (true≢false g)
    by false e g f = rw e (ap (λ ys. x ∷ ys) (f g))

pub without_is : (live : List Lease) (name : List ℕ) (d : ℕ) (rest : List Lease) → IsLease live name d rest → without name live ≡ rest
without_is live name d rest l =
    let itself : not (bytes_eq name name) ≡ false = ap not (name_same name) in
    ap (without name) l.is ∙ (filter-with_lease_no (λ e. not (bytes_eq e.name name)) (record { name = name; deadline = d }) rest itself ∙ all_others name rest l.once)

deadline_in : (name : List ℕ) (d : ℕ) (xs : List Lease) → has_name name xs ≡ false → deadline_of name (with_lease (record { name = name; deadline = d }) xs) ≡ Some d
deadline_in name d [] h = rw (name_same name) refl
deadline_in name d (x ∷ xs) h = by (bytes_eq x.name name) refl h (λ g. deadline_in name d xs g)
  where
    by : (t : Bool) → bytes_eq x.name name ≡ t → (t || has_name name xs) ≡ false → (has_name name xs ≡ false → deadline_of name (with_lease (record { name = name; deadline = d }) xs) ≡ Some d) → deadline_of name (with_lease (record { name = name; deadline = d }) (x ∷ xs)) ≡ Some d
    by true q g f = absurd (true≢false g)
    by false q g f = elim (cases_Bool (comes_before (record { name = name; deadline = d }) x)) [
      | inl first ↦ rw (with_first (record { name = name; deadline = d }) x xs first, name_same name) refl
      | inr later ↦ rw (with_later (record { name = name; deadline = d }) x xs later, q) (f g)
    ]

pub deadline_is : (live : List Lease) (name : List ℕ) (d : ℕ) (rest : List Lease) → IsLease live name d rest → deadline_of name live ≡ Some d
deadline_is live name d rest l = ap (deadline_of name) l.is ∙ deadline_in name d rest l.once

pub live_is : (live : List Lease) (name : List ℕ) (d : ℕ) (rest : List Lease) → IsLease live name d rest → has_name name live ≡ true
live_is live name d rest l = ap (has_name name) l.is ∙ (any-with_lease (λ e. bytes_eq e.name name) (record { name = name; deadline = d }) rest ∙ rw (name_same name) refl)

pub no_deadline : (name : List ℕ) (live : List Lease) → has_name name live ≡ false → deadline_of name live ≡ None
no_deadline name [] h = refl
no_deadline name (x ∷ xs) h = by (bytes_eq x.name name) refl h (λ g. no_deadline name xs g)
  where
    by : (t : Bool) → bytes_eq x.name name ≡ t → (t || has_name name xs) ≡ false → (has_name name xs ≡ false → deadline_of name xs ≡ None) → deadline_of name (x ∷ xs) ≡ None
    by true e g f = absurd (true≢false g)
    by false e g f = rw e (f g)
