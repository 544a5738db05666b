-- Names that expire one after the other, and what is left then.
use Rattle.std.proofs.Common.{◌≡◌, ℕ, ◌<◌, ◌≤◌, inl, inr, Bool, List, [], ◌∷◌, ◌++◌, length, refl, ap, sym, ◌∙◌, arith}
use Rattle.std.specs.Prelude.{Option, Some, None, nat_le, nat_lt, filter}
use Rattle.std.specs.List.{AllByRecursion}
use Rattle.std.specs.List.Sorted.{IsPermutation, IsSorted}
use Rattle.std.proofs.lemmas.Bool.{cases_Bool, le-leb, lt-leb, le-ltb, lt-ltb, cases_lt}
use Rattle.std.proofs.lemmas.List.Elements.{filter-append}
use Rattle.dq_core.specs.Machine.{TableRow}
use Rattle.dq_replay.specs.declared.session.Lease.{Lease}
use Rattle.dq_replay.specs.Script.{comes_before, with_lease}
use Rattle.dq_replay.specs.Order.{lease_cmp, IsLined}
use Rattle.dq_replay.specs.Leases.{lease_of, with_lease_if, live_of}
use Rattle.dq_replay.specs.LeasesState.{LeasesState, NoLeaseDue, ExpiresLease, Ticks}
use Rattle.dq_replay.proofs.Ordered.{in_order, with_first, with_later, with_commutes, order-with_lease, in_order-same, filter-in_order, length-with_lease}
use Rattle.dq_replay.proofs.Sorted.{sorted_is}

-- the live names of slots are in order
pub live_lined : (ss : List (TableRow (List ℕ))) → IsLined (live_of ss)
live_lined [] = tt
live_lined (s ∷ ss) = by (lease_of s.entry) (live_lined ss)
  where
    by : (o : Option Lease) → IsLined (live_of ss) → IsLined (with_lease_if o (live_of ss))
    by None l = l
    by (Some e) l = order-with_lease e (live_of ss) l

all_push : (P : Lease → Type 0) (xs : List Lease) (x : Lease) → AllByRecursion P xs → P x → AllByRecursion P (xs ++ x ∷ [])
all_push P [] x a p = (p, tt)
all_push P (y ∷ ys) x a p = (a.0, all_push P ys x a.1 p)

-- so far: the names that came out are due, and with those that are left they are those that were live
pub record IsExpiring (b : LeasesState) (now : ℕ) (out : List Lease) (c : LeasesState) : Type 0 where
  pub capacity : c.capacity ≡ b.capacity
  pub given : c.given ≡ b.given
  pub noted : c.noted ≤ now
  pub due : AllByRecursion (λ e. e.deadline ≤ now) out
  pub all : in_order (out ++ c.live) ≡ b.live

pub expiring_first : (b : LeasesState) (now : ℕ) → b.noted ≤ now → IsLined b.live → IsExpiring b now [] b
expiring_first b now later lined = record { capacity = refl; given = refl; noted = later; due = tt; all = in_order-same b.live lined }

-- an entry that is put at its place before the others are
with_in_order : (x : Lease) (xs : List Lease) → with_lease x (in_order xs) ≡ in_order (with_lease x xs)
with_in_order x [] = refl
with_in_order x (y ∷ ys) = elim (cases_Bool (comes_before x y)) [
  | inl first ↦ ap in_order (sym (with_first x y ys first))
  | inr later ↦ with_commutes x y (in_order ys) ∙ (ap (with_lease y) (with_in_order x ys) ∙ ap in_order (sym (with_later x y ys later)))
]

-- one more at the end
one_more : (out live : List Lease) (x : Lease) → in_order ((out ++ x ∷ []) ++ live) ≡ in_order (out ++ with_lease x live)
one_more [] live x = with_in_order x live
one_more (y ∷ ys) live x = ap (with_lease y) (one_more ys live x)

pub expiring_next : (b c d : LeasesState) (now : ℕ) (out : List Lease) (x : Lease) → IsExpiring b now out c → ExpiresLease c now (Some x) d → IsExpiring b now (out ++ x ∷ []) d
expiring_next b c d now out x e s = record {
  capacity = s.3 ∙ e.capacity;
  given = s.4 ∙ e.given;
  noted = let n = s.2 in omega (arith, n);
  due = all_push (λ y. y.deadline ≤ now) out x e.due s.1;
  all = one_more out d.live x ∙ (ap (λ xs. in_order (out ++ xs)) (sym s.0) ∙ e.all);
}

pub expiring_less : (c d : LeasesState) (now : ℕ) (x : Lease) → ExpiresLease c now (Some x) d → length d.live < length c.live
expiring_less c d now x s = let e = ap length s.0 ∙ length-with_lease x d.live in omega (arith, e)

-- filters
all_due : (now : ℕ) (xs : List Lease) → AllByRecursion (λ e. e.deadline ≤ now) xs → filter (λ e. nat_le e.deadline now) xs ≡ xs
all_due now [] a = refl
all_due now (x ∷ xs) a = rw (le-leb x.deadline now a.0, all_due now xs a.1) refl

none_late : (now : ℕ) (xs : List Lease) → AllByRecursion (λ e. e.deadline ≤ now) xs → filter (λ e. nat_lt now e.deadline) xs ≡ []
none_late now [] a = refl
none_late now (x ∷ xs) a = rw (le-ltb now x.deadline a.0) (none_late now xs a.1)

all_late : (now : ℕ) (xs : List Lease) → NoLeaseDue now xs → filter (λ e. nat_lt now e.deadline) xs ≡ xs
all_late now [] h = refl
all_late now (x ∷ xs) h = elim (cases_lt now x.deadline) [
  | inl late ↦
      let rest : NoLeaseDue now xs = rw (lt-leb x.deadline now late) at h in
      rw (lt-ltb now x.deadline late) (ap (λ ys. x ∷ ys) (all_late now xs rest))
  | inr due ↦
      let some : x ∷ filter (λ e. nat_le e.deadline now) xs ≡ [] = rw (le-leb x.deadline now due) at h in
      absurd (cons_nil x (filter (λ e. nat_le e.deadline now) xs) some)
]
  where
    cons_nil : (y : Lease) (ys : List Lease) → ◌≡◌ {A = List Lease} (y ∷ ys) [] → ⊥
    cons_nil y ys q = cc

append_nil : (xs : List Lease) → xs ++ [] ≡ xs
append_nil [] = refl
append_nil (x ∷ xs) = ap (λ ys. x ∷ ys) (append_nil xs)

-- at the end: what came out is what was due, and what is left what wasn't
pub expired_all : (b c d : LeasesState) (now : ℕ) (out sorted : List Lease) → IsExpiring b now out c → ExpiresLease c now None d → IsLined c.live → IsPermutation out sorted → IsSorted lease_cmp sorted → Ticks b now sorted d
expired_all b c d now out sorted e s lined permuted ordered =
    let due_now : Lease → Bool = λ x. nat_le x.deadline now in
    let late : Lease → Bool = λ x. nat_lt now x.deadline in
    let was : filter due_now b.live ≡ in_order (filter due_now (out ++ c.live)) = ap (filter due_now) (sym e.all) ∙ filter-in_order due_now (out ++ c.live) in
    let parts : filter due_now (out ++ c.live) ≡ out = filter-append due_now out c.live ∙ ((λ i. all_due now out e.due i ++ s.1 i) ∙ append_nil out) in
    let stays : filter late b.live ≡ in_order (filter late (out ++ c.live)) = ap (filter late) (sym e.all) ∙ filter-in_order late (out ++ c.live) in
    let left : filter late (out ++ c.live) ≡ c.live = filter-append late out c.live ∙ (λ i. none_late now out e.due i ++ all_late now c.live s.1 i) in
    let live : c.live ≡ filter late b.live = sym (stays ∙ (ap in_order left ∙ in_order-same c.live lined)) in (
      sorted_is out sorted permuted ordered ∙ sym (was ∙ ap in_order parts),
      s.0 ∙ (λ i. record { capacity = e.capacity i; tick = now; noted = now; given = e.given i; live = live i }),
    )
