-- What the runs of a queue's machine leave of its live names: reaping and passing change none.
use Rattle.std.proofs.Common.{◌≡◌, ◌≢◌, ℕ, ◌+◌, ◌<◌, inl, inr, Bool, true, false, cond, List, [], ◌∷◌, length, refl, ap, sym, ◌∙◌, subst, arith, suc, zero, get_or, set}
use Rattle.std.specs.Prelude.{Option, Some, None, filter, nat_le, is_some}
use Rattle.std.specs.List.{AllByRecursion, count_by}
use Rattle.std.proofs.lemmas.List.Sums.{sum_by-cons}
use Rattle.std.proofs.lemmas.Bool.{cases_eq}
use Rattle.dq_ticks.specs.declared.words.Parts.{Parts}
use Rattle.dq_core.specs.declared.slots.Held.{Held}
use Rattle.dq_core.specs.Slots.{Row, row_at, is_held}
use Rattle.dq_core.specs.Words.{word_at}
use Rattle.dq_core.specs.Machine.{TableRow, Machine, Event, table_at, put, Note, Pass, Insert, Reset, Extend, Cancel, Remove, Reap, Expire, Step, Run, RunOf, IsCallers, IsOnTheWay, IsReaping, Callers, Has, is_due_entry, is_due_by}
use Rattle.dq_core.specs.Machine.{Entry}
use Rattle.dq_core.specs.Core.{table_of, entry_of, due_by}
use Rattle.dq_core.specs.TableRows.{table_row_of}
use Rattle.dq_replay.specs.declared.session.Lease.{Lease}
use Rattle.dq_replay.specs.Leases.{lease_by, lease_of, with_lease_if, live_of, vacant, live_lease}
use Rattle.dq_replay.specs.LeasesState.{KeepsLive, NoLeaseDue}
use Rattle.dq_replay.proofs.Ordered.{filter-with_lease_no, length-with_lease}
use Rattle.dq_replay.proofs.LiveSlots.{put_here, put_there, live_set, live_here}

-- a slot of a queue's machine, past its rows too
pub slot_is : {T : Type 0} (rows : List (Row T)) (known : List Parts) → length known ≡ length rows → (i : ℕ) → get_or (table_of rows known) i (record { stamp = 0; entry = None }) ≡ table_row_of (row_at rows i) (word_at known i)
slot_is [] [] e i = refl
slot_is [] (w ∷ ws) e i = absurd (omega arith)
slot_is (r ∷ rs) [] e i = absurd (omega arith)
slot_is (r ∷ rs) (w ∷ ws) e zero = refl
slot_is (r ∷ rs) (w ∷ ws) e (suc i) = slot_is rs ws (omega arith) i

pub length-slots : {T : Type 0} (rows : List (Row T)) (known : List Parts) → length known ≡ length rows → length (table_of rows known) ≡ length rows
length-slots [] ws e = refl
length-slots (r ∷ rs) [] e = absurd (omega arith)
length-slots (r ∷ rs) (w ∷ ws) e = ap suc (length-slots rs ws (omega arith))

-- kept

pub kept_same : (shard : ℕ) (m n : Machine (List ℕ)) → n.table ≡ m.table → KeepsLive shard m n
kept_same shard m n slots =
    let at : (i : ℕ) → table_at n i ≡ table_at m i = λ i. ap (λ ss. get_or ss i vacant) slots in
    record {
      live = ap live_of slots;
      keyed = λ keys tied. record {
        found = λ i born name d is. tied.found i born name d (ap (λ s. s.entry) (sym (at i)) ∙ is)
            ∙ ap (λ s. Some (record { entry = record { shard = shard; index = i; born = born }; stamp = s.stamp })) (sym (at i));
        live = λ name k is. let was = tied.live name k is in
            (was.0, ap (λ s. s.entry) (at k.entry.index) ∙ was.1, was.2 ∙ ap (λ s. record { entry = record { shard = shard; index = k.entry.index; born = k.entry.born }; stamp = s.stamp }) (sym (at k.entry.index)));
      };
      stamps = λ i. ap (λ s. s.stamp) (at i);
    }

pub kept_then : (shard : ℕ) (a b c : Machine (List ℕ)) → KeepsLive shard a b → KeepsLive shard b c → KeepsLive shard a c
kept_then shard a b c p q = record {
  live = q.live ∙ p.live;
  keyed = λ keys tied. q.keyed keys (p.keyed keys tied);
  stamps = λ i. q.stamps i ∙ p.stamps i;
}

not_live : (e : Entry (List ℕ)) (born : ℕ) (name : List ℕ) (d : ℕ) → e.due ≡ None → ◌≡◌ {A = Option (Entry (List ℕ))} (Some e) (Some (live_lease born name d)) → ⊥
not_live e born name d none is =
    let same : e ≡ live_lease born name d = cc in
    let gone : ◌≡◌ {A = Option ℕ} None (Some d) = sym none ∙ ap (λ x. x.due) same in
    cc

lease_none : (e : Entry (List ℕ)) → e.due ≡ None → lease_of (Some e) ≡ None
lease_none e h = ap (lease_by e.value) h

-- a cancelled entry is reaped
pub kept_reap : (shard : ℕ) (m : Machine (List ℕ)) (i : ℕ) (e : Entry (List ℕ)) → Has m i e → e.due ≡ None → KeepsLive shard m (put m i (table_at m i).stamp None)
kept_reap shard m i e has none =
    let n : Machine (List ℕ) = put m i (table_at m i).stamp None in
    let here : table_at n i ≡ record { stamp = (table_at m i).stamp; entry = None } = put_here m i (table_at m i).stamp None has.0 in
    let there : (j : ℕ) → (j ≡ i → ⊥) → table_at n j ≡ table_at m j = λ j away. put_there m i (table_at m i).stamp None j away in
    record {
      live = live_set m.table i (record { stamp = (table_at m i).stamp; entry = None }) has.0
          ∙ sym (live_here m.table i has.0 ∙ ap (λ o. with_lease_if o (live_of (set m.table i vacant))) (ap lease_of has.1 ∙ lease_none e none));
      keyed = λ keys tied. record {
        found = λ j born name d is. elim (cases_eq j i) [
          | inl q ↦
              let gone : ◌≡◌ {A = Option (Entry (List ℕ))} None (Some (live_lease born name d)) = ap (λ s. s.entry) (sym here) ∙ (ap (λ z. (table_at n z).entry) (sym q) ∙ is) in
              absurd (none_entry (live_lease born name d) gone)
          | inr away ↦ tied.found j born name d (ap (λ s. s.entry) (sym (there j away)) ∙ is)
              ∙ ap (λ s. Some (record { entry = record { shard = shard; index = j; born = born }; stamp = s.stamp })) (sym (there j away))
        ];
        live = λ name k is.
            let was = tied.live name k is in
            let away : k.entry.index ≡ i → ⊥ = λ q. not_live e k.entry.born name was.0 none (sym has.1 ∙ (ap (λ z. (table_at m z).entry) (sym q) ∙ was.1)) in
            (was.0, ap (λ s. s.entry) (there k.entry.index away) ∙ was.1, was.2 ∙ ap (λ s. record { entry = record { shard = shard; index = k.entry.index; born = k.entry.born }; stamp = s.stamp }) (sym (there k.entry.index away)));
      };
      stamps = λ j. elim (cases_eq j i) [
        | inl q ↦ ap (λ z. (table_at n z).stamp) q ∙ (ap (λ s. s.stamp) here ∙ ap (λ z. (table_at m z).stamp) (sym q))
        | inr away ↦ ap (λ s. s.stamp) (there j away)
      ];
    }
  where
    none_entry : (x : Entry (List ℕ)) → ◌≡◌ {A = Option (Entry (List ℕ))} None (Some x) → ⊥
    none_entry x q = cc

-- one event on the way of a poll
kept_on_the_way : (shard last : ℕ) (m n : Machine (List ℕ)) (e : Event (List ℕ)) → IsOnTheWay false e → Step last m e n → KeepsLive shard m n
kept_on_the_way shard last m n (Note t) h s = absurd h
kept_on_the_way shard last m n (Pass t) h s = kept_same shard m n (ap (λ x. x.table) s.3)
kept_on_the_way shard last m n (Insert i v w) h s = absurd h
kept_on_the_way shard last m n (Reset i b w) h s = absurd h
kept_on_the_way shard last m n (Extend i b w) h s = cc
kept_on_the_way shard last m n (Cancel i b) h s = cc
kept_on_the_way shard last m n (Remove i b) h s = absurd h
kept_on_the_way shard last m n (Reap i b) h (x, has, born, none, is) = subst (λ z. KeepsLive shard m z) (sym is) (kept_reap shard m i x has none)
kept_on_the_way shard last m n (Expire i b at) h s = absurd h

kept_run : (shard last : ℕ) (m n : Machine (List ℕ)) (es : List (Event (List ℕ))) → AllByRecursion (IsOnTheWay false) es → Run last m es n → KeepsLive shard m n
kept_run shard last m n [] a r = subst (λ z. KeepsLive shard m z) (sym r) (kept_same shard m m refl)
kept_run shard last m n (e ∷ es) a (k, step, rest) = kept_then shard m k n (kept_on_the_way shard last m k e a.0 step) (kept_run shard last k n es a.1 rest)

pub kept_way : (shard last : ℕ) (m n : Machine (List ℕ)) → RunOf (IsOnTheWay false) last m n → KeepsLive shard m n
kept_way shard last m n r = kept_run shard last m n r.0 r.1 r.2

-- a sweep passes to no other tick
swept_event : (shard last : ℕ) (m n : Machine (List ℕ)) (e : Event (List ℕ)) → IsReaping false e → Step last m e n → KeepsLive shard m n × (n.tick ≡ m.tick)
swept_event shard last m n (Note t) h s = absurd h
swept_event shard last m n (Pass t) h s = absurd h
swept_event shard last m n (Insert i v w) h s = absurd h
swept_event shard last m n (Reset i b w) h s = absurd h
swept_event shard last m n (Extend i b w) h s = cc
swept_event shard last m n (Cancel i b) h s = cc
swept_event shard last m n (Remove i b) h s = absurd h
swept_event shard last m n (Reap i b) h (x, has, born, none, is) = (subst (λ z. KeepsLive shard m z) (sym is) (kept_reap shard m i x has none), ap (λ z. z.tick) is)
swept_event shard last m n (Expire i b at) h s = absurd h

swept_run : (shard last : ℕ) (m n : Machine (List ℕ)) (es : List (Event (List ℕ))) → AllByRecursion (IsReaping false) es → Run last m es n → KeepsLive shard m n × (n.tick ≡ m.tick)
swept_run shard last m n [] a r = (subst (λ z. KeepsLive shard m z) (sym r) (kept_same shard m m refl), ap (λ z. z.tick) r)
swept_run shard last m n (e ∷ es) a (k, step, rest) =
    let one = swept_event shard last m k e a.0 step in
    let more = swept_run shard last k n es a.1 rest in
    (kept_then shard m k n one.0 more.0, more.1 ∙ one.1)

pub kept_sweep : (shard last : ℕ) (m n : Machine (List ℕ)) → RunOf (IsReaping false) last m n → KeepsLive shard m n × (n.tick ≡ m.tick)
kept_sweep shard last m n r = swept_run shard last m n r.0 r.1 r.2

-- no caller's step comes between
no_caller : (e : Event (List ℕ)) → IsCallers false e → ⊥
no_caller (Note t) h = h
no_caller (Pass t) h = h
no_caller (Insert i v w) h = h
no_caller (Reset i b w) h = h
no_caller (Extend i s w) h = cc
no_caller (Cancel i s) h = cc
no_caller (Remove i b) h = h
no_caller (Reap i b) h = h
no_caller (Expire i b a) h = h

callers_none : (last : ℕ) (m n : Machine (List ℕ)) (es : List (Event (List ℕ))) → AllByRecursion (IsCallers false) es → Run last m es n → n ≡ m
callers_none last m n [] a r = r
callers_none last m n (e ∷ es) a r = absurd (no_caller e a.0)

pub alone : (last : ℕ) (m n : Machine (List ℕ)) → Callers false last m n → n ≡ m
alone last m n r = callers_none last m n r.0 r.1 r.2

-- where no entry is cancelled, as many names are live as entries are linked

count-cons : {X : Type 0} (p : X → Bool) (x : X) (xs : List X) → count_by p (x ∷ xs) ≡ cond (p x) 1 0 + count_by p xs
count-cons p x xs = sum_by-cons (λ y. cond (p y) 1 0) x xs

pub count_none : {X : Type 0} (p : X → Bool) (d : X) (xs : List X) → ((i : ℕ) → i < length xs → p (get_or xs i d) ≡ false) → count_by p xs ≡ 0
count_none p d [] h = refl
count_none p d (x ∷ xs) h =
    let first : p x ≡ false = h 0 (omega arith) in
    let rest = count_none p d xs (λ i within. h (suc i) (omega arith)) in
    count-cons p x xs ∙ rw (first, rest) refl

held_by : (r : Row (List ℕ)) (w : Parts) (held : Option (Held (List ℕ))) (live : List Lease) → ((e : Entry (List ℕ)) → entry_of held w ≡ Some e → e.due ≢ None) → length (with_lease_if (lease_of (entry_of held w)) live) ≡ cond (is_some held) 1 0 + length live
held_by r w None live h = omega arith
held_by r w (Some x) live h = by (due_by w.mark w.field) refl
  where
    by : (o : Option ℕ) → due_by w.mark w.field ≡ o → length (with_lease_if (lease_by x.value (due_by w.mark w.field)) live) ≡ 1 + length live
    by None is = absurd (h (record { born = x.born; value = x.value; due = due_by w.mark w.field }) refl is)
    by (Some d) is = rw is (length-with_lease (record { name = x.value; deadline = d }) live ∙ (omega arith))

pub count_live : (rows : List (Row (List ℕ))) (known : List Parts) → length known ≡ length rows → ((i : ℕ) (e : Entry (List ℕ)) → (get_or (table_of rows known) i (record { stamp = 0; entry = None })).entry ≡ Some e → e.due ≢ None)
    → length (live_of (table_of rows known)) ≡ count_by is_held rows
count_live [] ws e h = refl
count_live (r ∷ rs) [] e h = absurd (omega arith)
count_live (r ∷ rs) (w ∷ ws) e h =
    let rest = count_live rs ws (omega arith) (λ i x is. h (suc i) x is) in
    held_by r w r.held (live_of (table_of rs ws)) (λ x is. h 0 x is) ∙ (ap (λ n. cond (is_some r.held) 1 0 + n) rest ∙ sym (count-cons is_held r rs))

-- what is due of the slots is due of the live names

not_due_lease : (now : ℕ) (o : Option (Entry (List ℕ))) (live : List Lease) → is_due_entry now o ≡ false → filter (λ e. nat_le e.deadline now) (with_lease_if (lease_of o) live) ≡ filter (λ e. nat_le e.deadline now) live
not_due_lease now None live h = refl
not_due_lease now (Some e) live h = by e.due refl
  where
    by : (o : Option ℕ) → e.due ≡ o → filter (λ x. nat_le x.deadline now) (with_lease_if (lease_by e.value e.due) live) ≡ filter (λ x. nat_le x.deadline now) live
    by None is = rw is refl
    by (Some d) is =
        let late : nat_le d now ≡ false = sym (ap (is_due_by now) is) ∙ h in
        rw is (filter-with_lease_no (λ x. nat_le x.deadline now) (record { name = e.value; deadline = d }) live late)

pub none_due : (now : ℕ) (ss : List (TableRow (List ℕ))) → filter (λ s. is_due_entry now s.entry) ss ≡ [] → NoLeaseDue now (live_of ss)
none_due now [] h = refl
none_due now (s ∷ ss) h = by (is_due_entry now s.entry) refl h (none_due now ss)
  where
    by : (t : Bool) → is_due_entry now s.entry ≡ t → cond t (s ∷ filter (λ x. is_due_entry now x.entry) ss) (filter (λ x. is_due_entry now x.entry) ss) ≡ []
        → (filter (λ x. is_due_entry now x.entry) ss ≡ [] → NoLeaseDue now (live_of ss)) → NoLeaseDue now (live_of (s ∷ ss))
    by true is e f = absurd (cons_nil s (filter (λ x. is_due_entry now x.entry) ss) e)
      where
        cons_nil : {A : Type 0} (x : A) (xs : List A) → ◌≡◌ {A = List A} (x ∷ xs) [] → ⊥
        cons_nil x xs q = cc
    by false is e f = not_due_lease now s.entry (live_of ss) is ∙ f e
