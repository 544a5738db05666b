-- The list of a queue's live entries, slot by slot.
use Rattle.std.proofs.Common.{◌≡◌, ◌≢◌, ℕ, ◌+◌, ◌<◌, ◌≤◌, zero, suc, cond, List, [], ◌∷◌, length, get_or, drop, Option, Some, None, refl, sym, ap, ◌∙◌, subst, eq-eqb, ne_eqb, arith, filter}
use Rattle.std.specs.List.{cons_option}
use Rattle.std.proofs.lemmas.List.{drop_all}
use Rattle.dq_ticks.specs.declared.keys.Key.{Key}
use Rattle.dq_ticks.specs.declared.keys.EntryId.{EntryId}
use Rattle.dq_ticks.specs.declared.words.Parts.{Parts}
use Rattle.dq_ticks.specs.declared.words.Mark.{Mark}
use Rattle.dq_ticks.specs.declared.words.Mark.TheVariants.{LiveMark, CancelledMark, ExpiredMark, RemovedMark}
use Rattle.dq_core.specs.declared.slots.Held.{Held}
use Rattle.dq_core.specs.Words.{word_at}
use Rattle.dq_core.specs.Slots.{row_at}
use Rattle.dq_core.specs.Machine.{Entry, TableRow}
use Rattle.dq_core.specs.Core.{Core, machine, IsLawfulCore, due_by, entry_of}
use Rattle.dq_core.specs.Entries.{Listed, listed_until, listed_of, listed_from, live_entries, live_entry, is_of, ListsEachOnce}
use Rattle.dq_core.proofs.Ways.{table_row_is, table-le-rows}

-- what is listed of a slot, by what is held there and by its known word
by_row : {T W : Type 0} (b : Core T W) → IsLawfulCore b → (i : ℕ) → live_entry b i ≡ listed_of b.shard i (row_at b.slots.rows i).stamp (entry_of (row_at b.slots.rows i).held (word_at b.known i))
by_row b l i = ap (λ s. listed_of b.shard i s.stamp s.entry) (table_row_is b.slots.rows b.known l.as_known i)

-- nothing, where nothing is held
pub none_listed : {T W : Type 0} (b : Core T W) → IsLawfulCore b → (i : ℕ) → (row_at b.slots.rows i).held ≡ None → live_entry b i ≡ None
none_listed b l i none =
    by_row b l i ∙ ap (λ o. listed_of b.shard i (row_at b.slots.rows i).stamp (entry_of o (word_at b.known i))) none

none_due : (m : Mark) (d : ℕ) → m ≢ LiveMark → due_by m d ≡ None
none_due LiveMark d ne = absurd (ne refl)
none_due CancelledMark d ne = refl
none_due ExpiredMark d ne = refl
none_due RemovedMark d ne = refl

-- nothing, where the word isn't live
pub ended_unlisted : {T W : Type 0} (b : Core T W) → IsLawfulCore b → (i : ℕ) (h : Held T) (w : Parts) → (row_at b.slots.rows i).held ≡ Some h → w ≡ word_at b.known i → w.mark ≢ LiveMark → live_entry b i ≡ None
ended_unlisted {T} b l i h w held is ne =
    let s = (row_at b.slots.rows i).stamp in
    by_row b l i
    ∙ ap (λ o. listed_of b.shard i s (entry_of o (word_at b.known i))) held
    ∙ ap (λ p. listed_of b.shard i s (entry_of (Some h) p)) (sym is)
    ∙ ap (λ o. let e : Entry T = record { born = h.born; value = h.value; due = o } in listed_of b.shard i s (Some e)) (none_due w.mark w.field ne)

-- the entry that is held, where the word is live
pub live_listed : {T W : Type 0} (b : Core T W) → IsLawfulCore b → (i born : ℕ) (v : T) (w : Parts) (id : EntryId) (k : Key) → i < length b.slots.rows → (row_at b.slots.rows i).held ≡ Some (record { born = born; value = v }) → w ≡ word_at b.known i → w.mark ≡ LiveMark → id ≡ record { shard = b.shard; index = i; born = born } → k ≡ record { entry = id; stamp = w.stamp } → live_entry b i ≡ Some (record { key = k; deadline = w.field; value = v })
live_listed {T} b l i born v w id k inside held is mark eid ek =
    let s = (row_at b.slots.rows i).stamp in
    let h : Held T = record { born = born; value = v } in
    let stamp : s ≡ w.stamp = sym (ap (λ p. p.stamp) is ∙ (l.each i inside).stamp) in
    let key : record { entry = record { shard = b.shard; index = i; born = born }; stamp = w.stamp } ≡ k = sym (ek ∙ ap (λ x. let y : Key = record { entry = x; stamp = w.stamp } in y) eid) in
    by_row b l i
    ∙ ap (λ o. listed_of b.shard i s (entry_of o (word_at b.known i))) held
    ∙ ap (λ p. listed_of b.shard i s (entry_of (Some h) p)) (sym is)
    ∙ ap (λ m. let e : Entry T = record { born = born; value = v; due = due_by m w.field } in listed_of b.shard i s (Some e)) mark
    ∙ ap (λ n. let e : Entry T = record { born = born; value = v; due = Some w.field } in listed_of b.shard i n (Some e)) stamp
    ∙ ap (λ x. let y : Listed T = record { key = x; deadline = w.field; value = v } in Some y) key

-- an entry is listed of its slot
index_is : {T : Type 0} (shard i s : ℕ) (e : Option (Entry T)) (x : Listed T) → listed_of shard i s e ≡ Some x → x.key.entry.index ≡ i
index_is shard i s None x is = absurd (cc)
index_is {T} shard i s (Some e) x is = by e.due is where
  by : (o : Option ℕ) → listed_until shard i s e o ≡ Some x → x.key.entry.index ≡ i
  by None eq = absurd (cc)
  by (Some d) eq =
      let y : Listed T = record { key = record { entry = record { shard = shard; index = i; born = e.born }; stamp = s }; deadline = d; value = e.value } in
      let same : y ≡ x = cc in
      sym (ap (λ z. z.key.entry.index) same)

-- an entry in front of the list, of the slot that is looked for or of another
here : {T : Type 0} (i : ℕ) (o : Option (Listed T)) (xs : List (Listed T)) → ((x : Listed T) → o ≡ Some x → x.key.entry.index ≡ i) → filter (is_of i) xs ≡ [] → filter (is_of i) (cons_option o xs) ≡ cons_option o []
here i None xs at none = none
here i (Some x) xs at none =
    ap (λ b. cond b (x ∷ filter (is_of i) xs) (filter (is_of i) xs)) (eq-eqb x.key.entry.index i (at x refl)) ∙ ap (λ ys. x ∷ ys) none

past : {T : Type 0} (i k : ℕ) (o : Option (Listed T)) (xs : List (Listed T)) → k ≢ i → ((x : Listed T) → o ≡ Some x → x.key.entry.index ≡ k) → filter (is_of i) (cons_option o xs) ≡ filter (is_of i) xs
past i k None xs ne at = refl
past i k (Some x) xs ne at =
    ap (λ b. cond b (x ∷ filter (is_of i) xs) (filter (is_of i) xs)) (ne_eqb x.key.entry.index i (λ e. ne (sym (at x refl) ∙ e)))

-- the slots from k on list nothing of one before them
none_before : {T : Type 0} (shard i k : ℕ) (rs : List (TableRow T)) → i < k → filter (is_of i) (listed_from shard k rs) ≡ []
none_before shard i k [] before = refl
none_before shard i k (r ∷ rs) before =
    past i k (listed_of shard k r.stamp r.entry) (listed_from shard (k + 1) rs) (λ e. omega (arith, before, e)) (index_is shard k r.stamp r.entry) ∙ none_before shard i (k + 1) rs (omega (arith, before))

-- of a slot from k on they list its live entry once
each_from : {T : Type 0} (shard i k j : ℕ) (rs : List (TableRow T)) → i ≡ k + j → filter (is_of i) (listed_from shard k rs) ≡ cons_option (listed_of shard i (get_or rs j (record { stamp = 0; entry = None })).stamp (get_or rs j (record { stamp = 0; entry = None })).entry) []
each_from shard i k j [] is = refl
each_from {T} shard i k zero (r ∷ rs) is =
    let same : k ≡ i = omega arith in
    let P : ℕ → Type 0 = λ n. filter (is_of i) (cons_option (listed_of shard n r.stamp r.entry) (listed_from shard (k + 1) rs)) ≡ cons_option (listed_of shard i r.stamp r.entry) [] in
    subst P (sym same) (here i (listed_of shard i r.stamp r.entry) (listed_from shard (k + 1) rs) (index_is shard i r.stamp r.entry) (none_before shard i (k + 1) rs (omega arith)))
each_from shard i k (suc j) (r ∷ rs) is =
    past i k (listed_of shard k r.stamp r.entry) (listed_from shard (k + 1) rs) (λ e. omega (arith, is, e)) (index_is shard k r.stamp r.entry) ∙ each_from shard i (k + 1) j rs (omega (arith, is))

pub each_once : {T W : Type 0} (b : Core T W) → ListsEachOnce b (live_entries b)
each_once b i = each_from b.shard i 0 i (machine b).table (omega arith)

-- past the last slot nothing is left
pub ends : {T W : Type 0} (b : Core T W) (i : ℕ) → length b.slots.rows ≤ i → listed_from b.shard i (drop i (machine b).table) ≡ []
ends b i past =
    ap (listed_from b.shard i) (drop_all i (machine b).table (omega (arith, past, table-le-rows b.slots.rows b.known)))
