-- What stands in a core that a call changes, and in a store of which one core changes.
use Rattle.std.proofs.Common.{◌≡◌, ◌≢◌, ◌⊎◌, ℕ, ◌<◌, ◌≤◌, ◌+◌, Bool, max, List, [], ◌∷◌, length, get_or, set, Option, Some, None, Result, Ok, Err, IfOk, OnOk, OnErr, IfSome, IfNone, refl, sym, ap, ◌∙◌, subst, inl, inr, ⊎_elim, arith}
use mathlib.Core.Logic.{dite}
use native.Mathlib.Decide.{ℕ_discrete}
use Rattle.std.specs.List.{AllByRecursion}
use Rattle.std.proofs.lemmas.List.{length-set, set-get_or, get_or-set_same, get_or-set_other}
use Rattle.dq_ticks.specs.declared.TheConstants.{LAST_TICK}
use Rattle.dq_ticks.specs.declared.words.Parts.{Parts}
use Rattle.dq_ticks.specs.declared.words.Mark.TheVariants.{LiveMark, CancelledMark}
use Rattle.dq_ticks.specs.declared.keys.Key.{Key}
use Rattle.dq_ticks.specs.declared.keys.EntryId.{EntryId}
use Rattle.dq_core.specs.declared.errors.CoreError.{CoreError}
use Rattle.dq_core.specs.declared.errors.CoreError.TheVariants.{Missing, WasCancelled}
use Rattle.dq_core.specs.declared.outcomes.Removed.{Removed}
use Rattle.dq_core.specs.declared.slots.Held.{Held}
use Rattle.dq_core.specs.AtTheCall.{HoldsValue, OthersStay, KeepsSlots, linked_in}
use Rattle.dq_core.specs.Calls.{IsInserted, Inserts, IsRemoved, Removes, RemovesIfDue, TellsDeadline, FindRefused, IsFound, IsMissing, base_for}
use Rattle.dq_core.specs.Core.{Core, IsLawfulCore, machine, entry_of, due_by}
use Rattle.dq_core.specs.Machine.{Entry, Machine, Event, Extend, Cancel, Step, Run, Callers, IsCallers, Has, table_at, put, born_with, with_due}
use Rattle.dq_core.specs.Slots.{row_at, unused, vacated_row}
use Rattle.dq_core.specs.Values.{ChangesEntry, ChangesValue}
use Rattle.dq_core.specs.Words.{IsInForce, StillBegun, live, word_at}
use Rattle.dq_core.proofs.CallWords.{inserted_live, inserted_others, removed_gone, removed_others}
use Rattle.dq_core.proofs.Finds.{found_force}
use Rattle.dq_core.proofs.Law.{force_learned, held_filed}
use Rattle.dq_core.proofs.RunsKept.{Holds}
use Rattle.dq_core.proofs.RunsMoves.{put_same, put_other}
use Rattle.dq_core.proofs.SlotRows.{parted}
use Rattle.dq_core.proofs.Slotwise.{held_inside}
use Rattle.dq_core.proofs.Ways.{table_row_is}
use Rattle.dq_growing.specs.Cores.{CoreRow, AreCores, IsCoreAt, HasAt, OnCoreOr, IsMissingIn, with_core}
use Rattle.dq_growing.specs.Moving.{worn_in}
use Rattle.dq_growing.specs.Stands.{IsThere, IsPastAt, IsPastIn, HasEntry, OthersStand, SameStand, OneChanges, OneLeaves, OneComes, KeepsWords}
use Rattle.dq_growing.proofs.Leasts.{some_not_none}
use Rattle.dq_growing.proofs.Rows.{at_after, missing_in, one_at}

pub same_id : (a b : EntryId) → a.shard ≡ b.shard → a.index ≡ b.index → a.born ≡ b.born → a ≡ b
same_id a b p q r = λ n. record { shard = p n; index = q n; born = r n }

abbrev or_else : {X : Type 0} → X → Option X → X
or_else d None = d
or_else d (Some x) = x

pub some_is : {X : Type 0} (x y : X) → Some x ≡ Some y → x ≡ y
some_is x y e = ap (or_else x) e

-- what is held is the same entry by any word, but for its deadline
by_word : {T : Type 0} (o : Option (Held T)) (w v : Parts) (e : Entry T) → entry_of o w ≡ Some e
    → (f : Entry T) × (entry_of o v ≡ Some f) × (f.born ≡ e.born) × (f.value ≡ e.value)
by_word None w v e is = absurd (some_not_none e (sym is))
by_word (Some h) w v e is =
    let same = some_is (record { born = h.born; value = h.value; due = due_by w.mark w.field }) e is in
    (record { born = h.born; value = h.value; due = due_by v.mark v.field }, refl, ap (λ x. x.born) same, ap (λ x. x.value) same)

-- a deadline in force isn't beyond the last tick
low : (s t d : ℕ) → IsInForce s 0 (live t d) → d ≤ LAST_TICK
low s t d (pos, inl (is, after, small)) = small
low s t d (pos, inr is) =
    let mark : LiveMark ≡ CancelledMark = ap (λ p. p.mark) is in
    absurd (cc)

-- where an entry gets another deadline, each stands with its value as before, and there is no other
module _ {T : Type 0} (m n : Machine T) (i s : ℕ) (e : Entry T) (d : Option ℕ) (has : Has m i e) (is : n ≡ put m i s (with_due e d)) where
  now_due : (table_at n i).entry ≡ with_due e d
  now_due = ap (λ r. r.entry) (put_same m n i s (with_due e d) has.0 is)

  due_on : (j : ℕ) (x : Entry T) → (table_at m j).entry ≡ Some x → Holds (table_at n j) x
  due_on j x at =
      dite (ℕ_discrete j i)
      (λ here. let P : ℕ → Type 0 = λ k. (table_at m k).entry ≡ Some x in
      let Q : ℕ → Type 0 = λ k. Holds (table_at n k) x in
      let same = some_is e x (sym has.1 ∙ subst P here at) in
      subst Q (sym here) (record { born = e.born; value = e.value; due = d }, now_due, ap (λ z. z.born) same, ap (λ z. z.value) same))
      (λ ne. (x, ap (λ r. r.entry) (put_other m n j i s (with_due e d) ne is) ∙ at, refl, refl))

  due_back : (j : ℕ) (x : Entry T) → (table_at n j).entry ≡ Some x → Holds (table_at m j) x
  due_back j x at =
      dite (ℕ_discrete j i)
      (λ here. let P : ℕ → Type 0 = λ k. (table_at n k).entry ≡ Some x in
      let Q : ℕ → Type 0 = λ k. Holds (table_at m k) x in
      let same = some_is (record { born = e.born; value = e.value; due = d }) x (sym now_due ∙ subst P here at) in
      subst Q (sym here) (e, has.1, ap (λ z. z.born) same, ap (λ z. z.value) same))
      (λ ne. (x, sym (ap (λ r. r.entry) (put_other m n j i s (with_due e d) ne is)) ∙ at, refl, refl))

-- so of the steps of callers
abbrev Alike : {T : Type 0} → Machine T → Machine T → Type 0
Alike {T} m n =
    ((j : ℕ) (x : Entry T) → (table_at m j).entry ≡ Some x → Holds (table_at n j) x)
    × ((j : ℕ) (x : Entry T) → (table_at n j).entry ≡ Some x → Holds (table_at m j) x)

then_holds : {T : Type 0} (m k n : Machine T) → ((j : ℕ) (x : Entry T) → (table_at m j).entry ≡ Some x → Holds (table_at k j) x)
    → ((j : ℕ) (x : Entry T) → (table_at k j).entry ≡ Some x → Holds (table_at n j) x) → (j : ℕ) (x : Entry T) → (table_at m j).entry ≡ Some x → Holds (table_at n j) x
then_holds m k n one two j x at = let f = one j x at in let g = two j f.0 f.1 in (g.0, g.1, g.2 ∙ f.2, g.3 ∙ f.3)

caller_step : {T : Type 0} (shared : Bool) (last : ℕ) (m n : Machine T) (e : Event T) → IsCallers shared e → Step last m e n → Alike m n
caller_step shared last m n (Extend i s when) its step =
    let due = Some (max when step.1) in (due_on m n i s step.0 due step.2 step.5, due_back m n i s step.0 due step.2 step.5)
caller_step shared last m n (Cancel i s) its step = (due_on m n i s step.0 None step.2 step.5, due_back m n i s step.0 None step.2 step.5)
caller_step shared last m n e its step = absurd its

callers_run : {T : Type 0} (shared : Bool) (last : ℕ) (m n : Machine T) (es : List (Event T)) → AllByRecursion (IsCallers shared) es → Run last m es n → Alike m n
callers_run {T} shared last m n [] all run =
    let P : Machine T → Type 0 = λ k. Alike m k in
    subst P (sym run) ((λ j x at. (x, at, refl, refl)), (λ j x at. (x, at, refl, refl)))
callers_run shared last m n (e ∷ es) all (k, step, run) =
    let one = caller_step shared last m k e all.0 step in
    let rest = callers_run shared last k n es all.1 run in
    (then_holds m k n one.0 rest.0, then_holds n k m rest.1 one.1)

callers_alike : {T : Type 0} (shared : Bool) (last : ℕ) (m n : Machine T) → Callers shared last m n → Alike m n
callers_alike shared last m n way = callers_run shared last m n way.0 way.1 way.2

-- all that is held or worn are some of the slots
pub within : {T W : Type 0} (c : Core T W) → linked_in c + worn_in c ≤ length c.slots.rows
within c = let parts = parted c.slots.last_stamp c.slots.rows in omega (arith, parts)

pub same_begun : {W : Type 0} (begun : W → ℕ → ℕ → ℕ → Type 0) (v w : W) → w ≡ v → StillBegun begun v w
same_begun {W} begun v w is i t d y = let P : W → Type 0 = λ k. begun k i t d in subst P (sym is) y

module _ {T W : Type 0} where
  -- what the core says of the deadline with which an entry is taken out
  pub in_time : (shared : Bool) (b c : Core T W) (id : EntryId) (x : Removed T) → IsLawfulCore b → HoldsValue b id x.value → IsRemoved shared b id x c → x.deadline ≤ LAST_TICK
  in_time shared b c id x law held r =
      let i = id.index in
      let h : Held T = record { born = id.born; value = x.value } in
      let found : IsFound b id i = (held.0, refl, held_inside b.slots.rows i h held.1, (h, held.1, refl)) in
      let stamp = (row_at b.slots.rows i).stamp in
      let force = found_force b law id i stamp found refl in
      low stamp x.key.stamp x.deadline (force_learned shared stamp 0 (word_at b.known i) (live x.key.stamp x.deadline) force r.learned)

  -- what is held stands
  pub held_there : (c : Core T W) (id : EntryId) (v : T) → IsLawfulCore c → HoldsValue c id v → (e : Entry T) × IsThere c id e × (e.value ≡ v)
  held_there c id v law held =
      let w = word_at c.known id.index in
      let row = table_row_is c.slots.rows c.known law.as_known id.index in
      let linked = ap (λ r. r.entry) row ∙ ap (λ h. entry_of h w) held.1 in
      (record { born = id.born; value = v; due = due_by w.mark w.field }, record { shard = held.0; linked = linked; born = refl }, refl)

  module _ (b c : Core T W) (same : c.shard ≡ b.shard) where
    stays : (i : ℕ) → OthersStay b c i → (o : EntryId) (e : Entry T) → o.index ≢ i → IsThere b o e → IsThere c o e
    stays i others o e n x = record { shard = x.shard ∙ sym same; linked = ap (λ r. r.entry) (others o.index n) ∙ x.linked; born = x.born }

    stayed : (i : ℕ) → OthersStay b c i → (o : EntryId) (e : Entry T) → o.index ≢ i → IsThere c o e → IsThere b o e
    stayed i others o e n x = record { shard = x.shard ∙ same; linked = sym (ap (λ r. r.entry) (others o.index n)) ∙ x.linked; born = x.born }

    -- two entries at one slot of a core are one
    one_there : (k : Core T W) (a o : EntryId) (d e : Entry T) → IsThere k a d → IsThere k o e → o.index ≡ a.index → o ≡ a
    one_there k a o d e x y at =
        let P : ℕ → Type 0 = λ i. (table_at (machine k) i).entry ≡ Some e in
        let alike = some_is d e (sym x.linked ∙ subst P at y.linked) in
        same_id o a (y.shard ∙ sym x.shard) at (sym y.born ∙ (sym (ap (λ z. z.born) alike) ∙ x.born))

    none_there : (k : Core T W) (i : ℕ) (o : EntryId) (e : Entry T) → (table_at (machine k) i).entry ≡ None → IsThere k o e → o.index ≡ i → ⊥
    none_there k i o e none y at =
        let P : ℕ → Type 0 = λ j. (table_at (machine k) j).entry ≡ Some e in
        some_not_none e (sym (subst P at y.linked) ∙ none)

    leaves_by : (id : EntryId) (v : T) → (e : Entry T) × IsThere b id e × (e.value ≡ v) → (table_at (machine c) id.index).entry ≡ None → OthersStay b c id.index
        → OneLeaves (IsThere b) (IsThere c) id v
    leaves_by id v was gone others = record {
      was = was;
      gone = λ e y. none_there c id.index id e gone y refl;
      others = (
        (λ o e ne x. dite (ℕ_discrete o.index id.index) (λ at. absurd (ne (one_there b id o was.0 e was.1 x at))) (λ n. stays id.index others o e n x)),
        (λ o e ne y. dite (ℕ_discrete o.index id.index) (λ at. absurd (none_there c id.index o e gone y at)) (λ n. stayed id.index others o e n y)),
      );
    }

    pub leaves_there : (id : EntryId) (v : T) → IsLawfulCore b → HoldsValue b id v → (table_at (machine c) id.index).entry ≡ None → OthersStay b c id.index
        → OneLeaves (IsThere b) (IsThere c) id v
    leaves_there id v law held gone others = leaves_by id v (held_there b id v law held) gone others

    -- what the exact relations say of what stands
    removed_leaves : (shared : Bool) (id : EntryId) (x : Removed T) → IsRemoved shared b id x c → OneLeaves (IsThere b) (IsThere c) id x.value
    removed_leaves shared id x r =
        let way = callers_alike shared b.slots.last_stamp (machine b) r.run.0 r.run.1 in
        let was = way.1 id.index (record { born = id.born; value = x.value; due = Some x.deadline }) r.run.3.1 in
        leaves_by id x.value (was.0, record { shard = r.shard; linked = was.1; born = was.2 }, was.3) (removed_gone r) (removed_others r)

    callers_same : (shared : Bool) → Callers shared b.slots.last_stamp (machine b) (machine c) → SameStand (IsThere b) (IsThere c)
    callers_same shared way =
        let alike = callers_alike shared b.slots.last_stamp (machine b) (machine c) way in (
          (λ o e x. let f = alike.0 o.index e x.linked in (f.0, record { shard = x.shard ∙ sym same; linked = f.1; born = f.2 ∙ x.born }, f.3)),
          (λ o e x. let f = alike.1 o.index e x.linked in (f.0, record { shard = x.shard ∙ same; linked = f.1; born = f.2 ∙ x.born }, f.3)),
        )

    pub comes_there : (k : Key) (v : T) (d : ℕ) → IsInserted b v d k c → OneComes (IsThere b) (IsThere c) k.entry v (base_for b d)
    comes_there k v d x =
        let i = k.entry.index in
        let link = inserted_live x in
        let others = inserted_others x in
        let empty = x.step.1 in
        let e : Entry T = record { born = k.entry.born; value = v; due = Some (base_for b d) } in
        let here : IsThere c k.entry e = record { shard = link.0; linked = link.2.1; born = refl } in
        record {
          fresh = λ f y. none_there b i k.entry f empty y refl;
          here = here;
          others = (
            (λ o f ne y. dite (ℕ_discrete o.index i) (λ at. absurd (none_there b i o f empty y at)) (λ n. stays i others o f n y)),
            (λ o f ne y. dite (ℕ_discrete o.index i) (λ at. absurd (ne (one_there c k.entry o e f here y at))) (λ n. stayed i others o f n y)),
          );
        }

    -- a value changes, and no entry but its own
    pub changes_there : {R : Type 0} (Makes : T → R → T → Type 0) (id : EntryId) (a : R) → id.shard ≡ b.shard → ChangesEntry Makes (machine b) id a (machine c)
        → OneChanges (IsThere b) (IsThere c) Makes id a
    changes_there {R} Makes id a shard (e, v, has, born, made, is) =
        let i = id.index in
        let s = (table_at (machine b) i).stamp in
        let f : Entry T = record e { value = v } in
        let others : OthersStay b c i = λ j ne. put_other (machine b) (machine c) j i s (Some f) ne is in
        let now = ap (λ r. r.entry) (put_same (machine b) (machine c) i s (Some f) has.0 is) in
        let old : IsThere b id e = record { shard = shard; linked = has.1; born = born } in
        let new : IsThere c id f = record { shard = shard ∙ sym same; linked = now; born = born } in
        record {
          entry = e;
          value = v;
          was = old;
          made = made;
          here = new;
          others = (
            (λ o x ne y. dite (ℕ_discrete o.index i) (λ at. absurd (ne (one_there b id o e x old y at))) (λ n. stays i others o x n y)),
            (λ o x ne y. dite (ℕ_discrete o.index i) (λ at. absurd (ne (one_there c id o f x new y at))) (λ n. stayed i others o x n y)),
          );
        }

    kept : IsLawfulCore b → IsLawfulCore c → c.slots ≡ b.slots → (o : EntryId) (e : Entry T) → IsThere b o e → (f : Entry T) × IsThere c o f × (f.value ≡ e.value)
    kept law law' slots o e x =
        let i = o.index in
        let old = ap (λ r. r.entry) (table_row_is b.slots.rows b.known law.as_known i) in
        let new = ap (λ r. r.entry) (table_row_is c.slots.rows c.known law'.as_known i) in
        let row = ap (λ s. (row_at s.rows i).held) slots in
        let f = by_word (row_at b.slots.rows i).held (word_at b.known i) (word_at c.known i) e (sym old ∙ x.linked) in
        (f.0, record { shard = x.shard ∙ sym same; linked = new ∙ (ap (λ h. entry_of h (word_at c.known i)) row ∙ f.1); born = f.2 ∙ x.born }, f.3)

  pub all_there : (b c : Core T W) → c.shard ≡ b.shard → IsLawfulCore b → IsLawfulCore c → KeepsSlots b c → SameStand (IsThere b) (IsThere c)
  all_there b c same law law' keeps = (kept b c same law law' keeps.slots, kept c b (sym same) law' law (sym keeps.slots))

  -- the birth of what was taken out isn't after its slot's stamp
  removed_past : (shared : Bool) (b c : Core T W) (id : EntryId) (x : Removed T) → IsLawfulCore b → IsLawfulCore c → HoldsValue b id x.value → IsRemoved shared b id x c → IsPastAt c id
  removed_past shared b c id x law law' held r =
      let i = id.index in
      let h : Held T = record { born = id.born; value = x.value } in
      let inside = held_inside b.slots.rows i h held.1 in
      let filed = held_filed law i h inside held.1 in
      let row = ap (λ s. (row_at s.rows i).stamp) r.slots ∙ ap (λ z. z.stamp) (get_or-set_same b.slots.rows i (vacated_row (row_at b.slots.rows i)) unused inside) in
      let stamp = ap (λ z. z.stamp) (table_row_is c.slots.rows c.known law'.as_known i) ∙ row in
      let born = filed.1.born in
      let same = ap (λ z. z.born) (some_is filed.1.held h (sym filed.1.is_held ∙ held.1)) in
      omega (arith, stamp, born, same)

  -- an insert takes the slot's next stamp
  pub inserted_ahead : (b c : Core T W) (v : T) (d : ℕ) (k : Key) → IsInserted b v d k c → (table_at (machine b) k.entry.index).stamp < k.entry.born
  inserted_ahead b c v d k x =
      let i = k.entry.index in
      let s = (table_at (machine b) i).stamp + 1 in
      let e : Option (Entry T) = born_with s v (base_for b d) in
      let now = ap (λ m. (table_at m i).stamp) x.step.3 ∙ ap (λ z. z.stamp) (get_or-set_same (machine b).table i (record { stamp = s; entry = e }) (record { stamp = 0; entry = None }) x.step.0) in
      let stamp = x.stamp in
      let born = x.born in
      omega (arith, now, stamp, born)

  -- a removal, by its answer
  pub removal_past : (shared : Bool) (b c : Core T W) (id : EntryId) (r : Result (Removed T) CoreError) → IsLawfulCore b → IsLawfulCore c
      → IfOk r (λ x. (x.key.entry ≡ id) × HoldsValue b id x.value) → Removes shared b id r c → OnOk r (IsPastAt c id)
  removal_past shared b c id (Ok x) law law' out removes = removed_past shared b c id x law law' out.1 removes
  removal_past shared b c id (Err e) law law' out removes = tt {0}

  pub removal_leaves : (b c : Core T W) (id : EntryId) (r : Result (Removed T) CoreError) → c.shard ≡ b.shard → IsLawfulCore b
      → IfOk r (λ x. (x.key.entry ≡ id) × HoldsValue b id x.value) → OnOk r ((table_at (machine c) id.index).entry ≡ None) → OthersStay b c id.index
      → IfOk r (λ x. OneLeaves (IsThere b) (IsThere c) id x.value)
  removal_leaves b c id (Ok x) same law out gone others = leaves_there b c same id x.value law out.1 gone others
  removal_leaves b c id (Err e) same law out gone others = tt {0}

  pub removal_in_time : (shared : Bool) (b c : Core T W) (id : EntryId) (r : Result (Removed T) CoreError) → IsLawfulCore b
      → IfOk r (λ x. (x.key.entry ≡ id) × HoldsValue b id x.value) → Removes shared b id r c → IfOk r (λ x. x.deadline ≤ LAST_TICK)
  removal_in_time shared b c id (Ok x) law out removes = in_time shared b c id x law out.1 removes
  removal_in_time shared b c id (Err e) law out removes = tt {0}

  pub refusal_keeps : {X : Type 0} (b c : Core T W) (r : Result X CoreError) → c.shard ≡ b.shard → IsLawfulCore b → IsLawfulCore c → OnErr r (KeepsSlots b c)
      → OnErr r (SameStand (IsThere b) (IsThere c))
  refusal_keeps {X} b c (Ok x) same law law' keeps = tt {0}
  refusal_keeps {X} b c (Err e) same law law' keeps = all_there b c same law law' keeps

  -- an insert, by its answer
  pub insert_comes : (b c : Core T W) (v : T) (d : ℕ) (k : Key) (r : Result Key (CoreError × T)) → c.shard ≡ b.shard → Inserts b v d r c → r ≡ Ok k
      → OneComes (IsThere b) (IsThere c) k.entry v (base_for b d)
  insert_comes b c v d k r same did is =
      let P : Result Key (CoreError × T) → Type 0 = λ x. Inserts b v d x c in
      comes_there b c same k v d (subst P is did)

  pub insert_past : (b c : Core T W) (v : T) (d : ℕ) (k : Key) (r : Result Key (CoreError × T)) → Inserts b v d r c → r ≡ Ok k → IsPastAt c k.entry
  insert_past b c v d k r did is =
      let P : Result Key (CoreError × T) → Type 0 = λ x. Inserts b v d x c in
      let x = subst P is did in
      let stamp = x.stamp in
      let born = x.born in
      omega (arith, stamp, born)

  pub insert_ahead : (b c : Core T W) (v : T) (d : ℕ) (k : Key) (r : Result Key (CoreError × T)) → Inserts b v d r c → r ≡ Ok k
      → (table_at (machine b) k.entry.index).stamp < k.entry.born
  insert_ahead b c v d k r did is =
      let P : Result Key (CoreError × T) → Type 0 = λ x. Inserts b v d x c in
      inserted_ahead b c v d k (subst P is did)

  pub set_there : (cores : List (Core T W)) (i : ℕ) (b c : Core T W) → IsCoreAt cores i b → IsCoreAt (set cores i c) i c
  set_there cores i b c at = (rw (length-set cores i c) at.0, get_or-set_same cores i c c at.0)

  pub set_other : (cores : List (Core T W)) (i j : ℕ) (c d : Core T W) → j ≢ i → IsCoreAt cores j d → IsCoreAt (set cores i c) j d
  set_other cores i j c d n x = (rw (length-set cores i c) x.0, get_or-set_other cores i j c d n ∙ x.1)

  -- one core of a store changes
  module _ (s : CoreRow T W) (i : ℕ) (b c : Core T W) (law : AreCores s) (at : IsCoreAt s.cores i b) (same : c.shard ≡ b.shard) where
    abbrev pub Elsewhere : EntryId → Entry T → Type 0
    Elsewhere o e = (j : ℕ) × (d : Core T W) × (j ≢ i) × IsCoreAt s.cores j d × IsThere d o e

    pub split : (o : EntryId) (e : Entry T) → HasEntry s o e → IsThere b o e ⊎ Elsewhere o e
    split o e z =
        dite (ℕ_discrete z.0 i)
        (λ here. let A : ℕ → Type 0 = λ k. IsCoreAt s.cores k z.1 in
        let P : Core T W → Type 0 = λ k. IsThere k o e in
        inl (subst P (sym (one_at s.cores i b z.1 at (subst A here z.2))) z.3))
        (λ n. inr (z.0, z.1, n, z.2, z.3))

    pub back : (o : EntryId) (e : Entry T) → HasEntry (with_core s i c) o e → IsThere c o e ⊎ Elsewhere o e
    back o e z =
        ⊎_elim
        (λ (y : (z.0 ≡ i) × (z.1 ≡ c)). let P : Core T W → Type 0 = λ k. IsThere k o e in inl (subst P y.1 z.3))
        (λ (y : (z.0 ≢ i) × IsCoreAt s.cores z.0 z.1). inr (z.0, z.1, y.0, y.1, z.3))
        (at_after s.cores i z.0 c z.1 at.0 z.2)

    pub there : (o : EntryId) (e : Entry T) → Elsewhere o e → HasEntry (with_core s i c) o e
    there o e z = (z.0, z.1, set_other s.cores i z.0 c z.1 z.2 z.3, z.4)

    pub stood : (o : EntryId) (e : Entry T) → Elsewhere o e → HasEntry s o e
    stood o e z = (z.0, z.1, z.3, z.4)

    pub never : (o : EntryId) (e : Entry T) → o.shard ≡ b.shard → Elsewhere o e → ⊥
    never o e number z = z.2 (law.apart z.0 i z.1 b z.3 at (sym z.4.shard ∙ number))

    others_in : (left came : EntryId) → OthersStand (IsThere b) (IsThere c) left came → OthersStand (HasEntry s) (HasEntry (with_core s i c)) left came
    others_in left came others = (
      (λ o e ne z. ⊎_elim (λ (x : IsThere b o e). (i, c, (set_there s.cores i b c at), others.0 o e ne x)) (λ (x : Elsewhere o e). there o e x) (split o e z)),
      (λ o e ne z. ⊎_elim (λ (x : IsThere c o e). (i, b, at, others.1 o e ne x)) (λ (x : Elsewhere o e). stood o e x) (back o e z)),
    )

    pub leaves_in : (id : EntryId) (v : T) → OneLeaves (IsThere b) (IsThere c) id v → OneLeaves (HasEntry s) (HasEntry (with_core s i c)) id v
    leaves_in id v l = record {
      was = (l.was.0, (i, b, at, l.was.1), l.was.2);
      gone = λ e z. ⊎_elim (λ (x : IsThere c id e). l.gone e x) (λ (x : Elsewhere id e). never id e l.was.1.shard x) (back id e z);
      others = others_in id id l.others;
    }

    pub comes_in : (id : EntryId) (v : T) (d : ℕ) → OneComes (IsThere b) (IsThere c) id v d → OneComes (HasEntry s) (HasEntry (with_core s i c)) id v d
    comes_in id v d l = record {
      fresh = λ e z. ⊎_elim (λ (x : IsThere b id e). l.fresh e x) (λ (x : Elsewhere id e). never id e (l.here.shard ∙ same) x) (split id e z);
      here = (i, c, (set_there s.cores i b c at), l.here);
      others = others_in id id l.others;
    }

    pub same_in : SameStand (IsThere b) (IsThere c) → SameStand (HasEntry s) (HasEntry (with_core s i c))
    same_in all = (
      (λ o e z. ⊎_elim
          (λ (x : IsThere b o e). let f = all.0 o e x in (f.0, (i, c, (set_there s.cores i b c at), f.1), f.2))
          (λ (x : Elsewhere o e). (e, there o e x, refl))
          (split o e z)),
      (λ o e z. ⊎_elim
          (λ (x : IsThere c o e). let f = all.1 o e x in (f.0, (i, b, at, f.1), f.2))
          (λ (x : Elsewhere o e). (e, stood o e x, refl))
          (back o e z)),
    )

    pub past_in : (id : EntryId) → id.shard ≡ b.shard → IsPastAt c id → IsPastIn (with_core s i c) id
    past_in id number past j d x number' =
        ⊎_elim
        (λ (y : (j ≡ i) × (d ≡ c)). let P : Core T W → Type 0 = λ k. IsPastAt k id in subst P (sym y.1) past)
        (λ (y : (j ≢ i) × IsCoreAt s.cores j d). absurd (y.0 (law.apart j i d b y.1 at (number' ∙ number))))
        (at_after s.cores i j c d at.0 x)

    pub changes_in : {R : Type 0} (Makes : T → R → T → Type 0) (id : EntryId) (a : R) → OneChanges (IsThere b) (IsThere c) Makes id a
        → OneChanges (HasEntry s) (HasEntry (with_core s i c)) Makes id a
    changes_in {R} Makes id a l = record {
      entry = l.entry;
      value = l.value;
      was = (i, b, at, l.was);
      made = l.made;
      here = (i, c, (set_there s.cores i b c at), l.here);
      others = others_in id id l.others;
    }

    -- where no stamp changes, what is past stays past
    pub still_past : ((j : ℕ) → (table_at (machine c) j).stamp ≡ (table_at (machine b) j).stamp) → (id : EntryId) → IsPastIn s id → IsPastIn (with_core s i c) id
    still_past stamps id past j d x number =
        ⊎_elim
        (λ (y : (j ≡ i) × (d ≡ c)). let N : Core T W → ℕ = λ k. k.shard in
        let P : Core T W → Type 0 = λ k. IsPastAt k id in
        let was = past i b at (sym same ∙ (sym (ap N y.1) ∙ number)) in
        let stamp = stamps id.index in
        subst P (sym y.1) (omega (arith, stamp, was)))
        (λ (y : (j ≢ i) × IsCoreAt s.cores j d). past j d y.1 number)
        (at_after s.cores i j c d at.0 x)

    pub words_in : {O : Type 0} (origin : W → O) (begun : W → ℕ → ℕ → ℕ → Type 0) → origin c.words ≡ origin b.words → StillBegun begun b.words c.words
        → KeepsWords origin begun s (with_core s i c)
    words_in {O} origin begun o w j d x =
        dite (ℕ_discrete j i)
        (λ here. let A : ℕ → Type 0 = λ k. IsCoreAt s.cores k d in
        let B : ℕ → Type 0 = λ k. IsCoreAt (set s.cores i c) k c in
        let P : Core T W → Type 0 = λ k. (c.shard ≡ k.shard) × (origin c.words ≡ origin k.words) × StillBegun begun k.words c.words in
        let all = subst P (one_at s.cores i b d at (subst A here x)) (same, o, w) in
        (c, subst B (sym here) (set_there s.cores i b c at), all.0, all.1, all.2))
        (λ n. (d, set_other s.cores i j c d n x, refl, refl, λ k t u y. y))

  -- a change of a value, by its answer
  pub changed_stamps : {R : Type 0} (Makes : T → R → T → Type 0) (b c : Core T W) (id : EntryId) (r : Option R) → ChangesValue Makes b id r c
      → IfSome r (λ a. ChangesEntry Makes (machine b) id a (machine c)) → (j : ℕ) → (table_at (machine c) j).stamp ≡ (table_at (machine b) j).stamp
  changed_stamps {R} Makes b c id None did entry j = ap (λ (k : Core T W). (table_at (machine k) j).stamp) did.1
  changed_stamps {R} Makes b c id (Some a) did (e, v, has, born, made, is) j =
      let i = id.index in
      let f : Entry T = record e { value = v } in
      let s = (table_at (machine b) i).stamp in
      dite (ℕ_discrete j i)
      (λ here. let P : ℕ → Type 0 = λ k. (table_at (machine c) k).stamp ≡ (table_at (machine b) k).stamp in
      subst P (sym here) (ap (λ r. r.stamp) (put_same (machine b) (machine c) i s (Some f) has.0 is)))
      (λ n. ap (λ r. r.stamp) (put_other (machine b) (machine c) j i s (Some f) n is))

  pub changed_words : {R : Type 0} (Makes : T → R → T → Type 0) (b c : Core T W) (id : EntryId) (r : Option R) → ChangesValue Makes b id r c → c.words ≡ b.words
  changed_words {R} Makes b c id None did = ap (λ (k : Core T W). k.words) did.1
  changed_words {R} Makes b c id (Some a) did = ap (λ (k : Core T W). k.words) did.4

  pub all_words : {O : Type 0} (origin : W → O) (begun : W → ℕ → ℕ → ℕ → Type 0) (s : CoreRow T W) → KeepsWords origin begun s s
  all_words {O} origin begun s i b at = (b, at, refl, refl, λ k t u y. y)

  pub all_same : (s : CoreRow T W) → SameStand (HasEntry s) (HasEntry s)
  all_same s = ((λ o e z. (e, z, refl)), (λ o e z. (e, z, refl)))

  -- a removal from the core that was found, by its answer
  module _ (s : CoreRow T W) (i : ℕ) (id : EntryId) (b c : Core T W) (law : AreCores s) (found : (x : Core T W) × HasAt s.cores id.shard i x) (is : b ≡ get_or s.cores i b)
      (same : c.shard ≡ b.shard) where
    pub found_at : IsCoreAt s.cores i b
    found_at = (found.1.0.0, sym is)

    pub found_number : id.shard ≡ b.shard
    found_number =
        let N : Core T W → ℕ = λ k. k.shard in
        sym (ap N (one_at s.cores i b found.0 found_at found.1.0) ∙ found.1.1)

    pub found_leaves : (r : Result (Removed T) CoreError) → IfOk r (λ x. OneLeaves (IsThere b) (IsThere c) id x.value)
        → IfOk r (λ x. OneLeaves (HasEntry s) (HasEntry (with_core s i c)) id x.value)
    found_leaves (Ok x) l = leaves_in s i b c law found_at same id x.value l
    found_leaves (Err e) l = tt {0}

    pub found_past : (r : Result (Removed T) CoreError) → OnOk r (IsPastAt c id) → OnOk r (IsPastIn (with_core s i c) id)
    found_past (Ok x) l = past_in s i b c law found_at same id found_number l
    found_past (Err e) l = tt {0}

    pub found_same : {X : Type 0} (r : Result X CoreError) → OnErr r (SameStand (IsThere b) (IsThere c)) → OnErr r (SameStand (HasEntry s) (HasEntry (with_core s i c)))
    found_same {X} (Ok x) l = tt {0}
    found_same {X} (Err e) l = same_in s i b c law found_at same l

    -- a change of a value in the core that was found, by its answer
    pub found_changes : {R : Type 0} (Makes : T → R → T → Type 0) (r : Option R) → IfSome r (λ a. ChangesEntry Makes (machine b) id a (machine c))
        → IfSome r (OneChanges (HasEntry s) (HasEntry (with_core s i c)) Makes id)
    found_changes {R} Makes None entry = tt {0}
    found_changes {R} Makes (Some a) entry = changes_in s i b c law found_at same Makes id a (changes_there b c same Makes id a found_number entry)

    pub found_missing : {R : Type 0} (Makes : T → R → T → Type 0) (r : Option R) → ChangesValue Makes b id r c → IfNone r (IsMissingIn s id × (with_core s i c ≡ s))
    found_missing {R} Makes None did =
        let S : List (Core T W) → CoreRow T W = λ l. record s { cores = l } in (
          (missing_in s law i b id (IsMissing b id) found is (λ x. x, λ x. x)).0 did.0,
          ap (λ k. with_core s i k) did.1 ∙ ap S (ap (λ k. set s.cores i k) is ∙ set-get_or s.cores i b),
        )
    found_missing {R} Makes (Some a) did = tt {0}

  -- what the exact relations of a removal and of a look say of what stands in the store
  module _ (shared : Bool) (s t : CoreRow T W) (id : EntryId) (R : Type 0) (law : AreCores s) where
    pub removes_leaves : (x : Removed T) → OnCoreOr id.shard (λ b c. Removes shared b id (Ok x) c) (◌≡◌ {A = Result (Removed T) CoreError} (Ok x) (Err Missing)) s t
        → OneLeaves (HasEntry s) (HasEntry t) id x.value
    removes_leaves x (inl on) =
        let P : CoreRow T W → Type 0 = λ k. OneLeaves (HasEntry s) (HasEntry k) id x.value in
        let same = on.did.same_shard in
        subst P (sym on.rest) (leaves_in s on.place on.before on.after law on.at.0 same id x.value (removed_leaves on.before on.after same shared id x on.did))
    removes_leaves x (inr y) = let told = y.0 in absurd (cc)

    same_on : (i : ℕ) (b c : Core T W) → IsCoreAt s.cores i b → t ≡ with_core s i c → c.shard ≡ b.shard → Callers shared b.slots.last_stamp (machine b) (machine c)
        → SameStand (HasEntry s) (HasEntry t)
    same_on i b c at rest same way =
        let P : CoreRow T W → Type 0 = λ k. SameStand (HasEntry s) (HasEntry k) in
        subst P (sym rest) (same_in s i b c law at same (callers_same b c same shared way))

    refused_on : (i : ℕ) (b c : Core T W) (e : CoreError) → IsCoreAt s.cores i b → t ≡ with_core s i c → FindRefused shared b id e c → SameStand (HasEntry s) (HasEntry t)
    refused_on i b c Missing at rest did =
        same_on i b c at rest (ap (λ k. k.shard) did.1) ([], tt, ap machine did.1)
    refused_on i b c WasCancelled at rest did = same_on i b c at rest did.looked.shard did.looked.callers
    refused_on i b c e at rest did = absurd did

    pub refusal_same : (e : CoreError) → OnCoreOr id.shard (λ b c. Removes shared b id (Err e) c) R s t → SameStand (HasEntry s) (HasEntry t)
    refusal_same e (inl on) = refused_on on.place on.before on.after e on.at.0 on.rest on.did
    refusal_same e (inr y) = let P : CoreRow T W → Type 0 = λ k. SameStand (HasEntry s) (HasEntry k) in subst P (sym y.2) (all_same s)

    pub look_same : (d : ℕ) → OnCoreOr id.shard (λ b c. TellsDeadline shared b id (Ok d) c) R s t → SameStand (HasEntry s) (HasEntry t)
    look_same d (inl on) = same_on on.place on.before on.after on.at.0 on.rest on.did.looked.shard on.did.looked.callers
    look_same d (inr y) = let P : CoreRow T W → Type 0 = λ k. SameStand (HasEntry s) (HasEntry k) in subst P (sym y.2) (all_same s)

  -- so of a removal of what is due, by its answer
  module _ (shared : Bool) (s t : CoreRow T W) (id : EntryId) (tick : ℕ) (law : AreCores s) where
    abbrev Dues : Result (Option (Removed T)) CoreError → Type 0
    Dues r = OnCoreOr id.shard (λ b c. RemovesIfDue shared b id tick r c) (r ≡ Err Missing) s t

    pub dues_leave : (r : Result (Option (Removed T)) CoreError) → Dues r → IfOk r (λ found. IfSome found (λ x. OneLeaves (HasEntry s) (HasEntry t) id x.value))
    dues_leave (Ok (Some x)) (inl on) =
        removes_leaves shared s t id ⊥ law x (inl (record { place = on.place; before = on.before; after = on.after; at = on.at; did = on.did.1; rest = on.rest }))
    dues_leave (Ok (Some x)) (inr y) = let told = y.0 in absurd (cc)
    dues_leave (Ok None) did = tt {0}
    dues_leave (Err e) did = tt {0}

    pub dues_stay : (r : Result (Option (Removed T)) CoreError) → Dues r → IfOk r (λ found. IfNone found (SameStand (HasEntry s) (HasEntry t)))
    dues_stay (Ok (Some x)) did = tt {0}
    dues_stay (Ok None) (inl on) = same_on shared s t id ⊥ law on.place on.before on.after on.at.0 on.rest on.did.2.looked.shard on.did.2.looked.callers
    dues_stay (Ok None) (inr y) = let told = y.0 in absurd (cc)
    dues_stay (Err e) did = tt {0}

    pub dues_refused : (r : Result (Option (Removed T)) CoreError) → Dues r → OnErr r (SameStand (HasEntry s) (HasEntry t))
    dues_refused (Ok x) did = tt {0}
    dues_refused (Err e) (inl on) = refused_on shared s t id ⊥ law on.place on.before on.after e on.at.0 on.rest on.did
    dues_refused (Err e) (inr y) = let P : CoreRow T W → Type 0 = λ k. SameStand (HasEntry s) (HasEntry k) in subst P (sym y.2) (all_same s)

    pub dues_by : (r : Result (Option (Removed T)) CoreError) → Dues r → IfOk r (λ found. IfSome found (λ x. x.deadline ≤ tick))
    dues_by (Ok (Some x)) (inl on) = on.did.0
    dues_by (Ok (Some x)) (inr y) = let told = y.0 in absurd (cc)
    dues_by (Ok None) did = tt {0}
    dues_by (Err e) did = tt {0}
