-- A clear: how it ends the entry of one slot, and those of all.
use Rattle.std.proofs.Common.{◌≡◌, ◌≢◌, ℕ, ◌+◌, ◌<◌, ◌≤◌, zero, suc, Bool, true, false, cond, List, [], ◌∷◌, ◌++◌, length, length-append, get_or, set, Option, Some, None, is_some, refl, sym, ap, ◌∙◌, subst, inl, inr, arith}
use Rattle.std.specs.List.{AllByRecursion}
use Rattle.std.proofs.lemmas.List.{get_or_past}
use Rattle.std.proofs.lemmas.Bool.{cases_eq, cases_lt, false≢true}
use Rattle.dq_ticks.specs.declared.words.Mark.TheVariants.{CancelledMark, RemovedMark}
use Rattle.dq_ticks.specs.declared.words.Parts.{Parts}
use Rattle.dq_wheel.specs.State.{unlinked}
use Rattle.dq_core.specs.declared.slots.Held.{Held}
use Rattle.dq_core.specs.Words.{Counts, word_at, Learned, IsChanged, live, cancelled, removed, finished_counts}
use Rattle.dq_core.specs.Slots.{Row, unused, row_at, is_held, vacated}
use Rattle.dq_core.specs.Machine.{Machine, Event, Note, Pass, Insert, Reset, Extend, Cancel, Remove, Reap, Expire, Step, Callers, IsCallers, IsClearing, removes}
use Rattle.dq_core.specs.Core.{Core, machine, entry_of, table_of, IsLawful, IsLawfulCore}
use Rattle.dq_core.specs.Calls.{SameCore}
use Rattle.dq_core.specs.Sweeps.{removed_counts, RunOfClear, IsCleared, AreEnded, IsEmptied, Clears}
use Rattle.dq_core.proofs.Law.{Filed, law_vacated}
use Rattle.dq_core.proofs.Ways.{run_more, all_more, all_into, of_callers, callers_clearing}
use Rattle.dq_core.proofs.Leaving.{IsGone, gone, out_more, out_none, out_one, vacated_here, not_held, row_other, word_other, past_table, same_more}

-- how many of two lists of events are removals
removes_more : {T : Type 0} (es fs : List (Event T)) → removes (es ++ fs) ≡ removes es + removes fs
removes_more [] fs = omega arith
removes_more ((Note t) ∷ es) fs = removes_more es fs
removes_more ((Pass t) ∷ es) fs = removes_more es fs
removes_more ((Insert i v w) ∷ es) fs = removes_more es fs
removes_more ((Reset i b w) ∷ es) fs = removes_more es fs
removes_more ((Extend i s w) ∷ es) fs = removes_more es fs
removes_more ((Cancel i s) ∷ es) fs = removes_more es fs
removes_more ((Remove i b) ∷ es) fs = let h = removes_more es fs in omega (arith, h)
removes_more ((Reap i b) ∷ es) fs = removes_more es fs
removes_more ((Expire i b a) ∷ es) fs = removes_more es fs

-- callers remove nothing
removes_none : {T : Type 0} (shared : Bool) (es : List (Event T)) → AllByRecursion (IsCallers shared) es → removes es ≡ 0
removes_none shared [] a = refl
removes_none shared (e ∷ es) a =
    of_callers shared (λ x. removes (x ∷ es) ≡ removes es) (λ open_ i s w. refl) (λ open_ i s. refl) e a.0 ∙ removes_none shared es a.1

clear_more : {T : Type 0} (shared : Bool) (last : ℕ) (m k n : Machine T) (x y z : ℕ) → RunOfClear shared last m x k → RunOfClear shared last k y n → z ≡ x + y → RunOfClear shared last m z n
clear_more shared last m k n x y z a b e =
    let size = removes_more a.0 b.0 in
    let u = a.3 in
    let v = b.3 in
    (a.0 ++ b.0, all_more (IsClearing shared) a.0 b.0 a.1 b.1, run_more last m k n a.0 b.0 a.2 b.2, omega (arith, size, u, v, e))

clear_callers : {T : Type 0} (shared : Bool) (last : ℕ) (m n : Machine T) → Callers shared last m n → RunOfClear shared last m 0 n
clear_callers shared last m n a =
    (a.0, all_into (IsCallers shared) (IsClearing shared) (callers_clearing shared) a.0 a.1, a.2, removes_none shared a.0 a.1)

one_most : (r : Bool) → cond r 1 0 ≤ 1
one_most true = omega arith
one_most false = omega arith

-- one held slot, whose word was finished
module _ {T W : Type 0} (shared : Bool) (b c : Core T W) (l : IsLawfulCore b) (i f : ℕ) (at : Filed b.wheel.filing.tick b.slots.last_stamp b.slots.rows b.known b.wheel.filing.filed i f) (stamp : ℕ) (es : stamp ≡ (row_at b.slots.rows i).stamp) (ew : c.wheel.filing ≡ unlinked b.wheel.filing i) (eh : c.slots ≡ vacated b.slots i) (ek : c.known ≡ set b.known i (word_at c.known i)) (en : c.noted ≡ b.noted) where
  -- what was known of its word is changed
  cleared : (o : Option ℕ) → IsChanged shared stamp (removed stamp) (word_at b.known i) o (word_at c.known i) → IsCleared shared (row_at b.slots.rows i) (word_at b.known i) (word_at c.known i)
  cleared o changed =
      let P : ℕ → Type 0 = λ s. IsChanged shared s (removed s) (word_at b.known i) o (word_at c.known i) in
      let held : is_held (row_at b.slots.rows i) ≡ true = ap is_some at.is_held in
      (λ is. (o, subst P es changed), λ none. absurd (false≢true (sym none ∙ held)))

  others : (j : ℕ) → j ≢ i → (row_at c.slots.rows j ≡ row_at b.slots.rows j) × (word_at c.known j ≡ word_at b.known j)
  others j ne = (row_other shared b c l i f at eh j ne, word_other shared b c l i f at (word_at c.known i) ek j ne)

  emptied_by : (r : Bool) (v : Parts) (e : Event T) (o : Option ℕ) (g : IsGone shared b i at.held v c) → IsClearing shared e → Step b.slots.last_stamp g.learned e (machine c) → removes (e ∷ []) ≡ cond r 1 0 → c.counts ≡ removed_counts b.counts (cond r 1 0) → IsChanged shared stamp (removed stamp) (word_at b.known i) o (word_at c.known i) → IsEmptied shared b i r c
  emptied_by r v e o g is step size ec changed =
      let one : RunOfClear shared b.slots.last_stamp g.learned (cond r 1 0) (machine c) = (e ∷ [], (is, tt), (machine c, step, refl), size) in
      record {
        ended = (
          i ∷ [],
          record {
            run = clear_more shared b.slots.last_stamp (machine b) g.learned (machine c) 0 (cond r 1 0) (cond r 1 0) (clear_callers shared b.slots.last_stamp (machine b) g.learned g.callers) one (omega arith);
            few = one_most r;
            out = out_one b c i at.held at.is_held ew eh en;
            counts = ec;
          },
        );
        here = vacated_here shared b c l i f at eh;
        word = cleared o changed;
        other = others;
      }

  -- a live one is removed
  pub emptied_live : (d : ℕ) → IsChanged shared stamp (removed stamp) (word_at b.known i) (Some d) (word_at c.known i) → c.counts ≡ finished_counts b.counts (Some d) → IsEmptied shared b i true c
  emptied_live d changed ec =
      let P : ℕ → Type 0 = λ s. Learned shared (word_at b.known i) (live s d) in
      let v = live (row_at b.slots.rows i).stamp d in
      let g = gone shared b c l i f at v (word_at c.known i) (subst P es changed.0) ew eh ek en in
      emptied_by true v (Remove i at.held.born) (Some d) g tt (record { born = at.held.born; value = at.held.value; due = Some d }, d, g.has, refl, refl, g.put) refl ec changed

  -- a cancelled one is reaped
  pub emptied_cancelled : IsChanged shared stamp (removed stamp) (word_at b.known i) None (word_at c.known i) → c.counts ≡ finished_counts b.counts None → IsEmptied shared b i false c
  emptied_cancelled changed ec =
      let P : ℕ → Type 0 = λ s. Learned shared (word_at b.known i) (cancelled s) in
      let v = cancelled (row_at b.slots.rows i).stamp in
      let g = gone shared b c l i f at v (word_at c.known i) (subst P es changed.0) ew eh ek en in
      let none : c.counts ≡ removed_counts b.counts 0 = ec ∙ ap (λ n. let x : Counts = record { begins = b.counts.begins; expiries = b.counts.expiries; removals = n } in x) (omega arith) in
      emptied_by false v (Reap i at.held.born) None g tt (record { born = at.held.born; value = at.held.value; due = None }, g.has, refl, refl, g.put) refl none changed

  -- the law holds on
  pub law_emptied : (o : Option ℕ) → IsChanged shared stamp (removed stamp) (word_at b.known i) o (word_at c.known i) → c.counts ≡ finished_counts b.counts o
      → IsLawful b.noted c.wheel.filing c.slots c.known c.counts
  law_emptied (Some d) changed ec =
      let mark : (word_at c.known i).mark ≡ RemovedMark = ap (λ p. p.mark) changed.1 in
      let begins : c.counts.begins ≡ b.counts.begins = ap (λ n. n.begins) ec in
      let expiries : c.counts.expiries ≡ b.counts.expiries = ap (λ n. n.expiries) ec in
      let removals : c.counts.removals ≡ b.counts.removals + 1 = ap (λ n. n.removals) ec in
      law_vacated l i f (word_at c.known i) at ew eh ek (ap (λ p. p.stamp) changed.1 ∙ es) (λ e. cc) (λ e. absurd (cc)) begins (omega (arith, expiries, removals))
  law_emptied None changed ec =
      let mark : (word_at c.known i).mark ≡ CancelledMark = ap (λ p. p.mark) changed.1 in
      let begins : c.counts.begins ≡ b.counts.begins = ap (λ n. n.begins) ec in
      let expiries : c.counts.expiries ≡ b.counts.expiries = ap (λ n. n.expiries) ec in
      let removals : c.counts.removals ≡ b.counts.removals = ap (λ n. n.removals) ec in
      law_vacated l i f (word_at c.known i) at ew eh ek (ap (λ p. p.stamp) changed.1 ∙ es) (λ e. cc) (λ e. absurd (cc)) begins (omega (arith, expiries, removals))

-- a clear that has come to slot i, and has ended n entries as removed
pub record IsOnClear {T W : Type 0} (shared : Bool) (b : Core T W) (i n : ℕ) (c : Core T W) : Type 0 where
  pub same : SameCore b c
  pub few : n ≤ i
  pub ended : (is : List ℕ) × AreEnded shared b is n c
  pub words : (j : ℕ) → j < i → IsCleared shared (row_at b.slots.rows j) (word_at b.known j) (word_at c.known j)
  pub none : (j : ℕ) → j < i → (row_at c.slots.rows j).held ≡ None
  pub rest : (j : ℕ) → i ≤ j → (row_at c.slots.rows j ≡ row_at b.slots.rows j) × (word_at c.known j ≡ word_at b.known j)

counts_none : (c : Counts) → c ≡ removed_counts c 0
counts_none c = ap (λ n. let x : Counts = record { begins = c.begins; expiries = c.expiries; removals = n } in x) (omega arith)

counts_more : (a b c : Counts) (n m k : ℕ) → b ≡ removed_counts a n → c ≡ removed_counts b m → k ≡ n + m → c ≡ removed_counts a k
counts_more a b c n m k x y e =
    y ∙ ap (λ z. removed_counts z m) x ∙ ap (λ r. let z : Counts = record { begins = a.begins; expiries = a.expiries; removals = r } in z) (omega (arith, e))

pub clear_from : {T W : Type 0} (shared : Bool) (b : Core T W) → IsOnClear shared b 0 0 b
clear_from shared b =
    record {
      same = (refl, refl, refl);
      few = omega arith;
      ended = ([], record { run = ([], tt, refl, refl); few = omega arith; out = out_none b b refl refl refl; counts = counts_none b.counts });
      words = λ j less. absurd (omega arith);
      none = λ j less. absurd (omega arith);
      rest = λ j more. (refl, refl);
    }

-- where the slot holds nothing
pub emptied_none : {T W : Type 0} (shared : Bool) (b : Core T W) (i : ℕ) → false ≡ is_held (row_at b.slots.rows i) → IsEmptied shared b i false b
emptied_none shared b i is =
    record {
      ended = (clear_from shared b).ended;
      here = not_held (row_at b.slots.rows i) is;
      word = (λ yes. absurd (false≢true (is ∙ yes)), λ _. refl);
      other = λ j ne. (refl, refl);
    }

ended_more : {T W : Type 0} (shared : Bool) (a b c : Core T W) (is js : List ℕ) (n m k : ℕ) → SameCore a b → AreEnded shared a is n b → AreEnded shared b js m c → k ≡ n + m → AreEnded shared a (is ++ js) k c
ended_more shared a b c is js n m k same x y e =
    let P : ℕ → Type 0 = λ s. RunOfClear shared s (machine b) m (machine c) in
    record {
      run = clear_more shared a.slots.last_stamp (machine a) (machine b) (machine c) n m k x.run (subst P same.1 y.run) e;
      few = let p = x.few in let q = y.few in omega (arith, e, p, q, length-append is js);
      out = out_more a b c is js x.out y.out;
      counts = counts_more a.counts b.counts c.counts n m k x.counts y.counts e;
    }

pub clear_on : {T W : Type 0} (shared : Bool) (b cur c : Core T W) (i n m : ℕ) (r : Bool) → IsOnClear shared b i n cur → SameCore cur c → IsEmptied shared cur i r c → m ≡ n + cond r 1 0 → m ≤ i + 1 → IsOnClear shared b (i + 1) m c
clear_on shared b cur c i n m r to same emptied em few =
    record {
      same = same_more b cur c to.same same;
      few = few;
      ended = (to.ended.0 ++ emptied.ended.0, ended_more shared b cur c to.ended.0 emptied.ended.0 n (cond r 1 0) m to.same to.ended.1 emptied.ended.1 em);
      words = λ j less.
          elim (cases_eq j i) [
            | inl eq ↦
                let was = to.rest i (omega arith) in
                let P : ℕ → Type 0 = λ k. IsCleared shared (row_at b.slots.rows k) (word_at b.known k) (word_at c.known k) in
                let Q : Row _ → Type 0 = λ x. IsCleared shared x (word_at b.known i) (word_at c.known i) in
                let R : Parts → Type 0 = λ x. IsCleared shared (row_at cur.slots.rows i) x (word_at c.known i) in
                subst P (sym eq) (subst Q was.0 (subst R was.1 emptied.word))
            | inr ne ↦
                let P : Parts → Type 0 = λ x. IsCleared shared (row_at b.slots.rows j) (word_at b.known j) x in
                subst P (sym (emptied.other j ne).1) (to.words j (omega arith))
          ];
      none = λ j less.
          elim (cases_eq j i) [
            | inl eq ↦ let P : ℕ → Type 0 = λ k. (row_at c.slots.rows k).held ≡ None in subst P (sym eq) emptied.here
            | inr ne ↦ ap (λ x. x.held) (emptied.other j ne).0 ∙ to.none j (omega arith)
          ];
      rest = λ j more.
          let ne : j ≢ i = λ e. omega arith in
          let now = emptied.other j ne in
          let was = to.rest j (omega arith) in
          (now.0 ∙ was.0, now.1 ∙ was.1);
    }

entry_empty : {T : Type 0} (o : Option (Held T)) (w : Parts) → o ≡ None → entry_of o w ≡ None
entry_empty None w e = refl
entry_empty (Some h) w e = absurd (cc)

-- where nothing is held, nothing is linked
table_empty : {T : Type 0} (rows : List (Row T)) (known : List Parts) (i : ℕ) → (row_at rows i).held ≡ None → (get_or (table_of rows known) i (record { stamp = 0; entry = None })).entry ≡ None
table_empty [] ws i e = refl
table_empty (r ∷ rs) [] i e = refl
table_empty (r ∷ rs) (w ∷ ws) zero e = entry_empty r.held w e
table_empty (r ∷ rs) (w ∷ ws) (suc i) e = table_empty rs ws i e

pub clear_ends : {T W : Type 0} (shared : Bool) (b c : Core T W) (i n : ℕ) → IsOnClear shared b i n c → length b.slots.rows ≤ i → Clears shared b n c
clear_ends shared b c i n to past =
    record {
      ended = to.ended;
      words = λ j.
          elim (cases_lt j i) [
            | inl less ↦ to.words j less
            | inr more ↦
                let gone : row_at b.slots.rows j ≡ unused = get_or_past b.slots.rows j unused (omega arith) in
                (λ is. absurd (false≢true (sym (ap is_held gone) ∙ is)), λ is. (to.rest j more).1)
          ];
      none = λ j.
          elim (cases_lt j i) [
            | inl less ↦ table_empty c.slots.rows c.known j (to.none j less)
            | inr more ↦ let size = to.same.2 in past_table c j (omega arith)
          ];
    }
