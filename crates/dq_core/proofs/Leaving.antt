-- Entries that leave the queue where all slots are gone over: one slot at a time, and one after the other.
use Rattle.std.proofs.Common.{◌≡◌, ◌≢◌, ℕ, ◌+◌, ◌<◌, ◌≤◌, Bool, true, false, cond, List, [], ◌∷◌, ◌++◌, length, set, Option, Some, None, is_some, refl, sym, ap, ◌∙◌, subst, ◌⊎◌, inl, inr, min, ◌-◌, nat_lt, if◌then◌else◌, arith}
use Rattle.std.specs.List.{count_by}
use Rattle.std.proofs.lemmas.List.{length-set, length-append, get_or-set_same, get_or-set_other, get_or_past, set-set}
use Rattle.std.proofs.lemmas.Bool.{cases_eq, cases_lt, false≢true}
use Rattle.std.proofs.lemmas.Bool.Decides.{nat_tests}
use Rattle.dq_ticks.specs.declared.words.Parts.{Parts}
use Rattle.dq_ticks.specs.declared.words.Mark.TheVariants.{LiveMark, CancelledMark}
use Rattle.dq_wheel.specs.State.{Filing, filed_at, unlinked}
use Rattle.dq_core.specs.declared.slots.Held.{Held}
use Rattle.dq_core.specs.Words.{word_at, never, IsInForce, Learned, cancelled}
use Rattle.dq_core.specs.Slots.{Row, SlotRows, unused, row_at, is_held, vacated, vacated_row}
use Rattle.dq_core.specs.Machine.{Entry, TableRow, Machine, Reap, RunOf, Callers, IsCallers, IsReaping, Has, table_at, put}
use Rattle.dq_core.specs.Core.{Core, machine, table_of, entry_of, due_by, IsLawful, IsLawfulCore}
use Rattle.dq_core.specs.TableRows.{machine_of, table_row_of}
use Rattle.dq_core.specs.Calls.{LooksOver, SameCore}
use Rattle.dq_core.specs.Sweeps.{all_unlinked, all_vacated, AreOut, NotCancelled, AreReaped, only_if, IsSwept, Sweeps, SweepsSome}
use Rattle.dq_core.proofs.Slotwise.{held_is, held_inside, count_set, one, one_held}
use Rattle.dq_core.proofs.Law.{Filed, held_filed, law_vacated, force_learned, force_stamp, force_low}
use Rattle.dq_core.proofs.Ways.{run_of_more, run_of_into, run_of_none, run_of_one, callers_reaping, Learning, learning, machine_is, vacated_of, table_row_is, table-le-rows}
use Rattle.dq_core.proofs.Looks.{looks_none, looks_one, looks_more}

-- one list of indexes after another

all_unlinked_more : (w : Filing) (is js : List ℕ) → all_unlinked w (is ++ js) ≡ all_unlinked (all_unlinked w is) js
all_unlinked_more w [] js = refl
all_unlinked_more w (i ∷ is) js = all_unlinked_more (unlinked w i) is js

all_vacated_more : {T : Type 0} (s : SlotRows T) (is js : List ℕ) → all_vacated s (is ++ js) ≡ all_vacated (all_vacated s is) js
all_vacated_more s [] js = refl
all_vacated_more s (i ∷ is) js = all_vacated_more (vacated s i) is js

pub out_more : {T W : Type 0} (a b c : Core T W) (is js : List ℕ) → AreOut a is b → AreOut b js c → AreOut a (is ++ js) c
out_more a b c is js x y =
    let size : length (is ++ js) ≡ length is + length js = length-append is js in
    let u = x.held in
    let v = y.held in
    record {
      filed = y.filed ∙ ap (λ w. all_unlinked w js) x.filed ∙ sym (all_unlinked_more a.wheel.filing is js);
      slots = y.slots ∙ ap (λ s. all_vacated s js) x.slots ∙ sym (all_vacated_more a.slots is js);
      held = omega (arith, size, u, v);
      noted = y.noted ∙ x.noted;
    }

pub out_none : {T W : Type 0} (b c : Core T W) → c.wheel.filing ≡ b.wheel.filing → c.slots ≡ b.slots → c.noted ≡ b.noted → AreOut b [] c
out_none b c ew es en =
    record { filed = ew; slots = es; held = ap (λ s. count_by is_held s.rows + 0) es ∙ omega arith; noted = en }

-- the entry of one held slot leaves
pub out_one : {T W : Type 0} (b c : Core T W) (i : ℕ) (h : Held T) → (row_at b.slots.rows i).held ≡ Some h → c.wheel.filing ≡ unlinked b.wheel.filing i → c.slots ≡ vacated b.slots i → c.noted ≡ b.noted → AreOut b (i ∷ []) c
out_one b c i h held ew es en =
    let r = row_at b.slots.rows i in
    let a = count_set is_held b.slots.rows i (vacated_row r) (held_inside b.slots.rows i h held) in
    let was : one (is_held r) ≡ 1 = one_held r.held h held in
    let now : count_by is_held c.slots.rows ≡ count_by is_held (set b.slots.rows i (vacated_row r)) = ap (λ s. count_by is_held s.rows) es in
    record { filed = ew; slots = es; held = omega (arith, a, was, now); noted = en }

-- a slot that is as it was
pub table_other : {T W : Type 0} (b c : Core T W) (j : ℕ) → length b.known ≡ length b.slots.rows → length c.known ≡ length c.slots.rows → row_at c.slots.rows j ≡ row_at b.slots.rows j → word_at c.known j ≡ word_at b.known j → table_at (machine c) j ≡ table_at (machine b) j
table_other b c j size size' er ek =
    table_row_is c.slots.rows c.known size' j ∙ ap (λ r. table_row_of r (word_at c.known j)) er ∙ ap (λ w. table_row_of (row_at b.slots.rows j) w) ek ∙ sym (table_row_is b.slots.rows b.known size j)

not_none : {A : Type 0} (a : A) → ◌≡◌ {A = Option A} None (Some a) → ⊥
not_none a e = cc

live_due : (w : Parts) → w.mark ≡ LiveMark → due_by w.mark w.field ≡ None → ⊥
live_due w e none = not_none w.field (sym none ∙ ap (λ m. due_by m w.field) e)

entry_live : {T : Type 0} (o : Option (Held T)) (w : Parts) (e : Entry T) → w.mark ≡ LiveMark → entry_of o w ≡ Some e → e.due ≢ None
entry_live None w e alive is = absurd (not_none e is)
entry_live {T} (Some h) w e alive is =
    let x : Entry T = record { born = h.born; value = h.value; due = due_by w.mark w.field } in
    let same : x ≡ e = cc in
    λ none. live_due w alive (ap (λ y. y.due) same ∙ none)

entry_gone : {T : Type 0} (o : Option (Held T)) (w : Parts) (e : Entry T) → o ≡ None → entry_of o w ≡ Some e → ⊥
entry_gone None w e none is = not_none e is
entry_gone (Some h) w e none is = not_none h (sym none)

-- where nothing is held, no entry is cancelled
pub none_here : {T W : Type 0} (c : Core T W) (i : ℕ) → length c.known ≡ length c.slots.rows → (row_at c.slots.rows i).held ≡ None → NotCancelled (machine c) i
none_here c i size none e is =
    absurd (entry_gone (row_at c.slots.rows i).held (word_at c.known i) e none (sym (ap (λ s. s.entry) (table_row_is c.slots.rows c.known size i)) ∙ is))

-- nor where its word is live
pub live_here : {T W : Type 0} (c : Core T W) (i : ℕ) → length c.known ≡ length c.slots.rows → (word_at c.known i).mark ≡ LiveMark → NotCancelled (machine c) i
live_here c i size alive e is =
    entry_live (row_at c.slots.rows i).held (word_at c.known i) e alive (sym (ap (λ s. s.entry) (table_row_is c.slots.rows c.known size i)) ∙ is)

-- a word in force that is seen cancelled, or isn't
as_cancelled : (s f : ℕ) (v : Parts) → IsInForce s f v → v.mark ≡ CancelledMark → v ≡ cancelled s
as_cancelled s f v (pos, inl (is, after, small)) e =
    let mark : v.mark ≡ LiveMark = ap (λ p. p.mark) is in
    absurd (cc)
as_cancelled s f v (pos, inr is) e = is

as_live : (s f : ℕ) (v : Parts) → IsInForce s f v → v.mark ≢ CancelledMark → v.mark ≡ LiveMark
as_live s f v (pos, inl (is, after, small)) ne = ap (λ p. p.mark) is
as_live s f v (pos, inr is) ne = absurd (ne (ap (λ p. p.mark) is))

-- what an entry's leaving is to the machine: after what was learned of its word
pub record IsGone {T W : Type 0} (shared : Bool) (b : Core T W) (i : ℕ) (h : Held T) (v : Parts) (c : Core T W) : Type 0 where
  pub learned : Machine T
  pub callers : Callers shared b.slots.last_stamp (machine b) learned
  pub has : Has learned i (record { born = h.born; value = h.value; due = due_by v.mark v.field })
  pub put : machine c ≡ put learned i (table_at learned i).stamp None

-- what the law says of a slot that is held
pub held_at : {T W : Type 0} (b : Core T W) → IsLawfulCore b → (i : ℕ) → true ≡ is_held (row_at b.slots.rows i) → (f : ℕ) × Filed b.wheel.filing.tick b.slots.last_stamp b.slots.rows b.known b.wheel.filing.filed i f
held_at b l i is = let h = held_is (row_at b.slots.rows i) (sym is) in held_filed l i h.0 (held_inside b.slots.rows i h.0 h.1) h.1

-- one held slot
module _ {T W : Type 0} (shared : Bool) (b c : Core T W) (l : IsLawfulCore b) (i f : ℕ) (at : Filed b.wheel.filing.tick b.slots.last_stamp b.slots.rows b.known b.wheel.filing.filed i f) where
  inside : i < length b.slots.rows
  inside = at.inside

  inside_known : i < length b.known
  inside_known = let size = l.as_known in let here = inside in omega arith

  pub held_stamp : (v : Parts) → Learned shared (word_at b.known i) v → v.stamp ≡ (row_at b.slots.rows i).stamp
  held_stamp v learned = force_stamp (row_at b.slots.rows i).stamp f v (force_learned shared (row_at b.slots.rows i).stamp f (word_at b.known i) v at.in_force learned)

  pub held_live : (v : Parts) → Learned shared (word_at b.known i) v → v.mark ≢ CancelledMark → v.mark ≡ LiveMark
  held_live v learned = as_live (row_at b.slots.rows i).stamp f v (force_learned shared (row_at b.slots.rows i).stamp f (word_at b.known i) v at.in_force learned)

  lea : (v : Parts) → Learned shared (word_at b.known i) v → Learning shared b.slots.last_stamp b.wheel.filing.tick b.noted b.slots.rows b.known i at.held v
  lea v learned = learning shared b.slots.last_stamp b.wheel.filing.tick b.noted b.slots.rows b.known i at.held v l.as_known inside at.is_held at.stamp (held_stamp v learned) learned

  -- its entry leaves, and its word is then w
  pub gone : (v w : Parts) → Learned shared (word_at b.known i) v → c.wheel.filing ≡ unlinked b.wheel.filing i → c.slots ≡ vacated b.slots i → c.known ≡ set b.known i w → c.noted ≡ b.noted → IsGone shared b i at.held v c
  gone v w learned ew es ek en =
      let le = lea v learned in
      let t = b.wheel.filing.tick in
      let m1 = machine_of t b.noted b.slots.rows (set b.known i v) in
      let twice : c.known ≡ set (set b.known i v) i w = ek ∙ sym (set-set b.known i v w) in
      record {
        learned = m1;
        callers = le.way;
        has = le.has;
        put =
            machine_is c t b.noted (set b.slots.rows i (vacated_row (row_at b.slots.rows i))) (set (set b.known i v) i w) (ap (λ x. x.tick) ew) en (ap (λ x. x.rows) es) twice
            ∙ vacated_of t b.noted b.slots.rows (set b.known i v) i w le.sizes;
      }

  -- the sizes afterwards
  sizes : (w : Parts) → c.slots ≡ vacated b.slots i → c.known ≡ set b.known i w → length c.known ≡ length c.slots.rows
  sizes w es ek =
      let a : length c.known ≡ length (set b.known i w) = ap length ek in
      let d : length c.slots.rows ≡ length (set b.slots.rows i (vacated_row (row_at b.slots.rows i))) = ap (λ s. length s.rows) es in
      a ∙ length-set b.known i w ∙ l.as_known ∙ sym (d ∙ length-set b.slots.rows i (vacated_row (row_at b.slots.rows i)))

  pub vacated_here : c.slots ≡ vacated b.slots i → (row_at c.slots.rows i).held ≡ None
  vacated_here es = ap (λ s. (row_at s.rows i).held) es ∙ ap (λ r. r.held) (get_or-set_same b.slots.rows i (vacated_row (row_at b.slots.rows i)) unused inside)

  pub row_other : c.slots ≡ vacated b.slots i → (j : ℕ) → j ≢ i → row_at c.slots.rows j ≡ row_at b.slots.rows j
  row_other es j ne = ap (λ s. row_at s.rows j) es ∙ get_or-set_other b.slots.rows i j (vacated_row (row_at b.slots.rows i)) unused ne

  pub word_other : (w : Parts) → c.known ≡ set b.known i w → (j : ℕ) → j ≢ i → word_at c.known j ≡ word_at b.known j
  word_other w ek j ne = ap (λ ws. word_at ws j) ek ∙ get_or-set_other b.known i j w never ne

  -- it is found cancelled, and reaped
  pub swept_reaped : (v : Parts) → Learned shared (word_at b.known i) v → v.mark ≡ CancelledMark → c.wheel.filing ≡ unlinked b.wheel.filing i → c.slots ≡ vacated b.slots i → c.known ≡ set b.known i v → c.counts ≡ b.counts → c.noted ≡ b.noted → IsSwept shared b i true c
  swept_reaped v learned mark ew es ek ec en =
      let g = gone v v learned ew es ek en in
      let none : due_by v.mark v.field ≡ None = ap (λ m. due_by m v.field) mark in
      let reap : RunOf (IsReaping shared) b.slots.last_stamp g.learned (machine c) =
      run_of_one (IsReaping shared) b.slots.last_stamp g.learned (machine c) (Reap i at.held.born) tt (record { born = at.held.born; value = at.held.value; due = due_by v.mark v.field }, g.has, refl, none, g.put) in
      let Q : List Parts → Type 0 = λ ws. LooksOver shared b.known ws in
      record {
        reaped = record {
          run = run_of_more (IsReaping shared) b.slots.last_stamp (machine b) g.learned (machine c) (run_of_into (IsCallers shared) (IsReaping shared) (callers_reaping shared) b.slots.last_stamp (machine b) g.learned g.callers) reap;
          out = out_one b c i at.held at.is_held ew es en;
          looks = subst Q (sym ek) (looks_one shared b.known i v inside_known learned);
          counts = ec;
        };
        here = none_here c i (sizes v es ek) (vacated_here es);
        other = λ j ne. table_other b c j l.as_known (sizes v es ek) (row_other es j ne) (word_other v ek j ne);
      }

  pub reaped_lawful : (v : Parts) → Learned shared (word_at b.known i) v → v.mark ≡ CancelledMark → c.wheel.filing ≡ unlinked b.wheel.filing i → c.slots ≡ vacated b.slots i → c.known ≡ set b.known i v → c.counts ≡ b.counts → IsLawful b.noted c.wheel.filing c.slots c.known c.counts
  reaped_lawful v learned mark ew es ek ec =
      let begins : c.counts.begins ≡ b.counts.begins = ap (λ n. n.begins) ec in
      let expiries : c.counts.expiries ≡ b.counts.expiries = ap (λ n. n.expiries) ec in
      let removals : c.counts.removals ≡ b.counts.removals = ap (λ n. n.removals) ec in
      law_vacated l i f v at ew es ek (held_stamp v learned) (λ e. cc) (λ e. absurd (cc)) begins (omega (arith, expiries, removals))

  -- it is found live, and stays
  pub swept_live : (v : Parts) → Learned shared (word_at b.known i) v → v.mark ≢ CancelledMark → c.wheel.filing ≡ b.wheel.filing → c.slots ≡ b.slots → c.known ≡ set b.known i v → c.counts ≡ b.counts → c.noted ≡ b.noted → IsSwept shared b i false c
  swept_live v learned mark ew es ek ec en =
      let le = lea v learned in
      let t = b.wheel.filing.tick in
      let mc : machine c ≡ machine_of t b.noted b.slots.rows (set b.known i v) = machine_is c t b.noted b.slots.rows (set b.known i v) (ap (λ x. x.tick) ew) en (ap (λ x. x.rows) es) ek in
      let P : Machine T → Type 0 = λ m. Callers shared b.slots.last_stamp (machine b) m in
      let Q : List Parts → Type 0 = λ ws. LooksOver shared b.known ws in
      let size : length c.known ≡ length c.slots.rows = ap length ek ∙ length-set b.known i v ∙ l.as_known ∙ sym (ap (λ s. length s.rows) es) in
      let here : word_at c.known i ≡ v = ap (λ ws. word_at ws i) ek ∙ get_or-set_same b.known i v never inside_known in
      record {
        reaped = record {
          run = run_of_into (IsCallers shared) (IsReaping shared) (callers_reaping shared) b.slots.last_stamp (machine b) (machine c) (subst P (sym mc) le.way);
          out = out_none b c ew es en;
          looks = subst Q (sym ek) (looks_one shared b.known i v inside_known learned);
          counts = ec;
        };
        here = live_here c i size (ap (λ p. p.mark) here ∙ held_live v learned mark);
        other = λ j ne. table_other b c j l.as_known size (ap (λ s. row_at s.rows j) es) (word_other v ek j ne);
      }

none_by : {A : Type 0} (o : Option A) → false ≡ is_some o → o ≡ None
none_by None e = refl
none_by (Some x) e = absurd (false≢true e)

-- a slot where nothing is held
pub not_held : {T : Type 0} (r : Row T) → false ≡ is_held r → r.held ≡ None
not_held r e = none_by r.held e

pub swept_none : {T W : Type 0} (shared : Bool) (b : Core T W) (i : ℕ) → IsLawfulCore b → false ≡ is_held (row_at b.slots.rows i) → IsSwept shared b i false b
swept_none shared b i l is =
    record {
      reaped = record {
        run = run_of_none (IsReaping shared) b.slots.last_stamp (machine b) (machine b) refl;
        out = out_none b b refl refl refl;
        looks = looks_none shared b.known;
        counts = refl;
      };
      here = none_here b i l.as_known (not_held (row_at b.slots.rows i) is);
      other = λ j ne. refl;
    }

-- one reaping after another
reaped_more : {T W : Type 0} (shared : Bool) (a b c : Core T W) (is js : List ℕ) → SameCore a b → AreReaped shared a is b → AreReaped shared b js c → AreReaped shared a (is ++ js) c
reaped_more shared a b c is js same x y =
    let P : ℕ → Type 0 = λ n. RunOf (IsReaping shared) n (machine b) (machine c) in
    record {
      run = run_of_more (IsReaping shared) a.slots.last_stamp (machine a) (machine b) (machine c) x.run (subst P same.1 y.run);
      out = out_more a b c is js x.out y.out;
      looks = looks_more shared a.known b.known c.known x.looks y.looks;
      counts = y.counts ∙ x.counts;
    }

pub same_more : {T W : Type 0} (a b c : Core T W) → SameCore a b → SameCore b c → SameCore a c
same_more a b c x y = (y.0 ∙ x.0, y.1 ∙ x.1, y.2 ∙ x.2)

-- a sweep that has come from one slot to slot i, and has reaped n entries
pub record IsSweeping {T W : Type 0} (shared : Bool) (b : Core T W) (from i n : ℕ) (c : Core T W) : Type 0 where
  pub same : SameCore b c
  pub few : n + from ≤ i
  pub reaped : (is : List ℕ) × (length is ≡ n) × AreReaped shared b is c
  pub none : (j : ℕ) → from ≤ j → j < i → NotCancelled (machine c) j
  pub other : (j : ℕ) → (j < from) ⊎ (i ≤ j) → table_at (machine c) j ≡ table_at (machine b) j

pub sweeping_from : {T W : Type 0} (shared : Bool) (b : Core T W) (from : ℕ) → IsSweeping shared b from from 0 b
sweeping_from shared b from =
    record {
      same = (refl, refl, refl);
      few = omega arith;
      reaped = (
        [],
        refl,
        record {
          run = run_of_none (IsReaping shared) b.slots.last_stamp (machine b) (machine b) refl;
          out = out_none b b refl refl refl;
          looks = looks_none shared b.known;
          counts = refl;
        },
      );
      none = λ j past less. absurd (omega arith);
      other = λ j out. refl;
    }

length_only : (r : Bool) (i : ℕ) → length (only_if r i) ≡ cond r 1 0
length_only true i = refl
length_only false i = refl

pub sweeping_on : {T W : Type 0} (shared : Bool) (b cur c : Core T W) (from i n m : ℕ) (r : Bool) → IsSweeping shared b from i n cur → SameCore cur c → IsSwept shared cur i r c → m ≡ n + cond r 1 0 → m + from ≤ i + 1 → IsSweeping shared b from (i + 1) m c
sweeping_on {T} shared b cur c from i n m r to same swept em few =
    let was_few : n + from ≤ i = to.few in
    let is = to.reaped.0 in
    let js = only_if r i in
    let size : length (is ++ js) ≡ length is + length js = length-append is js in
    let size' = length_only r i in
    let was = to.reaped.1 in
    record {
      same = same_more b cur c to.same same;
      few = few;
      reaped = (is ++ js, omega (arith, size, size', was, em), reaped_more shared b cur c is js to.same to.reaped.2 swept.reaped);
      none = λ j past less.
          elim (cases_eq j i) [
            | inl eq ↦ let P : ℕ → Type 0 = λ k. NotCancelled (machine c) k in subst P (sym eq) swept.here
            | inr ne ↦
                let P : TableRow T → Type 0 = λ s. (e : Entry T) → s.entry ≡ Some e → e.due ≢ None in
                subst P (sym (swept.other j ne)) (to.none j past (omega arith))
          ];
      other = λ j out.
          elim out [
            | inl low ↦ swept.other j (λ e. omega arith) ∙ to.other j (inl low)
            | inr high ↦ swept.other j (λ e. omega arith) ∙ to.other j (inr (omega arith))
          ];
    }

pub past_table : {T W : Type 0} (c : Core T W) (j : ℕ) → length c.slots.rows ≤ j → (table_at (machine c) j).entry ≡ None
past_table c j past =
    let short = table-le-rows c.slots.rows c.known in
    ap (λ s. s.entry) (get_or_past (table_of c.slots.rows c.known) j (record { stamp = 0; entry = None }) (omega (arith, short)))

pub sweeping_ends : {T W : Type 0} (shared : Bool) (b c : Core T W) (i n : ℕ) → IsSweeping shared b 0 i n c → length b.slots.rows ≤ i → Sweeps shared b n c
sweeping_ends shared b c i n to past =
    record {
      reaped = to.reaped;
      none = λ j e is.
          elim (cases_lt j i) [
            | inl less ↦ to.none j (omega arith) less e is
            | inr more ↦
                let size = to.same.2 in
                absurd (not_none e (sym (past_table c j (omega arith)) ∙ is))
          ];
    }

-- a sweep of some slots, at its end
pub some_swept : {T W : Type 0} (shared : Bool) (b c : Core T W) (from count first upto i n : ℕ) → IsSweeping shared b first i n c →
    first ≡ min from (length b.slots.rows) → upto ≡ first + min count (length b.slots.rows - first) → upto ≤ i → i ≤ upto →
    SweepsSome shared b from (from + count) n c
some_swept shared b c from count first upto i n to first_is upto_is past within =
    record {
      reaped = to.reaped;
      none = λ j from_in below.
          elim (cases_lt j i) [
            | inl less ↦ to.none j (omega arith) less
            | inr more ↦ λ e is.
                let size = to.same.2 in
                absurd (not_none e (sym (past_table c j (omega arith)) ∙ is))
          ];
      other = λ j out.
          elim (cases_lt j first) [
            | inl low ↦ to.other j (inl low)
            | inr high ↦ to.other j (inr (elim out [ inl under ↦ omega arith | inr over ↦ omega arith ]))
          ];
    }

-- where a sweep of some slots goes on
pub next_is : (from count cap first upto : ℕ) → first ≡ min from cap → upto ≡ first + min count (cap - first) →
    (if nat_lt upto cap then Some upto else None) ≡ (if nat_lt (from + count) cap then Some (from + count) else None)
next_is from count cap first upto first_is upto_is =
    elim (cases_lt upto cap) [
      | inl less ↦ let same : upto ≡ from + count = omega arith in rw same refl
      | inr more ↦ let past : cap ≤ from + count = omega arith in grind (arith, nat_tests)
    ]
