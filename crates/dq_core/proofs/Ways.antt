-- The machine that a queue is, and runs of it.
use Rattle.std.proofs.Common.{◌≡◌, ℕ, ◌+◌, ◌<◌, ◌≤◌, max, zero, suc, Bool, true, false, List, [], ◌∷◌, ◌++◌, length, get_or, set, Option, Some, None, refl, sym, ap, ◌∙◌, subst, inl, inr, ◌⊎◌, arith, filter}
use Rattle.std.specs.List.{AllByRecursion}
use Rattle.std.proofs.lemmas.List.{length-set, get_or-set_same, get_or_past, set-get_or}
use Rattle.std.proofs.lemmas.Bool.{cases_lt, lt-leb, false≢true}
use Rattle.dq_ticks.specs.declared.words.Parts.{Parts}
use Rattle.dq_ticks.specs.declared.words.Mark.TheVariants.{LiveMark}
use Rattle.dq_wheel.specs.State.{WheelState, filed_at}
use Rattle.dq_core.specs.declared.slots.Held.{Held}
use Rattle.dq_core.specs.Words.{Counts, word_at, never, Learned, live, cancelled}
use Rattle.dq_core.specs.Slots.{Row, SlotState, shown, unused, row_at, vacated_row, raised_row}
use Rattle.dq_core.specs.Machine.{Entry, TableRow, Machine, Event, Note, Pass, Insert, Reset, Extend, Cancel, Remove, Reap, Expire, table_at, put, Has, NoneLiveBefore, with_due, Step, Run, RunOf, IsCallers, IsOnTheWay, IsReaping, IsClearing, Callers, due, is_due_entry, is_due_by, OwnEventsAlone}
use Rattle.dq_core.specs.Core.{Core, due_by, entry_of, table_of, machine, IsPlaced, AreSlots}
use Rattle.dq_core.specs.TableRows.{table_row_of, machine_of}

pub length-table : {T : Type 0} (rows : List (Row T)) (known : List Parts) → length known ≡ length rows → length (table_of rows known) ≡ length rows
length-table [] ws e = refl
length-table (r ∷ rs) [] e = absurd (omega arith)
length-table (r ∷ rs) (w ∷ ws) e = ap suc (length-table rs ws (omega arith))

pub table-le-rows : {T : Type 0} (rows : List (Row T)) (known : List Parts) → length (table_of rows known) ≤ length rows
table-le-rows [] ws = omega arith
table-le-rows (r ∷ rs) [] = omega arith
table-le-rows (r ∷ rs) (w ∷ ws) = let h = table-le-rows rs ws in omega (arith, h)

-- the machine's slot is made of what is held there and of the known word, past the row's end too
pub table_row_is : {T : Type 0} (rows : List (Row T)) (known : List Parts) → length known ≡ length rows → (i : ℕ) → get_or (table_of rows known) i (record { stamp = 0; entry = None }) ≡ table_row_of (row_at rows i) (word_at known i)
table_row_is [] [] e i = refl
table_row_is [] (w ∷ ws) e i = absurd (omega arith)
table_row_is (r ∷ rs) [] e i = absurd (omega arith)
table_row_is (r ∷ rs) (w ∷ ws) e zero = refl
table_row_is (r ∷ rs) (w ∷ ws) e (suc i) = table_row_is rs ws (omega arith) i

pub table_set : {T : Type 0} (rows : List (Row T)) (known : List Parts) (i : ℕ) (r : Row T) (w : Parts) → table_of (set rows i r) (set known i w) ≡ set (table_of rows known) i (table_row_of r w)
table_set [] ws i r w = refl
table_set (x ∷ rs) [] zero r w = refl
table_set (x ∷ rs) [] (suc i) r w = refl
table_set (x ∷ rs) (y ∷ ws) zero r w = refl
table_set (x ∷ rs) (y ∷ ws) (suc i) r w = ap (λ s. table_row_of x y ∷ s) (table_set rs ws i r w)

pub table_set_known : {T : Type 0} (rows : List (Row T)) (known : List Parts) (i : ℕ) (w : Parts) → table_of rows (set known i w) ≡ set (table_of rows known) i (table_row_of (row_at rows i) w)
table_set_known rows known i w = ap (λ rs. table_of rs (set known i w)) (sym (set-get_or rows i unused)) ∙ table_set rows known i (row_at rows i) w

-- the slots of a learned word
pub run_more : {T : Type 0} (last : ℕ) (m k n : Machine T) (es fs : List (Event T)) → Run last m es k → Run last k fs n → Run last m (es ++ fs) n
run_more {T} last m k n [] fs a b = let P : Machine T → Type 0 = λ x. Run last x fs n in subst P a b
run_more last m k n (e ∷ es) fs a b = (a.0, a.1, run_more last a.0 k n es fs a.2 b)

pub all_more : {A : Type 0} (P : A → Type 0) (es fs : List A) → AllByRecursion P es → AllByRecursion P fs → AllByRecursion P (es ++ fs)
all_more P [] fs a b = b
all_more P (e ∷ es) fs a b = (a.0, all_more P es fs a.1 b)

pub all_into : {A : Type 0} (P Q : A → Type 0) → ((a : A) → P a → Q a) → (es : List A) → AllByRecursion P es → AllByRecursion Q es
all_into P Q f [] a = tt
all_into P Q f (e ∷ es) a = (f e a.0, all_into P Q f es a.1)

pub run_of_more : {T : Type 0} (P : Event T → Type 0) (last : ℕ) (m k n : Machine T) → RunOf P last m k → RunOf P last k n → RunOf P last m n
run_of_more P last m k n a b = (a.0 ++ b.0, all_more P a.0 b.0 a.1 b.1, run_more last m k n a.0 b.0 a.2 b.2)

pub run_of_into : {T : Type 0} (P Q : Event T → Type 0) → ((e : Event T) → P e → Q e) → (last : ℕ) (m n : Machine T) → RunOf P last m n → RunOf Q last m n
run_of_into P Q f last m n a = (a.0, all_into P Q f a.0 a.1, a.2)

pub run_of_none : {T : Type 0} (P : Event T → Type 0) (last : ℕ) (m n : Machine T) → n ≡ m → RunOf P last m n
run_of_none P last m n e = ([], tt, e)

-- a run of one event
pub run_of_one : {T : Type 0} (P : Event T → Type 0) (last : ℕ) (m n : Machine T) (e : Event T) → P e → Step last m e n → RunOf P last m n
run_of_one P last m n e p s = (e ∷ [], (p, tt), (n, s, refl))

-- A step of a caller is an extend or a cancel: what holds of both holds of it. The events are gone
-- through here alone.
pub of_callers : {T : Type 0} (shared : Bool) (P : Event T → Type 0) → (shared ≡ true → (i s when : ℕ) → P (Extend i s when)) → (shared ≡ true → (i s : ℕ) → P (Cancel i s)) → (e : Event T) → IsCallers shared e → P e
of_callers shared P extends cancels (Note t) h = absurd h
of_callers shared P extends cancels (Pass t) h = absurd h
of_callers shared P extends cancels (Insert i v w) h = absurd h
of_callers shared P extends cancels (Reset i b w) h = absurd h
of_callers shared P extends cancels (Extend i s w) h = extends h i s w
of_callers shared P extends cancels (Cancel i s) h = cancels h i s
of_callers shared P extends cancels (Remove i b) h = absurd h
of_callers shared P extends cancels (Reap i b) h = absurd h
of_callers shared P extends cancels (Expire i b a) h = absurd h

pub callers_on_the_way : {T : Type 0} (shared : Bool) (e : Event T) → IsCallers shared e → IsOnTheWay shared e
callers_on_the_way shared e h = of_callers shared (IsOnTheWay shared) (λ open_ i s w. open_) (λ open_ i s. open_) e h

pub callers_reaping : {T : Type 0} (shared : Bool) (e : Event T) → IsCallers shared e → IsReaping shared e
callers_reaping shared e h = of_callers shared (IsReaping shared) (λ open_ i s w. open_) (λ open_ i s. open_) e h

pub callers_clearing : {T : Type 0} (shared : Bool) (e : Event T) → IsCallers shared e → IsClearing shared e
callers_clearing shared e h = of_callers shared (IsClearing shared) (λ open_ i s w. open_) (λ open_ i s. open_) e h

no_caller : {T : Type 0} (e : Event T) → IsCallers false e → ⊥
no_caller e h = of_callers false (λ _. ⊥) (λ open_ i s w. false≢true open_) (λ open_ i s. false≢true open_) e h

-- where nobody shares the words, no step of a caller comes between
no_callers : {T : Type 0} (last : ℕ) (m n : Machine T) (es : List (Event T)) → AllByRecursion (IsCallers false) es → Run last m es n → n ≡ m
no_callers last m n [] a r = r
no_callers last m n (e ∷ es) a r = absurd (no_caller e a.0)

pub own_events_alone : (T : Type 0) → OwnEventsAlone false T
own_events_alone T = (no_caller, λ last m n r. no_callers last m n r.0 r.1 r.2)

-- what the keeper learns of one slot's word is an event of a caller, or none
module _ {T : Type 0} (shared : Bool) (last tick noted : ℕ) (rows : List (Row T)) (known : List Parts) (sizes : length known ≡ length rows) (i : ℕ) (inside : i < length rows) (h : Held T) (held : (row_at rows i).held ≡ Some h) (stamp : (word_at known i).stamp ≡ (row_at rows i).stamp) where
  -- the slot of a held entry by some word
  held_row : (w : Parts) → table_row_of (row_at rows i) w ≡ record { stamp = (row_at rows i).stamp; entry = Some (record { born = h.born; value = h.value; due = due_by w.mark w.field }) }
  held_row w = ap (λ o. let s : TableRow T = record { stamp = (row_at rows i).stamp; entry = entry_of o w } in s) held

  pub has_row : table_at (machine_of tick noted rows known) i ≡ record { stamp = (row_at rows i).stamp; entry = Some (record { born = h.born; value = h.value; due = due_by (word_at known i).mark (word_at known i).field }) }
  has_row = table_row_is rows known sizes i ∙ held_row (word_at known i)

  pub has : Has (machine_of tick noted rows known) i (record { born = h.born; value = h.value; due = due_by (word_at known i).mark (word_at known i).field })
  has = (omega (arith, length-table rows known sizes), ap (λ s. s.entry) has_row)

  pub has_stamp : (table_at (machine_of tick noted rows known) i).stamp ≡ (row_at rows i).stamp
  has_stamp = ap (λ s. s.stamp) has_row

  -- the machine with another word there
  pub with_word : (v : Parts) → machine_of tick noted rows (set known i v) ≡ put (machine_of tick noted rows known) i (row_at rows i).stamp (Some (record { born = h.born; value = h.value; due = due_by v.mark v.field }))
  with_word v = ap (λ s. let m : Machine T = record { tick = tick; noted = noted; table = s } in m) (table_set_known rows known i v ∙ ap (λ s. set (table_of rows known) i s) (held_row v))

  pub live_due : (word_at known i).mark ≡ LiveMark → due_by (word_at known i).mark (word_at known i).field ≡ Some (word_at known i).field
  live_due e = ap (λ m. due_by m (word_at known i).field) e

  pub learned_way : (v : Parts) → Learned shared (word_at known i) v → Callers shared last (machine_of tick noted rows known) (machine_of tick noted rows (set known i v))
  learned_way v (inl same) =
      run_of_none (IsCallers shared) last (machine_of tick noted rows known) (machine_of tick noted rows (set known i v))
      (ap (λ ws. machine_of tick noted rows ws) (ap (λ x. set known i x) same ∙ set-get_or known i never))
  learned_way v (inr (open_, alive, inl (is, more, small))) =
      let e : Entry T = record { born = h.born; value = h.value; due = due_by (word_at known i).mark (word_at known i).field } in
      let d = (word_at known i).field in
      let top : max v.field d ≡ v.field = omega (arith, more) in
      let marks : v.mark ≡ LiveMark = ap (λ p. p.mark) is in
      let dues : due_by v.mark v.field ≡ Some (max v.field d) = ap (λ m. due_by m v.field) marks ∙ ap (λ x. Some x) (sym top) in
      run_of_one (IsCallers shared) last (machine_of tick noted rows known) (machine_of tick noted rows (set known i v)) (Extend i (row_at rows i).stamp v.field) open_
      (e, d, has, has_stamp, live_due alive, with_word v ∙ ap (λ o. put (machine_of tick noted rows known) i (row_at rows i).stamp (with_due e o)) dues)
  learned_way v (inr (open_, alive, inr is)) =
      let e : Entry T = record { born = h.born; value = h.value; due = due_by (word_at known i).mark (word_at known i).field } in
      let dues : due_by v.mark v.field ≡ None = ap (λ p. due_by p.mark p.field) is in
      run_of_one (IsCallers shared) last (machine_of tick noted rows known) (machine_of tick noted rows (set known i v)) (Cancel i (row_at rows i).stamp) open_
      (e, (word_at known i).field, has, has_stamp, live_due alive, with_word v ∙ ap (λ o. put (machine_of tick noted rows known) i (row_at rows i).stamp (with_due e o)) dues)

some_none : (d : ℕ) → ◌≡◌ {A = Option ℕ} None (Some d) → ⊥
some_none d e = cc

none_some : {T : Type 0} (e : Entry T) → ◌≡◌ {A = Option (Entry T)} None (Some e) → ⊥
none_some e h = cc

due_of : {T : Type 0} (x e : Entry T) (d : ℕ) → ◌≡◌ {A = Option (Entry T)} (Some x) (Some e) → e.due ≡ Some d → x.due ≡ Some d
due_of x e d is at = let same : x ≡ e = cc in ap (λ y. y.due) same ∙ at

not_due_by : (t : ℕ) (o : Option ℕ) → ((d : ℕ) → o ≡ Some d → t + 1 ≤ d) → is_due_by t o ≡ false
not_due_by t None h = refl
not_due_by t (Some d) h = let later = h d refl in lt-leb d t (omega (arith, later))

-- the deadline of a word in force that is live
late_by : (w : Parts) (stamp f d t : ℕ) → ((w ≡ live stamp w.field) × (f ≤ w.field) × (w.field ≤ 4398046511103)) ⊎ (w ≡ cancelled stamp) → t ≤ f → due_by w.mark w.field ≡ Some d → t ≤ d
late_by w stamp f d t (inl (is, after, small)) below dues =
    let marks : w.mark ≡ LiveMark = ap (λ p. p.mark) is in
    let same : Some w.field ≡ Some d = sym (ap (λ m. due_by m w.field) marks) ∙ dues in
    let eq : w.field ≡ d = cc in
    omega (arith, after, below, eq)
late_by w stamp f d t (inr is) below dues =
    let gone : due_by w.mark w.field ≡ None = ap (λ p. due_by p.mark p.field) is in
    absurd (some_none d (sym gone ∙ dues))

-- a linked entry that is live is so no earlier than it is filed
entry_late : {T : Type 0} (tick noted stamp t : ℕ) (o : Option (Held T)) (w : Parts) (ff : Option ℕ) (e : Entry T) (d : ℕ) → IsPlaced tick noted stamp o w ff → ((f : ℕ) → ff ≡ Some f → t ≤ f) → entry_of o w ≡ Some e → e.due ≡ Some d → t ≤ d
entry_late tick noted stamp t None w ff e d p late is at = absurd (none_some e is)
entry_late tick noted stamp t (Some h) w None e d p late is at = absurd p
entry_late {T} tick noted stamp t (Some h) w (Some f) e d p late is at =
    let below : t ≤ f = late f refl in
    let dues : due_by w.mark w.field ≡ Some d = due_of (record { born = h.born; value = h.value; due = due_by w.mark w.field }) e d is at in
    late_by w stamp f d t p.0.1 below dues

pub none_before : {T : Type 0} (tick noted last t : ℕ) (rows : List (Row T)) (known : List Parts) (filed : List (Option ℕ)) → length known ≡ length rows → AreSlots tick noted last rows known filed → ((i f : ℕ) → get_or filed i None ≡ Some f → t ≤ f) → NoneLiveBefore (machine_of tick noted rows known) t
none_before tick noted last t rows known filed sizes slots late i e d is at =
    elim (cases_lt i (length rows)) [
      | inl inside ↦
          entry_late tick noted (row_at rows i).stamp t (row_at rows i).held (word_at known i) (filed_at filed i) e d (slots i inside).placed (λ f eq. late i f eq)
          (sym (ap (λ s. s.entry) (table_row_is rows known sizes i)) ∙ is) at
      | inr past ↦
          let short = table-le-rows rows known in
          let gone : get_or (table_of rows known) i (record { stamp = 0; entry = None }) ≡ record { stamp = 0; entry = None } = get_or_past (table_of rows known) i (record { stamp = 0; entry = None }) (omega (arith, short)) in
          absurd (none_some e (sym (ap (λ s. s.entry) gone) ∙ is))
    ]

-- the due filter is empty where no live entry has a deadline that is at most t
not_due : {T : Type 0} (t : ℕ) (o : Option (Entry T)) → ((e : Entry T) (d : ℕ) → o ≡ Some e → e.due ≡ Some d → t + 1 ≤ d) → is_due_entry t o ≡ false
not_due t None h = refl
not_due t (Some e) h = not_due_by t e.due (λ d eq. h e d refl eq)

filter_none : {A : Type 0} (p : A → Bool) (d : A) (xs : List A) → ((i : ℕ) → i < length xs → p (get_or xs i d) ≡ false) → filter p xs ≡ []
filter_none p d [] h = refl
filter_none p d (x ∷ xs) h =
    let here : p x ≡ false = h 0 (omega arith) in
    rw here (filter_none p d xs (λ i inside. h (suc i) (omega arith)))

pub none_due : {T : Type 0} (m : Machine T) (t : ℕ) → NoneLiveBefore m (t + 1) → due m t ≡ []
none_due {T} m t h = filter_none (λ s. is_due_entry t s.entry) (record { stamp = 0; entry = None }) m.table (λ i inside. not_due t (table_at m i).entry (λ e d is at. h i e d is at))

-- what is left of a slot's entry in the machine, once its slot is vacated
pub vacated_of : {T : Type 0} (tick noted : ℕ) (rows : List (Row T)) (known : List Parts) (i : ℕ) (v : Parts) → length known ≡ length rows → machine_of tick noted (set rows i (vacated_row (row_at rows i))) (set known i v) ≡ put (machine_of tick noted rows known) i (table_at (machine_of tick noted rows known) i).stamp None
vacated_of {T} tick noted rows known i v sizes =
    let at : (table_at (machine_of tick noted rows known) i).stamp ≡ (row_at rows i).stamp = ap (λ s. s.stamp) (table_row_is rows known sizes i) in
    ap (λ ss. let m : Machine T = record { tick = tick; noted = noted; table = ss } in m) (table_set rows known i (vacated_row (row_at rows i)) v)
    ∙ ap (λ n. put (machine_of tick noted rows known) i n None) (sym at)

-- what is left where its slot gets the next stamp and its word is live anew
pub raised_of : {T : Type 0} (tick noted : ℕ) (rows : List (Row T)) (known : List Parts) (i d : ℕ) (h : Held T) → length known ≡ length rows → (row_at rows i).held ≡ Some h → machine_of tick noted (set rows i (raised_row (row_at rows i))) (set known i (live ((row_at rows i).stamp + 1) d)) ≡ put (machine_of tick noted rows known) i ((table_at (machine_of tick noted rows known) i).stamp + 1) (Some (record { born = h.born; value = h.value; due = Some d }))
raised_of {T} tick noted rows known i d h sizes held =
    let at : (table_at (machine_of tick noted rows known) i).stamp ≡ (row_at rows i).stamp = ap (λ s. s.stamp) (table_row_is rows known sizes i) in
    let w = live ((row_at rows i).stamp + 1) d in
    let slot : table_row_of (raised_row (row_at rows i)) w ≡ record { stamp = (row_at rows i).stamp + 1; entry = Some (record { born = h.born; value = h.value; due = Some d }) } =
    ap (λ o. let s : TableRow T = record { stamp = (row_at rows i).stamp + 1; entry = entry_of o w } in s) held in
    ap (λ ss. let m : Machine T = record { tick = tick; noted = noted; table = ss } in m) (table_set rows known i (raised_row (row_at rows i)) w ∙ ap (λ s. set (table_of rows known) i s) slot)
    ∙ ap (λ n. put (machine_of tick noted rows known) i (n + 1) (Some (record { born = h.born; value = h.value; due = Some d }))) (sym at)

-- the machine once the keeper learned more of a held slot's word
pub record Learning {T : Type 0} (shared : Bool) (last tick noted : ℕ) (rows : List (Row T)) (known : List Parts) (i : ℕ) (h : Held T) (v : Parts) : Type 0 where
  pub way : Callers shared last (machine_of tick noted rows known) (machine_of tick noted rows (set known i v))
  pub has : Has (machine_of tick noted rows (set known i v)) i (record { born = h.born; value = h.value; due = due_by v.mark v.field })
  pub stamp : (table_at (machine_of tick noted rows (set known i v)) i).stamp ≡ (row_at rows i).stamp
  pub sizes : length (set known i v) ≡ length rows

pub learning : {T : Type 0} (shared : Bool) (last tick noted : ℕ) (rows : List (Row T)) (known : List Parts) (i : ℕ) (h : Held T) (v : Parts) → length known ≡ length rows → i < length rows → (row_at rows i).held ≡ Some h → (word_at known i).stamp ≡ (row_at rows i).stamp → v.stamp ≡ (row_at rows i).stamp → Learned shared (word_at known i) v → Learning shared last tick noted rows known i h v
learning {T} shared last tick noted rows known i h v sizes inside held stamp stamp' learned =
    let more : length (set known i v) ≡ length rows = length-set known i v ∙ sizes in
    let within : i < length known = omega arith in
    let here : word_at (set known i v) i ≡ v = get_or-set_same known i v never within in
    let at : (word_at (set known i v) i).stamp ≡ (row_at rows i).stamp = ap (λ p. p.stamp) here ∙ stamp' in
    let P : Parts → Type 0 = λ p. Has (machine_of tick noted rows (set known i v)) i (record { born = h.born; value = h.value; due = due_by p.mark p.field }) in
    record {
      way = learned_way shared last tick noted rows known sizes i inside h held stamp v learned;
      has = subst P here (has shared last tick noted rows (set known i v) more i inside h held at);
      stamp = has_stamp shared last tick noted rows (set known i v) more i inside h held at;
      sizes = more;
    }

-- a queue's machine, by what is the same of it
pub machine_is : {T W : Type 0} (c : Core T W) (tick noted : ℕ) (rows : List (Row T)) (known : List Parts) → c.wheel.filing.tick ≡ tick → c.noted ≡ noted → c.slots.rows ≡ rows → c.known ≡ known → machine c ≡ machine_of tick noted rows known
machine_is {T} {W} c tick noted rows known et en er ek =
    ap (λ t. machine_of t c.noted c.slots.rows c.known) et
    ∙ ap (λ n. machine_of tick n c.slots.rows c.known) en
    ∙ ap (λ r. machine_of tick noted r c.known) er
    ∙ ap (λ k. machine_of tick noted rows k) ek

-- a queue of its parts
abbrev pub core_of : {T W : Type 0} → ℕ → ℕ → WheelState → SlotState T → List Parts → Counts → W → Core T W
core_of shard noted wheel slots known counts words = record { shard = shard; noted = noted; wheel = wheel; slots = shown slots; deferred = slots.deferred; known = known; counts = counts; words = words }
