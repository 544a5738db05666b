-- What stays of the law and of the machine where a queue is folded, and where it is unfolded.
use Rattle.std.proofs.Common.{◌≡◌, ◌≢◌, ℕ, ◌+◌, ◌<◌, ◌≤◌, ◌++◌, max, zero, suc, Bool, false, cond, List, [], ◌∷◌, map, length, get_or, set, replicate, Option, None, Some, is_some, refl, sym, ap, ◌∙◌, subst, ⊎_elim, arith}
use Rattle.std.specs.List.{count_by, sum_by}
use Rattle.std.proofs.lemmas.List.{length_push, get_or_push, get_or_append_left, get_or-replicate, length-replicate, set-get_or, length-map}
use Rattle.std.proofs.lemmas.List.Sums.{sum_by-cons, sum_by_push}
use Rattle.std.proofs.lemmas.List.Elements.{All-from_get_or}
use Rattle.std.proofs.lemmas.Bool.{cases_eq, cases_lt, lt-ltb, le-ltb}
use Rattle.dq_ticks.specs.declared.words.Parts.{Parts}
use Rattle.dq_ticks.specs.declared.words.Mark.TheVariants.{ExpiredMark}
use Rattle.dq_ticks.specs.declared.TheConstants.{CAPACITY_LIMIT, LAST_STAMP}
use Rattle.dq_wheel.specs.State.{Filing, filed_at}
use Rattle.dq_core.specs.declared.slots.Held.{Held}
use Rattle.dq_core.specs.Words.{Counts, word_at, never, IsOver, Learned}
use Rattle.dq_core.specs.Slots.{Row, SlotRows, unused, row_at, is_held, is_free, is_worn, IsRow}
use Rattle.dq_core.specs.FreeSlots.{FreeIndexes, free_times, room_of, GivesBack}
use Rattle.dq_core.specs.Deferred.{Deferred, deferred_at}
use Rattle.dq_core.specs.SlotRowsKept.{is_open, IsSlotRowsKept}
use Rattle.dq_core.specs.Cells.{CellRow, rows_of, empty_cell}
use Rattle.dq_core.specs.Machine.{TableRow, Machine, NoneLiveBefore}
use Rattle.dq_core.specs.Core.{table_of, IsPlaced, IsLawful}
use Rattle.dq_core.specs.Folds.{FoldedCore, folded_machine, at_tick, ComesTo, AreOver, AreVacant, IsFolded, is_worn_word}
use Rattle.dq_core.proofs.Renewing.{none_held_at}
use Rattle.std.proofs.lemmas.List.{map-append}

abbrev one : Bool → ℕ
one b = cond b 1 0

-- a slot that holds nothing, at a stamp
abbrev pub row_for : {T : Type 0} → ℕ → Row T
row_for s = record { stamp = s; held = None }

-- the first n slots of a new row, each at its word's stamp
pub record IsNewRow {T : Type 0} (last : ℕ) (known : List Parts) (n : ℕ) (rows : List (Row T)) (free : FreeIndexes) (left : ℕ) : Type 0 where
  pub size : length rows ≡ n
  pub each : (i : ℕ) → i < n → row_at rows i ≡ row_for (word_at known i).stamp
  pub freed : (i : ℕ) → free_times free i ≡ one (is_open last rows i)
  pub spare : left ≡ count_by (is_free last) rows
  pub counted : count_by is_held rows ≡ 0

shut_past : {T : Type 0} (last : ℕ) (rows : List (Row T)) (i : ℕ) → length rows ≤ i → is_open last rows i ≡ false
shut_past last rows i past = rw (le-ltb i (length rows) past) refl

pub new_none : (T : Type 0) (last : ℕ) (known : List Parts) (free : FreeIndexes) → ((i : ℕ) → free_times free i ≡ 0) → IsNewRow {T = T} last known 0 [] free 0
new_none T last known free none =
    record {
      size = refl;
      each = λ i inside. absurd (omega arith);
      freed = λ i. none i ∙ sym (ap one (shut_past {T = T} last [] i (omega arith)));
      spare = refl;
      counted = refl;
    }

-- the next index is not free yet
pub new_next : {T : Type 0} {last : ℕ} {known : List Parts} {n : ℕ} {rows : List (Row T)} {free : FreeIndexes} {left : ℕ} → IsNewRow last known n rows free left → free_times free n ≡ 0
new_next {last = last} {n = n} {rows = rows} s = let k = s.size in s.freed n ∙ ap one (shut_past last rows n (omega arith))

open_before : {T : Type 0} (last : ℕ) (rows : List (Row T)) (r : Row T) (i : ℕ) → i ≢ length rows → is_open last (rows ++ r ∷ []) i ≡ is_open last rows i
open_before last rows r i ne =
    let size = length_push rows r in
    ⊎_elim
    (λ (inside : i < length rows). rw (lt-ltb i (length (rows ++ r ∷ [])) (omega arith), lt-ltb i (length rows) inside, get_or_append_left rows (r ∷ []) unused i inside) refl)
    (λ (past : length rows ≤ i). shut_past last (rows ++ r ∷ []) i (omega arith) ∙ sym (shut_past last rows i past))
    (cases_lt i (length rows))

open_last : {T : Type 0} (last : ℕ) (rows : List (Row T)) (r : Row T) (n : ℕ) → length rows ≡ n → is_open last (rows ++ r ∷ []) n ≡ is_free last r
open_last last rows r n at =
    let size = length_push rows r in
    rw (lt-ltb n (length (rows ++ r ∷ [])) (omega arith), get_or_push rows r unused n at) refl

new_more : {T : Type 0} {last : ℕ} {known : List Parts} {n : ℕ} {rows : List (Row T)} {free : FreeIndexes} {left : ℕ} → IsNewRow last known n rows free left → (more : FreeIndexes) (more_left s : ℕ) → s ≡ (word_at known n).stamp → ((j : ℕ) → j ≢ n → free_times more j ≡ free_times free j) → free_times more n ≡ one (is_free last (row_for {T = T} s)) → more_left ≡ left + one (is_free last (row_for {T = T} s)) → IsNewRow last known (n + 1) (rows ++ row_for s ∷ []) more more_left
new_more {T} {last} {known} {n} {rows} {free} {left} g more more_left s is others here count =
    let r : Row T = row_for s in
    let size = g.size in
    let pushed = length_push rows r in
    let spare = g.spare in
    let counted = g.counted in
    let a = sum_by_push (λ x. one (is_free last x)) rows r in
    let b = sum_by_push (λ x. one (is_held x)) rows r in
    record {
      size = omega arith;
      each = λ i inside. ⊎_elim
          (λ (before : i < n). get_or_append_left rows (r ∷ []) unused i (omega arith) ∙ g.each i before)
          (λ (past : n ≤ i). let same : i ≡ n = omega arith in
          get_or_push rows r unused i (omega arith) ∙ ap (λ k. row_for k) (is ∙ ap (λ k. (word_at known k).stamp) (sym same)))
          (cases_lt i n);
      freed = λ j. ⊎_elim
          (λ (same : j ≡ n). subst (λ k. free_times more k ≡ one (is_open last (rows ++ r ∷ []) k)) (sym same) (here ∙ sym (ap one (open_last last rows r n size))))
          (λ (ne : j ≢ n). others j ne ∙ g.freed j ∙ sym (ap one (open_before last rows r j (λ e. ne (e ∙ size)))))
          (cases_eq j n);
      spare = omega arith;
      counted = omega arith;
    }

-- one more slot, which has a stamp left
pub new_free : {T : Type 0} {last : ℕ} {known : List Parts} {n : ℕ} {rows : List (Row T)} {free : FreeIndexes} {left : ℕ} → IsNewRow last known n rows free left → (more : FreeIndexes) (s : ℕ) → s ≡ (word_at known n).stamp → s < last → GivesBack free n more → IsNewRow last known (n + 1) (rows ++ row_for s ∷ []) more (left + 1)
new_free {T} {last} {known} {n} {rows} {free} {left} g more s is below gives =
    let free_is : one (is_free last (row_for {T = T} s)) ≡ 1 = ap one (lt-ltb s last below) in
    let next = new_next g in
    let up = gives.one_more in
    new_more g more (left + 1) s is gives.others (omega arith) (omega arith)

-- one more slot, which is worn
pub new_worn : {T : Type 0} {last : ℕ} {known : List Parts} {n : ℕ} {rows : List (Row T)} {free : FreeIndexes} {left : ℕ} → IsNewRow last known n rows free left → (s : ℕ) → s ≡ (word_at known n).stamp → last ≤ s → IsNewRow last known (n + 1) (rows ++ row_for s ∷ []) free left
new_worn {T} {last} {known} {n} {rows} {free} {left} g s is over =
    let worn_is : one (is_free last (row_for {T = T} s)) ≡ 0 = ap one (le-ltb s last over) in
    let next = new_next g in
    new_more g free left s is (λ j ne. refl) (omega arith) (omega arith)

-- the slots that one more cell shows
pub rows_push : {T : Type 0} (cells : List (CellRow T)) (s : ℕ) → rows_of (cells ++ empty_cell s ∷ []) ≡ rows_of cells ++ row_for s ∷ []
rows_push {T} cells s = map-append (λ (c : CellRow T). c.row) cells (empty_cell s ∷ [])

pub rows_size : {T : Type 0} (cells : List (CellRow T)) → length (rows_of cells) ≡ length cells
rows_size {T} cells = length-map cells (λ (c : CellRow T). c.row)

-- a whole new row
pub new_kept : {T : Type 0} {last : ℕ} {known : List Parts} {n : ℕ} {rows : List (Row T)} {free : FreeIndexes} {left : ℕ} → IsNewRow last known n rows free left → (waiting : Deferred) → n ≡ length known → 0 < last → last ≤ LAST_STAMP → n ≤ CAPACITY_LIMIT → AreOver last known → ((i : ℕ) → deferred_at waiting i ≡ 0) → n ≤ room_of free → IsSlotRowsKept last rows free waiting 0 left
new_kept {T} {last} {known} {n} {rows} {free} {left} g waiting all used bound few over none room =
    let size = g.size in
    record {
      slots = record {
        used = used;
        bound = bound;
        size = omega arith;
        each = All-from_get_or (IsRow last) rows unused (λ i inside.
            let here : i < length known = omega arith in
            let within = (over i here).1 in
            subst (IsRow last) (sym (g.each i (omega arith))) (record { bound = within; birth = λ h e. cc }));
      };
      freed = λ i. let a = g.freed i in let b = none i in omega (arith, a, b);
      spare = g.spare;
      counted = sym g.counted;
      room = omega arith;
    }

-- a word under which nothing is linked stays
pub over_stays : (shared : Bool) (w v : Parts) → IsOver w → Learned shared w v → (w ≡ never → v ≡ never) → v ≡ w
over_stays shared w v over learned still =
    ⊎_elim (λ n. still n ∙ sym n)
    (λ ended. ⊎_elim (λ same. same) (λ l. absurd (ended l.1)) learned)
    over

pub known_stay : (shared : Bool) (known : List Parts) (i : ℕ) (v : Parts) → IsOver (word_at known i) → Learned shared (word_at known i) v → (word_at known i ≡ never → v ≡ never) → set known i v ≡ known
known_stay shared known i v over learned still = ap (λ w. set known i w) (over_stays shared (word_at known i) v over learned still) ∙ set-get_or known i never

-- the same, where the word is looked at
pub looked : (shared : Bool) (known before after : List Parts) (i : ℕ) (v : Parts) → before ≡ known → IsOver (word_at known i) → Learned shared (word_at before i) v → (word_at before i ≡ never → v ≡ never) → after ≡ set before i v → (after ≡ known) × (v ≡ word_at known i)
looked shared known before after i v same over learned still is =
    let P : List Parts → Type 0 = λ k. Learned shared (word_at k i) v in
    let Q : List Parts → Type 0 = λ k. word_at k i ≡ never → v ≡ never in
    let l = subst P same learned in
    let s = subst Q same still in
    (is ∙ ap (λ k. set k i v) same ∙ known_stay shared known i v over l s, over_stays shared (word_at known i) v over l s)

-- slots whose stamps are those of their words have as many
sums_same : {T : Type 0} (rows : List (Row T)) (ws : List Parts) → length rows ≡ length ws → ((i : ℕ) → i < length ws → row_at rows i ≡ row_for (word_at ws i).stamp) → sum_by (λ (w : Parts). w.stamp) ws ≡ sum_by (λ (r : Row T). r.stamp) rows
sums_same [] [] size each = refl
sums_same [] (w ∷ ws) size each = absurd (omega arith)
sums_same (r ∷ rs) [] size each = absurd (omega arith)
sums_same {T} (r ∷ rs) (w ∷ ws) size each =
    let a = sum_by-cons (λ (w : Parts). w.stamp) w ws in
    let b = sum_by-cons (λ (r : Row T). r.stamp) r rs in
    let here : r.stamp ≡ w.stamp = ap (λ (x : Row T). x.stamp) (each 0 (omega arith)) in
    let rest = sums_same rs ws (omega arith) (λ i inside. each (suc i) (omega arith)) in
    omega arith

abbrev pub table_row : {T : Type 0} → Parts → TableRow T
table_row w = record { stamp = w.stamp; entry = None }

-- the table of such slots
table_held : {T : Type 0} (rows : List (Row T)) (ws : List Parts) → length rows ≡ length ws → ((i : ℕ) → i < length ws → row_at rows i ≡ row_for (word_at ws i).stamp) → table_of rows ws ≡ map (λ (w : Parts). table_row {T = T} w) ws
table_held [] [] size each = refl
table_held [] (w ∷ ws) size each = absurd (omega arith)
table_held (r ∷ rs) [] size each = absurd (omega arith)
table_held {T} (r ∷ rs) (w ∷ ws) size each =
    ap (λ (x : Row T). table_of (x ∷ rs) (w ∷ ws)) (each 0 (omega arith))
    ∙ ap (λ (ts : List (TableRow T)). table_row w ∷ ts) (table_held rs ws (omega arith) (λ i inside. each (suc i) (omega arith)))

abbrev pub machine_with : {T : Type 0} → ℕ → ℕ → List (TableRow T) → Machine T
machine_with tick noted table = record { tick = tick; noted = noted; table = table }

pub machine_held : {T : Type 0} (tick noted : ℕ) (rows : List (Row T)) (ws : List Parts) → AreVacant rows ws → machine_with tick noted (table_of rows ws) ≡ machine_with tick noted (map (λ (w : Parts). table_row {T = T} w) ws)
machine_held {T} tick noted rows ws h = ap (λ (ts : List (TableRow T)). machine_with tick noted ts) (table_held rows ws h.0 h.1)

none_there : {T : Type 0} (ws : List Parts) (i : ℕ) → (get_or (map (λ (w : Parts). table_row {T = T} w) ws) i (record { stamp = 0; entry = None })).entry ≡ None
none_there [] i = refl
none_there (w ∷ ws) zero = refl
none_there (w ∷ ws) (suc i) = none_there ws i

-- nothing is linked there
pub held_empty : {T : Type 0} (rows : List (Row T)) (ws : List Parts) → AreVacant rows ws → (i : ℕ) → (get_or (table_of rows ws) i (record { stamp = 0; entry = None })).entry ≡ None
held_empty {T} rows ws h i =
    ap (λ (ts : List (TableRow T)). (get_or ts i (record { stamp = 0; entry = None })).entry) (table_held rows ws h.0 h.1) ∙ none_there {T = T} ws i

-- what is none is not some entry with any stamp of birth
pub none_there_as : {A : Type 0} (o : Option A) (e : A) (P : Type 0) → o ≡ None → o ≡ Some e → P
none_there_as None e P none at = cc
none_there_as (Some x) e P none at = cc

is_none_of : {A : Type 0} (o : Option A) → is_some o ≡ false → o ≡ None
is_none_of None e = refl
is_none_of (Some x) e = cc

row_is : {T : Type 0} (r : Row T) (s : ℕ) → r.held ≡ None → s ≡ r.stamp → r ≡ row_for s
row_is {T} r s none is =
    let R : ℕ → Option (Held T) → Row T = λ k h. record { stamp = k; held = h } in
    ap (λ h. R r.stamp h) none ∙ ap (λ k. R k None) (sym is)

-- where nothing is held each slot has its word's stamp
pub holds_stamps : {T : Type 0} {noted : ℕ} {wheel : Filing} {slots : SlotRows T} {known : List Parts} {counts : Counts} → IsLawful noted wheel slots known counts → count_by is_held slots.rows ≡ 0 → AreVacant slots.rows known
holds_stamps {T} {noted} {wheel} {slots} {known} l none =
    let size = l.as_known in (
      sym size,
      λ i inside.
          row_is (row_at slots.rows i) (word_at known i).stamp (is_none_of (row_at slots.rows i).held (none_held_at slots.rows none i)) (l.each i (omega arith)).stamp,
    )

placed_over : {T : Type 0} (tick noted stamp : ℕ) (o : Option (Held T)) (w : Parts) (f : Option ℕ) → o ≡ None → IsPlaced tick noted stamp o w f → IsOver w × (w.mark ≡ ExpiredMark → w.field ≤ noted)
placed_over tick noted stamp None w None e p = p
placed_over tick noted stamp None w (Some f) e p = absurd p
placed_over tick noted stamp (Some h) w f e p = cc

-- the law of a folded queue
pub law_folded : {T : Type 0} {noted : ℕ} {wheel : Filing} {slots : SlotRows T} {known : List Parts} {counts : Counts} → IsLawful noted wheel slots known counts → count_by is_held slots.rows ≡ 0 → 0 < length slots.rows → 0 < slots.last_stamp → IsFolded wheel.tick noted slots.last_stamp known counts
law_folded {T} {noted} {wheel} {slots} {known} {counts} l none some used =
    let size = l.as_known in
    let few = l.capacity in
    let stamps = l.stamps in
    let balance = l.balance in
    let h = holds_stamps l none in
    let sums = sums_same slots.rows known h.0 h.1 in
    let over : (i : ℕ) → i < length known → IsOver (word_at known i) × ((word_at known i).mark ≡ ExpiredMark → (word_at known i).field ≤ noted) =
    λ i inside. placed_over wheel.tick noted (row_at slots.rows i).stamp (row_at slots.rows i).held (word_at known i) (filed_at wheel.filed i) (is_none_of (row_at slots.rows i).held (none_held_at slots.rows none i)) (l.each i (omega arith)).placed in
    record {
      some = omega arith;
      few = omega arith;
      used = used;
      bound = l.last_bound;
      behind = l.tick;
      noted_bound = l.noted_bound;
      over = λ i inside. let s = l.each i (omega arith) in let a = s.stamp in let b = s.bound in ((over i inside).0, omega arith);
      expired = λ i inside. (over i inside).1;
      stamps = omega arith;
      balance = omega arith;
    }

none_held : {T : Type 0} (rows : List (Row T)) (ws : List Parts) → length rows ≡ length ws → ((i : ℕ) → i < length ws → row_at rows i ≡ row_for (word_at ws i).stamp) → count_by is_held rows ≡ 0
none_held [] [] size each = refl
none_held [] (w ∷ ws) size each = absurd (omega arith)
none_held (r ∷ rs) [] size each = absurd (omega arith)
none_held {T} (r ∷ rs) (w ∷ ws) size each =
    let a = sum_by-cons (λ (x : Row T). one (is_held x)) r rs in
    let here : one (is_held r) ≡ 0 = ap (λ (x : Row T). one (is_held x)) (each 0 (omega arith)) in
    let rest = none_held rs ws (omega arith) (λ i inside. each (suc i) (omega arith)) in
    omega arith

-- the law of a queue whose rows were made anew
pub law_unfolded : {T : Type 0} {tick noted last : ℕ} {wheel : Filing} {slots : SlotRows T} {known : List Parts} {counts : Counts} → IsFolded tick noted last known counts → wheel.tick ≡ tick → wheel.filed ≡ replicate (length known) None → slots.last_stamp ≡ last → AreVacant slots.rows known → IsLawful noted wheel slots known counts
law_unfolded {T} {tick} {noted} {last} {wheel} {slots} {known} {counts} f et ef el h =
    let size = h.0 in
    let few = f.few in
    let behind = f.behind in
    let bound = f.bound in
    let stamps = f.stamps in
    let balance = f.balance in
    let sums = sums_same slots.rows known h.0 h.1 in
    let none = none_held slots.rows known h.0 h.1 in
    let filed_size : length wheel.filed ≡ length known = ap (λ (xs : List (Option ℕ)). length xs) ef ∙ length-replicate (length known) None in
    record {
      as_filed = omega arith;
      as_known = sym size;
      capacity = omega arith;
      last_bound = omega arith;
      tick = omega arith;
      noted_bound = f.noted_bound;
      each = λ i inside.
          let here : i < length known = omega arith in
          let over = f.over i here in
          let loose : filed_at wheel.filed i ≡ None = ap (λ (xs : List (Option ℕ)). get_or xs i None) ef ∙ get_or-replicate (length known) i None None here in
          let within : (word_at known i).stamp ≤ slots.last_stamp = let a = over.1 in omega arith in
          rw (h.1 i here, loose)
          (record { stamp = refl; bound = within; placed = (over.0, f.expired i here) });
      stamps = omega arith;
      balance = omega arith;
    }

-- as many slots are worn as words say so
pub worn_same : {T : Type 0} (last : ℕ) (rows : List (Row T)) (ws : List Parts) → AreVacant rows ws → count_by (is_worn last) rows ≡ count_by (is_worn_word last) ws
worn_same last [] [] h = refl
worn_same last [] (w ∷ ws) h = let size = h.0 in absurd (omega arith)
worn_same last (r ∷ rs) [] h = let size = h.0 in absurd (omega arith)
worn_same {T} last (r ∷ rs) (w ∷ ws) h =
    let size = h.0 in
    let a = sum_by-cons (λ (x : Row T). one (is_worn last x)) r rs in
    let b = sum_by-cons (λ (x : Parts). one (is_worn_word last x)) w ws in
    let here : one (is_worn last r) ≡ one (is_worn_word last w) = ap (λ (x : Row T). one (is_worn last x)) (h.1 0 (omega arith)) in
    let rest = worn_same last rs ws (omega arith, λ i inside. h.1 (suc i) (omega arith)) in
    omega arith

none_before : {T : Type 0} (ws : List Parts) (tick noted t : ℕ) → NoneLiveBefore (machine_with tick noted (map (λ (w : Parts). table_row {T = T} w) ws)) t
none_before ws tick noted t i e d at due = none_there_as _ e _ (none_there ws i) at

-- a folded queue notes a tick and goes there, as its machine does
pub comes : {T W : Type 0} (f : FoldedCore W) (t : ℕ) → f.tick ≤ f.noted → ComesTo f.last_stamp (folded_machine {T = T} f) t (folded_machine (at_tick f (max f.noted t)))
comes {T} f t behind = (_, refl, (_, (omega arith, omega arith, none_before {T = T} f.known f.tick (max f.noted t) (max f.noted t), refl), refl))
