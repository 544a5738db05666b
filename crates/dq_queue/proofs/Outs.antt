-- What a store's answers say of the true words.
use Rattle.std.proofs.Common.{true, ◌≡◌, ◌≢◌, ℕ, zero, suc, ◌+◌, ◌<◌, ◌≤◌, List, [], ◌∷◌, length, get_or, set, min, sym, refl, ap, ◌∙◌, subst, ⊎_elim, length-set, get_or-set_same, arith, inl, inr, Option, Some, None, Result, Ok, Err, IfOk}
use Rattle.atomic_table.specs.Table.{State}
use mathlib.Core.Option.{some, some-injective, some-ne-none}
use lib.ListN.{get_elem?}
use Rattle.dq_ticks.specs.declared.keys.EntryId.{EntryId}
use Rattle.dq_ticks.specs.declared.keys.Key.{Key}
use Rattle.dq_ticks.specs.declared.words.Mark.{Mark}
use Rattle.dq_ticks.specs.declared.words.Mark.TheVariants.{ExpiredMark, RemovedMark}
use Rattle.dq_ticks.specs.declared.words.Parts.{Parts}
use Rattle.dq_ticks.specs.Word.{word, stamp_of, mark_of, field_of, mark_number, mark_by, packed, parts_of}
use Rattle.dq_core.specs.Words.{Learned, never, word_at, live, expired, removed}
use Rattle.dq_core.specs.Slots.{Row}
use Rattle.dq_core.specs.declared.errors.CoreError.{CoreError}
use Rattle.dq_core.specs.declared.errors.CoreError.TheVariants.{Missing}
use Rattle.dq_core.specs.declared.outcomes.Expired.{Expired}
use Rattle.dq_core.specs.declared.outcomes.Removed.{Removed}
use Rattle.dq_core.specs.declared.outcomes.Turn.{Turn}
use Rattle.dq_core.specs.declared.outcomes.Turn.TheVariants.{Out, Waiting, Idle}
use Rattle.dq_core.specs.declared.outcomes.Piece.{Piece}
use Rattle.dq_core.specs.declared.outcomes.Piece.TheVariants.{Answer, Working}
use Rattle.dq_core.specs.Core.{Core, IsLawfulCore, table_of, machine}
use Rattle.dq_core.specs.Calls.{IsTurn, TurnRow, noting, Inserts, IsRemoved}
use Rattle.dq_core.specs.Machine.{Machine, Entry, RunOf, IsOnTheWay, table_at}
use Rattle.dq_growing.specs.Cores.{CoreRow, IsCoreAt, HasAt, EachOf, OnCoreAt, InsertsBeside, IsClosed, closed_error}
use Rattle.dq_growing.specs.declared.moving.Moved.{Moved}
use Rattle.dq_growing.specs.declared.moving.Moved.TheVariants.{To, Out as MovedOut}
use Rattle.dq_growing.specs.declared.moving.NextDeadline.{NextDeadline}
use Rattle.dq_growing.specs.Moving.{IfTo, IfCameOut, IsTakenOut, Relocates}
use Rattle.dq_growing.specs.Runs.{KeepsItsDeadline}
use Rattle.dq_growing.specs.Notes.{with_id, or_own, user_at, place_by, meant_place}
use Rattle.dq_growing.specs.Stands.{HasEntry, KeepsWords}
use Rattle.dq_growing.specs.Polls.{PollsRow, PollsCore, IfPieceOut, noting_in}
use Rattle.dq_growing.specs.Store.{StoreState, IsStore, PollsFor, answer_as, expired_as, piece_as}
use Rattle.dq_growing.proofs.Holding.{next_same}
use Rattle.dq_growing.proofs.Keeping.{told_out, way_stood}
use Rattle.dq_growing.proofs.Rows.{one_at}
use Rattle.dq_growing.proofs.Standing.{some_is, set_other}
use Rattle.dq_words.specs.declared.views.View.{View}
use Rattle.dq_words.specs.declared.views.Write.{Write}
use Rattle.dq_words.specs.Word.{parts_row}
use Rattle.dq_words.specs.Files.{file, IsIn, Among, ends_at, keeper_writes}
use Rattle.dq_words.specs.Rule.{Ruled, Had, HadAt}
use Rattle.dq_words.specs.Endings.{StampsEndOnce, EndsAreInForce}
use Rattle.dq_words.specs.KeeperCalls.{HasBegun}
use Rattle.dq_words.specs.Plays.{Covers}
use Rattle.dq_words.specs.Seats.{Sat}
use Rattle.dq_words.specs.Together.{IsBeside}
use Rattle.dq_queue.specs.Calls.{DoesSteps, KeepsPromise}
use Rattle.dq_queue.specs.Endings.{InEachTable, EndsInForce, WasGivenOnce, IsKeptCore, CameInForce, KeepsWhatItShowed, CameOutOf, IsOutsideOpen, present_key, TakenOutOf, LeavesAsTold, MovesInForce, StoreOutsAreInForce, StoreInsertsAreGiven, StoreMovesAreInForce, StoreRemovalsAreInForce}
use Rattle.dq_queue.specs.Words.{PromiseView}
use Rattle.dq_queue.proofs.Claims.{table_by}

-- words and parts

mark_number_by : (m : ℕ) → m < 4 → mark_number (mark_by m) ≡ m
mark_number_by zero h = refl
mark_number_by (suc zero) h = refl
mark_number_by (suc (suc zero)) h = refl
mark_number_by (suc (suc (suc zero))) h = refl
mark_number_by (suc (suc (suc (suc m)))) h = absurd (omega arith)

packed_parts : (n : ℕ) → packed (parts_of n) ≡ n
packed_parts n =
    let mark = mark_number_by (mark_of n) (omega arith) in
    let whole : packed (parts_of n) ≡ word (stamp_of n) (mark_of n) (field_of n) =
    ap (λ m. word (stamp_of n) m (field_of n)) mark in
    omega arith

row_at : (xs : List ℕ) (i : ℕ) → word_at (parts_row xs) i ≡ parts_of (get_or xs i 0)
row_at [] i = refl
row_at (x ∷ xs) zero = refl
row_at (x ∷ xs) (suc i) = row_at xs i

pub length_row : (xs : List ℕ) → length (parts_row xs) ≡ length xs
length_row [] = refl
length_row (x ∷ xs) = ap suc (length_row xs)

-- the seen word behind what is known of it
pub seen_word : (known old : List Parts) (seen : List ℕ) (i : ℕ) (p : Parts)
    → known ≡ parts_row seen → known ≡ set old i p → i < length old → get_or seen i 0 ≡ packed p
seen_word known old seen i p is new inside =
    let at : word_at known i ≡ p = rw new (get_or-set_same old i p never inside) in
    let here : parts_of (get_or seen i 0) ≡ p = sym (row_at seen i) ∙ ap (λ ws. word_at ws i) (sym is) ∙ at in
    sym (packed_parts (get_or seen i 0)) ∙ ap packed here

length_table : {T : Type 0} (rows : List (Row T)) (known : List Parts) → length (table_of rows known) ≤ length known
length_table [] known = omega arith
length_table (r ∷ rows) [] = omega arith
length_table (r ∷ rows) (w ∷ known) = omega (arith, length_table rows known)

-- a slot that has had an expired or a removed word was ended so
had_over : (n s m d i : ℕ) (views : List View) → n ≡ word s m d → 1 < m → m < 4 → d ≤ 4398046511103
    → Had n i views → IsIn (file i s views).ends (m, d)
had_over n s m d i views is over mark small = ⊎_elim
    (λ (never_used : n ≡ 0). absurd (omega arith))
    (λ (had : (t : ℕ) × HadAt n t (file i t views)). let t = had.0 in ⊎_elim
    (λ (living : (e : ℕ) × (n ≡ word t 0 e) × (e ≤ 4398046511103) × Among (file i t views) e).
    let now = living.1 in let low = living.2 in absurd (omega arith))
    (⊎_elim
    (λ (cancelled : (e : ℕ) × (n ≡ word t 1 0) × IsIn (file i t views).cancels e).
    let now = cancelled.1 in absurd (omega arith))
    (λ (ended : (m' : ℕ) × (e : ℕ) × (n ≡ word t m' e) × (1 < m') × (m' < 4) × (e ≤ 4398046511103) × IsIn (file i t views).ends (m', e)).
    let now = ended.2 in let more = ended.3 in let less = ended.4 in let low = ended.5 in
    let same_stamp : t ≡ s = omega arith in
    let same_mark : ended.0 ≡ m = omega arith in
    let same_deadline : ended.1 ≡ d = omega arith in
    subst (λ (x : ℕ × ℕ × ℕ). IsIn (file i x.0 views).ends (x.1, x.2)) (λ q. (same_stamp q, same_mark q, same_deadline q)) ended.6))
    had.1)

-- what the keeper saw, where it has the first view
module _ (w : View) (t : State ℕ View) (r : Ruled (length w.seen) t) (at : get_elem? t.views 0 ≡ some w) where
  over_in_force : EndsAreInForce → (mark : Mark) (k : Key) (d : ℕ) → 1 < mark_number mark → mark_number mark < 4 → k.entry.index < length w.seen
      → get_or w.seen k.entry.index 0 ≡ word k.stamp (mark_number mark) d → d ≤ 4398046511103 → EndsInForce mark k d t
  over_in_force in_force mark k d over less inside seen small =
      let had = (r.kept.sees 0 w at).had k.entry.index inside in
      let ended = had_over _ k.stamp (mark_number mark) d k.entry.index t.views seen over less small had in
      (ended, (in_force _ t r k.entry.index k.stamp).0 (mark_number mark, d) ended)

  given_once : StampsEndOnce → (k : Key) (d : ℕ) → k.entry.index < length w.seen
      → get_or w.seen k.entry.index 0 ≡ word k.stamp 0 d → 0 < k.stamp → WasGivenOnce k t
  given_once once k d inside seen positive =
      let below = (r.kept.sees 0 w at).below k.entry.index inside in
      once _ t r k.entry.index k.stamp inside positive (omega (arith, below, seen))

-- what the keeper wrote is what the first view has
writes_first : (vs : List View) (v : View) → get_elem? vs 0 ≡ some v → keeper_writes vs ≡ v.writes
writes_first [] v at = absurd (some-ne-none v (sym at))
writes_first (u ∷ vs) v at = ap (λ (x : View). x.writes) (some-injective u v at)

-- the place that the notes tell of an entry, by the id that its user has
meant_own : (p : EntryId) (a b : Option EntryId) → a ≡ None → b ≡ None → place_by p a b ≡ Some p
meant_own p a b x y = let P : Option EntryId × Option EntryId → Type 0 = λ o. place_by p o.0 o.1 ≡ Some p in subst P (λ q. (sym x q, sym y q)) refl

meant_note : (u p : EntryId) (a b : Option EntryId) → a ≡ Some p → place_by u a b ≡ Some p
meant_note u p a b x = let P : Option EntryId → Type 0 = λ o. place_by u o b ≡ Some p in subst P (sym x) refl

module _ {T : Type 0} where
  -- an entry that comes out, of a run to that turn and its row of words
  out_of : EndsAreInForce → (b c : Core T Sat) (x : Expired T) → IsKeptCore c
      → (m : Machine T) × RunOf (IsOnTheWay true) b.slots.last_stamp (machine b) m
      × IsTurn b.shard b.slots.last_stamp m (Out x) (machine c) c.wheel.filing
      → TurnRow true b.known (Out x) c.known → CameInForce c x
  out_of in_force b c x law run row =
      let m = run.0 in
      let step = run.2.0.0 in
      let held = run.2.0.1 in
      let i = x.key.entry.index in
      let table : length (machine c).table ≡ length m.table =
      ap (λ n. length n.table) step.7 ∙ length-set m.table i _ in
      let known : length c.known ≡ length c.words.view.seen =
      ap length law.known ∙ length_row c.words.view.seen in
      let size : length c.known ≡ length row.0 =
      ap length row.3 ∙ length-set row.0 i (expired x.key.stamp x.deadline) in
      let inside = held.0 in
      let few = length_table c.slots.rows c.known in
      let seen = seen_word _ row.0 c.words.view.seen i (expired x.key.stamp x.deadline) law.known row.3 (omega arith) in
      let noted : c.noted ≡ m.noted = ap (λ n. n.noted) step.7 in
      let at_noted : x.deadline ≤ c.noted = omega (arith, noted, step.5) in
      let last = law.core.noted_bound in
      (λ t r at. over_in_force c.words.view t r at in_force ExpiredMark x.key x.deadline (omega arith) (omega arith) (omega arith) seen (omega arith), at_noted)

  -- what ended in force kept what was promised
  keeps : (c : Core T Sat) (mark : Mark) (k : Key) (d : ℕ) → InEachTable c.words.view (EndsInForce mark k d) → KeepsWhatItShowed c k d
  keeps c mark k d out p beside =
      let stood = beside.1 in
      let ended = (out stood.0 stood.1 stood.2).0 in
      let P : List Write → Type 0 = λ ws. IsIn (ends_at k.entry.index k.stamp ws) (mark_number mark, d) in
      beside.0 k.entry.index k.stamp (mark_number mark, d) (subst P (writes_first stood.0.views c.words.view stood.2) ended)

  -- the way of a poll of a core to its answer, be it whole or a piece
  pub answer_way : (most : Option ℕ) (tick : ℕ) (turn : Turn T) (b c : Core T Sat) → DoesSteps most tick (Answer turn) b c
      → ((m : Machine T) × RunOf (IsOnTheWay true) b.slots.last_stamp (machine (noting b tick)) m × IsTurn b.shard b.slots.last_stamp m turn (machine c) c.wheel.filing)
      × TurnRow true b.known turn c.known
  answer_way (Some most) tick turn b c did = (did.2.run, did.2.row)
  answer_way None tick turn b c did = (did.2.run, did.2.row)

  -- the poll of a core that took an entry out

  piece_of : (s t : CoreRow T Sat) (tick : ℕ) (most : Option ℕ) (y : Expired T) → PollsRow (DoesSteps most) s tick (Ok (Answer (Out y))) t
      → PollsCore (DoesSteps most) (noting_in s tick) (Answer (Out y)) t
  piece_of s t tick most y polled = ⊎_elim (λ rests. absurd rests.0) (λ core. core) polled.1

  at_set : (cores : List (Core T Sat)) (i : ℕ) (b c : Core T Sat) → IsCoreAt cores i b → IsCoreAt (set cores i c) i c
  at_set cores i b c at = let n = length-set cores i c in let h = at.0 in (omega (arith, n, h), get_or-set_same cores i c c at.0)

  pub on_core : (s t : CoreRow T Sat) (i : ℕ) (P : Core T Sat → Core T Sat → Type 0) (on : OnCoreAt i P s t) → IsCoreAt t.cores i on.after
  on_core s t i P on =
      let Q : CoreRow T Sat → Type 0 = λ r. IsCoreAt r.cores i on.after in
      subst Q (sym on.rest) (at_set s.cores i on.before on.after on.at)

  comes_out : EndsAreInForce → (s t : StoreState T Sat) (tick : ℕ) (most : Option ℕ) (y : Expired T) → PollsRow (DoesSteps most) s.cores tick (Ok (Answer (Out y))) t.cores
      → CameOutOf s (expired_as (user_at s.notes y.key.entry) y) t
  comes_out in_force s t tick most y polled =
      let core = piece_of s.cores t.cores tick most y polled in
      let on = core.did in
      let P : Piece T → Type 0 = λ p. DoesSteps most (min (noting_in s.cores tick).noted core.others) p on.before on.after in
      let did = subst P (told_out (noting_in s.cores tick).noted core.others core.made y core.tells) on.did in
      let answered = answer_way most (min (noting_in s.cores tick).noted core.others) (Out y) on.before on.after did in
      let out : IsKeptCore on.after → CameInForce on.after y = λ law. out_of in_force (noting on.before (min (noting_in s.cores tick).noted core.others)) on.after y law answered.0 answered.1 in
      record {
        place = core.place;
        before = on.before;
        after = on.after;
        was = on.at;
        is = on_core (noting_in s.cores tick) t.cores core.place _ on;
        out = y;
        number = answered.0.2.1;
        told = refl;
        stood =
            let m = answered.0.0 in
            let f = way_stood true on.before.slots.last_stamp _ m answered.0.1.0 answered.0.1.1 answered.0.1.2 y.key.entry.index _ answered.0.2.0.1.1 in
            (f.0, (core.place, on.before, on.at, record { shard = answered.0.2.1; linked = f.1; born = f.2 }));
        in_force = out;
        kept = λ law. keeps on.after ExpiredMark y.key y.deadline (out law).0;
      }

  -- by what the piece of the cores' poll made
  by_made : EndsAreInForce → (s t : StoreState T Sat) (tick : ℕ) (most : Option ℕ) (made : Result (Piece T) CoreError) → PollsRow (DoesSteps most) s.cores tick made t.cores
      → IfPieceOut (piece_as s.notes made) (λ x. CameOutOf s x t)
  by_made in_force s t tick most (Ok (Answer (Out y))) polled = comes_out in_force s t tick most y polled
  by_made in_force s t tick most (Ok (Answer (Waiting next))) polled = tt
  by_made in_force s t tick most (Ok (Answer Idle)) polled = tt
  by_made in_force s t tick most (Ok Working) polled = tt
  by_made in_force s t tick most (Err e) polled = tt

  meant_by : (s : StoreState T Sat) (p : EntryId) (e : Entry T) (a b : Option EntryId) → IsStore s → HasEntry s.cores p e
      → a ≡ with_id s.notes.places p → b ≡ with_id s.notes.users p → meant_place s.notes (or_own p b) ≡ Some p
  meant_by s p e a (Some u) law there at of = meant_note u p _ _ ((law.noted u p).1 (sym of))
  meant_by s p e None None law there at of = meant_own p _ _ (sym at) (sym of)
  meant_by s p e (Some q) None law there at of = absurd (law.away p q (sym at) e there)

  meant_is : (s : StoreState T Sat) (p : EntryId) (e : Entry T) → IsStore s → HasEntry s.cores p e → meant_place s.notes (user_at s.notes p) ≡ Some p
  meant_is s p e law there = meant_by s p e (with_id s.notes.places p) (with_id s.notes.users p) law there refl refl

  -- what came out of a core that the promise's words are of keeps the promise
  pub keeps_promise : StoreOutsAreInForce T → (s t : StoreState T Sat) (tick : ℕ) (most : Option ℕ) (r : Result (Piece T) CoreError) (p : PromiseView)
      → IsStore s → PollsFor (DoesSteps most) s tick r t → KeepsWords table_by HasBegun s.cores t.cores → EachOf t.cores p.claim.number (λ c. IsBeside c.words p.receipt)
      → EachOf t.cores p.claim.number (λ c. IsLawfulCore c × (c.known ≡ parts_row c.words.view.seen)) → IfPieceOut r (KeepsPromise s.notes p)
  keeps_promise outs s t tick most (Ok (Answer (Out x))) p law polled words beside lawful = λ place meant number.
      let o = outs s t tick most (Ok (Answer (Out x))) polled in
      let u = o.out.key.entry in
      let N : Expired T → Option EntryId = λ y. meant_place s.notes y.key.entry in
      let is : place ≡ u = some_is place u (sym meant ∙ (ap N o.told ∙ meant_is s u o.stood.0 law o.stood.1)) in
      let k = words o.place o.before o.was in
      let same = one_at t.cores.cores o.place k.0 o.after k.1 o.is in
      let shard : o.after.shard ≡ p.claim.number =
      ap (λ (c : Core T Sat). c.shard) (sym same) ∙ (k.2 ∙ (sym o.number ∙ (ap (λ (e : EntryId). e.shard) (sym is) ∙ number))) in
      let at : HasAt t.cores.cores p.claim.number o.place o.after = (o.is, shard) in
      let kept = lawful o.place o.after at in
      let covers = o.kept (record { core = kept.0; known = kept.1 }) p.receipt (beside o.place o.after at) in
      let P : EntryId → Expired T → Type 0 = λ e y. Covers p.receipt.view.calls e.index y.key.stamp y.deadline in
      let Q : EntryId → Type 0 = λ e. P e x in
      subst Q (sym is) (subst (P u) (sym o.told) covers)
  keeps_promise outs s t tick most (Ok (Answer (Waiting next))) p law polled words beside lawful = tt
  keeps_promise outs s t tick most (Ok (Answer Idle)) p law polled words beside lawful = tt
  keeps_promise outs s t tick most (Ok Working) p law polled words beside lawful = tt
  keeps_promise outs s t tick most (Err e) p law polled words beside lawful = tt

pub outs : (T : Type 0) → EndsAreInForce → StoreOutsAreInForce T
outs T in_force s t tick most r (made, polled, is, notes) =
    let P : Result (Piece T) CoreError → Type 0 = λ p. IfPieceOut p (λ x. CameOutOf s x t) in
    subst P (sym is) (by_made in_force s t tick most made polled)

given_at : (T : Type 0) → StampsEndOnce → (b c : Core T Sat) (value : T) (when : ℕ) (k : Key) → Inserts b value when (Ok k) c → IsKeptCore c → InEachTable c.words.view (WasGivenOnce k)
given_at T once b c value when k done law =
    let i = k.entry.index in
    let m = machine b in
    let few = length_table b.slots.rows b.known in
    let inside = done.step.0 in
    let known : length c.known ≡ length c.words.view.seen =
    ap length law.known ∙ length_row c.words.view.seen in
    let size : length c.known ≡ length b.known = ap length done.known ∙ length-set b.known i _ in
    let seen = seen_word _ b.known c.words.view.seen i _ law.known done.known (omega arith) in
    let stamp : k.stamp ≡ (table_at m i).stamp + 1 =
    sym done.stamp ∙ (ap (λ n. (table_at n i).stamp) done.step.3 ∙ ap (λ r. r.stamp) (get_or-set_same m.table i _ _ inside)) in
    λ t r at. given_once c.words.view t r at once k _ (omega arith) seen (omega arith)

pub ok_not_err : {X E : Type 0} (x : X) (e : E) → Ok x ≡ Err e → ⊥
ok_not_err {X} {E} x e h =
    let P : Result X E → Type 0 = λ r. IfOk r (λ _. ⊥) in
    subst P (sym h) (tt {0})

pub given : (T : Type 0) → StampsEndOnce → StoreInsertsAreGiven T
given T once s t value when k beside inserted = ⊎_elim
    (λ (on : OnCoreAt s.cores.opened (InsertsBeside value when (Ok k, beside)) s.cores t.cores).
    (on.after, on_core s.cores t.cores s.cores.opened _ on, given_at T once on.before on.after value when k on.did.0))
    (λ (closed : IsClosed s.cores × ((Ok k, beside) ≡ (Err (closed_error when, value), None)) × (t.cores ≡ s.cores)).
    absurd (ok_not_err _ _ (ap (λ p. p.0) closed.1)))
    inserted

-- what the keeper learned of a live word has the stamp that it knew
learned_stamp : (w : Parts) (s d : ℕ) → Learned true w (live s d) → w.stamp ≡ s
learned_stamp w s d (inl is) = ap (λ (p : Parts). p.stamp) (sym is)
learned_stamp w s d (inr (shared, mark, inl (is, low, high))) = ap (λ (p : Parts). p.stamp) (sym is)
learned_stamp w s d (inr (shared, mark, inr is)) = ap (λ (p : Parts). p.stamp) (sym is)

-- a removed word's deadline is one of a word
small_field : (n : ℕ) (d : ℕ) → field_of n ≡ d → d ≤ 4398046511103
small_field n d is = omega arith

module _ {T : Type 0} where
  -- what a removal took out
  taken_in_force : EndsAreInForce → (b c : Core T Sat) (id : EntryId) (x : Removed T) → IsRemoved true b id x c → IsKeptCore c
      → InEachTable c.words.view (EndsInForce RemovedMark (present_key b id) x.deadline)
  taken_in_force in_force b c id x r law =
      let i = id.index in
      let m = r.run.0 in
      let table : length (machine c).table ≡ length m.table = ap (λ n. length n.table) r.run.2.5 ∙ length-set m.table i _ in
      let inside = r.run.3.0 in
      let few = length_table c.slots.rows c.known in
      let known : length c.known ≡ length c.words.view.seen = ap length law.known ∙ length_row c.words.view.seen in
      let size : length c.known ≡ length b.known = ap length r.known ∙ length-set b.known i (removed x.key.stamp x.deadline) in
      let seen = seen_word c.known b.known c.words.view.seen i (removed x.key.stamp x.deadline) law.known r.known (omega arith) in
      let at : word_at c.known i ≡ removed x.key.stamp x.deadline = rw r.known (get_or-set_same b.known i (removed x.key.stamp x.deadline) never (omega arith)) in
      let here : parts_of (get_or c.words.view.seen i 0) ≡ removed x.key.stamp x.deadline = sym (row_at c.words.view.seen i) ∙ ap (λ ws. word_at ws i) (sym law.known) ∙ at in
      let small = small_field (get_or c.words.view.seen i 0) x.deadline (ap (λ (p : Parts). p.field) here) in
      let P : ℕ → Type 0 = λ n. InEachTable c.words.view (EndsInForce RemovedMark (record { entry = id; stamp = n }) x.deadline) in
      subst P (sym (learned_stamp (word_at b.known i) x.key.stamp x.deadline r.learned))
      (λ t q first. over_in_force c.words.view t q first in_force RemovedMark (record { entry = id; stamp = x.key.stamp }) x.deadline (omega arith) (omega arith) (omega arith) seen small)

  -- what was taken out of a core that is left as the removal left it
  taken_of : EndsAreInForce → (s t : StoreState T Sat) (p : EntryId) (x : Removed T) (m : CoreRow T Sat) (taken : IsTakenOut true p x s.cores m)
      → IsCoreAt t.cores.cores taken.place taken.after → TakenOutOf s p x.deadline t
  taken_of in_force s t p x m taken still =
      let b = taken.before in
      let c = taken.after in
      let out : IsKeptCore c → InEachTable c.words.view (EndsInForce RemovedMark (present_key b p) x.deadline) = λ law. taken_in_force in_force b c p x taken.did law in
      record {
        core = taken.place;
        before = b;
        after = c;
        was = taken.at.0;
        is = still;
        number = taken.did.shard;
        same = taken.did.same_shard;
        in_force = out;
        kept = λ law. keeps c RemovedMark (present_key b p) x.deadline (out law);
      }

  taken_at_place : (s m : CoreRow T Sat) (p : EntryId) (x : Removed T) (taken : IsTakenOut true p x s m) → IsCoreAt m.cores taken.place taken.after
  taken_at_place s m p x taken =
      let M : CoreRow T Sat → Type 0 = λ r. IsCoreAt r.cores taken.place taken.after in
      subst M (sym taken.rest) (at_set s.cores taken.place taken.before taken.after taken.at.0)

  -- where a move left another core than the open one
  moved_of : EndsAreInForce → (s t : StoreState T Sat) (p : EntryId) (next : NextDeadline) (k : Key) (d : ℕ) (beside : Option T) → Relocates true p next (Ok (To k d), beside) s.cores t.cores
      → KeepsItsDeadline next → IsOutsideOpen s.cores p → TakenOutOf s p d t
  moved_of in_force s t p next k d beside (near, room, (x, m, taken, goes)) keeps_it outside =
      let Q : ℕ → Type 0 = λ n. TakenOutOf s p n t in
      let put = goes.1 in
      let opened : m.opened ≡ s.cores.opened = ap (λ (r : CoreRow T Sat). r.opened) taken.rest in
      let apart : taken.place ≢ m.opened = λ same.
      let A : ℕ → Type 0 = λ n. IsCoreAt s.cores.cores n taken.before in
      outside taken.before (subst A (same ∙ opened) taken.at.0) taken.at.1 in
      let M : CoreRow T Sat → Type 0 = λ r. IsCoreAt r.cores taken.place taken.after in
      let still : IsCoreAt t.cores.cores taken.place taken.after =
      subst M (sym put.rest) (set_other m.cores m.opened taken.place put.after taken.after apart (taken_at_place s.cores m p x taken)) in
      subst Q (next_same next x.deadline d keeps_it goes.0) (taken_of in_force s t p x m taken still)

  at_told : (s t : StoreState T Sat) (u p : EntryId) (d : ℕ) → meant_place s.notes u ≡ Some p → TakenOutOf s p d t → LeavesAsTold s u d t
  at_told s t u p d at out place meant =
      let P : EntryId → Type 0 = λ e. TakenOutOf s e d t in
      subst P (sym (some_is place p (sym meant ∙ at))) out

  moved_at_place : EndsAreInForce → (s t : StoreState T Sat) (u p : EntryId) (next : NextDeadline) (made : Result (Moved T) CoreError) (beside : Option T) → meant_place s.notes u ≡ Some p
      → Relocates true p next (made, beside) s.cores t.cores → KeepsItsDeadline next → IfOk (answer_as u made) (λ moved. IfTo moved (λ k d. MovesInForce s u d t))
  moved_at_place in_force s t u p next (Ok (To k d)) beside at did keeps_it = λ place meant outside.
      let is : place ≡ p = some_is place p (sym meant ∙ at) in
      let P : EntryId → Type 0 = λ e. IsOutsideOpen s.cores e in
      let Q : EntryId → Type 0 = λ e. TakenOutOf s e d t in
      subst Q (sym is) (moved_of in_force s t p next k d beside did keeps_it (subst P is outside))
  moved_at_place in_force s t u p next (Ok (MovedOut x)) beside at did keeps_it = tt {0}
  moved_at_place in_force s t u p next (Err e) beside at did keeps_it = tt {0}

  out_at_place : EndsAreInForce → (s t : StoreState T Sat) (u p : EntryId) (next : NextDeadline) (made : Result (Moved T) CoreError) (beside : Option T) → meant_place s.notes u ≡ Some p
      → Relocates true p next (made, beside) s.cores t.cores → IfOk (answer_as u made) (λ moved. IfCameOut moved (λ x. LeavesAsTold s u x.deadline t))
  out_at_place in_force s t u p next (Ok (To k d)) beside at did = tt {0}
  out_at_place in_force s t u p next (Ok (MovedOut y)) beside at (near, room, (x, m, taken, goes)) =
      let M : CoreRow T Sat → Type 0 = λ r. IsCoreAt r.cores taken.place taken.after in
      let D : Removed T → Type 0 = λ z. TakenOutOf s p z.deadline t in
      at_told s t u p y.deadline at (subst D (sym goes.1) (taken_of in_force s t p x m taken (subst M (sym goes.3) (taken_at_place s.cores m p x taken))))
  out_at_place in_force s t u p next (Err e) beside at did = tt {0}

  -- no answer of a refusal moved an entry
  none_moved : (r : Result (Moved T) CoreError) (e : CoreError) (P : Moved T → Type 0) → r ≡ Err e → IfOk r P
  none_moved r e P is = let Q : Result (Moved T) CoreError → Type 0 = λ x. IfOk x P in subst Q (sym is) (tt {0})

pub moves : (T : Type 0) → EndsAreInForce → StoreMovesAreInForce T
moves T in_force s t u next r (inl (p, at, inl (is, cores, notes, room))) =
    let refused = ap (λ y. y.0) is in
    ((λ keeps_it. none_moved r.0 _ (λ moved. IfTo moved (λ k d. MovesInForce s u d t)) refused), none_moved r.0 _ (λ moved. IfCameOut moved (λ x. LeavesAsTold s u x.deadline t)) refused)
moves T in_force s t u next r (inl (p, at, inr (made, did, is, notes))) =
    let P : Result (Moved T) CoreError → Type 0 = λ x. IfOk x (λ moved. IfTo moved (λ k d. MovesInForce s u d t)) in
    let Q : Result (Moved T) CoreError → Type 0 = λ x. IfOk x (λ moved. IfCameOut moved (λ y. LeavesAsTold s u y.deadline t)) in
    ((λ keeps_it. subst P (sym is) (moved_at_place in_force s t u p next made r.1 at did keeps_it)), subst Q (sym is) (out_at_place in_force s t u p next made r.1 at did))
moves T in_force s t u next r (inr (none, (is, same))) =
    let refused = ap (λ y. y.0) is in
    ((λ keeps_it. none_moved r.0 _ (λ moved. IfTo moved (λ k d. MovesInForce s u d t)) refused), none_moved r.0 _ (λ moved. IfCameOut moved (λ x. LeavesAsTold s u x.deadline t)) refused)

pub removals : (T : Type 0) → EndsAreInForce → StoreRemovalsAreInForce T
removals T in_force s t u (Ok x) (inl (p, at, (y, taken, is, lost))) =
    let D : Removed T → Type 0 = λ z. TakenOutOf s p z.deadline t in
    let E : ℕ → Type 0 = λ n. LeavesAsTold s u n t in
    subst E (sym (ap (λ (z : Removed T). z.deadline) is)) (at_told s t u p y.deadline at (taken_of in_force s t p y t.cores taken (taken_at_place s.cores t.cores p y taken)))
removals T in_force s t u (Ok x) (inr (none, (is, same))) = absurd (ok_not_err x Missing is)
removals T in_force s t u (Err e) did = tt {0}
