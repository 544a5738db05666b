-- No call of a store loses an entry.
use Rattle.std.proofs.Common.{Bool, true, false, ◌≡◌, ◌≢◌, ◌⊎◌, ℕ, ◌+◌, zero, suc, ◌<◌, ◌≤◌, List, [], ◌∷◌, length, get_or, max, min, sym, refl, ap, ◌∙◌, subst, ⊎_elim, length-set, get_or-set_same, arith, inl, inr, Option, Some, None, Result, Ok, Err, IfOk}
use Rattle.std.specs.List.{AllByRecursion}
use Rattle.std.proofs.lemmas.List.{get_or-set_other, set-get_or}
use Rattle.atomic_table.specs.Table.{State}
use mathlib.Core.Logic.{dite}
use mathlib.Core.Option.{some}
use native.Mathlib.Decide.{ℕ_discrete}
use lib.ListN.{get_elem?}
use Rattle.dq_ticks.specs.declared.keys.EntryId.{EntryId}
use Rattle.dq_ticks.specs.declared.keys.Key.{Key}
use Rattle.dq_ticks.specs.declared.words.Parts.{Parts}
use Rattle.dq_ticks.specs.Word.{word, packed}
use Rattle.dq_core.specs.declared.errors.CoreError.{CoreError}
use Rattle.dq_core.specs.declared.errors.CoreError.TheVariants.{TooFar, Full, Missing, WasCancelled, Worn, TickTooLarge, BadConfig, NoMemory}
use Rattle.dq_core.specs.declared.errors.ReapError.{ReapError}
use Rattle.dq_core.specs.declared.errors.ReapError.TheVariants.{Missing as NotThere, Live}
use Rattle.dq_core.specs.declared.outcomes.Expired.{Expired}
use Rattle.dq_core.specs.declared.outcomes.Removed.{Removed}
use Rattle.dq_core.specs.declared.outcomes.Turn.TheVariants.{Out as CameOut, Waiting, Idle}
use Rattle.dq_core.specs.declared.outcomes.Piece.{Piece}
use Rattle.dq_core.specs.declared.outcomes.Piece.TheVariants.{Answer, Working}
use Rattle.dq_core.specs.declared.slots.Held.{Held as HeldEntry}
use Rattle.dq_core.specs.Calls.{FindRefused, Inserts, IsFound, IsRemoved, Resets, ResetRefused, TellsDeadline}
use Rattle.dq_core.specs.Core.{Core, IsLawfulCore, entry_of, machine, table_of}
use Rattle.dq_core.specs.Machine.{Callers, Cancel, Entry, Event, Extend, Has, IsCallers, IsOnTheWay, Machine, Run, Step, put, table_at, with_due}
use Rattle.dq_core.specs.Slots.{Row, row_at, unused, vacated_row}
use Rattle.dq_core.specs.Sweeps.{Reaps, SweepsSome}
use Rattle.dq_core.specs.Words.{IsOver, IsInForce, Learned, cancelled, never, word_at}
use Rattle.dq_core.proofs.CallWords.{inserted_others, removed_others}
use Rattle.dq_core.proofs.Finds.{found_force}
use Rattle.dq_core.proofs.Law.{force_learned, force_stamp, loose_is}
use Rattle.dq_core.proofs.RunsMoves.{put_other, put_same}
use Rattle.dq_core.proofs.Slotwise.{held_inside}
use Rattle.dq_core.proofs.Ways.{table_row_is}
use Rattle.dq_growing.specs.declared.moving.Moved.{Moved}
use Rattle.dq_growing.specs.declared.moving.Moved.TheVariants.{To, Out}
use Rattle.dq_growing.specs.declared.moving.NextDeadline.{NextDeadline}
use Rattle.dq_growing.specs.declared.moving.NextDeadline.TheVariants.{At}
use Rattle.dq_growing.specs.Cores.{AreCores, CoreRow, InsertsIn, IsCoreAt, OnCore, OnCoreAt, OnCoreOr}
use Rattle.dq_growing.specs.Moving.{IfTo, IsTakenOut, Relocates}
use Rattle.dq_growing.specs.Notes.{Book, IsNoted, LosesNote, SameNotes, meant_place, or_own, place_by, user_at, with_id}
use Rattle.dq_growing.specs.Polls.{PollsCore, PollsRow, TakesDeferredIn, noting_in, told}
use Rattle.dq_growing.specs.declared.sweeping.Sweep.{Sweep}
use Rattle.dq_growing.specs.Sizing.{OnlyOpens, SweepsNext}
use Rattle.dq_growing.specs.Stands.{HasEntry, IsThere, KeepsWords, SameStand}
use Rattle.dq_growing.specs.Sized.{SizedState}
use Rattle.dq_growing.specs.Store.{StoreState, IsStore, StandsFor, NoneStandsFor, GoesOnFor, GoesOut, NotesAfter, NotesAnswered, NotesReaped, ReapsFor, RelocatesFor, RemovesFor, ResetsFor, TellsFor, AfterReset, answer_as, expired_as, piece_as, removed_as, ResetsThere}
use Rattle.dq_growing.proofs.Holding.{CoreRaises, pieces_raise, polls_raise, sweeps_raise}
use Rattle.dq_growing.proofs.Keeping.{piece_gone, poll_gone, way_stood}
use Rattle.dq_growing.proofs.Leasts.{some_not_none}
use Rattle.dq_growing.proofs.Pairing.{one_or_two}
use Rattle.dq_growing.proofs.Rows.{keeps_law, one_at}
use Rattle.dq_growing.proofs.Standing.{comes_there, same_id, set_other, some_is}
use Rattle.dq_growing.proofs.Stored.{forgets_user, law_resets, place_is, stored}
use Rattle.dq_queue.specs.declared.journal.views.Entry.{Entry as Call}
use Rattle.dq_words.proofs.Ends.{stamps}
use Rattle.dq_words.specs.declared.views.View.{View}
use Rattle.dq_words.specs.Files.{Among, file, IsIn}
use Rattle.dq_words.specs.KeeperCalls.{HasBegun}
use Rattle.dq_words.specs.Rule.{Had, HadAt, Ruled}
use Rattle.dq_words.specs.Seats.{Sat}
use Rattle.dq_queue.specs.Calls.{DoesSteps, KeepsNumbers, NoneLeft, StoreExchanges, StorePolls, StoreRelocates, StoreRemoves}
use Rattle.dq_queue.specs.Endings.{InEachTable, IsKeptCore, present_key}
use Rattle.dq_queue.specs.Leaving.{EachLosesNone, LosesNone, NoneIsLostIn, StoreLosesNone, WasCancelledIn, WasCancelledOnce}
use Rattle.dq_queue.specs.Shards.{IsStoreHistory}
use Rattle.dq_queue.proofs.Claims.{table_by}
use Rattle.dq_queue.proofs.Outs.{answer_way, length_row, ok_not_err, on_core, seen_word}

-- machines

module _ {T : Type 0} where
  -- an entry of that birth stands at a slot
  abbrev Born : Machine T → ℕ → ℕ → Type 0
  Born m i born = (e : Entry T) × ((table_at m i).entry ≡ Some e) × (e.born ≡ born)

  -- callers' steps leave each entry linked
  due_on : (m n : Machine T) (j s : ℕ) (e : Entry T) (d : Option ℕ) → Has m j e → n ≡ put m j s (with_due e d) → (i born : ℕ) → Born m i born → Born n i born
  due_on m n j s e d has is i born (x, at, of) =
      dite (ℕ_discrete i j)
      (λ here. let P : ℕ → Type 0 = λ k. (table_at m k).entry ≡ Some x in
      let Q : ℕ → Type 0 = λ k. Born n k born in
      let same = some_is e x (sym has.1 ∙ subst P here at) in
      subst Q (sym here) (record { born = e.born; value = e.value; due = d }, ap (λ r. r.entry) (put_same m n j s (with_due e d) has.0 is), ap (λ z. z.born) same ∙ of))
      (λ ne. (x, ap (λ r. r.entry) (put_other m n i j s (with_due e d) ne is) ∙ at, of))

  caller_on : (last : ℕ) (m n : Machine T) (e : Event T) → IsCallers true e → Step last m e n → (i born : ℕ) → Born m i born → Born n i born
  caller_on last m n (Extend j s when) its step i born at = due_on m n j s step.0 (Some (max when step.1)) step.2 step.5 i born at
  caller_on last m n (Cancel j s) its step i born at = due_on m n j s step.0 None step.2 step.5 i born at
  caller_on last m n e its step i born at = absurd its

  callers_on : (last : ℕ) (m n : Machine T) (es : List (Event T)) → AllByRecursion (IsCallers true) es → Run last m es n → (i born : ℕ) → Born m i born → Born n i born
  callers_on last m n [] all run i born at = let P : Machine T → Type 0 = λ k. Born k i born in subst P (sym run) at
  callers_on last m n (e ∷ es) all (k, step, run) i born at = callers_on last k n es all.1 run i born (caller_on last m k e all.0 step i born at)

  on_way : (e : Event T) → IsCallers true e → IsOnTheWay true e
  on_way (Extend j s when) its = its
  on_way (Cancel j s) its = its
  on_way e its = absurd its

  all_on_way : (es : List (Event T)) → AllByRecursion (IsCallers true) es → AllByRecursion (IsOnTheWay true) es
  all_on_way [] all = all
  all_on_way (e ∷ es) all = (on_way e all.0, all_on_way es all.1)

  -- the table of slots and words, at one slot

  -- what stands there is held
  held_of : (o : Option (HeldEntry T)) (w : Parts) (e : Entry T) → entry_of o w ≡ Some e → (h : HeldEntry T) × (o ≡ Some h) × (h.born ≡ e.born)
  held_of None w e is = absurd (some_not_none e (sym is))
  held_of (Some h) w e is = (h, refl, ap (λ x. x.born) (some_is _ e is))

  held_at : (rows : List (Row T)) (known : List Parts) (i : ℕ) (e : Entry T) → (get_or (table_of rows known) i (record { stamp = 0; entry = None })).entry ≡ Some e
      → (h : HeldEntry T) × ((row_at rows i).held ≡ Some h) × (h.born ≡ e.born)
  held_at [] known i e is = absurd (some_not_none e (sym is))
  held_at (r ∷ rows) [] i e is = absurd (some_not_none e (sym is))
  held_at (r ∷ rows) (w ∷ known) zero e is = held_of r.held w e is
  held_at (r ∷ rows) (w ∷ known) (suc i) e is = held_at rows known i e is

  -- what is held is an entry by any word
  by_word : (o : Option (HeldEntry T)) (w v : Parts) (e : Entry T) → entry_of o w ≡ Some e → (f : Entry T) × (entry_of o v ≡ Some f) × (f.born ≡ e.born)
  by_word None w v e is = absurd (some_not_none e (sym is))
  by_word (Some h) w v e is = (_, refl, ap (λ x. x.born) (some_is _ e is))

  by_words : (rows : List (Row T)) (ws vs : List Parts) → length vs ≡ length ws → (i : ℕ) (e : Entry T) → (get_or (table_of rows ws) i (record { stamp = 0; entry = None })).entry ≡ Some e
      → (f : Entry T) × ((get_or (table_of rows vs) i (record { stamp = 0; entry = None })).entry ≡ Some f) × (f.born ≡ e.born)
  by_words [] ws vs long i e is = absurd (some_not_none e (sym is))
  by_words (r ∷ rows) [] vs long i e is = absurd (some_not_none e (sym is))
  by_words (r ∷ rows) (w ∷ ws) [] long i e is = absurd (omega arith)
  by_words (r ∷ rows) (w ∷ ws) (v ∷ vs) long zero e is = by_word r.held w v e is
  by_words (r ∷ rows) (w ∷ ws) (v ∷ vs) long (suc i) e is = by_words rows ws vs (omega arith) i e is

-- cores

module _ {T : Type 0} where
  -- each entry of a core still stands in it
  abbrev Stays : Core T Sat → Core T Sat → Type 0
  Stays b c = (p : EntryId) (e : Entry T) → IsThere b p e → (f : Entry T) × IsThere c p f

  same_stay : (b c : Core T Sat) → c ≡ b → Stays b c
  same_stay b c is p e x = let P : Core T Sat → Type 0 = λ k. IsThere k p e in (e, subst P (sym is) x)

  callers_stay : (b c : Core T Sat) → c.shard ≡ b.shard → Callers true b.slots.last_stamp (machine b) (machine c) → Stays b c
  callers_stay b c same way p e x =
      let f = callers_on b.slots.last_stamp (machine b) (machine c) way.0 way.1 way.2 p.index p.born (e, x.linked, x.born) in
      (f.0, record { shard = x.shard ∙ sym same; linked = f.1; born = f.2 })

  refused_stay : (b c : Core T Sat) (id : EntryId) (e : CoreError) → FindRefused true b id e c → Stays b c
  refused_stay b c id Missing did = same_stay b c did.1
  refused_stay b c id WasCancelled did = callers_stay b c did.looked.shard did.looked.callers
  refused_stay b c id e did = absurd did

  tells_stay : (b c : Core T Sat) (id : EntryId) (r : Result ℕ CoreError) → TellsDeadline true b id r c → Stays b c
  tells_stay b c id (Ok d) did = callers_stay b c did.looked.shard did.looked.callers
  tells_stay b c id (Err e) did = refused_stay b c id e did

  reset_refused_stay : (b c : Core T Sat) (id : EntryId) (when : ℕ) (e : CoreError) → ResetRefused true b id when e c → Stays b c
  reset_refused_stay b c id when (TooFar limit) did = same_stay b c did.2
  reset_refused_stay b c id when Missing did = same_stay b c did.2
  reset_refused_stay b c id when WasCancelled did = callers_stay b c did.1.looked.shard did.1.looked.callers
  reset_refused_stay b c id when Worn did = callers_stay b c did.1.1.looked.shard did.1.1.looked.callers
  reset_refused_stay b c id when e did = absurd did

  pub resets_stay : (b c : Core T Sat) (id : EntryId) (when : ℕ) (r : Result Key CoreError) → Resets true b id when r c → Stays b c
  resets_stay b c id when (Ok k) did p e x =
      let m = did.run.0 in
      let step = did.run.2 in
      let way = did.run.1 in
      let on = callers_on b.slots.last_stamp (machine b) m way.0 way.1 way.2 p.index p.born (e, x.linked, x.born) in
      let f = due_on m (machine c) id.index _ step.0 _ step.2 step.6 p.index p.born on in
      (f.0, record { shard = x.shard ∙ sym did.same_shard; linked = f.1; born = f.2 })
  resets_stay b c id when (Err e) did p e' x = reset_refused_stay b c id when e did p e' x

  inserts_stay : (b c : Core T Sat) (v : T) (when : ℕ) (r : Result Key (CoreError × T)) → Inserts b v when r c → Stays b c
  inserts_stay b c v when (Ok k) did p e x =
      dite (ℕ_discrete p.index k.entry.index)
      (λ here. let P : ℕ → Type 0 = λ i. (table_at (machine b) i).entry ≡ Some e in
      absurd (some_not_none e (sym (subst P here x.linked) ∙ did.step.1)))
      (λ ne. (e, record { shard = x.shard ∙ sym did.same_shard; linked = ap (λ r. r.entry) (inserted_others did p.index ne) ∙ x.linked; born = x.born }))
  inserts_stay b c v when (Err e) did p e' x = same_stay b c did.2 p e' x

  -- a removal takes out the entry that it names
  removed_stay : (b c : Core T Sat) (id : EntryId) (y : Removed T) → IsRemoved true b id y c → (p : EntryId) (e : Entry T) → IsThere b p e → p ≢ id → (f : Entry T) × IsThere c p f
  removed_stay b c id y did p e x ne =
      dite (ℕ_discrete p.index id.index)
      (λ here. let way = did.run.1 in
      let f = way_stood true b.slots.last_stamp (machine b) did.run.0 way.0 (all_on_way way.0 way.1) way.2 id.index _ did.run.3.1 in
      let P : ℕ → Type 0 = λ i. (table_at (machine b) i).entry ≡ Some e in
      let is = some_is e f.0 (sym (subst P here x.linked) ∙ f.1) in
      absurd (ne (same_id p id (x.shard ∙ sym did.shard) here (sym x.born ∙ (ap (λ (z : Entry T). z.born) is ∙ f.2)))))
      (λ n. (e, record { shard = x.shard ∙ sym did.same_shard; linked = ap (λ r. r.entry) (removed_others did p.index n) ∙ x.linked; born = x.born }))

-- words

in_long : {A : Type 0} (xs : List A) (x : A) → IsIn xs x → 0 < length xs
in_long [] x in_it = absurd in_it
in_long (y ∷ ys) x in_it = omega arith

-- a slot that has had a cancelled word was cancelled
had_cancelled : (n s i : ℕ) (views : List View) → n ≡ word s 1 0 → Had n i views → 0 < length (file i s views).cancels
had_cancelled n s i views is = ⊎_elim
    (λ (never_used : n ≡ 0). absurd (omega arith))
    (λ (had : (t : ℕ) × HadAt n t (file i t views)). let t = had.0 in ⊎_elim
    (λ (living : (d : ℕ) × (n ≡ word t 0 d) × (d ≤ 4398046511103) × Among (file i t views) d).
    let now = living.1 in let low = living.2 in absurd (omega arith))
    (⊎_elim
    (λ (gone : (d : ℕ) × (n ≡ word t 1 0) × IsIn (file i t views).cancels d).
    let now = gone.1 in
    let same : t ≡ s = omega arith in
    let P : ℕ → Type 0 = λ k. 0 < length (file i k views).cancels in
    subst P same (in_long _ gone.0 gone.2))
    (λ (ended : (m : ℕ) × (d : ℕ) × (n ≡ word t m d) × (1 < m) × (m < 4) × (d ≤ 4398046511103) × IsIn (file i t views).ends (m, d)).
    let now = ended.2 in let more = ended.3 in let less = ended.4 in let low = ended.5 in absurd (omega arith)))
    had.1)

was_cancelled : (w : View) (t : State ℕ View) (r : Ruled (length w.seen) t) (at : get_elem? t.views 0 ≡ some w) (k : Key) → k.entry.index < length w.seen
    → get_or w.seen k.entry.index 0 ≡ word k.stamp 1 0 → 0 < k.stamp → WasCancelledOnce k t
was_cancelled w t r at k inside seen positive =
    let i = k.entry.index in
    let sees = r.kept.sees 0 w at in
    let below = sees.below i inside in
    let many = had_cancelled _ k.stamp i t.views seen (sees.had i inside) in
    let all = (stamps _ t r i k.stamp inside positive (omega (arith, below, seen))).1 in
    (omega (arith, many, all), omega (arith, many, all))

-- a word in force under which nothing is linked is cancelled
cancelled_over : (s : ℕ) (w : Parts) → IsInForce s 0 w → IsOver w → w ≡ cancelled s
cancelled_over s w (positive, inr is) over = is
cancelled_over s w (positive, inl (is, after, small)) (inl unused_word) =
    let stamp : s ≡ 0 = ap (λ (p : Parts). p.stamp) (sym is ∙ unused_word) in absurd (omega (arith, positive, stamp))
cancelled_over s w (positive, inl (is, after, small)) (inr mark) = absurd (mark (ap (λ (p : Parts). p.mark) is))

-- entries that a core holds no more

module _ {T : Type 0} where
  unheld : (o : Option (HeldEntry T)) (w : Parts) → entry_of o w ≡ None → o ≡ None
  unheld None w is = refl
  unheld (Some h) w is = absurd (some_not_none _ is)

  -- by what its core keeps, the key of a place was cancelled
  abbrev Cancelled : Core T Sat → Core T Sat → EntryId → Type 0
  Cancelled b c p = IsLawfulCore b → IsKeptCore c → InEachTable c.words.view (WasCancelledOnce (present_key b p))

  -- so where an entry was found that its core holds no more, and nothing else was learned of its word
  cancelled_at : (b c : Core T Sat) (p : EntryId) → IsFound b p p.index → (row_at c.slots.rows p.index).held ≡ None → length c.known ≡ length b.known
      → Learned true (word_at b.known p.index) (word_at c.known p.index) → IsLawfulCore b → IsKeptCore c → InEachTable c.words.view (WasCancelledOnce (present_key b p))
  cancelled_at b c p found none long learned law kept =
      let i = p.index in
      let s = (row_at b.slots.rows i).stamp in
      let force = found_force b law p i s found refl in
      let stamp = force_stamp s 0 (word_at b.known i) force in
      let was = law.as_known in
      let is = kept.core.as_known in
      let inside = found.2 in
      let here = cancelled_over s (word_at c.known i) (force_learned true s 0 (word_at b.known i) (word_at c.known i) force learned)
      (loose_is kept.core i (omega (arith, was, is, inside, long)) none).1 in
      let known : length c.known ≡ length c.words.view.seen = ap length kept.known ∙ length_row c.words.view.seen in
      let packed_is = seen_word c.known c.known c.words.view.seen i (word_at c.known i) kept.known (sym (set-get_or c.known i never)) (omega (arith, was, inside, long)) in
      let seen : get_or c.words.view.seen i 0 ≡ word s 1 0 = packed_is ∙ ap (λ (w : Parts). packed w) here in
      let P : ℕ → Type 0 = λ n. InEachTable c.words.view (WasCancelledOnce (record { entry = p; stamp = n })) in
      subst P (sym stamp) (λ t r at. was_cancelled c.words.view t r at (record { entry = p; stamp = s }) (omega (arith, known, was, inside, long)) seen force.0)

  found_there : (b : Core T Sat) (p : EntryId) (e : Entry T) → IsThere b p e → IsFound b p p.index
  found_there b p e x =
      let h = held_at b.slots.rows b.known p.index e x.linked in
      (x.shard, refl, held_inside b.slots.rows p.index h.0 h.1, (h.0, h.1, h.2 ∙ x.born))

  -- two entries at one slot of a core are one
  one_there : (b : Core T Sat) (p q : EntryId) (e f : Entry T) → IsThere b p e → IsThere b q f → p.index ≡ q.index → p ≡ q
  one_there b p q e f x y here =
      let P : ℕ → Type 0 = λ i. (table_at (machine b) i).entry ≡ Some e in
      let is = some_is e f (sym (subst P here x.linked) ∙ y.linked) in
      same_id p q (x.shard ∙ sym y.shard) here (sym x.born ∙ (ap (λ (z : Entry T). z.born) is ∙ y.born))

  -- a poll

  -- what comes out is the entry of that place
  abbrev Comes : Piece T → EntryId → Type 0
  Comes (Answer (CameOut x)) p = p ≡ x.key.entry
  Comes (Answer (Waiting next)) p = ⊥
  Comes (Answer Idle) p = ⊥
  Comes Working p = ⊥

  comes_told : (noted others : ℕ) (made : Piece T) (p : EntryId) → Comes made p → Comes (told noted others made) p
  comes_told noted others (Answer (CameOut x)) p is = is
  comes_told noted others (Answer (Waiting next)) p is = absurd is
  comes_told noted others (Answer Idle) p is = absurd is
  comes_told noted others Working p is = absurd is

  vanished : (b c : Core T Sat) (p : EntryId) (e : Entry T) → IsThere b p e → (table_at (machine c) p.index).entry ≡ None → length c.known ≡ length b.known
      → Learned true (word_at b.known p.index) (word_at c.known p.index) → Cancelled b c p
  vanished b c p e x none long learned law kept =
      let row = ap (λ r. r.entry) (table_row_is c.slots.rows c.known kept.core.as_known p.index) in
      cancelled_at b c p (found_there b p e x) (unheld (row_at c.slots.rows p.index).held (word_at c.known p.index) (sym row ∙ none)) long learned law kept

  out_of : (most : Option ℕ) (tick : ℕ) (b c : Core T Sat) (x : Expired T) → DoesSteps most tick (Answer (CameOut x)) b c → (e : Entry T) × IsThere b x.key.entry e
  out_of (Some most) tick b c x did = let out = piece_gone true most tick b c x did in (out.2.0, out.2.1)
  out_of None tick b c x did = let out = poll_gone true tick b c x did in (out.2.0, out.2.1)

  steps_raise : (most : Option ℕ) (tick : ℕ) (piece : Piece T) (b c : Core T Sat) → DoesSteps most tick piece b c → CoreRaises b c
  steps_raise (Some most) tick piece b c did = pieces_raise true most tick piece b c did
  steps_raise None tick piece b c did = polls_raise true tick piece b c did

  gone_by : (most : Option ℕ) (tick : ℕ) (piece : Piece T) (b c : Core T Sat) → DoesSteps most tick piece b c → (p : EntryId) (e : Entry T) → IsThere b p e
      → (table_at (machine c) p.index).entry ≡ None → Cancelled b c p ⊎ Comes piece p
  gone_by None tick Working b c did p e x none = absurd did
  gone_by (Some most) tick Working b c did p e x none = let looks = did.2.0.looks in inl (vanished b c p e x none looks.0 (looks.1 p.index))
  gone_by most tick (Answer (Waiting next)) b c did p e x none = let looks = (answer_way most tick (Waiting next) b c did).1 in inl (vanished b c p e x none looks.0 (looks.1 p.index))
  gone_by most tick (Answer Idle) b c did p e x none = let looks = (answer_way most tick Idle b c did).1 in inl (vanished b c p e x none looks.0 (looks.1 p.index))
  gone_by most tick (Answer (CameOut y)) b c did p e x none =
      let row = (answer_way most tick (CameOut y) b c did).1 in
      let j = y.key.entry.index in
      let mid = row.0 in
      let out = out_of most tick b c y did in
      dite (ℕ_discrete p.index j)
      (λ here. inr (one_there b p y.key.entry e out.0 x out.1 here))
      (λ ne. let word_is : word_at c.known p.index ≡ word_at mid p.index = ap (λ (ws : List Parts). word_at ws p.index) row.3 ∙ get_or-set_other mid j p.index _ never ne in
      let P : Parts → Type 0 = λ w. Learned true (word_at b.known p.index) w in
      inl (vanished b c p e x none (ap length row.3 ∙ (length-set mid j _ ∙ row.1.0)) (subst P (sym word_is) (row.1.1 p.index))))

  fate : (most : Option ℕ) (tick : ℕ) (piece : Piece T) (b c : Core T Sat) → DoesSteps most tick piece b c → c.shard ≡ b.shard → (p : EntryId) (e : Entry T) → IsThere b p e
      → (o : Option (Entry T)) → (table_at (machine c) p.index).entry ≡ o → ((f : Entry T) × IsThere c p f) ⊎ (Cancelled b c p ⊎ Comes piece p)
  fate most tick piece b c did same p e x None at = inr (gone_by most tick piece b c did p e x at)
  fate most tick piece b c did same p e x (Some f) at =
      let g = steps_raise most tick piece b c did p.index f at in
      let is = some_is g.0 e (sym g.1 ∙ x.linked) in
      inl (f, record { shard = x.shard ∙ sym same; linked = at; born = sym g.2 ∙ (ap (λ (z : Entry T). z.born) is ∙ x.born) })

-- rows of cores

module _ {T : Type 0} where
  -- each entry of a row of cores still stands there
  abbrev RowStays : CoreRow T Sat → CoreRow T Sat → Type 0
  RowStays s t = (p : EntryId) (e : Entry T) → HasEntry s p e → (f : Entry T) × HasEntry t p f

  same_row : (s t : CoreRow T Sat) → t.cores ≡ s.cores → RowStays s t
  same_row s t is p e z = let P : List (Core T Sat) → Type 0 = λ l. IsCoreAt l z.0 z.1 in (e, (z.0, z.1, subst P (sym is) z.2, z.3))

  -- an entry is in the core of the call, or stays in another
  at_or : (s t : CoreRow T Sat) (i : ℕ) (P : Core T Sat → Core T Sat → Type 0) (on : OnCoreAt i P s t) (p : EntryId) (e : Entry T) → HasEntry s p e
      → IsThere on.before p e ⊎ HasEntry t p e
  at_or s t i P on p e z =
      dite (ℕ_discrete z.0 i)
      (λ here. let A : ℕ → Type 0 = λ k. IsCoreAt s.cores k z.1 in
      let B : Core T Sat → Type 0 = λ k. IsThere k p e in
      inl (subst B (one_at s.cores i z.1 on.before (subst A here z.2) on.at) z.3))
      (λ n. let B : CoreRow T Sat → Type 0 = λ r. HasEntry r p e in
      inr (subst B (sym on.rest) (z.0, z.1, set_other s.cores i z.0 on.after z.1 n z.2, z.3)))

  at_stays : (s t : CoreRow T Sat) (i : ℕ) (P : Core T Sat → Core T Sat → Type 0) (on : OnCoreAt i P s t) → Stays on.before on.after → RowStays s t
  at_stays s t i P on stays p e z =
      ⊎_elim
      (λ (x : IsThere on.before p e). let f = stays p e x in (f.0, (i, on.after, on_core s t i P on, f.1)))
      (λ (y : HasEntry t p e). (e, y))
      (at_or s t i P on p e z)

  abbrev as_at : (s t : CoreRow T Sat) (n : ℕ) (P : Core T Sat → Core T Sat → Type 0) (on : OnCore n P s t) → OnCoreAt on.place P s t
  as_at s t n P on = record { before = on.before; after = on.after; at = on.at.0; did = on.did; rest = on.rest }

  or_stays : (s t : CoreRow T Sat) (n : ℕ) (P : Core T Sat → Core T Sat → Type 0) (R : Type 0) → OnCoreOr n P R s t → ((b c : Core T Sat) → P b c → Stays b c) → RowStays s t
  or_stays s t n P R (inl on) stays = at_stays s t on.place P (as_at s t n P on) (stays on.before on.after on.did)
  or_stays s t n P R (inr y) stays = same_row s t (ap (λ (r : CoreRow T Sat). r.cores) y.2)

  inserts_row : (s t : CoreRow T Sat) (v : T) (when : ℕ) (r : Result Key (CoreError × T) × Option T) → InsertsIn s v when r t → RowStays s t
  inserts_row s t v when r (inl on) = at_stays s t s.opened _ on (inserts_stay on.before on.after v when r.0 on.did.0)
  inserts_row s t v when r (inr y) = same_row s t (ap (λ (k : CoreRow T Sat). k.cores) y.2)

-- stores

same_users : (n m : Book) → m ≡ n → (p : EntryId) → user_at m p ≡ user_at n p
same_users n m is p = ap (λ k. user_at k p) is

noted_place : (id p q : EntryId) (a b : Option EntryId) → a ≡ Some p → place_by id a b ≡ Some q → p ≡ q
noted_place id p q (Some w) b at is = some_is p q (sym at ∙ is)
noted_place id p q None b at is = absurd (some_not_none p (sym at))

kept_users : (n m : Book) → SameNotes n m → (p : EntryId) → user_at m p ≡ user_at n p
kept_users n m same p = ap (or_own p) (same.1 p)

module _ {T : Type 0} where
  pub numbers_kept : (s t : StoreState T Sat) → KeepsWords table_by HasBegun s.cores t.cores → KeepsNumbers s t
  numbers_kept s t words i b c was is =
      let k = words i b was in
      ap (λ (x : Core T Sat). x.shard) (one_at t.cores.cores i c k.0 is k.1) ∙ k.2

  -- no entry leaves where each stays at its place, and each place has the user that it had
  still : (s t : StoreState T Sat) → RowStays s.cores t.cores → ((p : EntryId) → user_at t.notes p ≡ user_at s.notes p) → NoneLeft s t
  still s t stays same u none e (p, named, there) = let f = stays p e there in none f.0 (p, same p ∙ named, f.1)

  none_lost : (s t : StoreState T Sat) → NoneLeft s t → LosesNone s t
  none_lost s t left u v has none = absurd (left u none has.0 has.1)

  same_none_left : (s t : StoreState T Sat) → t ≡ s → NoneLeft s t
  same_none_left s t is u none = let P : StoreState T Sat → Type 0 = λ k. NoneStandsFor k u in subst P is none

  -- a move that goes on takes no entry away
  goes_on_none : (s t : StoreState T Sat) (id : EntryId) (d : ℕ) → GoesOnFor s id d t → NoneLeft s t
  goes_on_none s t id d goes u none e z =
      ⊎_elim
      (λ (is : u ≡ id). let P : EntryId → Type 0 = λ k. NoneStandsFor t k in (subst P is none) goes.here.0 goes.here.1)
      (λ (ne : u ≢ id). none e (goes.others.0 u e ne z))
      (one_or_two u id)

  pub moves_on_none : (s t : StoreState T Sat) (id : EntryId) (r : Result (Moved T) CoreError) → IfOk r (λ moved. IfTo moved (λ k d. (k.entry ≡ id) × GoesOnFor s id d t))
      → IfOk r (λ moved. IfTo moved (λ k d. NoneLeft s t))
  moves_on_none s t id (Ok (To k d)) goes = goes_on_none s t id d goes.1
  moves_on_none s t id (Ok (Out x)) goes = tt {0}
  moves_on_none s t id (Err e) goes = tt {0}

  -- an entry that one core holds no more, as cancelled
  cancelled_in : (s t : StoreState T Sat) (u p : EntryId) (e : Entry T) (i : ℕ) (b c : Core T Sat) → user_at s.notes p ≡ u → HasEntry s.cores p e → IsCoreAt s.cores.cores i b → IsCoreAt t.cores.cores i c
      → IsFound b p p.index → KeepsNumbers s t → Cancelled b c p → WasCancelledIn u s t
  cancelled_in s t u p e i b c named there was is held numbers gone =
      record {
        place = p;
        user = named;
        stood = (e, there);
        core = i;
        before = b;
        after = c;
        was = was;
        is = is;
        held = held;
        same = numbers i b c was is;
        cancelled = gone;
      }

  -- what a call made of an entry at a place whose note stays
  module _ (s t : StoreState T Sat) (u p : EntryId) (e : Entry T) (named : user_at s.notes p ≡ u) (there : HasEntry s.cores p e) (none : NoneStandsFor t u) (user : user_at t.notes p ≡ user_at s.notes p) where
    stayed : (f : Entry T) × HasEntry t.cores p f → ⊥
    stayed f = none f.0 (p, user ∙ named, f.1)

    -- a poll by which it doesn't come out
    piece_lost : (tick : ℕ) (most : Option ℕ) (piece : Piece T) → PollsRow (DoesSteps most) s.cores tick (Ok piece) t.cores → KeepsNumbers s t → (Comes piece p → ⊥) → WasCancelledIn u s t
    piece_lost tick most piece polled numbers never_out = ⊎_elim
        (λ rests. absurd (stayed (same_row s.cores t.cores (ap (λ (r : CoreRow T Sat). r.cores) rests.1) p e there)))
        (λ (k : PollsCore (DoesSteps most) (noting_in s.cores tick) piece t.cores).
        let on = k.did in
        let b = on.before in
        let c = on.after in
        let is = on_core (noting_in s.cores tick) t.cores k.place _ on in
        ⊎_elim
        (λ (x : IsThere b p e). ⊎_elim
        (λ (f : (f : Entry T) × IsThere c p f). absurd (stayed (f.0, (k.place, c, is, f.1))))
        (⊎_elim
        (λ (gone : Cancelled b c p). cancelled_in s t u p e k.place b c named there on.at is (found_there b p e x) numbers gone)
        (λ (out : Comes k.made p). let P : Piece T → Type 0 = λ q. Comes q p in
        absurd (never_out (subst P (sym k.tells) (comes_told (noting_in s.cores tick).noted k.others k.made p out)))))
        (fate most (min (noting_in s.cores tick).noted k.others) k.made b c on.did (numbers k.place b c on.at is) p e x _ refl))
        (λ (y : HasEntry t.cores p e). absurd (stayed (e, y)))
        (at_or (noting_in s.cores tick) t.cores k.place _ on p e there))
        polled.1

  -- polls, by what the cores' poll made
  polls_lose : (s t : StoreState T Sat) (tick : ℕ) (most : Option ℕ) (r : Result (Piece T) CoreError) → StorePolls tick most r s t → (made : Result (Piece T) CoreError)
      → PollsRow (DoesSteps most) s.cores tick made t.cores → r ≡ piece_as s.notes made → NotesAfter s.notes made t.notes → LosesNone s t
  polls_lose s t tick most r did (Err e) polled is notes u v has none =
      none_lost s t (still s t (same_row s.cores t.cores (ap (λ (k : CoreRow T Sat). k.cores) polled.2)) (same_users s.notes t.notes notes)) u v has none
  polls_lose s t tick most r did (Ok Working) polled is notes u v has none =
      let z = has.1 in inr (piece_lost s t u z.0 has.0 z.1 z.2 none (same_users s.notes t.notes notes z.0) tick most Working polled did.5 (λ no. no))
  polls_lose s t tick most r did (Ok (Answer (Waiting next))) polled is notes u v has none =
      let z = has.1 in inr (piece_lost s t u z.0 has.0 z.1 z.2 none (same_users s.notes t.notes notes z.0) tick most (Answer (Waiting next)) polled did.5 (λ no. no))
  polls_lose s t tick most r did (Ok (Answer Idle)) polled is notes u v has none =
      let z = has.1 in inr (piece_lost s t u z.0 has.0 z.1 z.2 none (same_users s.notes t.notes notes z.0) tick most (Answer Idle) polled did.5 (λ no. no))
  polls_lose s t tick most r did (Ok (Answer (CameOut y))) polled is notes u v has none =
      let z = has.1 in
      let q = y.key.entry in
      ⊎_elim
      (λ (same : z.0 ≡ q).
      let P : Result (Piece T) CoreError → Type 0 = λ k. StorePolls tick most k s t in
      inl (inr (inr (tick, most, expired_as (user_at s.notes q) y, ap (λ k. user_at s.notes k) (sym same) ∙ z.1, subst P is did))))
      (λ (ne : z.0 ≢ q). inr (piece_lost s t u z.0 has.0 z.1 z.2 none (forgets_user s.notes t.notes q notes.0 notes.1 z.0 ne) tick most (Answer (CameOut y)) polled did.5 ne))
      (one_or_two z.0 q)

  -- what a removal took out, or a move that gave it out, is the entry of the id that it names
  taken_named : (s t : StoreState T Sat) (id p0 : EntryId) (y : Removed T) (v : T) → IsTakenOut true p0 y s.cores t.cores → LosesNote s.notes p0 t.notes → GoesOut s id v t
      → (u : EntryId) (e : Entry T) → StandsFor s u e → NoneStandsFor t u → u ≡ id
  taken_named s t id p0 y v taken (o, lost) out u e z none =
      let stays : (q : EntryId) (g : Entry T) → HasEntry s.cores q g → q ≢ p0 → (f : Entry T) × HasEntry t.cores q f = λ q g there ne.
      ⊎_elim
      (λ (x : IsThere taken.before q g). let f = removed_stay taken.before taken.after p0 y taken.did q g x ne in
      (f.0, (taken.place, taken.after, on_core s.cores t.cores taken.place _ (as_at s.cores t.cores p0.shard _ taken), f.1)))
      (λ (there' : HasEntry t.cores q g). (g, there'))
      (at_or s.cores t.cores taken.place _ (as_at s.cores t.cores p0.shard _ taken) q g there) in
      let leaves : (w q : EntryId) (g : Entry T) → user_at s.notes q ≡ w → HasEntry s.cores q g → NoneStandsFor t w → q ≢ p0 → ⊥ = λ w q g named there gone ne.
      let f = stays q g there ne in
      gone f.0 (q, forgets_user s.notes t.notes p0 o lost q ne ∙ named, f.1) in
      let w = out.0.1 in
      ⊎_elim
      (λ (a : z.0 ≡ p0). ⊎_elim
      (λ (b : w.0 ≡ p0). sym z.1 ∙ (ap (λ k. user_at s.notes k) (a ∙ sym b) ∙ w.1))
      (λ (ne : w.0 ≢ p0). absurd (leaves id w.0 out.0.0 w.1 w.2 out.1 ne))
      (one_or_two w.0 p0))
      (λ (ne : z.0 ≢ p0). absurd (leaves u z.0 e z.1 z.2 none ne))
      (one_or_two z.0 p0)

  removes_lose : (s t : StoreState T Sat) (id : EntryId) (r : Result (Removed T) CoreError) → StoreRemoves id r s t → RemovesFor true s id r t → LosesNone s t
  removes_lose s t id (Ok x) did (inl (p0, meant, (y, taken, is, lost))) u v has none =
      let same = taken_named s t id p0 y x.value taken lost did.2 u has.0 has.1 none in
      let P : EntryId → Type 0 = λ k. StoreRemoves k (Ok x) s t in
      inl (inl (x, subst P (sym same) did))
  removes_lose s t id (Ok x) did (inr (nowhere, (is, same))) u v has none = absurd (ok_not_err x Missing is)
  removes_lose s t id (Err e) did (inl (p0, meant, (on, notes))) u v has none =
      none_lost s t (still s t (or_stays s.cores t.cores p0.shard _ _ on (λ b c found. refused_stay b c p0 e found)) (same_users s.notes t.notes notes)) u v has none
  removes_lose s t id (Err e) did (inr (nowhere, (is, same))) u v has none = none_lost s t (same_none_left s t same) u v has none

  tells_left : (s t : StoreState T Sat) (id : EntryId) (r : Result ℕ CoreError) → TellsFor true s id r t → NoneLeft s t
  tells_left s t id r (inl (p0, meant, (on, notes))) =
      still s t (or_stays s.cores t.cores p0.shard _ _ on (λ b c did. tells_stay b c p0 r did)) (same_users s.notes t.notes notes)
  tells_left s t id r (inr (nowhere, (is, same))) = same_none_left s t same

  -- a move that is refused
  refused_move : (s t : CoreRow T Sat) (p0 : EntryId) (next : NextDeadline) (e : CoreError) (beside : Option T) → Relocates true p0 next (Err e, beside) s t → RowStays s t
  refused_move s t p0 next (TooFar limit) beside y = same_row s t (ap (λ (r : CoreRow T Sat). r.cores) y.3)
  refused_move s t p0 next (Full linked worn) beside y = same_row s t (ap (λ (r : CoreRow T Sat). r.cores) y.3)
  refused_move s t p0 next Missing beside y = or_stays s t p0.shard _ _ y.3 (λ b c did. refused_stay b c p0 Missing did)
  refused_move s t p0 next WasCancelled beside y = or_stays s t p0.shard _ _ y.3 (λ b c did. refused_stay b c p0 WasCancelled did)
  refused_move s t p0 next Worn beside y = or_stays s t p0.shard _ _ y.3 (λ b c did. refused_stay b c p0 Worn did)
  refused_move s t p0 next (TickTooLarge limit) beside y = or_stays s t p0.shard _ _ y.3 (λ b c did. refused_stay b c p0 (TickTooLarge limit) did)
  refused_move s t p0 next BadConfig beside y = or_stays s t p0.shard _ _ y.3 (λ b c did. refused_stay b c p0 BadConfig did)
  refused_move s t p0 next NoMemory beside y = or_stays s t p0.shard _ _ y.3 (λ b c did. refused_stay b c p0 NoMemory did)

  moves_lose : (s t : StoreState T Sat) (id : EntryId) (next : NextDeadline) (r : Result (Moved T) CoreError) (beside : Option T) → StoreRelocates id next (r, beside) s t → (p0 : EntryId)
      → (made : Result (Moved T) CoreError) → Relocates true p0 next (made, beside) s.cores t.cores → r ≡ answer_as id made → NotesAnswered s.notes id p0 made t.notes → LosesNone s t
  moves_lose s t id next r beside did p0 (Ok (To k d)) way is notes u v has none =
      let P : Result (Moved T) CoreError → Type 0 = λ q. IfOk q (λ moved. IfTo moved (λ k d. NoneLeft s t)) in
      none_lost s t (subst P is did.9) u v has none
  moves_lose s t id next r beside did p0 (Ok (Out y)) (near, room, (x, m, taken, goes)) is notes u v has none =
      let P : Result (Moved T) CoreError → Type 0 = λ q. StoreRelocates id next (q, beside) s t in
      let now = subst P is did in
      let M : CoreRow T Sat → Type 0 = λ k. IsTakenOut true p0 x s.cores k in
      let same = taken_named s t id p0 x y.value (subst M (sym goes.3) taken) notes now.2 u has.0 has.1 none in
      let Q : EntryId → Type 0 = λ k. StoreRelocates k next (Ok (Out (removed_as id y)), beside) s t in
      inl (inr (inl (next, removed_as id y, beside, subst Q (sym same) now)))
  moves_lose s t id next r beside did p0 (Err e) way is notes u v has none =
      none_lost s t (still s t (refused_move s.cores t.cores p0 next e beside way) (kept_users s.notes t.notes notes)) u v has none

  relocates_lose : (s t : StoreState T Sat) (id : EntryId) (next : NextDeadline) (r : Result (Moved T) CoreError) (beside : Option T) → StoreRelocates id next (r, beside) s t
      → RelocatesFor true s id next (r, beside) t → LosesNone s t
  relocates_lose s t id next r beside did (inl (p0, meant, inl (is, cores, notes, room))) = none_lost s t (still s t (same_row s.cores t.cores (ap (λ (k : CoreRow T Sat). k.cores) cores)) (kept_users s.notes t.notes notes))
  relocates_lose s t id next r beside did (inl (p0, meant, inr (made, way, is, notes))) = moves_lose s t id next r beside did p0 made way is notes
  relocates_lose s t id next r beside did (inr (nowhere, (is, same))) = none_lost s t (same_none_left s t same)

  opens_left : (s t : StoreState T Sat) → OnlyOpens s t → NoneLeft s t
  opens_left s t opens = still s t (same_row s.cores t.cores (ap (λ (k : CoreRow T Sat). k.cores) opens.0.1)) (same_users s.notes t.notes opens.1)

  -- each entry stands
  same_left : (s t : StoreState T Sat) → SameStand (StandsFor s) (StandsFor t) → NoneLeft s t
  same_left s t same u none e z = let f = same.0 u e z in none f.0 f.1

  -- a value that waited is taken out
  deferred_row : (s t : CoreRow T Sat) (r : Option T) → TakesDeferredIn s r t → RowStays s t
  deferred_row s t (Some v) (i, on) =
      let P : Core T Sat → Type 0 = λ k. Stays on.before k in
      at_stays s t i _ on (subst P (sym on.did.1) (λ p e x. (e, record { shard = x.shard; linked = x.linked; born = x.born })))
  deferred_row s t None (none, is) = same_row s t (ap (λ (k : CoreRow T Sat). k.cores) is)

  -- a reap
  live_stays : (b c : Core T Sat) (id : EntryId) → c.shard ≡ b.shard → Reaps true b id (Err Live) c → Stays b c
  live_stays b c id same did p e x =
      let swept = did.1.reaped in
      let P : List (Row T) → Type 0 = λ rows. (f : Entry T) × ((get_or (table_of rows c.known) p.index (record { stamp = 0; entry = None })).entry ≡ Some f) × (f.born ≡ e.born) in
      let f = subst P (sym (ap (λ k. k.rows) swept.out.slots)) (by_words b.slots.rows b.known c.known swept.looks.0 p.index e x.linked) in
      (f.0, record { shard = x.shard ∙ sym same; linked = f.1; born = f.2 ∙ x.born })

  reaped_lost : (s t : StoreState T Sat) (p0 : EntryId) (on : OnCore p0.shard (λ b c. Reaps true b p0 (Ok (tt {0})) c) s.cores t.cores) → LosesNote s.notes p0 t.notes → KeepsNumbers s t → LosesNone s t
  reaped_lost s t p0 on (o, lost) numbers u v has none =
      let z = has.1 in
      let b = on.before in
      let c = on.after in
      let is = on_core s.cores t.cores on.place _ (as_at s.cores t.cores p0.shard _ on) in
      let same = numbers on.place b c on.at.0 is in
      let found = on.did.0 in
      let swept = on.did.1 in
      ⊎_elim
      (λ (here : z.0 ≡ p0).
      let P : EntryId → Type 0 = λ k. (user_at s.notes k ≡ u) × HasEntry s.cores k has.0 in
      let w = subst P here (z.1, z.2) in
      let row = ap (λ k. (row_at k.rows p0.index).held) swept.reaped.out.slots ∙ ap (λ (r : Row T). r.held) (get_or-set_same b.slots.rows p0.index (vacated_row (row_at b.slots.rows p0.index)) unused found.2) in
      inr (cancelled_in s t u p0 has.0 on.place b c w.0 w.1 on.at.0 is found numbers
      (λ law kept. cancelled_at b c p0 found row swept.reaped.looks.0 (swept.reaped.looks.1 p0.index) law kept)))
      (λ (ne : z.0 ≢ p0).
      let user = forgets_user s.notes t.notes p0 o lost z.0 ne in
      let gone = stayed s t u z.0 has.0 z.1 z.2 none user in
      ⊎_elim
      (λ (x : IsThere b z.0 has.0). dite (ℕ_discrete z.0.index p0.index)
      (λ at. let h = held_at b.slots.rows b.known z.0.index has.0 x.linked in
      let P : ℕ → Type 0 = λ i. (row_at b.slots.rows i).held ≡ Some h.0 in
      let one = some_is h.0 found.3.0 (sym (subst P at h.1) ∙ found.3.1) in
      absurd (ne (same_id z.0 p0 (x.shard ∙ sym found.0) at (sym x.born ∙ (sym h.2 ∙ (ap (λ (k : HeldEntry T). k.born) one ∙ found.3.2))))))
      (λ other. absurd (gone (has.0, (on.place, c, is, record { shard = x.shard ∙ sym same; linked = ap (λ r. r.entry) (swept.other z.0.index other) ∙ x.linked; born = x.born })))))
      (λ (y : HasEntry t.cores z.0 has.0). absurd (gone (has.0, y)))
      (at_or s.cores t.cores on.place _ (as_at s.cores t.cores p0.shard _ on) z.0 has.0 z.2))
      (one_or_two z.0 p0)

  reaps_at : (s t : StoreState T Sat) (p0 : EntryId) (r : Result (Unit {0}) ReapError) → OnCoreOr p0.shard (λ b c. Reaps true b p0 r c) (r ≡ Err NotThere) s.cores t.cores
      → NotesReaped s r t p0 → KeepsNumbers s t → LosesNone s t
  reaps_at s t p0 (Ok done) (inl on) notes numbers = reaped_lost s t p0 on notes numbers
  reaps_at s t p0 (Ok done) (inr y) notes numbers = absurd (ok_not_err done NotThere y.1)
  reaps_at s t p0 (Err Live) (inl on) notes numbers =
      let is = on_core s.cores t.cores on.place _ (as_at s.cores t.cores p0.shard _ on) in
      none_lost s t (still s t (at_stays s.cores t.cores on.place _ (as_at s.cores t.cores p0.shard _ on) (live_stays on.before on.after p0 (numbers on.place on.before on.after on.at.0 is) on.did)) (same_users s.notes t.notes notes))
  reaps_at s t p0 (Err Live) (inr y) notes numbers = none_lost s t (still s t (same_row s.cores t.cores (ap (λ (k : CoreRow T Sat). k.cores) y.2)) (same_users s.notes t.notes notes))
  reaps_at s t p0 (Err NotThere) on notes numbers =
      none_lost s t (still s t (or_stays s.cores t.cores p0.shard _ _ on (λ b c did. same_stay b c did.1)) (same_users s.notes t.notes notes))

  reaps_lose : (s t : StoreState T Sat) (id : EntryId) (r : Result (Unit {0}) ReapError) → ReapsFor true s id r t → KeepsNumbers s t → LosesNone s t
  reaps_lose s t id r (inl (p0, meant, (on, notes))) numbers = reaps_at s t p0 r on notes numbers
  reaps_lose s t id r (inr (nowhere, (is, same))) numbers = none_lost s t (same_none_left s t same)

  -- a sweep of slots: what stands no more in the core that was swept had been cancelled
  swept_fate : (from upto n : ℕ) (b c : Core T Sat) → SweepsSome true b from upto n c → c.shard ≡ b.shard → (p : EntryId) (e : Entry T) → IsThere b p e
      → (o : Option (Entry T)) → (table_at (machine c) p.index).entry ≡ o → ((f : Entry T) × IsThere c p f) ⊎ Cancelled b c p
  swept_fate from upto n b c did same p e x None at = let looks = did.reaped.2.looks in inr (vanished b c p e x at looks.0 (looks.1 p.index))
  swept_fate from upto n b c did same p e x (Some f) at =
      let g = sweeps_raise true b c from upto n did p.index f at in
      let is = some_is g.0 e (sym g.1 ∙ x.linked) in
      inl (f, record { shard = x.shard ∙ sym same; linked = at; born = sym g.2 ∙ (ap (λ (z : Entry T). z.born) is ∙ x.born) })

  swept_lost : (s t : StoreState T Sat) (w v : Sweep) → SweepsNext true 256 w s v t → KeepsNumbers s t → LosesNone s t
  swept_lost s t w v (notes, inl y) numbers u value has none =
      none_lost s t (still s t (same_row s.cores t.cores (ap (λ (k : CoreRow T Sat). k.cores) y.1)) (same_users s.notes t.notes notes)) u value has none
  swept_lost s t w v (notes, inr (swept, on, behind)) numbers u value has none =
      let z = has.1 in
      let b = on.before in
      let c = on.after in
      let is = on_core s.cores t.cores w.place _ on in
      let gone = stayed s t u z.0 has.0 z.1 z.2 none (same_users s.notes t.notes notes z.0) in
      ⊎_elim
      (λ (x : IsThere b z.0 has.0). ⊎_elim
      (λ (f : (f : Entry T) × IsThere c z.0 f). absurd (gone (f.0, (w.place, c, is, f.1))))
      (λ (lost : Cancelled b c z.0). inr (cancelled_in s t u z.0 has.0 w.place b c z.1 z.2 on.at is (found_there b z.0 has.0 x) numbers lost))
      (swept_fate w.slot (w.slot + 256) swept.reaped b c on.did.0 (numbers w.place b c on.at is) z.0 has.0 x _ refl))
      (λ (y : HasEntry t.cores z.0 has.0). absurd (gone (has.0, y)))
      (at_or s.cores t.cores w.place _ on z.0 has.0 z.2)

  sweeps_lose : (s t : StoreState T Sat) (looked : Bool) → (looked ≡ true → (w : Sweep) × (v : Sweep) × SweepsNext true 256 w s v t) → (looked ≡ false → t ≡ s) → KeepsNumbers s t → LosesNone s t
  sweeps_lose s t true swept rests numbers = let y = swept refl in swept_lost s t y.0 y.1 y.2 numbers
  sweeps_lose s t false swept rests numbers = none_lost s t (same_none_left s t (rests refl))

  -- a reset, by what its core and its store keep

  resets_keep : (b c : Core T Sat) (id : EntryId) (when : ℕ) (r : Result Key CoreError) → Resets true b id when r c → (c.shard ≡ b.shard) × (c.noted ≡ b.noted)
  resets_keep b c id when (Ok k) did = (did.same_shard, did.noted)
  resets_keep b c id when (Err (TooFar limit)) did = (ap (λ (k : Core T Sat). k.shard) did.2, ap (λ (k : Core T Sat). k.noted) did.2)
  resets_keep b c id when (Err Missing) did = (ap (λ (k : Core T Sat). k.shard) did.2, ap (λ (k : Core T Sat). k.noted) did.2)
  resets_keep b c id when (Err WasCancelled) did = (did.1.looked.shard, did.1.looked.noted)
  resets_keep b c id when (Err Worn) did = (did.1.1.looked.shard, did.1.1.looked.noted)
  resets_keep b c id when (Err (Full linked worn)) did = absurd did
  resets_keep b c id when (Err (TickTooLarge limit)) did = absurd did
  resets_keep b c id when (Err BadConfig) did = absurd did
  resets_keep b c id when (Err NoMemory) did = absurd did

  still_cores : (s t : CoreRow T Sat) (i : ℕ) (P : Core T Sat → Core T Sat → Type 0) (on : OnCoreAt i P s t) → AreCores s → (on.after.shard ≡ on.before.shard) × (on.after.noted ≡ on.before.noted) → AreCores t
  still_cores s t i P on law same =
      let Q : CoreRow T Sat → Type 0 = λ r. AreCores r in
      let noted = same.1 in
      subst Q (sym on.rest) (keeps_law s i on.before on.after law on.at same.0 (omega (arith, noted)))

  reset_cores : (s t : CoreRow T Sat) (p0 : EntryId) (when : ℕ) (r : Result Key CoreError) (R : Type 0) → AreCores s → OnCoreOr p0.shard (λ b c. Resets true b p0 when r c) R s t → AreCores t
  reset_cores s t p0 when r R law (inl on) = still_cores s t on.place _ (as_at s t p0.shard _ on) law (resets_keep on.before on.after p0 when r on.did)
  reset_cores s t p0 when r R law (inr y) = let Q : CoreRow T Sat → Type 0 = λ k. AreCores k in subst Q (sym y.2) law

  -- a move that goes on takes no entry away, of a store whose law holds
  goes_left : (s t : StoreState T Sat) (id p0 : EntryId) (next : NextDeadline) (k : Key) (d : ℕ) (beside : Option T) → IsStore s → AreCores s.cores → meant_place s.notes id ≡ Some p0
      → Relocates true p0 next (Ok (To k d), beside) s.cores t.cores → IsNoted s.notes id k.entry t.notes → NoneLeft s t
  goes_left s t id p0 next k d beside law cores meant (near, room, (x, m, taken, goes)) noted u none e (p, named, there) =
      let on = as_at s.cores m p0.shard _ taken in
      let put = goes.1 in
      let b = put.before in
      let into = put.did.0 in
      let comes = comes_there b put.after into.same_shard k x.value d into in
      let stays : p ≢ p0 → (f : Entry T) × HasEntry m p f = λ ne.
      ⊎_elim
      (λ (y : IsThere taken.before p e). let f = removed_stay taken.before taken.after p0 x taken.did p e y ne in (f.0, (taken.place, taken.after, on_core s.cores m taken.place _ on, f.1)))
      (λ (y : HasEntry m p e). (e, y))
      (at_or s.cores m taken.place _ on p e there) in
      let apart = (still_cores s.cores m taken.place _ on cores (taken.did.same_shard, taken.did.noted)).apart in
      ⊎_elim
      (λ (is : p ≡ p0).
      let P : EntryId → Type 0 = λ q. user_at s.notes q ≡ u in
      let same : id ≡ u = sym (place_is s.notes id p0 law.noted meant) ∙ subst P is named in
      none _ (k.entry, ap (or_own k.entry) noted.here ∙ same, (m.opened, put.after, on_core m t.cores m.opened _ put, comes.here)))
      (λ (ne : p ≢ p0).
      let f = stays ne in
      ⊎_elim
      (λ (new : p ≡ k.entry).
      let P : EntryId → Type 0 = λ q. HasEntry m q f.0 in
      let w = subst P new f.1 in
      let place = apart w.0 m.opened w.1 b w.2 put.at (sym w.3.shard ∙ into.shard) in
      let A : ℕ → Type 0 = λ j. IsCoreAt m.cores j w.1 in
      let B : Core T Sat → Type 0 = λ c. IsThere c k.entry f.0 in
      comes.fresh f.0 (subst B (one_at m.cores m.opened w.1 b (subst A place w.2) put.at) w.3))
      (λ (other : p ≢ k.entry).
      let g = at_stays m t.cores m.opened _ put (inserts_stay b put.after x.value d (Ok k) into) p f.0 f.1 in
      let not_its : with_id s.notes.users p ≢ Some id = λ of. ne (noted_place id p p0 _ _ ((law.noted id p).1 of) meant) in
      none g.0 (p, ap (or_own p) (noted.else p other not_its) ∙ named, g.1))
      (one_or_two p k.entry))
      (one_or_two p p0)

  moved_left : (s t : StoreState T Sat) (id p0 : EntryId) (when : ℕ) (made : Result (Moved T) CoreError) (beside : Option T) → IsStore s → AreCores s.cores → meant_place s.notes id ≡ Some p0
      → Relocates true p0 (At when) (made, beside) s.cores t.cores → NotesAnswered s.notes id p0 made t.notes → NoneLeft s t
  moved_left s t id p0 when (Ok (To k d)) beside law cores meant way notes = goes_left s t id p0 (At when) k d beside law cores meant way notes
  moved_left s t id p0 when (Ok (Out y)) beside law cores meant (near, room, (x, m, taken, goes)) notes = absurd (some_not_none when goes.0)
  moved_left s t id p0 when (Err e) beside law cores meant way notes = still s t (refused_move s.cores t.cores p0 (At when) e beside way) (kept_users s.notes t.notes notes)

  relocates_left : (s t : StoreState T Sat) (id : EntryId) (when : ℕ) (r : Result (Moved T) CoreError × Option T) → IsStore s → AreCores s.cores → RelocatesFor true s id (At when) r t → NoneLeft s t
  relocates_left s t id when r law cores (inl (p0, meant, inl (is, same, notes, room))) = still s t (same_row s.cores t.cores (ap (λ (k : CoreRow T Sat). k.cores) same)) (kept_users s.notes t.notes notes)
  relocates_left s t id when r law cores (inl (p0, meant, inr (made, way, is, notes))) = moved_left s t id p0 when made r.1 law cores meant way notes
  relocates_left s t id when r law cores (inr (nowhere, (is, same))) = same_none_left s t same

  after_left : (m t : StoreState T Sat) (id : EntryId) (when : ℕ) (made r : Result Key CoreError) (beside : Option T) → IsStore m → AreCores m.cores → AfterReset true m id when made (r, beside) t → NoneLeft m t
  after_left m t id when (Ok k) r beside law cores y = same_none_left m t y.2
  after_left m t id when (Err e) r beside law cores (inl y) = relocates_left m t id when (y.1.0, beside) law cores y.1.1
  after_left m t id when (Err e) r beside law cores (inr y) = same_none_left m t y.3

  pub there_left : (s t : StoreState T Sat) (id : EntryId) (when : ℕ) (r : Result Key CoreError) → ResetsThere true s id when r t → NoneLeft s t
  there_left s t id when r (inl (p0, meant, (made, on, is, notes))) = still s t (or_stays s.cores t.cores p0.shard _ _ on (λ b c did. resets_stay b c p0 when made did)) (same_users s.notes t.notes notes)
  there_left s t id when r (inr (nowhere, (is, same))) = same_none_left s t same

  pub resets_left : (s t : StoreState T Sat) (id : EntryId) (when : ℕ) (r : Result Key CoreError) (beside : Option T) → IsStore s → AreCores s.cores → ResetsFor true s id when (r, beside) t → NoneLeft s t
  resets_left s t id when r beside law cores (inl (p0, meant, (made, m, on, after))) =
      let mid = stored m s.notes in
      let first = still s mid (or_stays s.cores m p0.shard _ _ on (λ b c did. resets_stay b c p0 when made did)) (λ p. refl) in
      let then = after_left mid t id when made r beside (law_resets true s m p0 when made _ law cores on) (reset_cores s.cores m p0 when made _ cores on) after in
      λ u none. first u (then u none)
  resets_left s t id when r beside law cores (inr (nowhere, (is, same))) = same_none_left s t same

-- an exchange of a value takes no entry away
exchange_left : {T : Type 0} (s t : StoreState T Sat) (id : EntryId) → StoreExchanges id s t → NoneLeft s t
exchange_left s t id (inl same) u none e z = (same_none_left s t same) u none e z
exchange_left {T} s t id (inr (was, now, x)) u none e z =
    ⊎_elim
    (λ (is : u ≡ id). let P : EntryId → Type 0 = λ k. NoneStandsFor t k in let f = x.has.0 in (subst P is none) f.0 f.1)
    (λ (ne : u ≢ id). none e (x.others.0 u e ne z))
    (one_or_two u id)

-- each call
pub loses_none : (T : Type 0) → StoreLosesNone T
loses_none T s t (inl y) = let did = y.3 in none_lost s t (still s t (inserts_row s.cores t.cores y.0 y.1 y.2 did.0) (same_users s.notes t.notes did.1))
loses_none T s t (inr (inl y)) = let did = y.2 in removes_lose s t y.0 y.1 did did.0
loses_none T s t (inr (inr (inl y))) = let did = y.3 in none_lost s t did.1.4
loses_none T s t (inr (inr (inr (inl y)))) = let did = y.2 in none_lost s t (tells_left s t y.0 y.1 did.0)
loses_none T s t (inr (inr (inr (inr (inl y))))) = let did = y.3 in polls_lose s t y.0 y.1 y.2 did did.0.0 did.0.1 did.0.2 did.0.3
loses_none T s t (inr (inr (inr (inr (inr (inl y)))))) = let did = y.2 in none_lost s t (same_left s t did.2)
loses_none T s t (inr (inr (inr (inr (inr (inr (inl y))))))) = let did = y.1 in none_lost s t (same_left s t did.4)
loses_none T s t (inr (inr (inr (inr (inr (inr (inr (inl y)))))))) = let did = y.3 in relocates_lose s t y.0 y.1 y.2.0 y.2.1 did did.0
loses_none T s t (inr (inr (inr (inr (inr (inr (inr (inr (inl y))))))))) = let did = y.2 in reaps_lose s t y.0 y.1 did.0 did.3
loses_none T s t (inr (inr (inr (inr (inr (inr (inr (inr (inr (inl y)))))))))) = let did = y.3 in none_lost s t did.1.4
loses_none T s t (inr (inr (inr (inr (inr (inr (inr (inr (inr (inr (inl y))))))))))) = let did = y.1 in none_lost s t (still s t (deferred_row s.cores t.cores y.0 did.0) (same_users s.notes t.notes did.1))
loses_none T s t (inr (inr (inr (inr (inr (inr (inr (inr (inr (inr (inr (inl y)))))))))))) = let did = y.1 in none_lost s t (exchange_left s t y.0 did)
loses_none T s t (inr (inr (inr (inr (inr (inr (inr (inr (inr (inr (inr (inr (inl y))))))))))))) = let did = y.2 in none_lost s t (opens_left s t did.0)
loses_none T s t (inr (inr (inr (inr (inr (inr (inr (inr (inr (inr (inr (inr (inr (inl y)))))))))))))) = none_lost s t (still s t (same_row s.cores t.cores (ap (λ (k : CoreRow T Sat). k.cores) y.0)) (kept_users s.notes t.notes y.1))
loses_none T s t (inr (inr (inr (inr (inr (inr (inr (inr (inr (inr (inr (inr (inr (inr y)))))))))))))) = let did = y.1 in sweeps_lose s t y.0 did.0 did.1 did.4

-- over a history
each_loses_none : {T : Type 0} (log : List (Call (SizedState T Sat))) (history : IsStoreHistory log) → EachLosesNone log history
each_loses_none [] history = tt {0}
each_loses_none {T} (e ∷ es) (old, new, left, was, call, history) = (loses_none T old.store new.store call, each_loses_none es history)

pub none_is_lost : {T : Type 0} (log : List (Call (SizedState T Sat))) → NoneIsLostIn log
none_is_lost log history = each_loses_none log history
