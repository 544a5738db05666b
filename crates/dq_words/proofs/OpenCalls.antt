-- A seat that nobody issued, for one call.
use Rattle.std.proofs.Common.{◌≡◌, ◌≢◌, ℕ, zero, suc, ◌+◌, ◌%◌, ◌<◌, ◌≤◌, max, false, true≢false, List, [], ◌∷◌, ◌++◌, length, get_or, set, sym, refl, ap, ◌∙◌, subst, inl, inr, ⊎_elim, Some, Err, length-append, length-set, get_or-set_same, arith}
use Rattle.std.proofs.lemmas.List.{length-replicate}
use mathlib.Core.Option.{some, none}
use lib.ListN.{get_elem?}
use Rattle.atomic_table.specs.Table.{State, step, stepped, Allows, Enters}
use Rattle.atomic_table.proofs.Lists.{at_snoc}
use Rattle.dq_ticks.specs.Keys.{KeyName}
use Rattle.dq_ticks.specs.Word.{word, stamp_of, mark_of, field_of}
use Rattle.dq_core.specs.declared.words.CallError.{CallError}
use Rattle.dq_core.specs.declared.words.CallError.TheVariants.{TooFar, Unknown, Stale, Ended}
use Rattle.dq_words.specs.declared.views.Call.{Call}
use Rattle.dq_words.specs.declared.views.Place.{Place}
use Rattle.dq_words.specs.declared.views.View.{View}
use Rattle.dq_words.specs.declared.views.StepKind.{StepKind}
use Rattle.dq_words.specs.declared.views.StepKind.TheVariants.{CallerLoad}
use Rattle.dq_words.specs.AtTheCall.{word_seen}
use Rattle.dq_words.specs.CallerCalls.{Refuses, ExtendAccepted, CancelAccepted, CallerExtends, IsForged, IsRefused, WordRefuses}
use Rattle.dq_words.specs.Counts.{begins_in, expiries_in, removals_in, total, goes, gone_cancels, made_cancels, issued_in, returns_in, given_in, InOrder, passes_of, reaped_in, cancels_in, most_begins}
use Rattle.dq_words.specs.Files.{File, file, keeper_writes, bases_at, ends_at, extends_at, cancels_at}
use Rattle.dq_words.specs.OpenCalls.{Open, HasSlot, SawPresent, IsReceipt, ShowsExtend, ShowsCancel, RefusedBy, OpenRefused, OpenExtendRefused, PasserLoads, passer_loaded, passer_extended, passer_cancelled}
use Rattle.dq_words.specs.Places.{views_in, seats_of, AreShown, Placed, PlaceMe, InPlace, placed}
use Rattle.dq_words.specs.Plays.{WordMe, CallerLoads, ExtendStep, LiveFor, MissedStep, Knowing, extend_made, stepping, extending, CancelStep, cancel_made, cancelling}
use Rattle.dq_words.specs.Seats.{Sat}
use Rattle.dq_words.specs.Rule.{Law, HadAt, Had, Sees, Kept, Tallied, Ruled, passer, first_keeper}
use Rattle.dq_words.proofs.Advances.{after, by_order}
use Rattle.dq_words.proofs.Callings.{extend_accepted, extend_refused, cancel_accepted, cancel_refused}
use Rattle.dq_words.proofs.Cancels.{cancels}
use Rattle.dq_words.proofs.Extends.{extends}
use Rattle.dq_words.proofs.Gathers.{writes_new, gathered_new, file_of, set_at}
use Rattle.dq_words.proofs.Knowing.{goes_on}
use Rattle.dq_words.proofs.Places.{apart_new, lifts, seat_new, shown_new, shown_same, word_again, has_same, has_more}
use Rattle.dq_words.proofs.Starts.{zero_at}
use Rattle.dq_words.proofs.Steps.{stays, fair}
use Rattle.dq_words.proofs.Tallies.{total_new}

head_new : {A : Type 0} (g : List View → A) → ((x : View) (xs ys : List View) → g (x ∷ xs) ≡ g (x ∷ ys)) → (vs : List View) (u : View) → 0 < length vs → g (vs ++ u ∷ []) ≡ g vs
head_new g h [] u some_seat = absurd (omega arith)
head_new g h (x ∷ vs) u some_seat = h x (vs ++ u ∷ []) vs

last_set : (vs : List View) (u w : View) → set (vs ++ u ∷ []) (length vs) w ≡ vs ++ w ∷ []
last_set [] u w = refl
last_set (x ∷ vs) u w = ap (λ (l : List View). x ∷ l) (last_set vs u w)

last_at : (vs : List View) (u : View) → get_elem? (vs ++ u ∷ []) (length vs) ≡ some u
last_at [] u = refl
last_at (x ∷ vs) u = last_at vs u

-- one view more, of a passer that made no step yet
module _ (rows : ℕ) (t : State ℕ View) (r : Ruled rows t) where
  abbrev more : List View
  more = t.views ++ passer rows ∷ []

  some_seat : 0 < length t.views
  some_seat = let a = r.tallied.issued in omega arith

  same_writes : keeper_writes more ≡ keeper_writes t.views
  same_writes = writes_new t.views (passer rows) some_seat

  same_file : (j z : ℕ) → file j z more ≡ file j z t.views
  same_file j z = file_of _ _ _ _ _ _ _ _ (ap (bases_at j z) same_writes) (ap (ends_at j z) same_writes)
      (gathered_new (extends_at j z) t.views (passer rows) refl) (gathered_new (cancels_at j z) t.views (passer rows) refl)

  had_same : (x i : ℕ) → Had x i t.views → Had x i more
  had_same x i h = ⊎_elim inl (λ (a : (z : ℕ) × HadAt x z (file i z t.views)). inr (a.0, let P : File → Type 0 = λ f. HadAt x a.0 f in subst P (sym (same_file i a.0)) a.1)) h

  old_seat : (j : ℕ) (u : View) → get_elem? t.views j ≡ some u → Sees rows t.words more j u
  old_seat j u at = let old = r.kept.sees j u at in record {
    role = old.role;
    row = old.row;
    below = old.below;
    had = λ i h. had_same _ i (old.had i h);
    learns = old.learns;
  }

  new_seat : (j : ℕ) → Sees rows t.words more (suc j) (passer rows)
  new_seat j = record {
    role = (refl, refl);
    row = length-replicate rows 0;
    below = λ i h. let a = zero_at rows i in omega arith;
    had = λ i h. inl (zero_at rows i);
    learns = λ is i h. absurd (true≢false (sym is));
  }

  seat_of : (j : ℕ) (u : View) → get_elem? more j ≡ some u → Sees rows t.words more j u
  seat_of zero u there = old_seat 0 u (head t.views some_seat there) where
    head : (l : List View) → 0 < length l → get_elem? (l ++ passer rows ∷ []) 0 ≡ some u → get_elem? l 0 ≡ some u
    head [] h e = absurd (omega arith)
    head (x ∷ l) h e = e
  seat_of (suc j) u there = ⊎_elim (λ h. old_seat (suc j) u h)
      (λ (is : passer rows ≡ u). let P : View → Type 0 = λ y. Sees rows t.words more (suc j) y in subst P is (new_seat j))
      (at_snoc t.views (passer rows) u (suc j) there)

  passed_kept : Kept rows record { words = t.words; homes = t.homes; views = more }
  passed_kept = record {
    sized = r.kept.sized;
    cells = λ i z h p. let P : File → Type 0 = λ f. Law (get_or t.words i 0) z f in subst P (sym (same_file i z)) (r.kept.cells i z h p);
    outside = λ i z h. same_file i z ∙ r.kept.outside i z h;
    unused = r.kept.unused;
    sees = seat_of;
  }

  passed_tallied : Tallied rows record { words = t.words; homes = t.homes; views = more }
  passed_tallied =
      let n = r.tallied in
      let k = same_writes in
      let kb : begins_in (keeper_writes more) ≡ begins_in (keeper_writes t.views) = ap begins_in k in
      let ke : expiries_in (keeper_writes more) ≡ expiries_in (keeper_writes t.views) = ap expiries_in k in
      let kr : removals_in (keeper_writes more) ≡ removals_in (keeper_writes t.views) = ap removals_in k in
      let g = total_new goes t.views (passer rows) in
      let gc = total_new gone_cancels t.views (passer rows) in
      let oc = total_new made_cancels t.views (passer rows) in
      let pc = total_new passes_of t.views (passer rows) in
      let g' : goes (passer rows) ≡ 0 = refl in
      let gc' : gone_cancels (passer rows) ≡ 0 = refl in
      let oc' : made_cancels (passer rows) ≡ 0 = refl in
      let pc' : passes_of (passer rows) ≡ 1 = refl in
      let same_goes : total goes more ≡ total goes t.views = omega arith in
      let is : issued_in more ≡ issued_in t.views = head_new issued_in (λ x xs ys. refl) t.views (passer rows) some_seat in
      let ret : returns_in more ≡ returns_in t.views = head_new returns_in (λ x xs ys. refl) t.views (passer rows) some_seat in
      let ret' : returns_in more % 2048 ≡ returns_in t.views % 2048 = ap (λ z. z % 2048) ret in
      let len : length more ≡ length t.views + 1 = length-append t.views (passer rows ∷ []) in
      let ri = n.issued in let rl = n.limit in let rr = n.returned in let ro = n.older in let rb = n.balance in let rn = n.bounded in
      record {
        few = n.few;
        wide = n.wide;
        issued = omega arith;
        limit = omega arith;
        returned = omega arith;
        older = omega arith;
        same = λ h. let f : returns_in t.views % 2048 ≡ total goes t.views = sym ret' ∙ h ∙ same_goes in ret ∙ n.same f;
        balance = omega arith;
        reaped = let a = n.reaped in let b : reaped_in more ≡ reaped_in t.views = head_new reaped_in (λ x xs ys. refl) t.views (passer rows) some_seat in omega arith;
        ordered = subst InOrder (sym k) n.ordered;
        given = λ j h. ap (given_in j) k ∙ n.given j h;
        bounded = omega arith;
      }

  pub passed : Ruled rows record { words = t.words; homes = t.homes; views = more }
  passed = record { kept = passed_kept; tallied = passed_tallied }

-- the load of a passer, which is its first step
module _ (rows : ℕ) (s : State ℕ View) (r : Ruled rows s) (i : ℕ) (inside : i < rows) where
  abbrev t : State ℕ View
  t = record { words = s.words; homes = s.homes; views = s.views ++ passer rows ∷ [] }

  abbrev id : ℕ
  id = length s.views

  abbrev n : ℕ
  n = get_or s.words i 0

  abbrev w : View
  w = stepping (passer rows) i n CallerLoad

  ruled : Ruled rows t
  ruled = passed rows s r

  at : get_elem? t.views id ≡ some (passer rows)
  at = last_at s.views (passer rows)

  after_it : Ruled rows (after t i n id [] w)
  after_it = stays rows t ruled i id (passer rows) inside at refl CallerLoad []

  there : get_elem? (set t.views id w) id ≡ some w
  there = set_at t.views id (passer rows) w at

  row : length w.seen ≡ rows
  row = (after_it.kept.sees id w there).row

  pub enters : Ruled rows record { words = s.words; homes = s.homes; views = s.views ++ w ∷ [] }
  enters = let P : List ℕ × List View → Type 0 = λ x. Ruled rows record { words = x.0; homes = s.homes; views = x.1 } in
      subst P (λ k. (word_again s.words i k, last_set s.views (passer rows) w k)) after_it

  now : SawPresent w i
  now = let P : ℕ → Type 0 = λ k. Ruled k (after t i n id [] w) in
      let a = row in let b = length-set (passer rows).seen i n in (
        after t i n id [] w,
        id,
        subst P (sym row) after_it,
        there,
        ap (λ (ws : List ℕ). get_or ws i 0) (word_again s.words i) ∙ sym (get_or-set_same (passer rows).seen i n 0 (omega arith)),
      )

  pub loads : PasserLoads rows w i n
  loads = (
    (refl, (ruled.kept.sees id (passer rows) at).below i inside, fair rows t ruled.kept i id (passer rows) inside at),
    goes_on rows t ruled id (passer rows) at (after t i n id [] w) w after_it refl,
    now,
  )

pub passes_at : (rows slots i : ℕ) → i < rows → Enters (Placed rows) slots i (λ n q. passer_loaded (step slots i 0 0 none) (placed (first_keeper rows), []) n (q, []))
passes_at rows slots i inside s r sized wide =
    let n : ℕ = get_or s.words i 0 in
    let v : View = stepping (passer rows) i n CallerLoad in
    let q : Place = placed v in
    let vs : views_in (s.views ++ q ∷ []) ≡ views_in s.views ++ v ∷ [] = seat_new s.views q refl in
    let still : (calls : List Call) → AreShown (views_in s.views) calls → AreShown (views_in (s.views ++ q ∷ [])) calls =
    λ calls h. shown_same _ _ calls vs (shown_new _ v calls h) in
    let P : List View → Type 0 = λ l. Ruled rows (record { words = s.words; homes = s.homes; views = l }) in
    let Q : ℕ → Type 0 = λ k. PasserLoads k v i n in (
      q,
      record {
        ruled = subst P (sym vs) (enters rows (seats_of s) r.ruled i inside);
        told = λ j u there. ⊎_elim (λ was. still u.told (r.told j u was))
            (λ (same : q ≡ u). let R : Place → Type 0 = λ z. AreShown (views_in (s.views ++ q ∷ [])) z.told in subst R same (λ c h. absurd h))
            (at_snoc s.views q u j there);
        apart = apart_new s.views q r.apart (λ c h. absurd h);
      },
      (refl, subst Q (sym (length-replicate rows 0)) (loads rows (seats_of s) r.ruled i inside)),
    )

-- behind a step that leaves in its slot what its seat then sees, the seat knows that it was so
knows_now : (rows slots id : ℕ) (me : WordMe) (i : ℕ) (f : ℕ → ℕ) (then : ℕ → WordMe → Type 0) → i < rows → ((n : ℕ) (m : WordMe) → length me.0.seen ≡ rows → then n m → get_or m.0.seen i 0 ≡ f n)
    → Allows (Ruled rows) slots id me i f then → Allows (Ruled rows) slots id me i f (λ n m. then n m × SawPresent m.0 i)
knows_now rows slots id me i f then inside sees allowed t r sized at wide =
    let x = allowed t r sized at wide in
    let n : ℕ = get_or t.words i 0 in
    let words : List ℕ = set t.words i (f n) in
    let there = set_at t.views id me.0 x.0 at in
    let row = (x.3.kept.sees id x.0 there).row in
    let old = (r.kept.sees id me.0 at).row in
    let size = r.kept.sized in
    let here : get_or words i 0 ≡ f n = get_or-set_same t.words i (f n) 0 (omega arith) in
    let u : State ℕ View = stepped t i (f n) id me.1 x.0 x.1 in
    let P : ℕ → Type 0 = λ k. Ruled k u in
    (x.0, x.1, x.2, x.3, (x.4, (u, id, subst P (sym row) x.3, there, here ∙ sym (sees n _ old x.4))))

-- what an extend leaves in its slot is what its seat then sees
saw_extended : (v w : View) (i k n : ℕ) → i < length v.seen → mark_of k ≡ 0 → stamp_of k ≤ stamp_of (get_or v.seen i 0) → ExtendStep v w i k n → get_or w.seen i 0 ≡ max n k
saw_extended v w i k n inside live given s =
    let low = s.0 in ⊎_elim
    (λ (hit : LiveFor k n × (w ≡ extending v i k (max n k))). ap (λ (u : View). get_or u.seen i 0) hit.1 ∙ get_or-set_same v.seen i (max n k) 0 inside)
    (λ (miss : MissedStep v w i k n).
    let m : stamp_of n ≡ stamp_of k → mark_of n ≢ 0 = miss.0 in
    let e : n ≡ max n k = by_order (stamp_of n) (stamp_of k) (n ≡ max n k) (λ le. let e : stamp_of n ≡ stamp_of k = omega arith in let z = m e in omega arith) (λ lt. omega arith) in
    ap (λ (u : View). get_or u.seen i 0) miss.1 ∙ get_or-set_same v.seen i n 0 inside ∙ e)
    s.2

pub extends_now : (rows slots id : ℕ) (me : WordMe) (i k : ℕ) → i < rows → me.0.gone ≡ false → me.0.keeps ≡ false → 0 < stamp_of k → mark_of k ≡ 0 → k < 18446744073709551616 → stamp_of k ≤ stamp_of (get_or me.0.seen i 0)
    → Allows (Ruled rows) slots id me i (λ n. max n k) (passer_extended (step slots i k 0 none) me)
extends_now rows slots id me i k inside here caller pos km small given = knows_now rows slots id me i (λ n. max n k) (Knowing extend_made (step slots i k 0 none) me) inside
    (λ n m size t. saw_extended me.0 m.0 i k n (omega arith) km given t.0)
    (extends rows slots id me i k inside here caller pos km small given)

module _ (rows slots id : ℕ) (me : PlaceMe) (i : ℕ) (off : me.0.carries ≡ false) where
  abbrev v : View
  v = me.0.view

  abbrev own : WordMe
  own = (me.0.view, me.1)

  pub passing_at : (x : ℕ) → ((k : ℕ) → Allows (Ruled rows) slots k own i (λ n. max n x) (passer_extended (step slots i x 0 none) own)) → Allows (Placed rows) slots id me i (λ n. max n x) (InPlace passer_extended (step slots i x 0 none) me)
  passing_at x allowed = lifts rows slots id me i (λ n. max n x) (passer_extended (step slots i x 0 none) own) off
      (λ n m t. ⊎_elim
      (λ (y : LiveFor x n × (m.0 ≡ extending v i x (max n x))). has_more v m.0 _ (ap (λ (u : View). u.calls) y.1))
      (λ (y : MissedStep v m.0 i x n). has_same v m.0 (ap (λ (u : View). u.calls) y.1))
      t.0.0.2)
      allowed

-- the word that a load saw
pub saw_loaded : (rows : ℕ) (u : View) (i m : ℕ) → i < rows → CallerLoads (passer rows) u i m → get_or u.seen i 0 ≡ m
saw_loaded rows u i m inside seen_by = let size : length (passer rows).seen ≡ rows = length-replicate rows 0 in
    ap (λ (x : View). get_or x.seen i 0) seen_by.0 ∙ get_or-set_same (passer rows).seen i m 0 (omega arith)

-- a seat of these words, and what it saw in the key's slot
is_receipt : (o : Open) (r : Sat) (k : KeyName) (i : ℕ) → i ≡ k.entry.index → r.table ≡ o.table → length r.view.seen ≡ o.rows → SawPresent r.view i → IsReceipt o k r
is_receipt o r k i at table row now = let P : ℕ → Type 0 = λ j. SawPresent r.view j in (table, row, subst P at now)

refused_so : (o : Open) (k : KeyName) (made : List StepKind) (e : CallError) (r : Sat) → HasSlot o.rows k → IsReceipt o k r → IsRefused (passer o.rows) k e made r.view → RefusedBy o k made e (Some r)
refused_so o k made e r named is refused = (
  named,
  ⊎_elim
      (λ (forged : IsForged (passer o.rows) k × (e ≡ Unknown) × (r.view ≡ passer o.rows)). let size : length (passer o.rows).seen ≡ o.rows = length-replicate o.rows 0 in let low = named.0 in let pos = named.1 in absurd (⊎_elim (λ (far : length (passer o.rows).seen ≤ k.entry.index). omega arith) (λ (none : k.stamp ≡ 0). omega arith) forged.0))
      (λ (by : WordRefuses (passer o.rows) k e made r.view). (is, by.shows, by.steps, by.calls))
      refused,
)

-- a call that made a step of the key's own stamp
module _ (o : Open) (u : View) (r : Sat) (k : KeyName) (i asked m n shown : ℕ) (slot : (i ≡ k.entry.index) × HasSlot o.rows k) (stamped : asked ≡ k.stamp) (loads : CallerLoads (passer o.rows) u i m) (is_shown : shown ≡ stamp_of m) (given : asked ≤ shown) (table : r.table ≡ o.table) (row : length r.view.seen ≡ o.rows) (now : SawPresent r.view i) where
  in_slot : (i ≡ k.entry.index) × (i < length (passer o.rows).seen) × (0 < k.stamp)
  in_slot = let size : length (passer o.rows).seen ≡ o.rows = length-replicate o.rows 0 in let at = slot.0 in let h = slot.1 in (slot.0, omega arith, slot.1.1)

  is : IsReceipt o k r
  is = is_receipt o r k i slot.0 table row now

  module _ (when new : ℕ) (small : when ≤ 4398046511103) (as_live : new ≡ word asked 0 when) (made : ExtendStep u r.view i new n) where
    module _ (before d : ℕ) (live : (stamp_of n ≡ asked) × (mark_of n ≡ 0) × (before ≡ field_of n)) (best : d ≡ max before when) where
      extended : ExtendAccepted (passer o.rows) k when d r.view
      extended = extend_accepted (passer o.rows) (passer o.rows) u r.view k i asked m n shown refl in_slot stamped loads is_shown given when new before d small as_live made live best

      pub extend_answered : (when ≤ d) × (d ≤ 4398046511103)
      extend_answered = let a = extended in (a.asked, a.small)

      pub extend_shown : ShowsExtend o k when d r
      extend_shown = let a = extended in (is, (a.small, a.now), a.steps, a.calls)

    pub extend_not_made : (e : CallError) → Refuses n asked e → OpenExtendRefused o k when e (Some r)
    extend_not_made e refuses = by e (extend_refused (passer o.rows) (passer o.rows) u r.view k i asked m n shown refl in_slot stamped loads is_shown given when new e small as_live made refuses) where
      by : (e : CallError) → CallerExtends (passer o.rows) k when (Err e) r.view → OpenExtendRefused o k when e (Some r)
      by (TooFar limit) h = absurd (omega arith)
      by Unknown h = (h.0, refused_so o k _ Unknown r slot.1 is h.1)
      by (Stale seen) h = (h.0, refused_so o k _ (Stale seen) r slot.1 is h.1)
      by (Ended how) h = (h.0, refused_so o k _ (Ended how) r slot.1 is h.1)

  module _ (new : ℕ) (as_cancelled : new ≡ word asked 1 0) (made : CancelStep u r.view i new n) where
    module _ (d : ℕ) (live : (stamp_of n ≡ asked) × (mark_of n ≡ 0) × (d ≡ field_of n)) where
      cancelled : CancelAccepted (passer o.rows) k d r.view
      cancelled = cancel_accepted (passer o.rows) (passer o.rows) u r.view k i asked m n shown refl in_slot stamped loads is_shown given new d as_cancelled made live

      pub cancel_answered : d ≤ 4398046511103
      cancel_answered = cancelled.small

      pub cancel_shown : ShowsCancel o k d r
      cancel_shown = let a = cancelled in (is, a.now, a.steps, a.calls)

    pub cancel_not_made : (e : CallError) → Refuses n asked e → OpenRefused o k e (Some r)
    cancel_not_made e refuses = refused_so o k _ e r slot.1 is (cancel_refused (passer o.rows) (passer o.rows) u r.view k i asked m n shown refl in_slot stamped loads is_shown given new e as_cancelled made refuses)

-- a call that made its load alone
module _ (o : Open) (r : Sat) (k : KeyName) (i asked m : ℕ) (slot : (i ≡ k.entry.index) × HasSlot o.rows k) (stamped : asked ≡ k.stamp) (loads : CallerLoads (passer o.rows) r.view i m) (table : r.table ≡ o.table) (row : length r.view.seen ≡ o.rows) (now : SawPresent r.view i) where
  saw : word_seen r k ≡ m
  saw = let at = slot.0 in let h = slot.1.0 in ap (λ j. get_or r.view.seen j 0) (sym slot.0) ∙ saw_loaded o.rows r.view i m (omega arith) loads

  loaded : IsReceipt o k r
  loaded = is_receipt o r k i slot.0 table row now

  pub not_asked : (shown : ℕ) → shown ≡ stamp_of m → shown < asked → OpenRefused o k Unknown (Some r)
  not_asked shown is_shown below =
      let low : stamp_of m < k.stamp = omega (arith, stamped, is_shown, below) in
      let P : ℕ → Type 0 = λ x. stamp_of x < k.stamp in
      (slot.1, (loaded, subst P (sym saw) low, ap (λ (x : View). x.steps) loads.0, ap (λ (x : View). x.calls) loads.0))

-- the same of a cancel
saw_cancelled : (v w : View) (i k n : ℕ) → i < length v.seen → k ≡ word (stamp_of k) 1 0 → stamp_of k ≤ stamp_of (get_or v.seen i 0) → CancelStep v w i k n → get_or w.seen i 0 ≡ max n k
saw_cancelled v w i k n inside is given s =
    let low = s.0 in ⊎_elim
    (λ (hit : LiveFor k n × (w ≡ cancelling v i k (field_of n) k) × (cancels_in w.calls ≤ most_begins)). let a = hit.0.0 in let b = hit.0.1 in let e : k ≡ max n k = omega arith in
    ap (λ (u : View). get_or u.seen i 0) hit.1 ∙ get_or-set_same v.seen i k 0 inside ∙ e)
    (λ (miss : MissedStep v w i k n).
    let m : stamp_of n ≡ stamp_of k → mark_of n ≢ 0 = miss.0 in
    let e : n ≡ max n k = by_order (stamp_of n) (stamp_of k) (n ≡ max n k) (λ le. let e : stamp_of n ≡ stamp_of k = omega arith in let z = m e in omega arith) (λ lt. omega arith) in
    ap (λ (u : View). get_or u.seen i 0) miss.1 ∙ get_or-set_same v.seen i n 0 inside ∙ e)
    s.2

pub cancels_now : (rows slots id : ℕ) (me : WordMe) (i k : ℕ) → i < rows → me.0.gone ≡ false → me.0.keeps ≡ false → 0 < stamp_of k → k ≡ word (stamp_of k) 1 0 → k < 18446744073709551616 → stamp_of k ≤ stamp_of (get_or me.0.seen i 0)
    → Allows (Ruled rows) slots id me i (λ n. max n k) (passer_cancelled (step slots i k 0 none) me)
cancels_now rows slots id me i k inside here caller pos is small given = knows_now rows slots id me i (λ n. max n k) (Knowing cancel_made (step slots i k 0 none) me) inside
    (λ n m size t. saw_cancelled me.0 m.0 i k n (omega arith) is given t.0)
    (cancels rows slots id me i k inside here caller pos is small given)

module _ (rows slots id : ℕ) (me : PlaceMe) (i : ℕ) (off : me.0.carries ≡ false) where
  abbrev mine : WordMe
  mine = (me.0.view, me.1)

  pub passing_cancel : (x : ℕ) → ((k : ℕ) → Allows (Ruled rows) slots k mine i (λ n. max n x) (passer_cancelled (step slots i x 0 none) mine)) → Allows (Placed rows) slots id me i (λ n. max n x) (InPlace passer_cancelled (step slots i x 0 none) me)
  passing_cancel x allowed = lifts rows slots id me i (λ n. max n x) (passer_cancelled (step slots i x 0 none) mine) off
      (λ n m t. ⊎_elim
      (λ y. has_more me.0.view m.0 _ (ap (λ (u : View). u.calls) y.1))
      (λ (y : MissedStep me.0.view m.0 i x n). has_same me.0.view m.0 (ap (λ (u : View). u.calls) y.1))
      t.0.0.2)
      allowed
