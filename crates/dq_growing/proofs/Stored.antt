-- A store under its users' ids.
use Rattle.std.proofs.Common.{◌≡◌, ◌≢◌, ◌⊎◌, ℕ, ◌<◌, ◌≤◌, ◌+◌, Bool, true, false, List, length, remove, IfSome, IfNone, IfErr, OnOk, is_some, Option, MatchOption, Some, None, Result, Ok, Err, IfOk, OnErr, refl, sym, ap, ◌∙◌, subst, inl, inr, ⊎_elim, arith}
use mathlib.Core.Logic.{dite}
use native.Mathlib.Decide.{ℕ_discrete}
use Rattle.dq_ticks.specs.declared.keys.Key.{Key}
use Rattle.dq_ticks.specs.declared.keys.EntryId.{EntryId}
use Rattle.dq_core.specs.declared.errors.CoreError.{CoreError}
use Rattle.dq_core.specs.declared.errors.CoreError.TheVariants.{Missing}
use Rattle.dq_core.specs.declared.outcomes.Removed.{Removed}
use Rattle.dq_core.specs.declared.outcomes.Turn.TheVariants.{Out as CameOut, Waiting, Idle}
use Rattle.dq_core.specs.declared.outcomes.Piece.{Piece}
use Rattle.dq_core.specs.declared.outcomes.Piece.TheVariants.{Answer, Working}
use Rattle.dq_core.specs.Calls.{IsMissing, Removes, RemovesIfDue, Resets, TellsDeadline, base_for}
use Rattle.dq_core.specs.Core.{Core, IsLawfulCore, machine, entry_of, due_by}
use Rattle.dq_core.specs.Readers.{TellsLeast, TellsFirst}
use Rattle.dq_core.specs.Words.{word_at}
use Rattle.dq_core.specs.AtTheCall.{HoldsValue}
use Rattle.dq_core.proofs.Ways.{table_row_is}
use Rattle.dq_core.specs.Machine.{Entry, table_at}
use Rattle.dq_growing.specs.Cores.{CoreRow, AreCores, IsCoreAt, HasAt, HasNo, OnCoreOr, OnCoreAt, IsMissingIn, InsertsIn, InsertsBeside, closed_error, missing_error}
use Rattle.dq_growing.specs.Stands.{IsThere, IsPastAt, IsPastIn, IsAheadIn, Ages, HasEntry, SameStand, OneChanges, OneLeaves, OneComes}
use Rattle.dq_growing.specs.Moving.{IfTo, IfCameOut, GoesOnIn, HasBegunIn}
use Rattle.dq_growing.specs.declared.moving.Moved.{Moved}
use Rattle.dq_growing.specs.declared.moving.Moved.TheVariants.{To, Out}
use Rattle.dq_growing.specs.Polls.{TakesDeferredIn}
use Rattle.dq_growing.specs.Notes.{Book, AreNotes, SameNotes, Forgets, IsNoted, with_id, or_own, user_at, place_by, meant_place}
use Rattle.dq_growing.specs.Store.{entry_told, TellsPlaceFor, TakeRefusedFor, TellsFirstIn, TellsFrom, HasFor, NoneStandsFor, ChangesFor, NotesAfter, answer_as, NotesAnswered, AfterReset, ResetsFor, GoesOnFor, HasBegunFor, StoreState, IsStore, StandsFor, KeysAreApart, RemovesFor, ComesFor, removed_as, ResetsThere, reset_as}
use Rattle.dq_growing.specs.declared.cores.TakeError.{TakeError}
use Rattle.dq_growing.specs.Notes.{ArePastIn, AllArePast}
use Rattle.dq_core.specs.AtTheCall.{linked_in}
use Rattle.dq_core.specs.Slots.{row_at}
use Rattle.dq_core.specs.declared.slots.Held.{Held}
use Rattle.dq_ticks.specs.declared.words.Parts.{Parts}
use Rattle.dq_core.proofs.Renewing.{none_held_at}
use Rattle.dq_growing.specs.Cores.{GivesDrained, NoneDrained, TakesIn, TakeRefused}
use Rattle.dq_growing.proofs.Rows.{one_at, removed_at, removed_from, at_snoc}
use Rattle.dq_growing.proofs.Leasts.{some_not_none}
use Rattle.dq_growing.proofs.Pairing.{one_or_two}
use Rattle.dq_growing.proofs.Standing.{some_is, comes_there, comes_in, inserted_ahead}
use Rattle.dq_growing.proofs.Moves.{other_key, ok_not_err, found_refused, taken_out}
use Rattle.dq_growing.proofs.Aging.{AgesAt, ages_in, all_age, resets_age, ages_on, inserts_number, inserts_run}

-- what is noted of a place, and its user's id
pub by_note : (p : EntryId) (o : Option EntryId) → ((o ≡ None) × (or_own p o ≡ p)) ⊎ ((w : EntryId) × (o ≡ Some w) × (or_own p o ≡ w))
by_note p None = inl (refl, refl)
by_note p (Some w) = inr (w, refl, refl)

-- a place that a user's id means has that id
placed : (n : Book) (u p : EntryId) (a b : Option EntryId) → AreNotes n → a ≡ with_id n.places u → b ≡ with_id n.users u → place_by u a b ≡ Some p → user_at n p ≡ u
placed n u p (Some q) b law at of is =
    let same = some_is q p is in
    ap (or_own p) ((law u p).0 (sym at ∙ ap (λ k. let o : Option EntryId = Some k in o) same))
placed n u p None None law at of is =
    let same = some_is u p is in
    let P : EntryId → Type 0 = λ k. user_at n k ≡ u in
    subst P same (ap (or_own u) (sym of))
placed n u p None (Some w) law at of is = absurd (some_not_none p (sym is))

pub place_is : (n : Book) (u p : EntryId) → AreNotes n → meant_place n u ≡ Some p → user_at n p ≡ u
place_is n u p law is = placed n u p (with_id n.places u) (with_id n.users u) law refl refl is

-- a row that holds nothing has no entry
empty_row : {T : Type 0} (o : Option (Held T)) (w : Parts) (e : Entry T) → is_some o ≡ false → entry_of o w ≡ Some e → ⊥
empty_row None w e none is = some_not_none e (sym is)
empty_row (Some h) w e none is = absurd (cc)

-- what a note that is taken away leaves
forgets_fewer : (n m : Book) (p : EntryId) (o : Option EntryId) → Forgets n p o m → (u q : EntryId) → with_id m.places u ≡ Some q → with_id n.places u ≡ Some q
forgets_fewer n m p None f u q at = sym (f.1.0 u) ∙ at
forgets_fewer n m p (Some w) f u q at =
    ⊎_elim
    (λ (e : u ≡ w). let P : EntryId → Type 0 = λ k. with_id m.places k ≡ Some q in absurd (some_not_none q (sym (subst P e at) ∙ f.places.here)))
    (λ (ne : u ≢ w). sym (f.places.else u ne) ∙ at)
    (one_or_two u w)

pub forgets_user : (n m : Book) (p : EntryId) (o : Option EntryId) → Forgets n p o m → (q : EntryId) → q ≢ p → user_at m q ≡ user_at n q
forgets_user n m p None f q ne = ap (or_own q) (f.1.1 q)
forgets_user n m p (Some w) f q ne = ap (or_own q) (f.users.else q ne)

module _ {T W : Type 0} where
  abbrev pub stored : CoreRow T W → Book → StoreState T W
  stored cores notes = record { cores = cores; notes = notes }

  pub apart : (s : StoreState T W) → IsStore s → KeysAreApart s
  apart s law p q e f x y same =
      let n = s.notes in
      ⊎_elim
      (λ (a : (with_id n.users p ≡ None) × (user_at n p ≡ p)). ⊎_elim
      (λ (b : (with_id n.users q ≡ None) × (user_at n q ≡ q)). sym a.1 ∙ (same ∙ b.1))
      (λ (b : (w : EntryId) × (with_id n.users q ≡ Some w) × (user_at n q ≡ w)).
      let P : EntryId → Type 0 = λ k. HasEntry s.cores k e in
      absurd (law.away b.0 q ((law.noted b.0 q).1 b.1) e (subst P (sym a.1 ∙ (same ∙ b.2)) x)))
      (by_note q (with_id n.users q)))
      (λ (a : (w : EntryId) × (with_id n.users p ≡ Some w) × (user_at n p ≡ w)). ⊎_elim
      (λ (b : (with_id n.users q ≡ None) × (user_at n q ≡ q)).
      let P : EntryId → Type 0 = λ k. HasEntry s.cores k f in
      absurd (law.away a.0 p ((law.noted a.0 p).1 a.1) f (subst P (sym b.1 ∙ (sym same ∙ a.2)) y)))
      (λ (b : (w : EntryId) × (with_id n.users q ≡ Some w) × (user_at n q ≡ w)).
      let one = (law.noted a.0 p).1 a.1 in
      let other = (law.noted b.0 q).1 b.1 in
      let P : EntryId → Type 0 = λ k. with_id n.places k ≡ Some q in
      some_is p q (sym one ∙ subst P (sym b.2 ∙ (sym same ∙ a.2)) other))
      (by_note q (with_id n.users q)))
      (by_note p (with_id n.users p))

  -- the law goes on where the cores age and no note comes
  pub law_kept : (s t : StoreState T W) → IsStore s → Ages s.cores t.cores → AreNotes t.notes
      → ((u p : EntryId) → with_id t.notes.places u ≡ Some p → with_id s.notes.places u ≡ Some p) → IsStore t
  law_kept s t law ages noted fewer = record {
    noted = noted;
    away = λ u p at e z.
        let was = fewer u p at in
        let f = (ages u (law.user_past u p was)).1 e z in
        law.away u p was f.0 f.1;
    user_past = λ u p at. (ages u (law.user_past u p (fewer u p at))).0;
    place_past = λ u p at. (ages p (law.place_past u p (fewer u p at))).0;
  }

  pub law_same_notes : (s : StoreState T W) (cores : CoreRow T W) → IsStore s → Ages s.cores cores → IsStore (stored cores s.notes)
  law_same_notes s cores law ages = law_kept s (stored cores s.notes) law ages law.noted (λ u p at. at)

  pub law_stays : (s t : StoreState T W) → IsStore s → Ages s.cores t.cores → t.notes ≡ s.notes → IsStore t
  law_stays s t law ages same = let P : Book → Type 0 = λ n. IsStore (stored t.cores n) in subst P (sym same) (law_same_notes s t.cores law ages)

  pub law_forgets : (s t : StoreState T W) (p : EntryId) (o : Option EntryId) → IsStore s → Ages s.cores t.cores → AreNotes t.notes → Forgets s.notes p o t.notes → IsStore t
  law_forgets s t p o law ages noted f = law_kept s t law ages noted (forgets_fewer s.notes t.notes p o f)

  -- after a poll what came out leaves no note
  pub law_after : (s t : StoreState T W) (made : Result (Piece T) CoreError) → IsStore s → Ages s.cores t.cores → AreNotes t.notes → NotesAfter s.notes made t.notes → IsStore t
  law_after s t (Ok (Answer (CameOut x))) law ages noted after = law_forgets s t x.key.entry after.0 law ages noted after.1
  law_after s t (Ok (Answer (Waiting next))) law ages noted after = law_stays s t law ages after
  law_after s t (Ok (Answer Idle)) law ages noted after = law_stays s t law ages after
  law_after s t (Ok Working) law ages noted after = law_stays s t law ages after
  law_after s t (Err e) law ages noted after = law_stays s t law ages after

  -- what leaves its place leaves under its user's id
  pub leaves_for : (s t : StoreState T W) (u p : EntryId) (o : Option EntryId) (v : T) → IsStore s → meant_place s.notes u ≡ Some p
      → OneLeaves (HasEntry s.cores) (HasEntry t.cores) p v → Forgets s.notes p o t.notes → OneLeaves (StandsFor s) (StandsFor t) u v
  leaves_for s t u p o v law at l f =
      let named = place_is s.notes u p law.noted at in
      let never : (e : Entry T) → HasEntry t.cores p e → ⊥ = l.gone in
      let not_p : (q : EntryId) (e : Entry T) → HasEntry t.cores q e → q ≢ p = λ q e z same. let P : EntryId → Type 0 = λ k. HasEntry t.cores k e in never e (subst P same z) in
      record {
        was = (l.was.0, (p, named, l.was.1), l.was.2);
        gone = λ e z.
            let q = z.0 in
            let ne = not_p q e z.2 in
            let was = l.others.1 q e ne z.2 in
            ne (apart s law q p e l.was.0 was l.was.1 (sym (forgets_user s.notes t.notes p o f q ne) ∙ (z.1 ∙ sym named)));
        others = (
          (λ k e ne z.
              let P : EntryId → Type 0 = λ x. user_at s.notes x ≡ k in
              let far : z.0 ≢ p = λ same. ne (sym (subst P same z.1) ∙ named) in
              (z.0, forgets_user s.notes t.notes p o f z.0 far ∙ z.1, l.others.0 z.0 e far z.2)),
          (λ k e ne z.
              let far = not_p z.0 e z.2 in
              (z.0, sym (forgets_user s.notes t.notes p o f z.0 far) ∙ z.1, l.others.1 z.0 e far z.2)),
        );
      }

  pub same_for : (s : StoreState T W) (cores : CoreRow T W) → SameStand (HasEntry s.cores) (HasEntry cores) → SameStand (StandsFor s) (StandsFor (stored cores s.notes))
  same_for s cores all = (
    (λ o e z. let f = all.0 z.0 e z.2 in (f.0, (z.0, z.1, f.1), f.2)),
    (λ o e z. let f = all.1 z.0 e z.2 in (f.0, (z.0, z.1, f.1), f.2)),
  )

  -- a new key is nobody's
  new_user : (s : StoreState T W) (k : EntryId) → IsStore s → IsAheadIn s.cores k → with_id s.notes.users k ≡ None
  new_user s k law ahead =
      ⊎_elim
      (λ (a : (with_id s.notes.users k ≡ None) × (user_at s.notes k ≡ k)). a.0)
      (λ (a : (w : EntryId) × (with_id s.notes.users k ≡ Some w) × (user_at s.notes k ≡ w)).
      absurd (other_key s.cores k k (law.place_past a.0 k ((law.noted a.0 k).1 a.1)) ahead refl))
      (by_note k (with_id s.notes.users k))

  pub comes_for : (s : StoreState T W) (cores : CoreRow T W) (k : EntryId) (v : T) (until : ℕ) → IsStore s → IsAheadIn s.cores k
      → OneComes (HasEntry s.cores) (HasEntry cores) k v until → OneComes (StandsFor s) (StandsFor (stored cores s.notes)) k v until
  comes_for s cores k v until law ahead l =
      let named = ap (or_own k) (new_user s k law ahead) in
      let far : (o q : EntryId) → o ≢ k → user_at s.notes q ≡ o → q ≢ k = λ o q ne of same.
      let P : EntryId → Type 0 = λ x. user_at s.notes x ≡ o in ne (sym (subst P same of) ∙ named) in
      record {
        fresh = λ e z.
            ⊎_elim
            (λ (a : (with_id s.notes.users z.0 ≡ None) × (user_at s.notes z.0 ≡ z.0)). let P : EntryId → Type 0 = λ x. HasEntry s.cores x e in l.fresh e (subst P (sym a.1 ∙ z.1) z.2))
            (λ (a : (w : EntryId) × (with_id s.notes.users z.0 ≡ Some w) × (user_at s.notes z.0 ≡ w)).
            other_key s.cores a.0 k (law.user_past a.0 z.0 ((law.noted a.0 z.0).1 a.1)) ahead (sym z.1 ∙ a.2))
            (by_note z.0 (with_id s.notes.users z.0));
        here = (k, named, l.here);
        others = (
          (λ o e ne z. (z.0, z.1, l.others.0 z.0 e (far o z.0 ne z.1) z.2)),
          (λ o e ne z. (z.0, z.1, l.others.1 z.0 e (far o z.0 ne z.1) z.2)),
        );
      }

  -- an insert
  pub ages_insert : (s t : CoreRow T W) (v : T) (when : ℕ) (r : Result Key (CoreError × T) × Option T) → AreCores s → InsertsIn s v when r t → Ages s t
  ages_insert s t v when r law (inl on) = ages_on s t s.opened (InsertsBeside v when r) law on (λ b c did. (inserts_number v when r.0 b c did.0, inserts_run v when r.0 b c did.0))
  ages_insert s t v when r law (inr y) = let A : CoreRow T W → Type 0 = λ k. Ages s k in subst A (sym y.2) (all_age s)

  pub law_inserts : (s : StoreState T W) (cores : CoreRow T W) (v : T) (when : ℕ) (r : Result Key (CoreError × T) × Option T) → IsStore s → AreCores s.cores
      → InsertsIn s.cores v when r cores → IsStore (stored cores s.notes)
  law_inserts s cores v when r law has did = law_same_notes s cores law (ages_insert s.cores cores v when r has did)

  insert_at : (s : StoreState T W) (cores : CoreRow T W) (v : T) (when : ℕ) (k : Key) (beside : Option T) → IsStore s → AreCores s.cores
      → OnCoreAt s.cores.opened (InsertsBeside v when (Ok k, beside)) s.cores cores → ComesFor s k v when (stored cores s.notes)
  insert_at s cores v when k beside law has on =
      let b = on.before in
      let c = on.after in
      let x = on.did.0 in
      let top = s.cores.opened in
      let comes = comes_in s.cores top b c has on.at x.same_shard k.entry v (base_for b when) (comes_there b c x.same_shard k v when x) in
      let ahead : IsAheadIn s.cores k.entry = (b, (on.at, sym x.shard), inserted_ahead b c v when k x) in
      let P : CoreRow T W → Type 0 = λ t. OneComes (HasEntry s.cores) (HasEntry t) k.entry v (base_for b when) in
      (base_for b when, (b, on.at, refl), comes_for s cores k.entry v (base_for b when) law ahead (subst P (sym on.rest) comes))

  pub inserts_for : (s : StoreState T W) (cores : CoreRow T W) (v : T) (when : ℕ) (r : Result Key (CoreError × T) × Option T) → IsStore s → AreCores s.cores
      → InsertsIn s.cores v when r cores → IfOk r.0 (λ k. ComesFor s k v when (stored cores s.notes))
  inserts_for s cores v when (Ok k, beside) law has (inl on) = insert_at s cores v when k beside law has on
  inserts_for s cores v when (Ok k, beside) law has (inr y) = absurd (ok_not_err k (closed_error when, v) (ap (λ z. z.0) y.1))
  inserts_for s cores v when (Err e, beside) law has did = tt {0}

  -- a removal
  pub removes_for : (shared : Bool) (s t : StoreState T W) (u p : EntryId) (x : Removed T) (o : Option EntryId) → meant_place s.notes u ≡ Some p
      → OnCoreOr p.shard (λ b c. Removes shared b p (Ok x) c) (◌≡◌ {A = Result (Removed T) CoreError} (Ok x) (Err Missing)) s.cores t.cores
      → Forgets s.notes p o t.notes → RemovesFor shared s u (Ok (removed_as u x)) t
  removes_for shared s t u p x o at did f = inl (p, at, (x, taken_out shared s.cores t.cores p x did, refl, (o, f)))

  pub removal_refused : (shared : Bool) (s : StoreState T W) (cores : CoreRow T W) (u p : EntryId) (e : CoreError) → meant_place s.notes u ≡ Some p
      → OnCoreOr p.shard (λ b c. Removes shared b p (Err e) c) (◌≡◌ {A = Result (Removed T) CoreError} (Err e) (Err Missing)) s.cores cores
      → RemovesFor shared s u (Err e) (stored cores s.notes)
  removal_refused shared s cores u p e at did = inl (p, at, (found_refused shared s.cores cores p e did, refl))

  -- a removal of what is due, in its cases
  abbrev IsDueCall : Bool → CoreRow T W → CoreRow T W → EntryId → ℕ → Option (Removed T) → Type 0
  IsDueCall shared s t p tick o =
      OnCoreOr p.shard (λ b c. RemovesIfDue shared b p tick (Ok o) c) (◌≡◌ {A = Result (Option (Removed T)) CoreError} (Ok o) (Err Missing)) s t

  taken_of : (shared : Bool) (s t : CoreRow T W) (p : EntryId) (tick : ℕ) (x : Removed T) → IsDueCall shared s t p tick (Some x)
      → (x.deadline ≤ tick) × OnCoreOr p.shard (λ b c. Removes shared b p (Ok x) c) (◌≡◌ {A = Result (Removed T) CoreError} (Ok x) (Err Missing)) s t
  taken_of shared s t p tick x (inl on) =
      (on.did.0, inl (record { place = on.place; before = on.before; after = on.after; at = on.at; did = on.did.1; rest = on.rest }))
  taken_of shared s t p tick x (inr y) = absurd (ok_not_err (Some x) Missing y.1)

  later_of : (shared : Bool) (s t : CoreRow T W) (p : EntryId) (tick : ℕ) → IsDueCall shared s t p tick None
      → (d : ℕ) × (tick < d) × OnCoreOr p.shard (λ b c. TellsDeadline shared b p (Ok d) c) (◌≡◌ {A = Result ℕ CoreError} (Ok d) (Err Missing)) s t
  later_of shared s t p tick (inl on) =
      (on.did.0, on.did.1, inl (record { place = on.place; before = on.before; after = on.after; at = on.at; did = on.did.2; rest = on.rest }))
  later_of shared s t p tick (inr y) = absurd (ok_not_err None Missing y.1)

  pub due_taken : (shared : Bool) (s t : CoreRow T W) (p : EntryId) (tick : ℕ) (o : Option (Removed T)) (x : Removed T) → o ≡ Some x → IsDueCall shared s t p tick o
      → (x.deadline ≤ tick) × OnCoreOr p.shard (λ b c. Removes shared b p (Ok x) c) (◌≡◌ {A = Result (Removed T) CoreError} (Ok x) (Err Missing)) s t
  due_taken shared s t p tick o x is on = taken_of shared s t p tick x (subst (IsDueCall shared s t p tick) is on)

  pub due_later : (shared : Bool) (s t : CoreRow T W) (p : EntryId) (tick : ℕ) (o : Option (Removed T)) → o ≡ None → IsDueCall shared s t p tick o
      → (d : ℕ) × (tick < d) × OnCoreOr p.shard (λ b c. TellsDeadline shared b p (Ok d) c) (◌≡◌ {A = Result ℕ CoreError} (Ok d) (Err Missing)) s t
  due_later shared s t p tick o is on = later_of shared s t p tick (subst (IsDueCall shared s t p tick) is on)

  pub due_refused : (shared : Bool) (s t : CoreRow T W) (p : EntryId) (tick : ℕ) (e : CoreError)
      → OnCoreOr p.shard (λ b c. RemovesIfDue shared b p tick (Err e) c) (◌≡◌ {A = Result (Option (Removed T)) CoreError} (Err e) (Err Missing)) s t
      → OnCoreOr p.shard (λ b c. Removes shared b p (Err e) c) (◌≡◌ {A = Result (Removed T) CoreError} (Err e) (Err Missing)) s t
  due_refused shared s t p tick e (inl on) =
      inl (record { place = on.place; before = on.before; after = on.after; at = on.at; did = on.did; rest = on.rest })
  due_refused shared s t p tick e (inr y) =
      let told : ◌≡◌ {A = Result (Option (Removed T)) CoreError} (Err e) (Err Missing) = y.1 in
      let same : e ≡ Missing = cc in
      inr (y.0, ap (λ x. Err x) same, y.2)

-- notes for which memory was taken are the same notes
pub reserved_forgets : (n k m : Book) (p : EntryId) (o : Option EntryId) → SameNotes n k → Forgets k p o m → Forgets n p o m
reserved_forgets n k m p None same f = (sym (same.1 p) ∙ f.0, ((λ u. f.1.0 u ∙ same.0 u), (λ u. f.1.1 u ∙ same.1 u)))
reserved_forgets n k m p (Some w) same f = record {
  was = sym (same.1 p) ∙ f.was;
  places = record { here = f.places.here; else = λ u ne. f.places.else u ne ∙ same.0 u };
  users = record { here = f.users.here; else = λ u ne. f.users.else u ne ∙ same.1 u };
}

reserved_noted : (n k m : Book) (u p : EntryId) → SameNotes n k → IsNoted k u p m → IsNoted n u p m
reserved_noted n k m u p same f = record {
  places = record { here = f.places.here; else = λ w ne. f.places.else w ne ∙ same.0 w };
  here = f.here;
  left = λ q ne of. f.left q ne (same.1 q ∙ of);
  else = λ q ne of. f.else q ne (λ e. of (sym (same.1 q) ∙ e)) ∙ same.1 q;
}

pub then_same : (n k m : Book) → SameNotes n k → SameNotes k m → SameNotes n m
then_same n k m one two = ((λ u. two.0 u ∙ one.0 u), (λ u. two.1 u ∙ one.1 u))

-- where a user's id means a place: the place is noted, or it is the id itself and nothing is noted
place_cases : (u p : EntryId) (a b : Option EntryId) → place_by u a b ≡ Some p → (a ≡ Some p) ⊎ ((a ≡ None) × (u ≡ p))
place_cases u p (Some q) b is = inl is
place_cases u p None None is = inr (refl, some_is u p is)
place_cases u p None (Some w) is = absurd (some_not_none p (sym is))

module _ {T W : Type 0} where
  pub law_reserved : (s : StoreState T W) (cores : CoreRow T W) (m : Book) → IsStore s → Ages s.cores cores → AreNotes m → SameNotes s.notes m → IsStore (stored cores m)
  law_reserved s cores m law ages noted same = law_kept s (stored cores m) law ages noted (λ u p at. sym (same.0 u) ∙ at)

  pub same_reserved : (s : StoreState T W) (cores : CoreRow T W) (m : Book) → SameNotes s.notes m → SameStand (HasEntry s.cores) (HasEntry cores)
      → SameStand (StandsFor s) (StandsFor (stored cores m))
  same_reserved s cores m same all = (
    (λ o e z. let f = all.0 z.0 e z.2 in (f.0, (z.0, ap (or_own z.0) (same.1 z.0) ∙ z.1, f.1), f.2)),
    (λ o e z. let f = all.1 z.0 e z.2 in (f.0, (z.0, sym (ap (or_own z.0) (same.1 z.0)) ∙ z.1, f.1), f.2)),
  )

  -- an entry of a user goes on at another place, and its note tells so
  module _ (s : StoreState T W) (cores : CoreRow T W) (n m : Book) (u p : EntryId) (k : Key) (d : ℕ) (law : IsStore s) (at : meant_place s.notes u ≡ Some p)
      (goes : GoesOnIn s.cores p k d cores) (same : SameNotes s.notes n) (noted : IsNoted n u k.entry m) where
    notes_of : IsNoted s.notes u k.entry m
    notes_of = reserved_noted s.notes n m u k.entry same noted

    named : user_at s.notes p ≡ u
    named = place_is s.notes u p law.noted at

    here_now : user_at m k.entry ≡ u
    here_now = ap (or_own k.entry) noted.here

    -- what was noted of another place stays
    other_user : (q : EntryId) → q ≢ p → q ≢ k.entry → (user_at s.notes q ≢ u) → user_at m q ≡ user_at s.notes q
    other_user q far near ne = ap (or_own q) (notes_of.else q near (λ e. ne (ap (or_own q) e)))

    -- a place other than the one that the user's id means isn't noted as the user's
    not_users : (q : EntryId) → q ≢ p → with_id s.notes.users q ≢ Some u
    not_users q far e =
        let noted_at = (law.noted u q).1 e in
        ⊎_elim
        (λ (x : with_id s.notes.places u ≡ Some p). far (some_is q p (sym noted_at ∙ x)))
        (λ (x : (with_id s.notes.places u ≡ None) × (u ≡ p)). some_not_none q (sym noted_at ∙ x.0))
        (place_cases u p (with_id s.notes.places u) (with_id s.notes.users u) at)

    pub goes_on_for : GoesOnFor s u d (stored cores m)
    goes_on_for =
        let mv = goes.2 in
        let S : EntryId → Entry T → Type 0 = λ o e. HasEntry s.cores o e in
        record {
          value = mv.value;
          base = goes.0;
          raised = goes.1;
          was = (mv.was.0, (p, named, mv.was.1), mv.was.2);
          here = (record { born = k.entry.born; value = mv.value; due = Some goes.0 }, (k.entry, here_now, mv.here), refl, refl);
          others = (
            (λ o e ne z.
                let q = z.0 in
                let P : EntryId → Type 0 = λ x. user_at s.notes x ≡ o in
                let far : q ≢ p = λ e'. ne (sym (subst P e' z.1) ∙ named) in
                let Q : EntryId → Type 0 = λ x. HasEntry s.cores x e in
                let near : q ≢ k.entry = λ e'. mv.fresh e (subst Q e' z.2) in
                (q, other_user q far near (λ e'. ne (sym z.1 ∙ e')) ∙ z.1, mv.others.0 q e far z.2)),
            (λ o e ne z.
                let q = z.0 in
                let P : EntryId → Type 0 = λ x. user_at m x ≡ o in
                let near : q ≢ k.entry = λ e'. ne (sym (subst P e' z.1) ∙ here_now) in
                let Q : EntryId → Type 0 = λ x. HasEntry cores x e in
                let far : q ≢ p = λ e'. mv.gone e (subst Q e' z.2) in
                (q, sym (ap (or_own q) (notes_of.else q near (not_users q far))) ∙ z.1, mv.others.1 q e near z.2)),
          );
        }

    pub goes_on_law : Ages s.cores cores → AreNotes m → IsPastIn cores p → IsPastIn cores k.entry → IsStore (stored cores m)
    goes_on_law ages lawful left came =
        let mv = goes.2 in
        let users_case : (P : Type 0) → (with_id s.notes.places u ≡ Some p → P) → (u ≡ p → P) → P = λ P f g.
        ⊎_elim (λ (x : with_id s.notes.places u ≡ Some p). f x) (λ (x : (with_id s.notes.places u ≡ None) × (u ≡ p)). g x.1)
        (place_cases u p (with_id s.notes.places u) (with_id s.notes.users u) at) in
        let others : (w r : EntryId) → w ≢ u → with_id m.places w ≡ Some r → with_id s.notes.places w ≡ Some r = λ w r ne x. sym (notes_of.places.else w ne) ∙ x in
        let to : (w r : EntryId) → w ≡ u → with_id m.places w ≡ Some r → k.entry ≡ r = λ w r e x.
        let P : EntryId → Type 0 = λ y. with_id m.places y ≡ Some r in some_is k.entry r (sym notes_of.places.here ∙ subst P e x) in
        record {
          noted = lawful;
          away = λ w r x e z.
              ⊎_elim
              (λ (same_user : w ≡ u).
              let P : EntryId → Type 0 = λ y. HasEntry cores y e in
              let here = subst P same_user z in
              users_case ⊥
              (λ was. let f = (ages u (law.user_past u p was)).1 e here in law.away u p was f.0 f.1)
              (λ own. mv.gone e (subst P own here)))
              (λ (ne : w ≢ u).
              let was = others w r ne x in
              let f = (ages w (law.user_past w r was)).1 e z in
              law.away w r was f.0 f.1)
              (one_or_two w u);
          user_past = λ w r x.
              ⊎_elim
              (λ (same_user : w ≡ u).
              let P : EntryId → Type 0 = λ y. IsPastIn cores y in
              subst P (sym same_user)
              (users_case (IsPastIn cores u) (λ was. (ages u (law.user_past u p was)).0) (λ own. subst P (sym own) left)))
              (λ (ne : w ≢ u). (ages w (law.user_past w r (others w r ne x))).0)
              (one_or_two w u);
          place_past = λ w r x.
              ⊎_elim
              (λ (same_user : w ≡ u). let P : EntryId → Type 0 = λ y. IsPastIn cores y in subst P (to w r same_user x) came)
              (λ (ne : w ≢ u). (ages r (law.place_past w r (others w r ne x))).0)
              (one_or_two w u);
        }

  -- nothing was noted of a new place
  free_place : (s : StoreState T W) (n : Book) (k : EntryId) → IsStore s → ((id : EntryId) → IsPastIn s.cores id → k ≢ id) → SameNotes s.notes n → with_id n.users k ≡ None
  free_place s n k law fresh same =
      ⊎_elim
      (λ (a : (with_id n.users k ≡ None) × (user_at n k ≡ k)). a.0)
      (λ (a : (w : EntryId) × (with_id n.users k ≡ Some w) × (user_at n k ≡ w)).
      absurd (fresh k (law.place_past a.0 k ((law.noted a.0 k).1 (sym (same.1 k) ∙ a.1))) refl))
      (by_note k (with_id n.users k))

  -- a move, by its answer
  module _ (s : StoreState T W) (cores : CoreRow T W) (n m : Book) (u p : EntryId) (law : IsStore s) (at : meant_place s.notes u ≡ Some p) (same : SameNotes s.notes n) where
    pub moved_free : (made : Result (Moved T) CoreError) → IfOk made (λ x. IfTo x (λ k d. (id : EntryId) → IsPastIn s.cores id → k.entry ≢ id))
        → IfOk made (λ x. IfTo x (λ k d. with_id n.users k.entry ≡ None))
    moved_free (Ok (To k d)) fresh = free_place s n k.entry law fresh same
    moved_free (Ok (Out x)) fresh = tt {0}
    moved_free (Err e) fresh = tt {0}

    pub moved_law : (made : Result (Moved T) CoreError) → Ages s.cores cores → AreNotes m → NotesAnswered n u p made m
        → IfOk made (λ x. IfTo x (λ k d. GoesOnIn s.cores p k d cores)) → IfOk made (λ x. IfTo x (λ k d. IsPastIn cores p × IsPastIn cores k.entry)) → IsStore (stored cores m)
    moved_law (Ok (To k d)) ages lawful noted goes past = goes_on_law s cores n m u p k d law at goes same noted ages lawful past.0 past.1
    moved_law (Ok (Out x)) ages lawful noted goes past = law_forgets s (stored cores m) p noted.0 law ages lawful (reserved_forgets s.notes n m p noted.0 same noted.1)
    moved_law (Err e) ages lawful noted goes past = law_reserved s cores m law ages lawful (then_same s.notes n m same noted)

    pub moved_goes : (made : Result (Moved T) CoreError) → NotesAnswered n u p made m → IfOk made (λ x. IfTo x (λ k d. GoesOnIn s.cores p k d cores))
        → IfOk (answer_as u made) (λ x. IfTo x (λ k d. (k.entry ≡ u) × GoesOnFor s u d (stored cores m)))
    moved_goes (Ok (To k d)) noted goes = (refl, goes_on_for s cores n m u p k d law at goes same noted)
    moved_goes (Ok (Out x)) noted goes = tt {0}
    moved_goes (Err e) noted goes = tt {0}

    pub moved_begun : (begun : W → ℕ → ℕ → ℕ → Type 0) (made : Result (Moved T) CoreError) → NotesAnswered n u p made m
        → IfOk made (λ x. IfTo x (λ k d. HasBegunIn begun s.cores k d cores)) → IfOk (answer_as u made) (λ x. IfTo x (λ k d. HasBegunFor begun s k d (stored cores m)))
    moved_begun begun (Ok (To k d)) noted has = (k.entry, ap (or_own k.entry) noted.here, has)
    moved_begun begun (Ok (Out x)) noted has = tt {0}
    moved_begun begun (Err e) noted has = tt {0}

    pub moved_out : (made : Result (Moved T) CoreError) → NotesAnswered n u p made m → IfOk made (λ x. IfCameOut x (λ y. OneLeaves (HasEntry s.cores) (HasEntry cores) p y.value))
        → IfOk (answer_as u made) (λ x. IfCameOut x (λ y. OneLeaves (StandsFor s) (StandsFor (stored cores m)) u y.value))
    moved_out (Ok (To k d)) noted leaves = tt {0}
    moved_out (Ok (Out x)) noted leaves = leaves_for s (stored cores m) u p noted.0 x.value law at leaves (reserved_forgets s.notes n m p noted.0 same noted.1)
    moved_out (Err e) noted leaves = tt {0}

    pub moved_refused : (made : Result (Moved T) CoreError) → NotesAnswered n u p made m → OnErr made (SameStand (HasEntry s.cores) (HasEntry cores))
        → OnErr (answer_as u made) (SameStand (StandsFor s) (StandsFor (stored cores m)))
    moved_refused (Ok x) noted all = tt {0}
    moved_refused (Err e) noted all = same_reserved s cores m (then_same s.notes n m same noted) all

    pub moved_notes : (made : Result (Moved T) CoreError) → NotesAnswered n u p made m → NotesAnswered s.notes u p made m
    moved_notes (Ok (To k d)) noted = reserved_noted s.notes n m u k.entry same noted
    moved_notes (Ok (Out x)) noted = (noted.0, reserved_forgets s.notes n m p noted.0 same noted.1)
    moved_notes (Err e) noted = then_same s.notes n m same noted

  -- a reset leaves the notes
  pub law_resets : (shared : Bool) (s : StoreState T W) (cores : CoreRow T W) (p : EntryId) (when : ℕ) (made : Result Key CoreError) (R : Type 0) → IsStore s → AreCores s.cores
      → OnCoreOr p.shard (λ b c. Resets shared b p when made c) R s.cores cores → IsStore (stored cores s.notes)
  law_resets shared s cores p when made R law has did = law_same_notes s cores law (resets_age shared s.cores cores p when made R has did)

  -- a reset at a place, and what followed
  pub resets_there : (shared : Bool) (s : StoreState T W) (u p : EntryId) (when : ℕ) (made : Result Key CoreError) (m : CoreRow T W)
      → meant_place s.notes u ≡ Some p → OnCoreOr p.shard (λ b c. Resets shared b p when made c) (made ≡ Err (missing_error when)) s.cores m
      → ResetsThere shared s u when (reset_as u made) (stored m s.notes)
  resets_there shared s u p when made m at did = inl (p, at, (made, did, refl, refl))

  pub resets_for : (shared : Bool) (s : StoreState T W) (u p : EntryId) (when : ℕ) (made : Result Key CoreError) (m : CoreRow T W) (r : Result Key CoreError × Option T) (t : StoreState T W)
      → meant_place s.notes u ≡ Some p → OnCoreOr p.shard (λ b c. Resets shared b p when made c) (made ≡ Err (missing_error when)) s.cores m
      → AfterReset shared (stored m s.notes) u when made r t → ResetsFor shared s u when r t
  resets_for shared s u p when made m r t at did after = inl (p, at, (made, m, did, after))

  -- a core fewer
  fewer_cores : (s t : CoreRow T W) (i : ℕ) → AreCores s → i < length s.cores → t.cores ≡ remove s.cores i → t.next ≡ s.next → Ages s t
  fewer_cores s t i law inside is next =
      let L : List (Core T W) → Type 0 = λ l. (j : ℕ) (d : Core T W) → IsCoreAt l j d → (k : ℕ) × (k ≢ i) × IsCoreAt s.cores k d in
      let from : L t.cores = subst L (sym is) (λ j d x.
      ⊎_elim
      (λ (y : (j < i) × IsCoreAt s.cores j d). let below = y.0 in (j, (λ same. absurd (omega (arith, below, same))), y.1))
      (λ (y : (i ≤ j) × IsCoreAt s.cores (j + 1) d). let above = y.0 in (j + 1, (λ same. absurd (omega (arith, above, same))), y.1))
      (removed_at s.cores i j d inside x)) in
      let R : List (Core T W) → Type 0 = λ l. (k : ℕ) (d : Core T W) → k ≢ i → IsCoreAt s.cores k d → (j : ℕ) × IsCoreAt l j d in
      let to : R t.cores = subst R (sym is) (λ k d ne x. removed_from s.cores i k d inside ne x) in
      λ id past. (
        (λ j d x number. let k = from j d x in past k.0 d k.2 number),
        (λ e z. let k = from z.0 z.1 z.2 in (e, (k.0, z.1, k.2, z.3), refl)),
        (λ e z. dite (ℕ_discrete z.0 i)
            (λ here. inr (λ f y. let k = from y.0 y.1 y.2 in k.1 (law.apart k.0 z.0 y.1 z.1 k.2 z.2 (sym y.3.shard ∙ z.3.shard) ∙ here)))
            (λ far. let j = to z.0 z.1 far z.2 in inl (e, (j.0, z.1, j.1, z.3), refl))),
        (λ n. rw next n),
      )

  gives_ages : (s t : CoreRow T W) (c : Core T W) → AreCores s → GivesDrained s c t → Ages s t
  gives_ages s t c has gives =
      fewer_cores s t gives.place has gives.drained.0.0 (ap (λ k. k.cores) gives.rest) (ap (λ k. k.next) gives.rest)

  pub given_ages : (s t : CoreRow T W) (o : Option (Core T W)) → AreCores s → IfSome o (λ c. GivesDrained s c t) → IfNone o (NoneDrained s × (t ≡ s)) → Ages s t
  given_ages s t (Some c) has gives none = gives_ages s t c has gives
  given_ages s t None has gives none = let P : CoreRow T W → Type 0 = λ k. Ages s k in subst P (sym none.1) (all_age s)

  -- nothing stands in a core in which nothing is linked
  pub unlinked : (c : Core T W) → IsLawfulCore c → linked_in c ≡ 0 → (u : EntryId) (e : Entry T) → IsThere c u e → ⊥
  unlinked c lawful none u e x =
      let w = word_at c.known u.index in
      let row = ap (λ r. r.entry) (table_row_is c.slots.rows c.known lawful.as_known u.index) in
      empty_row (row_at c.slots.rows u.index).held w e (none_held_at c.slots.rows none u.index) (sym row ∙ x.linked)

  -- a core comes in that gives no id anew which a note has
  pub law_takes : (s : StoreState T W) (cores : CoreRow T W) (c : Core T W) → IsStore s → IsLawfulCore c → TakesIn s.cores c cores → ArePastIn s.notes.places c → ArePastIn s.notes.users c
      → IsStore (stored cores s.notes)
  law_takes s cores c law lawful takes users_past places_past =
      let old = s.cores.cores in
      let L : List (Core T W) → Type 0 = λ l. (j : ℕ) (d : Core T W) → IsCoreAt l j d → IsCoreAt old j d ⊎ (c ≡ d) in
      let from : L cores.cores = subst L (sym takes.cores) (λ j d x. ⊎_elim (λ (y : IsCoreAt old j d). inl y) (λ (y : (j ≡ length old) × (c ≡ d)). inr y.1) (at_snoc old c d j x)) in
      let past : (id : EntryId) → (id.shard ≡ c.shard → IsPastAt c id) → IsPastIn s.cores id → IsPastIn cores id = λ id own was j d x number.
      let P : Core T W → Type 0 = λ k. k.shard ≡ id.shard → IsPastAt k id in
      let here : P c = λ n. own (sym n) in
      ⊎_elim (λ (y : IsCoreAt old j d). was j d y number) (λ (y : c ≡ d). (subst P y here) number) (from j d x)
      in
      record {
        noted = law.noted;
        away = λ u p at e z.
            let N : Core T W → Type 0 = λ k. (v : EntryId) (f : Entry T) → IsThere k v f → ⊥ in
            ⊎_elim
            (λ (y : IsCoreAt old z.0 z.1). law.away u p at e (z.0, z.1, y, z.3))
            (λ (y : c ≡ z.1). (subst N y (unlinked c lawful takes.may.0)) u e z.3)
            (from z.0 z.1 z.2);
        user_past = λ u p at. past u (users_past u p at) (law.user_past u p at);
        place_past = λ u p at. past p (places_past p u ((law.noted u p).0 at)) (law.place_past u p at);
      }

  pub law_answers : (s : StoreState T W) (cores : CoreRow T W) (c : Core T W) (r : Result (Unit {0}) (TakeError × Core T W)) → IsStore s → IsLawfulCore c
      → OnOk r (TakesIn s.cores c cores) → IfErr r (λ e. TakeRefused s.cores c e.0 × (e.1 ≡ c) × (cores ≡ s.cores))
      → ArePastIn s.notes.places c → ArePastIn s.notes.users c → IsStore (stored cores s.notes)
  law_answers s cores c (Ok x) law lawful takes refused users_past places_past = law_takes s cores c law lawful takes users_past places_past
  law_answers s cores c (Err e) law lawful takes refused users_past places_past = let P : CoreRow T W → Type 0 = λ t. IsStore (stored t s.notes) in subst P (sym refused.2) law

  pub law_given : (s : StoreState T W) (cores : CoreRow T W) (o : Option (Core T W)) → IsStore s → AreCores s.cores → IfSome o (λ c. GivesDrained s.cores c cores)
      → IfNone o (NoneDrained s.cores × (cores ≡ s.cores)) → IsStore (stored cores s.notes)
  law_given s cores o law has gives none = law_same_notes s cores law (given_ages s.cores cores o has gives none)

pub on_ok : {X E P : Type 0} (r : Result X E) → P → OnOk r P
on_ok {X} {E} {P} (Ok x) p = p
on_ok {X} {E} {P} (Err e) p = tt {0}

module _ {T W : Type 0} where
  -- another core is open
  pub opened_ages : (s t : CoreRow T W) (place : ℕ) → t ≡ record s { opened = place } → Ages s t
  opened_ages s t place is = let P : CoreRow T W → Type 0 = λ k. Ages s k in subst P (sym is) (all_age s)

  pub law_same_cores : (s : StoreState T W) (cores : CoreRow T W) → IsStore s → cores ≡ s.cores → IsStore (stored cores s.notes)
  law_same_cores s cores law same = let P : CoreRow T W → Type 0 = λ t. IsStore (stored t s.notes) in subst P (sym same) law

  pub law_closes : (s : StoreState T W) (cores : CoreRow T W) (place : ℕ) → IsStore s → cores ≡ record s.cores { opened = place } → IsStore (stored cores s.notes)
  law_closes s cores place law closes = law_same_notes s cores law (opened_ages s.cores cores place closes)

  pub opens_age : (s t : CoreRow T W) (o : Bool) (place : ℕ) → (o ≡ true → (place < length s.cores) × (t ≡ record s { opened = place }))
      → (o ≡ false → (length s.cores ≤ place) × (t ≡ s)) → Ages s t
  opens_age s t true place opens refused = opened_ages s t place (opens refl).1
  opens_age s t false place opens refused = let P : CoreRow T W → Type 0 = λ k. Ages s k in subst P (sym (refused refl).1) (all_age s)

  pub law_opens : (s : StoreState T W) (cores : CoreRow T W) (o : Bool) (place : ℕ) → IsStore s
      → (o ≡ true → (place < length s.cores.cores) × (cores ≡ record s.cores { opened = place }))
      → (o ≡ false → (length s.cores.cores ≤ place) × (cores ≡ s.cores)) → IsStore (stored cores s.notes)
  law_opens s cores o place law opens refused = law_same_notes s cores law (opens_age s.cores cores o place opens refused)

  -- a value that was deferred is taken out
  pub deferred_ages : (s t : CoreRow T W) (o : Option T) → AreCores s → TakesDeferredIn s o t → Ages s t
  deferred_ages s t None has did = let P : CoreRow T W → Type 0 = λ k. Ages s k in subst P (sym did.1) (all_age s)
  deferred_ages s t (Some v) has did =
      let on = did.1 in
      let b = on.before in
      let c = on.after in
      let same : c ≡ record b { deferred = c.deferred } = on.did.1 in
      let number : c.shard ≡ b.shard = ap (λ k. k.shard) same in
      let P : Core T W → Type 0 = λ k. AgesAt b k in
      let ages : AgesAt b c = subst P (sym same) (λ id past.
      (past, (λ e x. (e, record { shard = x.shard; linked = x.linked; born = x.born }, refl)), (λ e x. inl (e, record { shard = x.shard; linked = x.linked; born = x.born }, refl)))) in
      let Q : CoreRow T W → Type 0 = λ k. Ages s k in
      subst Q (sym on.rest) (ages_in s did.0 b c has on.at number ages)

  pub law_takes_deferred : (s : StoreState T W) (cores : CoreRow T W) (o : Option T) → IsStore s → AreCores s.cores → TakesDeferredIn s.cores o cores → IsStore (stored cores s.notes)
  law_takes_deferred s cores o law has did = law_same_notes s cores law (deferred_ages s.cores cores o has did)

-- a user's id under which an entry stands at a place means that place
module _ {T W : Type 0} (s : StoreState T W) (law : IsStore s) (u q : EntryId) (e : Entry T) (has : HasEntry s.cores q e) where
  meant_own : (a b : Option EntryId) → a ≡ with_id s.notes.places u → b ≡ None → q ≡ u → place_by u a b ≡ Some q
  meant_own (Some p) b at of same = let P : EntryId → Type 0 = λ k. HasEntry s.cores k e in absurd (law.away u p (sym at) e (subst P same has))
  meant_own None None at of same = ap (λ k. let o : Option EntryId = Some k in o) (sym same)
  meant_own None (Some w) at of same = absurd (some_not_none w of)

  meant_noted : (a b : Option EntryId) → a ≡ Some q → place_by u a b ≡ Some q
  meant_noted (Some p) b at = at
  meant_noted None b at = absurd (some_not_none q (sym at))

  pub stands_meant : user_at s.notes q ≡ u → meant_place s.notes u ≡ Some q
  stands_meant named =
      ⊎_elim
      (λ (x : (with_id s.notes.users q ≡ None) × (user_at s.notes q ≡ q)).
      let same : q ≡ u = sym x.1 ∙ named in
      let Q : EntryId → Type 0 = λ k. with_id s.notes.users k ≡ None in
      meant_own (with_id s.notes.places u) (with_id s.notes.users u) refl (subst Q same x.0) same)
      (λ (x : (w : EntryId) × (with_id s.notes.users q ≡ Some w) × (user_at s.notes q ≡ w)).
      let P : EntryId → Type 0 = λ k. with_id s.notes.places k ≡ Some q in
      meant_noted (with_id s.notes.places u) (with_id s.notes.users u) (subst P (sym x.2 ∙ named) ((law.noted x.0 q).1 x.1)))
      (by_note q (with_id s.notes.users q))

module _ {T W : Type 0} (s : StoreState T W) (law : IsStore s) (u : EntryId) where
  pub none_meant : meant_place s.notes u ≡ None → NoneStandsFor s u
  none_meant none e z = some_not_none z.0 (sym (stands_meant s law u z.0 e z.2 z.1) ∙ none)

  -- an entry under a user's id is in the core of the place that is meant
  pub stands_there : (p : EntryId) → meant_place s.notes u ≡ Some p → (e : Entry T) → StandsFor s u e → HasEntry s.cores p e
  stands_there p at e z =
      let same : z.0 ≡ p = some_is z.0 p (sym (stands_meant s law u z.0 e z.2 z.1) ∙ at) in
      let P : EntryId → Type 0 = λ k. HasEntry s.cores k e in
      subst P same z.2

  pub none_number : (p : EntryId) → meant_place s.notes u ≡ Some p → HasNo s.cores.cores p.shard → NoneStandsFor s u
  none_number p at no_core e z =
      let there = stands_there p at e z in
      no_core there.0 there.1 there.2 (sym there.3.shard)

  pub tells_place : (o : Option EntryId) → meant_place s.notes u ≡ o → TellsPlaceFor s u o
  tells_place None at = none_meant at
  tells_place (Some p) at = stands_there p at

  -- what its core tells of it
  pub none_found : AreCores s.cores → (p : EntryId) (i : ℕ) (c : Core T W) → meant_place s.notes u ≡ Some p → HasAt s.cores.cores p.shard i c → IsMissing c p → NoneStandsFor s u
  none_found cores p i c at here missing e z =
      let there = stands_there p at e z in
      let place : there.0 ≡ i = cores.apart there.0 i there.1 c there.2 here.0 (sym there.3.shard ∙ sym here.1) in
      let A : ℕ → Type 0 = λ k. IsCoreAt s.cores.cores k there.1 in
      let same : there.1 ≡ c = one_at s.cores.cores i there.1 c (subst A place there.2) here.0 in
      let P : Core T W → Type 0 = λ k. IsThere k p e in
      let x = subst P same there.3 in
      missing x.shard e x.linked x.born

  pub value_found : (p : EntryId) (i : ℕ) (c : Core T W) (v : T) → IsLawfulCore c → meant_place s.notes u ≡ Some p → HasAt s.cores.cores p.shard i c → HoldsValue c p v → HasFor s u v
  value_found p i c v lawful at here holds =
      let w = word_at c.known p.index in
      let e : Entry T = record { born = p.born; value = v; due = due_by w.mark w.field } in
      let linked : (table_at (machine c) p.index).entry ≡ Some e =
      ap (λ r. r.entry) (table_row_is c.slots.rows c.known lawful.as_known p.index) ∙ ap (λ o. entry_of o w) holds.1 in
      (e, (p, place_is s.notes u p law.noted at, (i, c, here.0, record { shard = holds.0; linked = linked; born = refl })), refl)

  pub found_by : AreCores s.cores → (p : EntryId) (i : ℕ) (c : Core T W) → meant_place s.notes u ≡ Some p → HasAt s.cores.cores p.shard i c → IsLawfulCore c → {X : Type 0} → (v : X → T) (o : Option X)
      → MatchOption o (IsMissing c p) (λ x. HoldsValue c p (v x)) → MatchOption o (NoneStandsFor s u) (λ x. HasFor s u (v x))
  found_by cores p i c at here lawful {X} v None missing = none_found cores p i c at here missing
  found_by cores p i c at here lawful {X} v (Some x) holds = value_found p i c (v x) lawful at here holds

-- a change of a value, by its answer
module _ {T W R : Type 0} (Makes : T → R → T → Type 0) (s : StoreState T W) (cores : CoreRow T W) (u p : EntryId) (r : Option R) (law : IsStore s)
    (at : meant_place s.notes u ≡ Some p) (some : IfSome r (OneChanges (HasEntry s.cores) (HasEntry cores) Makes p))
    (none : IfNone r (IsMissingIn s.cores p × (cores ≡ s.cores))) where
  pub law_changes : ((id : EntryId) → IsPastIn s.cores id → IsPastIn cores id) → IsStore (stored cores s.notes)
  law_changes past = record {
    noted = law.noted;
    away = λ w q is e z. away r some none w q is e z;
    user_past = λ w q is. past w (law.user_past w q is);
    place_past = λ w q is. past q (law.place_past w q is);
  }
    where
      away : (o : Option R) → IfSome o (OneChanges (HasEntry s.cores) (HasEntry cores) Makes p) → IfNone o (IsMissingIn s.cores p × (cores ≡ s.cores))
          → (w q : EntryId) → with_id s.notes.places w ≡ Some q → (e : Entry T) → HasEntry cores w e → ⊥
      away None x y w q is e z = let P : CoreRow T W → Type 0 = λ k. HasEntry k w e in law.away w q is e (subst P y.1 z)
      away (Some a) x y w q is e z =
          ⊎_elim
          (λ (same : w ≡ p). let P : EntryId → Type 0 = λ k. HasEntry s.cores k x.entry in law.away w q is x.entry (subst P (sym same) x.was))
          (λ (ne : w ≢ p). law.away w q is e (x.others.1 w e ne z))
          (one_or_two w p)

  pub changes_for : ChangesFor Makes s u r (stored cores s.notes)
  changes_for = by_answer r some none
    where
      named : user_at s.notes p ≡ u
      named = place_is s.notes u p law.noted at

      far : (o q : EntryId) → o ≢ u → user_at s.notes q ≡ o → q ≢ p
      far o q ne of same = let P : EntryId → Type 0 = λ k. user_at s.notes k ≡ o in ne (sym (subst P same of) ∙ named)

      by_answer : (o : Option R) → IfSome o (OneChanges (HasEntry s.cores) (HasEntry cores) Makes p) → IfNone o (IsMissingIn s.cores p × (cores ≡ s.cores))
          → ChangesFor Makes s u o (stored cores s.notes)
      by_answer None x y = (
        (λ e z. let there = stands_there s law u p at e z in
            y.0 there.0 there.1 there.2 there.3.shard e there.3.linked there.3.born),
        ap (λ k. stored k s.notes) y.1,
      )
      by_answer (Some a) x y = record {
        entry = x.entry;
        value = x.value;
        was = (p, named, x.was);
        made = x.made;
        here = (p, named, x.here);
        others = (
          (λ o e ne z. (z.0, z.1, x.others.0 z.0 e (far o z.0 ne z.1) z.2)),
          (λ o e ne z. (z.0, z.1, x.others.1 z.0 e (far o z.0 ne z.1) z.2)),
        );
      }

-- why a core doesn't come in, once no note stands against it
pub refused_for : {T W X : Type 0} (s : StoreState T W) (c : Core T W) (cores : CoreRow T W) (r : Result X (TakeError × Core T W)) → AllArePast s.notes c
    → IfErr r (λ e. TakeRefused s.cores c e.0 × (e.1 ≡ c) × (cores ≡ s.cores)) → IfErr r (λ e. TakeRefusedFor s c e.0)
refused_for {T} {W} {X} s c cores (Ok x) past refused = tt {0}
refused_for {T} {W} {X} s c cores (Err e) past refused = inr (past, refused.0)

-- what a core tells of its first entries
module _ {T W : Type 0} (s : StoreState T W) (place : ℕ) (c : Core T W) (at : IsCoreAt s.cores.cores place c) where
  pub first_none : (o : Option Key) → TellsLeast c o → o ≡ None → TellsFirstIn s place None
  first_none o tells is = inr (c, at, (o, tells, sym (ap entry_told is)))

  pub first_some : (o : Option Key) (k : Key) (u : EntryId) → TellsLeast c o → o ≡ Some k → u ≡ user_at s.notes k.entry → TellsFirstIn s place (Some u)
  first_some o k u tells is named = (c, k.entry, at, (o, tells, sym (ap entry_told is)), named)

  pub from_none : (from end : ℕ) (o : Option EntryId) → TellsFirst c from end o → o ≡ None → TellsFrom s place from end None
  from_none from end o tells is = let P : Option EntryId → Type 0 = λ x. TellsFirst c from end x in inr (c, at, subst P is tells)

  pub from_some : (from end : ℕ) (o : Option EntryId) (p u : EntryId) → TellsFirst c from end o → o ≡ Some p → u ≡ user_at s.notes p → TellsFrom s place from end (Some u)
  from_some from end o p u tells is named = let P : Option EntryId → Type 0 = λ x. TellsFirst c from end x in (c, p, at, subst P is tells, named)
