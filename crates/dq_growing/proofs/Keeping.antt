-- What a store's calls leave of the ids that entries have had, and what follows over any list of calls.
use Rattle.std.proofs.Common.{◌≡◌, ◌≢◌, ◌⊎◌, ℕ, ◌<◌, ◌≤◌, min, Bool, true, false, List, [], ◌∷◌, length, if◌then◌else◌, nat_lt, Option, Some, None, Result, Ok, Err, IfOk, IfErr, OnOk, refl, sym, ap, ◌∙◌, subst, inl, inr, ⊎_elim, arith}
use Rattle.std.proofs.lemmas.List.{get_or-set_same, get_or-set_other}
use Rattle.dq_ticks.specs.declared.keys.Key.{Key}
use Rattle.dq_ticks.specs.declared.keys.EntryId.{EntryId}
use Rattle.dq_core.specs.declared.errors.CoreError.{CoreError}
use Rattle.dq_core.specs.declared.errors.ReapError.{ReapError}
use Rattle.dq_core.specs.declared.outcomes.Expired.{Expired}
use Rattle.dq_core.specs.declared.outcomes.Turn.TheVariants.{Out as CameOut, Waiting, Idle}
use Rattle.dq_core.specs.declared.outcomes.Piece.{Piece}
use Rattle.dq_core.specs.declared.outcomes.Piece.TheVariants.{Answer, Working}
use Rattle.dq_core.specs.Core.{Core, IsLawfulCore, machine, entry_of}
use Rattle.dq_core.specs.Calls.{noting}
use Rattle.dq_core.specs.Machine.{Entry, TableRow, Machine, Event, Note, Pass, Insert, Reset, Extend, Cancel, Remove, Reap, Expire, Has, Step, Run, RunOf, IsOnTheWay, table_at, put, with_due}
use Rattle.dq_core.specs.Runs.{HasAlike}
use Rattle.std.specs.List.{AllByRecursion}
use mathlib.Core.Logic.{dite}
use native.Mathlib.Decide.{ℕ_discrete}
use Rattle.dq_core.specs.Slots.{row_at, unused, vacated_row}
use Rattle.dq_core.specs.Sweeps.{Reaps}
use Rattle.dq_core.specs.Words.{word_at}
use Rattle.dq_core.proofs.RunsMoves.{put_same}
use Rattle.dq_core.proofs.Ways.{table_row_is}
use Rattle.dq_growing.specs.Cores.{CoreRow, AreCores, HaveOwnNumbers, IsCoreAt, OnCoreAt, OnCoreOr, TakesIn, TakeRefused, GivesDrained, InsertsIn, InsertsBeside, closed_error, with_core}
use Rattle.dq_growing.specs.Moving.{IfTo, IfCameOut, GoesOnIn}
use Rattle.dq_growing.specs.Notes.{Book, AreNotes, ArePastBy, AllArePast, SameNotes, Forgets, meant_place, with_id, numbers_of, or_own, user_at}
use Rattle.dq_growing.specs.Polls.{PollsRow, PollsCore, RestsIn, DoesPiece, DoesPoll, IfPieceOut, noting_in, told}
use Rattle.dq_growing.specs.Runs.{StoreCall, IsUsedId, GaveOut, KeepsId, KeepsIds, KeepsIdsBeside, KeepsOtherIds, GivesId, GoesByStoreCalls, NoneFrom, StandsUntil, StoreEntriesLeaveOnce, StoreEndedStaysEnded, CoresGiveNoneAnew}
use Rattle.dq_growing.specs.Stands.{IsThere, IsPastAt, IsPastIn, AgesAs, Ages, OneLeaves, HasEntry, HasNoEntry, StandsAlike}
use Rattle.dq_growing.specs.Store.{StoreState, ChangesFor, IsStore, StandsFor, HasFor, HasOneValue, NoneStandsFor, GoesOnFor, GoesOut, NotesAfter, NotesAnswered, piece_as}
use Rattle.dq_growing.specs.declared.cores.TakeError.{TakeError}
use Rattle.dq_growing.specs.declared.moving.Moved.{Moved}
use Rattle.dq_growing.specs.declared.moving.Moved.TheVariants.{To, Out}
use Rattle.dq_growing.proofs.Aging.{all_age}
use Rattle.dq_growing.proofs.Leasts.{some_not_none}
use Rattle.dq_growing.proofs.Moves.{ok_not_err}
use Rattle.dq_growing.proofs.Pairing.{one_or_two}
use Rattle.dq_growing.proofs.Rows.{at_after, at_snoc, one_at, snoc_before, snoc_long}
use Rattle.dq_growing.proofs.Standing.{some_is, past_in, insert_past, inserted_ahead}
use Rattle.dq_growing.proofs.Stored.{stored, apart, by_note, forgets_user, goes_on_for, moved_law, reserved_forgets, then_same, unlinked}

-- a store's answer that gives an entry out is its core's
module _ {T : Type 0} where
  abbrev gives_out : Piece T → Type 0
  gives_out (Answer (CameOut x)) = Unit {0}
  gives_out (Answer (Waiting next)) = ⊥
  gives_out (Answer Idle) = ⊥
  gives_out Working = ⊥

  is_out : (y : Expired T) (p : Piece T) → Answer (CameOut y) ≡ p → gives_out p
  is_out y p e = subst gives_out e (tt {0})

  not_waiting : (b : Bool) (m : ℕ) (y : Expired T) → Answer (CameOut y) ≡ (if b then Answer (Waiting m) else Working) → ⊥
  not_waiting true m y h = is_out y (Answer (Waiting m)) h
  not_waiting false m y h = is_out y Working h

  not_idle : (b e : Bool) (m : ℕ) (y : Expired T) → Answer (CameOut y) ≡ (if b then (if e then Answer Idle else Answer (Waiting m)) else Working) → ⊥
  not_idle true true m y h = is_out y (Answer Idle) h
  not_idle true false m y h = is_out y (Answer (Waiting m)) h
  not_idle false e m y h = is_out y Working h

  pub told_out : (noted others : ℕ) (made : Piece T) (y : Expired T) → Answer (CameOut y) ≡ told noted others made → made ≡ Answer (CameOut y)
  told_out noted others Working y h = absurd (is_out y Working h)
  told_out noted others (Answer (CameOut z)) y h = sym h
  told_out noted others (Answer (Waiting next)) y h = absurd (not_waiting (nat_lt noted others) (min next others) y h)
  told_out noted others (Answer Idle) y h = absurd (not_idle (nat_lt noted others) _ others y h)

  -- a slot of a machine that was changed at one
  at_put : (m : Machine T) (j s : ℕ) (x : Option (Entry T)) (i : ℕ) (g : Entry T) → j < length m.table → (table_at (put m j s x) i).entry ≡ Some g
      → ((i ≡ j) × (x ≡ Some g)) ⊎ ((table_at m i).entry ≡ Some g)
  at_put m j s x i g inside at =
      let E : TableRow T → Option (Entry T) = λ r. r.entry in
      let P : ℕ → Type 0 = λ k. (table_at (put m j s x) k).entry ≡ Some g in
      dite (ℕ_discrete i j)
      (λ e. inl (e, sym (ap E (get_or-set_same m.table j _ _ inside)) ∙ subst P e at))
      (λ ne. inr (sym (ap E (get_or-set_other m.table j i _ _ ne)) ∙ at))

  -- an entry whose deadline was raised, or that was cancelled, stood there
  raised_stood : (m : Machine T) (j s : ℕ) (d : Option ℕ) (x : Entry T) (i : ℕ) (g : Entry T) → Has m j x
      → (table_at (put m j s (with_due x d)) i).entry ≡ Some g → HasAlike m i g
  raised_stood m j s d x i g has at = ⊎_elim
      (λ (y : (i ≡ j) × (with_due x d ≡ Some g)). let P : ℕ → Type 0 = λ k. (table_at m k).entry ≡ Some x in
      let same = some_is _ g y.1 in
      (x, subst P (sym y.0) has.1, ap (λ (e : Entry T). e.born) same, ap (λ (e : Entry T). e.value) same))
      (λ (y : (table_at m i).entry ≡ Some g). (g, y, refl, refl))
      (at_put m j s (with_due x d) i g has.0 at)

  -- what stands at a slot on a poll's way stood there before
  step_stood : (shared : Bool) (last : ℕ) (m n : Machine T) (e : Event T) → IsOnTheWay shared e → Step last m e n → (i : ℕ) (g : Entry T) → (table_at n i).entry ≡ Some g
      → HasAlike m i g
  step_stood shared last m n (Note t) is step i g at = absurd is
  step_stood shared last m n (Pass t) is step i g at = let P : Machine T → Type 0 = λ k. (table_at k i).entry ≡ Some g in (g, subst P step.3 at, refl, refl)
  step_stood shared last m n (Insert j v when) is step i g at = absurd is
  step_stood shared last m n (Reset j b when) is step i g at = absurd is
  step_stood shared last m n (Extend j s when) is step i g at =
      let P : Machine T → Type 0 = λ k. (table_at k i).entry ≡ Some g in
      raised_stood m j s _ step.0 i g step.2 (subst P step.5 at)
  step_stood shared last m n (Cancel j s) is step i g at =
      let P : Machine T → Type 0 = λ k. (table_at k i).entry ≡ Some g in
      raised_stood m j s _ step.0 i g step.2 (subst P step.5 at)
  step_stood shared last m n (Remove j b) is step i g at = absurd is
  step_stood shared last m n (Reap j b) is step i g at =
      let P : Machine T → Type 0 = λ k. (table_at k i).entry ≡ Some g in
      ⊎_elim
      (λ (y : (i ≡ j) × (None ≡ Some g)). absurd (some_not_none g (sym y.1)))
      (λ (y : (table_at m i).entry ≡ Some g). (g, y, refl, refl))
      (at_put m j _ None i g step.1.0 (subst P step.4 at))
  step_stood shared last m n (Expire j b t) is step i g at = absurd is

  pub way_stood : (shared : Bool) (last : ℕ) (m n : Machine T) (es : List (Event T)) → AllByRecursion (IsOnTheWay shared) es → Run last m es n → (i : ℕ) (g : Entry T)
      → (table_at n i).entry ≡ Some g → HasAlike m i g
  way_stood shared last m n [] all r i g at = let P : Machine T → Type 0 = λ k. (table_at k i).entry ≡ Some g in (g, subst P r at, refl, refl)
  way_stood shared last m n (e ∷ es) all r i g at =
      let h = way_stood shared last r.0 n es all.1 r.2 i g at in
      let f = step_stood shared last m r.0 e all.0 r.1 i h.0 h.1 in
      (f.0, f.1, f.2 ∙ h.2, f.3 ∙ h.3)

module _ {T W : Type 0} where
  -- the laws

  gave_under : (s t : StoreState T W) (o : Option (EntryId × T)) (u : EntryId) (v : T) → o ≡ Some (u, v) → GaveOut s o t → GoesOut s u v t
  gave_under s t o u v is gave = let P : Option (EntryId × T) → Type 0 = λ k. GaveOut s k t in subst P is gave

  none_from : (u : EntryId) (s : StoreState T W) (calls : List (StoreCall T W)) → IsUsedId s u → GoesByStoreCalls u s calls → NoneStandsFor s u → NoneFrom u calls
  none_from u s [] given go none = tt {0}
  none_from u s (call ∷ calls) given go none =
      let k = go.0 given in
      let gone : NoneStandsFor call.left u = λ e z. let f = k.stood e.value (e, z, refl) in none f.0 f.1 in
      (gone, (λ v is. let out = gave_under s call.left call.gave u v is go.1 in none out.0.0 out.0.1), none_from u call.left calls k.given go.2 gone)

  until : (u : EntryId) (v : T) (s : StoreState T W) (calls : List (StoreCall T W)) → IsUsedId s u → HasOneValue s u → GoesByStoreCalls u s calls → HasFor s u v → StandsUntil u v calls
  until u v s [] given one go has = tt {0}
  until u v s (call ∷ calls) given one go has =
      let t = call.left in
      let k = go.0 given in
      let still : HasOneValue t u = λ a b y z. one a b (k.stood a y) (k.stood b z) in
      ⊎_elim
      (λ (x : HasFor t u v). inl (x, (λ w is. let out = gave_under s t call.gave u w is go.1 in out.1 x.0 x.1), until u v t calls k.given still go.2 x))
      (λ (x : NoneStandsFor t u). inr (x, (λ w is. let out = gave_under s t call.gave u w is go.1 in one w v out.0 has), none_from u t calls k.given go.2 x))
      (k.stays v has)

  -- a call after a call
  then_one : (s m t : StoreState T W) (u : EntryId) → KeepsId s m u → KeepsId m t u → KeepsId s t u
  then_one s m t u a b = record {
    given = b.given;
    stays = λ v z. ⊎_elim
        (λ (x : HasFor m u v). b.stays v x)
        (λ (none : NoneStandsFor m u). inr (λ e y. let f = b.stood e.value (e, y, refl) in none f.0 f.1))
        (a.stays v z);
    stood = λ v z. a.stood v (b.stood v z);
  }

  pub then_keep : (s m t : StoreState T W) → KeepsIds s m → KeepsIds m t → KeepsIds s t
  then_keep s m t one two u given = let a = one u given in then_one s m t u a (two u a.given)

  pub then_keep_beside : (c : Core T W) (s m t : StoreState T W) → KeepsIdsBeside c s m → KeepsIds m t → KeepsIdsBeside c s t
  then_keep_beside c s m t one two u past given = let a = one u past given in then_one s m t u a (two u a.given)

  pub all_keep : (s : StoreState T W) → KeepsIds s s
  all_keep s u given = record { given = given; stays = λ v z. inl z; stood = λ v z. z }

  -- one id, where the cores age as its places do, and what stands has the users that it had
  module _ (s t : StoreState T W) (law : IsStore s) (u : EntryId) (given : IsUsedId s u) (own : AgesAs s.cores t.cores u)
      (ages : (q : EntryId) → user_at s.notes q ≡ u → AgesAs s.cores t.cores q)
      (same : (q : EntryId) (e : Entry T) → HasEntry t.cores q e → user_at t.notes q ≡ user_at s.notes q) where
    past_place : (q : EntryId) → user_at s.notes q ≡ u → IsPastIn s.cores q
    past_place q named =
        ⊎_elim
        (λ (a : (with_id s.notes.users q ≡ None) × (user_at s.notes q ≡ q)). let P : EntryId → Type 0 = λ k. IsPastIn s.cores k in subst P (sym named ∙ a.1) given.1)
        (λ (a : (w : EntryId) × (with_id s.notes.users q ≡ Some w) × (user_at s.notes q ≡ w)). law.place_past a.0 q ((law.noted a.0 q).1 a.1))
        (by_note q (with_id s.notes.users q))

    stood_before : (v : T) → HasFor t u v → HasFor s u v
    stood_before v z =
        let q = z.1.0 in
        let named : user_at s.notes q ≡ u = sym (same q z.0 z.1.2) ∙ z.1.1 in
        let f = (ages q named (past_place q named)).1 z.0 z.1.2 in
        (f.0, (q, named, f.1), f.2 ∙ z.2)

    stands_still : (v : T) → HasFor s u v → HasFor t u v ⊎ NoneStandsFor t u
    stands_still v z =
        let q = z.1.0 in
        let named = z.1.1 in
        ⊎_elim
        (λ (f : StandsAlike (HasEntry t.cores) q z.0). inl (f.0, (q, same q f.0 f.1 ∙ named, f.1), f.2 ∙ z.2))
        (λ (none : HasNoEntry t.cores q). inr (λ e w.
        let r = w.0 in
        let here : user_at s.notes r ≡ u = sym (same r e w.2) ∙ w.1 in
        let was = (ages r here (past_place r here)).1 e w.2 in
        let one = apart s law r q was.0 z.0 was.1 z.1.2 (here ∙ sym named) in
        let P : EntryId → Type 0 = λ k. HasEntry t.cores k e in
        none e (subst P one w.2)))
        ((ages q named (past_place q named)).2 z.0 z.1.2)

    keeps_one : KeepsId s t u
    keeps_one = let o = own given.1 in record { given = (o.3 given.0, o.0); stays = stands_still; stood = stood_before }

  keeps_ids : (s t : StoreState T W) → IsStore s → Ages s.cores t.cores → ((q : EntryId) (e : Entry T) → HasEntry t.cores q e → user_at t.notes q ≡ user_at s.notes q)
      → KeepsIds s t
  keeps_ids s t law ages same u given = keeps_one s t law u given (ages u) (λ q named. ages q) same

  -- the notes stay, or what they note
  pub keeps_noted : (s : StoreState T W) (cores : CoreRow T W) → IsStore s → Ages s.cores cores → KeepsIds s (stored cores s.notes)
  keeps_noted s cores law ages = keeps_ids s (stored cores s.notes) law ages (λ q e z. refl)

  pub keeps_reserved : (s : StoreState T W) (cores : CoreRow T W) (m : Book) → IsStore s → Ages s.cores cores → SameNotes s.notes m → KeepsIds s (stored cores m)
  keeps_reserved s cores m law ages same = keeps_ids s (stored cores m) law ages (λ q e z. ap (or_own q) (same.1 q))

  -- the note of a place is taken away where nothing stands any more
  pub keeps_forgotten : (s t : StoreState T W) (p : EntryId) (o : Option EntryId) → IsStore s → Ages s.cores t.cores → Forgets s.notes p o t.notes → HasNoEntry t.cores p → KeepsIds s t
  keeps_forgotten s t p o law ages f none =
      keeps_ids s t law ages (λ q e z. forgets_user s.notes t.notes p o f q (λ is. let P : EntryId → Type 0 = λ k. HasEntry t.cores k e in none e (subst P is z)))

  -- one entry stands under a user's id
  pub one_entry : (s : StoreState T W) → IsStore s → AreCores s.cores → (u : EntryId) (e f : Entry T) → StandsFor s u e → StandsFor s u f → e ≡ f
  one_entry s law has u e f y z =
      let P : EntryId → Type 0 = λ k. HasEntry s.cores k f in
      let there = y.2 in
      let other = subst P (sym (apart s law y.0 z.0 e f y.2 z.2 (y.1 ∙ sym z.1))) z.2 in
      let place = has.apart other.0 there.0 other.1 there.1 other.2 there.2 (sym other.3.shard ∙ there.3.shard) in
      let A : ℕ → Type 0 = λ k. IsCoreAt s.cores.cores k other.1 in
      let same = one_at s.cores.cores there.0 other.1 there.1 (subst A place other.2) there.2 in
      let Q : Core T W → Type 0 = λ k. IsThere k y.0 f in
      let x = subst Q same other.3 in
      some_is e f (sym there.3.linked ∙ x.linked)

  -- and one value
  pub one_value : (s : StoreState T W) → IsStore s → AreCores s.cores → (u : EntryId) (v w : T) → HasFor s u v → HasFor s u w → v ≡ w
  one_value s law has u v w y z = sym y.2 ∙ (ap (λ e. e.value) (one_entry s law has u y.0 z.0 y.1 z.1) ∙ z.2)

  -- an entry goes on
  pub keeps_going : (s t : StoreState T W) (w : EntryId) (d : ℕ) → IsStore s → IsStore t → AreCores s.cores → AreCores t.cores → Ages s.cores t.cores → GoesOnFor s w d t → KeepsIds s t
  keeps_going s t w d law law' has has' ages goes u given =
      let was : HasFor s w goes.value = goes.was in
      let here : HasFor t w goes.value = (goes.here.0, goes.here.1, goes.here.2) in
      let own = ages u given.1 in
      ⊎_elim
      (λ (e : u ≡ w).
      let Q : EntryId → Type 0 = λ k. KeepsId s t k in
      record {
        given = (own.3 given.0, own.0);
        stays = λ v z.
            let P : EntryId → Type 0 = λ k. HasFor s k v in
            let R : T → Type 0 = λ x. HasFor t w x in
            let S : EntryId → Type 0 = λ k. HasFor t k v in
            inl (subst S (sym e) (subst R (sym (one_value s law has w v goes.value (subst P e z) was)) here));
        stood = λ v z.
            let P : EntryId → Type 0 = λ k. HasFor t k v in
            let R : T → Type 0 = λ x. HasFor s w x in
            let S : EntryId → Type 0 = λ k. HasFor s k v in
            subst S (sym e) (subst R (sym (one_value t law' has' w v goes.value (subst P e z) here)) was);
      })
      (λ (ne : u ≢ w). record {
        given = (own.3 given.0, own.0);
        stays = λ v z. inl (z.0, goes.others.0 u z.0 ne z.1, z.2);
        stood = λ v z. (z.0, goes.others.1 u z.0 ne z.1, z.2);
      })
      (one_or_two u w)

  -- a move, by its answer
  pub keeps_moved : (s : StoreState T W) (cores : CoreRow T W) (n m : Book) (u p : EntryId) → IsStore s → meant_place s.notes u ≡ Some p → SameNotes s.notes n
      → (made : Result (Moved T) CoreError) → Ages s.cores cores → AreNotes m → NotesAnswered n u p made m → IfOk made (λ x. IfTo x (λ k d. GoesOnIn s.cores p k d cores))
      → IfOk made (λ x. IfTo x (λ k d. IsPastIn cores p × IsPastIn cores k.entry)) → IfOk made (λ x. IfCameOut x (λ y. OneLeaves (HasEntry s.cores) (HasEntry cores) p y.value))
      → AreCores s.cores → AreCores cores → KeepsIds s (stored cores m)
  keeps_moved s cores n m u p law at same (Ok (To k d)) ages lawful noted goes past out has has' =
      let t = stored cores m in
      let law' = moved_law s cores n m u p law at same (Ok (To k d)) ages lawful noted goes past in
      keeps_going s t u d law law' has has' ages (goes_on_for s cores n m u p k d law at goes same noted)
  keeps_moved s cores n m u p law at same (Ok (Out x)) ages lawful noted goes past out has has' =
      keeps_forgotten s (stored cores m) p noted.0 law ages (reserved_forgets s.notes n m p noted.0 same noted.1) out.gone
  keeps_moved s cores n m u p law at same (Err e) ages lawful noted goes past out has has' = keeps_reserved s cores m law ages (then_same s.notes n m same noted)

  -- nothing stands where a core's entry was taken out
  none_left : (s : CoreRow T W) (i : ℕ) (b c : Core T W) (id : EntryId) → HaveOwnNumbers s.cores → IsCoreAt s.cores i b → id.shard ≡ b.shard
      → (table_at (machine c) id.index).entry ≡ None → HasNoEntry (with_core s i c) id
  none_left s i b c id own at number none e z =
      ⊎_elim
      (λ (y : (z.0 ≡ i) × (z.1 ≡ c)). let P : Core T W → Type 0 = λ k. IsThere k id e in some_not_none e (sym (subst P y.1 z.3).linked ∙ none))
      (λ (y : (z.0 ≢ i) × IsCoreAt s.cores z.0 z.1). y.0 (own z.0 i z.1 b y.1 at (sym z.3.shard ∙ number)))
      (at_after s.cores i z.0 c z.1 at.0 z.2)

  pub reaped_none : (shared : Bool) (s : CoreRow T W) (i : ℕ) (b c : Core T W) (id : EntryId) (r : Result (Unit {0}) ReapError) → AreCores s → IsCoreAt s.cores i b → IsLawfulCore c
      → Reaps shared b id r c → OnOk r (HasNoEntry (with_core s i c) id)
  reaped_none shared s i b c id (Err e) law at lawful did = tt {0}
  reaped_none shared s i b c id (Ok done) law at lawful did =
      let j = id.index in
      let w = word_at c.known j in
      let row = ap (λ k. row_at k.rows j) did.1.reaped.out.slots ∙ get_or-set_same b.slots.rows j (vacated_row (row_at b.slots.rows j)) unused did.0.2 in
      none_left s i b c id law.apart at did.0.0 (ap (λ r. r.entry) (table_row_is c.slots.rows c.known lawful.as_known j) ∙ ap (λ r. entry_of r.held w) row)

  -- a poll that gave an entry out
  abbrev IsGoneAt : Core T W → Core T W → Expired T → Type 0
  IsGoneAt b c x =
      (x.key.entry.shard ≡ b.shard) × ((table_at (machine c) x.key.entry.index).entry ≡ None)
      × ((e : Entry T) × IsThere b x.key.entry e × (e.value ≡ x.value))

  stood_there : (shared : Bool) (tick : ℕ) (b : Core T W) (m : Machine T) (x : Expired T) → x.key.entry.shard ≡ b.shard
      → RunOf (IsOnTheWay shared) b.slots.last_stamp (machine (noting b tick)) m → Has m x.key.entry.index (record { born = x.key.entry.born; value = x.value; due = Some x.deadline })
      → (e : Entry T) × IsThere b x.key.entry e × (e.value ≡ x.value)
  stood_there shared tick b m x number way has =
      let f = way_stood shared b.slots.last_stamp (machine (noting b tick)) m way.0 way.1 way.2 x.key.entry.index _ has.1 in
      (f.0, record { shard = number; linked = f.1; born = f.2 }, f.3)

  pub piece_gone : (shared : Bool) (most tick : ℕ) (b c : Core T W) (x : Expired T) → DoesPiece shared most tick (Answer (CameOut x)) b c → IsGoneAt b c x
  piece_gone shared most tick b c x (accepted, note, answered, noted) =
      let left = answered.run.2 in (
        left.1,
        ap (λ r. r.entry) (put_same answered.run.0 (machine c) x.key.entry.index _ None left.0.1.0 left.0.0.7),
        stood_there shared tick b answered.run.0 x left.1 answered.run.1 left.0.1,
      )

  pub poll_gone : (shared : Bool) (tick : ℕ) (b c : Core T W) (x : Expired T) → DoesPoll shared tick (Answer (CameOut x)) b c → IsGoneAt b c x
  poll_gone shared tick b c x (accepted, note, answered, noted) =
      let left = answered.run.2 in (
        left.1,
        ap (λ r. r.entry) (put_same answered.run.0 (machine c) x.key.entry.index _ None left.0.1.0 left.0.0.7),
        stood_there shared tick b answered.run.0 x left.1 answered.run.1 left.0.1,
      )

  -- what a poll of the cores gave out, none stands there any more
  abbrev pub LeavesRow : CoreRow T W → CoreRow T W → Expired T → Type 0
  LeavesRow s t x = HasNoEntry t x.key.entry × ((e : Entry T) × HasEntry s x.key.entry e × (e.value ≡ x.value))

  pub polled_none : (Did : ℕ → Piece T → Core T W → Core T W → Type 0) (s t : CoreRow T W) (tick : ℕ) (made : Result (Piece T) CoreError)
      → ((limit : ℕ) (b c : Core T W) (x : Expired T) → Did limit (Answer (CameOut x)) b c → IsGoneAt b c x)
      → AreCores s → PollsRow Did s tick made t → IfPieceOut made (LeavesRow s t)
  polled_none Did s t tick (Ok (Answer (CameOut x))) gone law polled =
      let noting = noting_in s tick in
      let core : PollsCore Did noting (Answer (CameOut x)) t =
      ⊎_elim (λ (r : RestsIn noting (Answer (CameOut x)) × (t ≡ noting)). absurd r.0) (λ (c : PollsCore Did noting (Answer (CameOut x)) t). c) polled.1 in
      let on = core.did in
      let P : Piece T → Type 0 = λ p. Did (min noting.noted core.others) p on.before on.after in
      let did = subst P (told_out noting.noted core.others core.made x core.tells) on.did in
      let left = gone (min noting.noted core.others) on.before on.after x did in
      let Q : CoreRow T W → Type 0 = λ r. HasNoEntry r x.key.entry in
      let was = left.2 in
      (subst Q (sym on.rest) (none_left noting core.place on.before on.after x.key.entry law.apart on.at left.0 left.1), (was.0, (core.place, on.before, on.at, was.1), was.2))
  polled_none Did s t tick (Ok (Answer (Waiting next))) gone law polled = tt {0}
  polled_none Did s t tick (Ok (Answer Idle)) gone law polled = tt {0}
  polled_none Did s t tick (Ok Working) gone law polled = tt {0}
  polled_none Did s t tick (Err e) gone law polled = tt {0}

  pub keeps_after : (s t : StoreState T W) (made : Result (Piece T) CoreError) → IsStore s → Ages s.cores t.cores → NotesAfter s.notes made t.notes
      → IfPieceOut made (LeavesRow s.cores t.cores) → KeepsIds s t
  keeps_after s t (Ok (Answer (CameOut x))) law ages after none = keeps_forgotten s t x.key.entry after.0 law ages after.1 none.0
  keeps_after s t (Ok (Answer (Waiting next))) law ages after none = keeps_ids s t law ages (λ q e z. ap (λ n. user_at n q) after)
  keeps_after s t (Ok (Answer Idle)) law ages after none = keeps_ids s t law ages (λ q e z. ap (λ n. user_at n q) after)
  keeps_after s t (Ok Working) law ages after none = keeps_ids s t law ages (λ q e z. ap (λ n. user_at n q) after)
  keeps_after s t (Err e) law ages after none = keeps_ids s t law ages (λ q e z. ap (λ n. user_at n q) after)

  -- what left its place left under its user's id
  goes_at : (s t : StoreState T W) (p : EntryId) (o : Option EntryId) (v : T) → IsStore s → Ages s.cores t.cores → Forgets s.notes p o t.notes → HasNoEntry t.cores p
      → ((e : Entry T) × HasEntry s.cores p e × (e.value ≡ v)) → GoesOut s (user_at s.notes p) v t
  goes_at s t p o v law ages f none was =
      let n = s.notes in
      let u = user_at n p in
      let never : (r : EntryId) (e g : Entry T) → HasEntry t.cores r e → HasEntry s.cores r g → user_at n r ≡ u → ⊥ = λ r e g y z named.
      let P : EntryId → Type 0 = λ k. HasEntry t.cores k e in none e (subst P (apart s law r p g was.0 z was.1 named) y) in (
        (was.0, (p, refl, was.1), was.2),
        (λ e y.
            let r = y.0 in
            let P : EntryId → Type 0 = λ k. HasEntry t.cores k e in
            let named : user_at n r ≡ u = sym (forgets_user n t.notes p o f r (λ is. none e (subst P is y.2))) ∙ y.1 in
            ⊎_elim
            (λ (a : (with_id n.users r ≡ None) × (user_at n r ≡ r)). ⊎_elim
            (λ (b : (with_id n.users p ≡ None) × (user_at n p ≡ p)). none e (subst P (sym a.1 ∙ (named ∙ b.1)) y.2))
            (λ (b : (w : EntryId) × (with_id n.users p ≡ Some w) × (user_at n p ≡ w)).
            let there = (law.noted b.0 p).1 b.1 in
            let here = subst P (sym a.1 ∙ (named ∙ b.2)) y.2 in
            let g = (ages b.0 (law.user_past b.0 p there)).1 e here in
            law.away b.0 p there g.0 g.1)
            (by_note p (with_id n.users p)))
            (λ (a : (w : EntryId) × (with_id n.users r ≡ Some w) × (user_at n r ≡ w)).
            let g = (ages r (law.place_past a.0 r ((law.noted a.0 r).1 a.1))).1 e y.2 in
            never r e g.0 y.2 g.1 named)
            (by_note r (with_id n.users r))),
      )

  pub goes_after : (s t : StoreState T W) (made : Result (Piece T) CoreError) → IsStore s → Ages s.cores t.cores → NotesAfter s.notes made t.notes
      → IfPieceOut made (LeavesRow s.cores t.cores) → IfPieceOut (piece_as s.notes made) (λ x. GoesOut s x.key.entry x.value t)
  goes_after s t (Ok (Answer (CameOut x))) law ages after left = goes_at s t x.key.entry after.0 x.value law ages after.1 left.0 left.1
  goes_after s t (Ok (Answer (Waiting next))) law ages after left = tt {0}
  goes_after s t (Ok (Answer Idle)) law ages after left = tt {0}
  goes_after s t (Ok Working) law ages after left = tt {0}
  goes_after s t (Err e) law ages after left = tt {0}

  -- an insert
  gives_at : (s : StoreState T W) (cores : CoreRow T W) (v : T) (when : ℕ) (k : Key) (beside : Option T) → AreCores s.cores
      → OnCoreAt s.cores.opened (InsertsBeside v when (Ok k, beside)) s.cores cores → GivesId s k.entry (stored cores s.notes)
  gives_at s cores v when k beside has on =
      let b = on.before in
      let c = on.after in
      let x = on.did.0 in
      let top = s.cores.opened in
      let ahead = inserted_ahead b c v when k x in
      let below = has.below top b on.at in
      let next = ap (λ r. r.next) on.rest in
      let number = x.shard in
      let P : CoreRow T W → Type 0 = λ r. IsPastIn r k.entry in (
        (λ given. let past = given.1 top b on.at (sym number) in absurd (omega (arith, past, ahead))),
        (omega (arith, below, next, number), subst P (sym on.rest) (past_in s.cores top b c has on.at x.same_shard k.entry number (insert_past b c v when k (Ok k) x refl))),
      )

  pub gives_new : (s : StoreState T W) (cores : CoreRow T W) (v : T) (when : ℕ) (r : Result Key (CoreError × T) × Option T) → AreCores s.cores
      → InsertsIn s.cores v when r cores → IfOk r.0 (λ k. GivesId s k.entry (stored cores s.notes))
  gives_new s cores v when (Ok k, beside) has (inl on) = gives_at s cores v when k beside has on
  gives_new s cores v when (Ok k, beside) has (inr y) = absurd (ok_not_err k (closed_error when, v) (ap (λ z. z.0) y.1))
  gives_new s cores v when (Err e, beside) has did = tt {0}

  -- a change of a value, by its answer
  pub changed_used : (s : StoreState T W) (cores : CoreRow T W) (number : ℕ) (P : Core T W → Core T W → Type 0) (R : Type 0) → OnCoreOr number P R s.cores cores
      → ((id : EntryId) → IsPastIn s.cores id → IsPastIn cores id) → (id : EntryId) → IsUsedId s id → IsUsedId (stored cores s.notes) id
  changed_used s cores number P R (inl on) past id used = let N : CoreRow T W → Type 0 = λ k. id.shard < k.next in (subst N (sym on.rest) used.0, past id used.1)
  changed_used s cores number P R (inr y) past id used = let N : CoreRow T W → Type 0 = λ k. id.shard < k.next in (subst N (sym y.2) used.0, past id used.1)

  pub changed_keep : {R : Type 0} (Makes : T → R → T → Type 0) (s t : StoreState T W) (u : EntryId) (r : Option R) → ChangesFor Makes s u r t
      → ((id : EntryId) → IsUsedId s id → IsUsedId t id) → KeepsOtherIds u s t
  changed_keep {R} Makes s t u None did up w given =
      let P : StoreState T W → Type 0 = λ k. KeepsId s k w in
      (up w given, (λ ne. subst P (sym did.1) (record { given = given; stays = λ v z. inl z; stood = λ v z. z })))
  changed_keep {R} Makes s t u (Some a) did up w given = (
    up w given,
    (λ ne. record {
      given = up w given;
      stays = λ v z. inl (z.0, did.others.0 w z.0 ne z.1, z.2);
      stood = λ v z. (z.0, did.others.1 w z.0 ne z.1, z.2);
    }),
  )

  -- a core comes in
  module _ (s : StoreState T W) (cores : CoreRow T W) (c : Core T W) (law : IsStore s) (lawful : IsLawfulCore c) (takes : TakesIn s.cores c cores) where
    old_or_new : (j : ℕ) (d : Core T W) → IsCoreAt cores.cores j d → IsCoreAt s.cores.cores j d ⊎ (c ≡ d)
    old_or_new =
        let L : List (Core T W) → Type 0 = λ l. (j : ℕ) (d : Core T W) → IsCoreAt l j d → IsCoreAt s.cores.cores j d ⊎ (c ≡ d) in
        subst L (sym takes.cores)
        (λ j d x. ⊎_elim
        (λ (y : IsCoreAt s.cores.cores j d). inl y)
        (λ (y : (j ≡ length s.cores.cores) × (c ≡ d)). inr y.1)
        (at_snoc s.cores.cores c d j x))

    still_at : (j : ℕ) (d : Core T W) → IsCoreAt s.cores.cores j d → IsCoreAt cores.cores j d
    still_at j d x =
        let L : List (Core T W) → Type 0 = λ l. IsCoreAt l j d in
        let inside = x.0 in
        let long = snoc_long s.cores.cores c in
        subst L (sym takes.cores) (omega (arith, inside, long), snoc_before s.cores.cores c d j x.0 ∙ x.1)

    ages_beside : (q : EntryId) → ArePastBy (numbers_of q) c → AgesAs s.cores cores q
    ages_beside q own past =
        let next = takes.next in
        let here : c.shard ≡ q.shard → IsPastAt c q = λ number. own (sym number) in (
          (λ j d x number. ⊎_elim
              (λ (y : IsCoreAt s.cores.cores j d). past j d y number)
              (λ (y : c ≡ d). let P : Core T W → Type 0 = λ k. k.shard ≡ q.shard → IsPastAt k q in (subst P y here) number)
              (old_or_new j d x)),
          (λ e z. ⊎_elim
              (λ (y : IsCoreAt s.cores.cores z.0 z.1). (e, (z.0, z.1, y, z.3), refl))
              (λ (y : c ≡ z.1). let N : Core T W → Type 0 = λ k. (v : EntryId) (f : Entry T) → IsThere k v f → ⊥ in
              absurd ((subst N y (unlinked c lawful takes.may.0)) q e z.3))
              (old_or_new z.0 z.1 z.2)),
          (λ e z. inl (e, (z.0, z.1, still_at z.0 z.1 z.2, z.3), refl)),
          (λ number. omega (arith, next, number)),
        )

    pub keeps_beside : AllArePast s.notes c → KeepsIdsBeside c s (stored cores s.notes)
    keeps_beside past u own given =
        keeps_one s (stored cores s.notes) law u given (ages_beside u own)
        (λ q named. ages_beside q (⊎_elim
        (λ (a : (with_id s.notes.users q ≡ None) × (user_at s.notes q ≡ q)). let P : EntryId → Type 0 = λ k. ArePastBy (numbers_of k) c in subst P (sym named ∙ a.1) own)
        (λ (a : (w : EntryId) × (with_id s.notes.users q ≡ Some w) × (user_at s.notes q ≡ w)). past.1 q a.0 a.1)
        (by_note q (with_id s.notes.users q))))
        (λ q e z. refl)

  pub same_age : (s t : CoreRow T W) → t ≡ s → Ages s t
  same_age s t is = let P : CoreRow T W → Type 0 = λ k. Ages s k in subst P (sym is) (all_age s)

  same_ids : (s : StoreState T W) (cores : CoreRow T W) → cores ≡ s.cores → KeepsIds s (stored cores s.notes)
  same_ids s cores is u given =
      let P : CoreRow T W → Type 0 = λ k. KeepsId s (stored k s.notes) u in
      subst P (sym is) (record { given = given; stays = λ v z. inl z; stood = λ v z. z })

  pub takes_keep : (s : StoreState T W) (cores : CoreRow T W) (c : Core T W) (r : Result (Unit {0}) (TakeError × Core T W)) → IsStore s → IsLawfulCore c → AllArePast s.notes c
      → OnOk r (TakesIn s.cores c cores) → IfErr r (λ e. TakeRefused s.cores c e.0 × (e.1 ≡ c) × (cores ≡ s.cores)) → KeepsIdsBeside c s (stored cores s.notes)
  takes_keep s cores c (Ok done) law lawful past takes refused u own given = keeps_beside s cores c law lawful takes past u own given
  takes_keep s cores c (Err e) law lawful past takes refused u own given = same_ids s cores refused.2 u given

pub entries_leave_once : (T W : Type 0) → StoreEntriesLeaveOnce T W
entries_leave_once T W u v s calls given one go has = until u v s calls given one go has

pub ended_stays_ended : (T W : Type 0) → StoreEndedStaysEnded T W
ended_stays_ended T W u s calls given go none = none_from u s calls given go none

pub no_core_gives_anew : (T W : Type 0) → CoresGiveNoneAnew T W
no_core_gives_anew T W = record {
  unused = λ u s c given above number. let used = given.0 in absurd (omega (arith, above, used, number));
  drained = λ u s c t given gives number. given.1 gives.place c gives.drained.0 (sym number);
  unfolded = λ u c d past unfolded number.
      let P : Machine T → Type 0 = λ m. u.born ≤ (table_at m u.index).stamp in
      subst P (sym (unfolded.4 ∙ unfolded.2)) (past (number ∙ (unfolded.3 ∙ unfolded.1)));
}
