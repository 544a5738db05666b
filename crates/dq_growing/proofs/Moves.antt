-- An entry goes on in the open core.
use Rattle.std.proofs.Common.{◌≡◌, ◌≢◌, ℕ, ◌+◌, ◌<◌, ◌≤◌, Bool, true, false, cond, max, List, length, set, Option, Some, None, Result, Ok, Err, IfOk, OnErr, MatchOption, refl, sym, ap, ◌∙◌, subst, inl, inr, arith}
use mathlib.Core.Logic.{dite}
use native.Mathlib.Decide.{ℕ_discrete}
use Rattle.std.proofs.lemmas.Bool.{cases_lt}
use Rattle.std.proofs.lemmas.List.{length-set, set_past}
use Rattle.std.specs.List.{count_by}
use Rattle.dq_ticks.specs.declared.keys.Key.{Key}
use Rattle.dq_ticks.specs.declared.keys.EntryId.{EntryId}
use Rattle.dq_core.specs.declared.errors.CoreError.{CoreError}
use Rattle.dq_core.specs.declared.errors.CoreError.TheVariants.{TooFar, Full, Missing, WasCancelled, Worn, TickTooLarge, BadConfig, NoMemory}
use Rattle.dq_core.specs.declared.outcomes.Removed.{Removed}
use Rattle.dq_core.specs.declared.slots.Held.{Held}
use Rattle.dq_core.specs.AtTheCall.{linked_in}
use Rattle.dq_core.specs.Calls.{IsRemoved, Removes, FindRefused, base_for}
use Rattle.dq_core.specs.Core.{Core, machine}
use Rattle.dq_core.specs.Machine.{Entry, table_at}
use Rattle.dq_core.specs.Slots.{Row, SlotRows, is_free, is_held, is_worn, row_at, vacated_row}
use Rattle.dq_core.proofs.SlotRows.{parted}
use Rattle.dq_core.proofs.Slotwise.{count_set, free_is}
use Rattle.dq_growing.specs.Cores.{CoreRow, AreCores, IsCoreAt, OnCoreOr, InsertsBeside, with_core}
use Rattle.dq_growing.specs.Stands.{IsThere, IsPastAt, IsPastIn, IsAheadIn, Ages, HasEntry, OneLeaves, OneComes, KeepsWords}
use Rattle.dq_growing.specs.Moving.{is_beyond, HasFreeSlot, HasOpenRoom, IsFull, worn_in, PutsIn, IsTakenOut, Relocates, IsBaseIn, ComesInOpen, GoesOnIn, HasBegunIn}
use Rattle.dq_growing.specs.declared.moving.NextDeadline.{NextDeadline}
use Rattle.dq_growing.proofs.Rows.{one_at}
use Rattle.dq_growing.proofs.Aging.{AgesAt, ages_in}
use Rattle.dq_growing.proofs.Standing.{past_in, comes_in, set_there, set_other}

one_at_most : (a b : Bool) → (a ≡ true → b ≡ true) → cond a 1 0 ≤ cond b 1 0
one_at_most false b h = omega arith
one_at_most true b h = rw (h refl) (omega arith)

-- a slot that is vacated is free where it was
free_still : {T : Type 0} (last : ℕ) (r : Row T) → cond (is_free last r) 1 0 ≤ cond (is_free last (vacated_row r)) 1 0
free_still {T} last r =
    one_at_most (is_free last r) (is_free last (vacated_row r))
    (λ yes. let P : Option (Held T) → Type 0 = λ h. is_free last (record r { held = h }) ≡ true in
    subst P (free_is last r yes).0 yes)

pub free_after : {T : Type 0} (last : ℕ) (rows : List (Row T)) (i : ℕ) → count_by (is_free last) rows ≤ count_by (is_free last) (set rows i (vacated_row (row_at rows i)))
free_after last rows i =
    elim (cases_lt i (length rows)) [
      | inl inside ↦
          let count = count_set (is_free last) rows i (vacated_row (row_at rows i)) inside in
          let still = free_still last (row_at rows i) in
          omega (arith, count, still)
      | inr past ↦ rw (set_past rows i (vacated_row (row_at rows i)) past) (omega arith)
    ]

pub ok_not_err : {X E : Type 0} (x : X) (e : E) → ◌≡◌ {A = Result X E} (Ok x) (Err e) → ⊥
ok_not_err {X} {E} x e is =
    let P : Result X E → Type 0 = λ r. OnErr r ⊥ in
    subst P is (tt {0})

abbrev err_or : {X : Type 0} → CoreError → Result X CoreError → CoreError
err_or d (Ok x) = d
err_or d (Err e) = e

err_is : {X : Type 0} (e f : CoreError) → ◌≡◌ {A = Result X CoreError} (Err e) (Err f) → e ≡ f
err_is {X} e f is = ap (λ r. err_or f r) is

module _ {T W : Type 0} where
  pub found_refused : (shared : Bool) (s m : CoreRow T W) (id : EntryId) (e : CoreError)
      → OnCoreOr id.shard (λ b c. Removes shared b id (Err e) c) (◌≡◌ {A = Result (Removed T) CoreError} (Err e) (Err Missing)) s m
      → OnCoreOr id.shard (λ b c. FindRefused shared b id e c) (e ≡ Missing) s m
  found_refused shared s m id e (inl y) = inl (record { place = y.place; before = y.before; after = y.after; at = y.at; did = y.did; rest = y.rest })
  found_refused shared s m id e (inr y) = inr (y.0, err_is e Missing y.1, y.2)

  never_refused : (shared : Bool) (s m : CoreRow T W) (id : EntryId) (e : CoreError)
      → OnCoreOr id.shard (λ b c. Removes shared b id (Err e) c) (◌≡◌ {A = Result (Removed T) CoreError} (Err e) (Err Missing)) s m
      → ((b c : Core T W) → FindRefused shared b id e c → ⊥) → (e ≡ Missing → ⊥) → ⊥
  never_refused shared s m id e (inl y) nowhere other = nowhere y.before y.after y.did
  never_refused shared s m id e (inr y) nowhere other = other (err_is e Missing y.1)

  pub full_told : (s : CoreRow T W) (c : Core T W) (o : Option (ℕ × ℕ)) → IsCoreAt s.cores s.opened c
      → MatchOption o (HasFreeSlot c) (λ n. (n.0 ≡ linked_in c) × (n.1 ≡ worn_in c) × (n.0 + n.1 ≡ length c.slots.rows))
      → MatchOption o (HasOpenRoom s) (λ n. IsFull s n.0 n.1)
  full_told s c None at h = (c, at, h)
  full_told s c (Some n) at h = inl (c, at, h.0, h.1, h.2)

  -- a removal leaves the room that there was
  free_left : (shared : Bool) (b c : Core T W) (id : EntryId) (x : Removed T) → IsRemoved shared b id x c → HasFreeSlot b → HasFreeSlot c
  free_left shared b c id x r free =
      let last = b.slots.last_stamp in
      let rows = b.slots.rows in
      let P : SlotRows T → Type 0 = λ s. count_by is_held s.rows + count_by (is_worn s.last_stamp) s.rows < length s.rows in
      let i = id.index in
      let new = set rows i (vacated_row (row_at rows i)) in
      let was = parted last rows in
      let now = parted last new in
      let more = free_after last rows i in
      let size = length-set rows i (vacated_row (row_at rows i)) in
      let all : count_by is_held new + count_by (is_worn last) new < length new = omega (arith, was, now, more, size, free) in
      subst P (sym r.slots) all

  -- the open core after a removal is what it was, or what the removal left there
  opened_after_removal : (shared : Bool) (s m : CoreRow T W) (id : EntryId) (x : Removed T) (P Q : Core T W → Type 0)
      → IsTakenOut shared id x s m → ((b c : Core T W) → IsRemoved shared b id x c → P b → Q c) → ((c : Core T W) → P c → Q c)
      → (c : Core T W) × IsCoreAt s.cores s.opened c × P c → (d : Core T W) × IsCoreAt m.cores m.opened d × Q d
  opened_after_removal shared s m id x P Q out step keep top =
      let R : CoreRow T W → Type 0 = λ k. (d : Core T W) × IsCoreAt k.cores k.opened d × Q d in
      let at = out.at.0 in
      let new : R (with_core s out.place out.after) =
      dite (ℕ_discrete s.opened out.place)
      (λ e. let A : ℕ → Type 0 = λ k. IsCoreAt s.cores k top.0 in
      let B : ℕ → Type 0 = λ k. IsCoreAt (set s.cores out.place out.after) k out.after in
      let same = one_at s.cores out.place top.0 out.before (subst A e top.1) at in
      let now : IsCoreAt (set s.cores out.place out.after) out.place out.after = set_there s.cores out.place out.before out.after at in
      (out.after, subst B (sym e) now, step out.before out.after out.did (subst P same top.2)))
      (λ n. (top.0, set_other s.cores out.place s.opened out.after top.0 n top.1, keep top.0 top.2))
      in
      subst R (sym out.rest) new

  pub room_left : (shared : Bool) (s m : CoreRow T W) (id : EntryId) (x : Removed T) → IsTakenOut shared id x s m → HasOpenRoom s → HasOpenRoom m
  room_left shared s m id x out room = opened_after_removal shared s m id x HasFreeSlot HasFreeSlot out (λ b c r h. free_left shared b c id x r h) (λ c h. h) room

  -- the open core's tick stays at a removal
  pub base_left : (shared : Bool) (s m : CoreRow T W) (id : EntryId) (x : Removed T) (d base : ℕ) → IsTakenOut shared id x s m → HasOpenRoom s → IsBaseIn m d base → IsBaseIn s d base
  base_left shared s m id x d base out room b =
      let c = room.0 in
      let P : Core T W → Type 0 = λ k. base_for k d ≡ base_for c d in
      let top = opened_after_removal shared s m id x P P out (λ k l r h. ap (λ w. max d w.tick) r.filed ∙ h) (λ k h. h) (c, room.1, refl) in
      let same = one_at m.cores m.opened b.0 top.0 b.1 top.1 in
      (c, room.1, b.2 ∙ (ap (λ k. base_for k d) same ∙ top.2))

  -- a new key isn't that of an entry which was there
  pub other_key : (m : CoreRow T W) (id k : EntryId) → IsPastIn m id → IsAheadIn m k → k ≢ id
  other_key m id k past ahead e =
      let P : EntryId → Type 0 = λ o. IsAheadIn m o in
      let a = subst P e ahead in
      let p = past m.opened a.0 a.1.0 a.1.1 in
      let q = a.2 in
      omega arith

  pub goes : (s m t : CoreRow T W) (id : EntryId) (v : T) (k : Key) (d : ℕ) → OneLeaves (HasEntry s) (HasEntry m) id v → IsPastIn m id → IsAheadIn m k.entry
      → ((base : ℕ) → IsBaseIn m d base → IsBaseIn s d base) → ComesInOpen m k v d t → GoesOnIn s id k d t
  goes s m t id v k d l past ahead raised comes =
      let n = other_key m id k.entry past ahead in
      let p = comes.2 in
      let M : EntryId → Entry T → Type 0 = λ o e. HasEntry m o e in (
        comes.0,
        raised comes.0 comes.1,
        record {
          value = v;
          was = l.was;
          gone = λ e z. l.gone e (p.others.1 id e (λ same. n (sym same)) z);
          fresh = λ e z. p.fresh e (l.others.0 k.entry e n z);
          here = p.here;
          others = (
            (λ o e ne z. let y = l.others.0 o e ne z in
                p.others.0 o e (λ same. let P : EntryId → Type 0 = λ a. HasEntry m a e in p.fresh e (subst P same y)) y),
            (λ o e ne z. let y = p.others.1 o e ne z in
                l.others.1 o e (λ same. let P : EntryId → Type 0 = λ a. HasEntry m a e in l.gone e (subst P same y)) y),
          );
        },
      )

  -- what a removal says, by its answer
  pub taken_out : (shared : Bool) (s m : CoreRow T W) (id : EntryId) (x : Removed T)
      → OnCoreOr id.shard (λ b c. Removes shared b id (Ok x) c) (◌≡◌ {A = Result (Removed T) CoreError} (Ok x) (Err Missing)) s m → IsTakenOut shared id x s m
  taken_out shared s m id x (inl y) = record { place = y.place; before = y.before; after = y.after; at = y.at; did = y.did; rest = y.rest }
  taken_out shared s m id x (inr y) = absurd (ok_not_err x Missing y.1)

  pub refuses : (shared : Bool) (s m : CoreRow T W) (id : EntryId) (next : NextDeadline) (e : CoreError) → is_beyond next ≡ false → HasOpenRoom s
      → OnCoreOr id.shard (λ b c. Removes shared b id (Err e) c) (◌≡◌ {A = Result (Removed T) CoreError} (Err e) (Err Missing)) s m → Relocates shared id next (Err e, None) s m
  refuses shared s m id next Missing near room r = (near, room, refl, found_refused shared s m id Missing r)
  refuses shared s m id next WasCancelled near room r = (near, room, refl, found_refused shared s m id WasCancelled r)
  refuses shared s m id next (TooFar limit) near room r = absurd (never_refused shared s m id (TooFar limit) r (λ b c f. f) (λ e. absurd cc))
  refuses shared s m id next (Full linked worn) near room r = absurd (never_refused shared s m id (Full linked worn) r (λ b c f. f) (λ e. absurd cc))
  refuses shared s m id next Worn near room r = absurd (never_refused shared s m id Worn r (λ b c f. f) (λ e. absurd cc))
  refuses shared s m id next (TickTooLarge limit) near room r = absurd (never_refused shared s m id (TickTooLarge limit) r (λ b c f. f) (λ e. absurd cc))
  refuses shared s m id next BadConfig near room r = absurd (never_refused shared s m id BadConfig r (λ b c f. f) (λ e. absurd cc))
  refuses shared s m id next NoMemory near room r = absurd (never_refused shared s m id NoMemory r (λ b c f. f) (λ e. absurd cc))

  pub then_words : {O : Type 0} (origin : W → O) (begun : W → ℕ → ℕ → ℕ → Type 0) (s m t : CoreRow T W) → KeepsWords origin begun s m → KeepsWords origin begun m t → KeepsWords origin begun s t
  then_words {O} origin begun s m t one two i b at =
      let c = one i b at in
      let d = two i c.0 c.1 in
      (d.0, d.1, d.2 ∙ c.2, d.3 ∙ c.3, λ k u w h. d.4 k u w (c.4 k u w h))

  -- a value was put into the open core
  module _ (s : CoreRow T W) (b c : Core T W) (v : T) (d : ℕ) (k : Key) (beside : Option T) (law : AreCores s) (at : IsCoreAt s.cores s.opened b) (same : c.shard ≡ b.shard)
      (puts : PutsIn v d k beside b c) where
    pub open_comes : OneComes (IsThere b) (IsThere c) k.entry v (base_for b d) → ComesInOpen s k v d (with_core s s.opened c)
    open_comes comes = (base_for b d, (b, at, refl), comes_in s s.opened b c law at same k.entry v (base_for b d) comes)

    pub open_ahead : (table_at (machine b) k.entry.index).stamp < k.entry.born → IsAheadIn s k.entry
    open_ahead ahead = (b, (at, sym puts.0.shard), ahead)

    pub open_begun : (begun : W → ℕ → ℕ → ℕ → Type 0) → begun c.words k.entry.index k.stamp (base_for b d) → HasBegunIn begun s k d (with_core s s.opened c)
    open_begun begun has = (c, (set_there s.cores s.opened b c at, same ∙ sym puts.0.shard), (base_for b d, (b, at, refl), has))

    pub open_ages : AgesAt b c → Ages s (with_core s s.opened c)
    open_ages ages = ages_in s s.opened b c law at same ages

    pub open_past : IsPastAt c k.entry → IsPastIn (with_core s s.opened c) k.entry
    open_past past = past_in s s.opened b c law at same k.entry puts.0.shard past

  -- so by the answer of an insert
  pub inserted_begun : (s : CoreRow T W) (b c : Core T W) (v : T) (d : ℕ) (r : Result Key (CoreError × T) × Option T) → AreCores s → IsCoreAt s.cores s.opened b → c.shard ≡ b.shard
      → InsertsBeside v d r b c → (begun : W → ℕ → ℕ → ℕ → Type 0) → IfOk r.0 (λ k. begun c.words k.entry.index k.stamp (base_for b d))
      → IfOk r.0 (λ k. HasBegunIn begun s k d (with_core s s.opened c))
  inserted_begun s b c v d (Ok k, beside) law at same did begun has = open_begun s b c v d k beside law at same (did.0, did.1.0, did.1.1) begun has
  inserted_begun s b c v d (Err e, beside) law at same did begun has = tt {0}
