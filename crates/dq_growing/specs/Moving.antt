-- How an entry goes on in the open core.
use Rattle.std.specs.Prelude.{◌≡◌, ◌⊎◌, ℕ, ◌+◌, ◌<◌, Bool, true, false, Option, Some, None}
use Rattle.std.specs.Prelude.{Result, Ok, Err, length, nat_lt, if◌then◌else◌}
use Rattle.std.specs.List.{count_by}
use Rattle.dq_ticks.specs.declared.TheConstants.{LAST_TICK}
use Rattle.dq_ticks.specs.declared.keys.Key.{Key}
use Rattle.dq_ticks.specs.declared.keys.EntryId.{EntryId}
use Rattle.dq_core.specs.declared.errors.CoreError.{CoreError}
use Rattle.dq_core.specs.declared.errors.CoreError.TheVariants.{TooFar, Full, Missing}
use Rattle.dq_core.specs.declared.outcomes.Removed.{Removed}
use Rattle.dq_core.specs.Deferring.{deferred_value_at, with_deferred}
use Rattle.dq_core.specs.AtTheCall.{linked_in}
use Rattle.dq_core.specs.Calls.{IsInserted, IsRemoved, FindRefused, base_for}
use Rattle.dq_core.specs.Core.{Core}
use Rattle.dq_core.specs.Slots.{is_worn}
use Rattle.dq_growing.specs.Cores.{CoreRow, IsCoreAt, HasAt, OnCore, OnCoreOr, OnCoreAt, IsClosed}
use Rattle.dq_growing.specs.Stands.{HasEntry, OneComes, OneMoves}
use Rattle.dq_growing.specs.declared.moving.Moved.{Moved}
use Rattle.dq_growing.specs.declared.moving.Moved.TheVariants.{To, Out}
use Rattle.dq_growing.specs.declared.moving.NextDeadline.{NextDeadline}
use Rattle.dq_growing.specs.declared.moving.NextDeadline.TheVariants.{Same, At, SameIfAfter}

-- the deadline that a moved entry gets, by the one that it has; none where it comes out
abbrev pub next_of : NextDeadline → ℕ → Option ℕ
next_of Same had = Some had
next_of (At tick) had = Some tick
next_of (SameIfAfter tick) had = if nat_lt tick had then Some had else None

-- the deadline that is asked for is beyond the last tick
abbrev pub is_beyond : NextDeadline → Bool
is_beyond Same = false
is_beyond (At tick) = nat_lt LAST_TICK tick
is_beyond (SameIfAfter tick) = false

module _ {T : Type 0} where
  -- where it is in again: by its key and its deadline
  abbrev pub IfTo : Moved T → (Key → ℕ → Type 0) → Type 0
  IfTo (To key deadline) P = P key deadline
  IfTo (Out x) P = Unit {0}

  -- unless it is in again
  abbrev pub UnlessTo : Result (Moved T) CoreError → Type 0 → Type 0
  UnlessTo (Ok (To key deadline)) P = Unit {0}
  UnlessTo r P = P

  -- where it came out
  abbrev pub IfCameOut : Moved T → (Removed T → Type 0) → Type 0
  IfCameOut (To key deadline) P = Unit {0}
  IfCameOut (Out x) P = P x

module _ {T W : Type 0} where
  -- how many slots are worn
  abbrev pub worn_in : Core T W → ℕ
  worn_in c = count_by (is_worn c.slots.last_stamp) c.slots.rows

  -- a slot is free
  abbrev pub HasFreeSlot : Core T W → Type 0
  HasFreeSlot c = linked_in c + worn_in c < length c.slots.rows

  -- a value goes to a free slot of a core; what was deferred there comes out
  abbrev pub PutsIn : T → ℕ → Key → Option T → Core T W → Core T W → Type 0
  PutsIn v d k beside b c =
      IsInserted b v d k c
      × (beside ≡ deferred_value_at b.deferred k.entry.index)
      × (c.deferred ≡ with_deferred b.deferred k.entry.index None)

  -- an entry left its core as a removal takes it
  abbrev pub IsTakenOut : Bool → EntryId → Removed T → CoreRow T W → CoreRow T W → Type 0
  IsTakenOut shared id x s m = OnCore id.shard (λ b c. IsRemoved shared b id x c) s m

  -- a removal, and what became of the entry: it is put into the open core with the deadline that it
  -- gets, or it came out, exactly where it gets none
  abbrev pub GoesTo : CoreRow T W → Removed T → NextDeadline → Moved T → Option T → CoreRow T W →
      Type 0
  GoesTo m x next (To k d) beside t =
      (next_of next x.deadline ≡ Some d) × OnCoreAt m.opened (PutsIn x.value d k beside) m t
  GoesTo m x next (Out y) beside t =
      (next_of next x.deadline ≡ None) × (y ≡ x) × (beside ≡ None) × (t ≡ m)

  -- the open core has a free slot
  abbrev pub HasOpenRoom : CoreRow T W → Type 0
  HasOpenRoom s = (c : Core T W) × IsCoreAt s.cores s.opened c × HasFreeSlot c

  -- the open core, or that none is, as a refusal tells it that no slot is free
  abbrev pub IsFull : CoreRow T W → ℕ → ℕ → Type 0
  IsFull s linked worn =
      ((c : Core T W) × IsCoreAt s.cores s.opened c × (linked ≡ linked_in c) × (worn ≡ worn_in c)
      × (linked + worn ≡ length c.slots.rows))
      ⊎ (IsClosed s × (linked ≡ 0) × (worn ≡ 0))

  -- A move into the open core. It is refused, first, where the deadline is beyond the last tick; then
  -- where the open core has no free slot; and then as a removal is.
  abbrev pub Relocates :
      Bool → EntryId → NextDeadline → Result (Moved T) CoreError × Option T → CoreRow T W →
      CoreRow T W → Type 0
  Relocates shared id next (Ok moved, beside) s t =
      (is_beyond next ≡ false) × HasOpenRoom s
      × ((x : Removed T) × (m : CoreRow T W) × IsTakenOut shared id x s m
      × GoesTo m x next moved beside t)
  Relocates shared id next (Err (TooFar limit), beside) s t =
      (limit ≡ LAST_TICK) × (is_beyond next ≡ true) × (beside ≡ None) × (t ≡ s)
  Relocates shared id next (Err (Full linked worn), beside) s t =
      (is_beyond next ≡ false) × IsFull s linked worn × (beside ≡ None) × (t ≡ s)
  Relocates shared id next (Err e, beside) s t =
      (is_beyond next ≡ false) × HasOpenRoom s × (beside ≡ None)
      × OnCoreOr id.shard (λ b c. FindRefused shared b id e c) (e ≡ Missing) s t

  -- a deadline that was asked for, raised to the tick of the open core
  abbrev pub IsBaseIn : CoreRow T W → ℕ → ℕ → Type 0
  IsBaseIn s d base = (c : Core T W) × IsCoreAt s.cores s.opened c × (base ≡ base_for c d)

  -- an entry comes to the open core, live until its deadline; every other stays
  abbrev pub ComesInOpen : CoreRow T W → Key → T → ℕ → CoreRow T W → Type 0
  ComesInOpen s k v d t =
      (base : ℕ) × IsBaseIn s d base × OneComes (HasEntry s) (HasEntry t) k.entry v base

  -- an entry goes on in the open core, live until its deadline; every other stays
  abbrev pub GoesOnIn : CoreRow T W → EntryId → Key → ℕ → CoreRow T W → Type 0
  GoesOnIn s id k d t =
      (base : ℕ) × IsBaseIn s d base × OneMoves (HasEntry s) (HasEntry t) id k.entry base

  -- the keeper of a key's words has begun it with that deadline, raised to the tick of the core
  abbrev pub HasBegunIn : (W → ℕ → ℕ → ℕ → Type 0) → CoreRow T W → Key → ℕ → CoreRow T W → Type 0
  HasBegunIn begun s k d t =
      (c : Core T W) × HasAt t.cores k.entry.shard t.opened c
      × ((base : ℕ) × IsBaseIn s d base × begun c.words k.entry.index k.stamp base)
