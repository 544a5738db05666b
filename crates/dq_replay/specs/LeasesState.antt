-- No public clause cites this module.
-- The leases of a script as its commands see them, and what holds of the queue and the names below.
use Rattle.std.specs.Prelude.{◌≡◌, ℕ, ◌+◌, ◌<◌, ◌≤◌, max, nat_le, nat_lt, List, [], Option, Some}
use Rattle.std.specs.Prelude.{None, Result, Ok, Err, length, filter}
use Rattle.std.specs.List.{count_by}
use Rattle.dq_ticks.specs.Keys.{KeyName}
use Rattle.dq_ticks.specs.declared.TheConstants.{LAST_STAMP}
use Rattle.dq_core.specs.Slots.{is_held}
use Rattle.dq_core.specs.Machine.{Machine, table_at, put}
use Rattle.dq_core.specs.Machine.{Entry}
use Rattle.dq_core.specs.Core.{Core, machine}
use Rattle.dq_replay.specs.declared.session.Lease.{Lease}
use Rattle.dq_replay.specs.declared.leases.Refusal.{Refusal}
use Rattle.dq_replay.specs.declared.leases.Refusal.TheVariants.{Missing, TooFar}
use Rattle.dq_replay.specs.Script.{lease, with_lease, deadline_of, without, moved}
use Rattle.dq_replay.specs.Leases.{lease_of, live_of, live_lease, key_at, AreKeyed, NameTable}
use Rattle.dq_replay.specs.Leases.{found_in}

-- the number of slots, the wheel's tick and the noted one, a bound on the stamps that were given,
-- and the live names in order
pub record LeasesState : Type 0 where
  pub capacity : ℕ
  pub tick : ℕ
  pub noted : ℕ
  pub given : ℕ
  pub live : List Lease

-- what a queue of names and a bound on its stamps show
abbrev pub leases_state : {W : Type 0} → Core (List ℕ) W → ℕ → LeasesState
leases_state c given = record {
  capacity = length c.slots.rows;
  tick = c.wheel.filing.tick;
  noted = c.noted;
  given = given;
  live = live_of (machine c).table;
}

-- each live name has the key of its entry, no stamp is beyond the bound, and only the last stamp of
-- all is the last
pub record AreLeases {W : Type 0} (c : Core (List ℕ) W) (names : NameTable) (given : ℕ)
    : Type 0 where
  pub last : c.slots.last_stamp ≡ LAST_STAMP
  pub keyed : AreKeyed c.shard (machine c) (found_in names)
  pub count : length names.entries ≡ length (live_of (machine c).table)
  pub stamps : (i : ℕ) → (table_at (machine c) i).stamp ≤ given

-- the key of a live name, whose deadline in force is d
abbrev pub IsLiveKey : {W : Type 0} → Core (List ℕ) W → KeyName → List ℕ → ℕ → Type 0
IsLiveKey c k name d =
    ((table_at (machine c) k.entry.index).entry ≡ Some (live_lease k.entry.born name d))
    × (k ≡ key_at c.shard (machine c) k.entry.index k.entry.born)

-- a key of some live name
abbrev pub IsSomeKey : {W : Type 0} → Core (List ℕ) W → KeyName → Type 0
IsSomeKey c k = (name : List ℕ) × (d : ℕ) × IsLiveKey c k name d

-- what holds for each live name of that key, with its deadline in force
abbrev pub OfLiveKey : {W : Type 0} → Core (List ℕ) W → KeyName → (List ℕ → ℕ → Type 0) → Type 0
OfLiveKey b k P = (name : List ℕ) (d : ℕ) → IsLiveKey b k name d → P name d

-- what each change of a queue leaves as it was
pub record IsSameQueue {V W : Type 0} (b : Core (List ℕ) V) (c : Core (List ℕ) W) : Type 0 where
  pub shard : c.shard ≡ b.shard
  pub last : c.slots.last_stamp ≡ b.slots.last_stamp
  pub rows : length c.slots.rows ≡ length b.slots.rows

-- one slot of the queue has another stamp and entry, and all else of its machine is as it was
pub record IsChangedAt {W : Type 0} (b : Core (List ℕ) W) (i s : ℕ) (e : Option (Entry (List ℕ)))
    (c : Core (List ℕ) W) : Type 0 where
  pub same : IsSameQueue b c
  pub inside : i < length (machine b).table
  pub machine_is : machine c ≡ put (machine b) i s e

-- a new name is live at the greater of what was asked and the tick
pub record IsNewLease {W : Type 0} (b : Core (List ℕ) W) (name : List ℕ) (when : ℕ) (k : KeyName)
    (c : Core (List ℕ) W) : Type 0 where
  pub free : (table_at (machine b) k.entry.index).entry ≡ None
  pub changed : IsChangedAt b k.entry.index ((table_at (machine b) k.entry.index).stamp + 1)
      (Some (live_lease k.entry.born name (max when (machine b).tick))) c
  pub key : k ≡ key_at b.shard (machine c) k.entry.index k.entry.born

-- a live name's entry has the next stamp, and the greater of what was asked and the tick as its
-- deadline
abbrev pub IsResetTo : {W : Type 0} → Core (List ℕ) W → KeyName → ℕ → KeyName → Core (List ℕ) W
    → List ℕ → Type 0
IsResetTo b k when new c name =
    IsChangedAt b k.entry.index ((table_at (machine b) k.entry.index).stamp + 1)
    (Some (live_lease k.entry.born name (max when (machine b).tick))) c
    × (new ≡ key_at b.shard (machine c) k.entry.index k.entry.born)

-- a live name's entry is live at the greater of what was asked and its deadline
abbrev pub IsExtendedTo : {W : Type 0} → Core (List ℕ) W → KeyName → ℕ → ℕ → Core (List ℕ) W
    → List ℕ → ℕ → Type 0
IsExtendedTo b k when result c name d =
    (result ≡ max when d)
    × IsChangedAt b k.entry.index (table_at (machine b) k.entry.index).stamp
    (Some (live_lease k.entry.born name result)) c

-- a live name's entry is cancelled or leaves the queue, and its deadline is told
pub record IsEndedLease {W : Type 0} (b : Core (List ℕ) W) (k : KeyName) (result : ℕ)
    (c : Core (List ℕ) W) (name : List ℕ) (d : ℕ) : Type 0 where
  pub told : result ≡ d
  pub left : Option (Entry (List ℕ))
  pub none_live : lease_of left ≡ None
  pub changed : IsChangedAt b k.entry.index (table_at (machine b) k.entry.index).stamp left c

-- the deadline of a live name is told, and nothing changes
abbrev pub IsToldOf : {W : Type 0} → Core (List ℕ) W → KeyName → ℕ → Core (List ℕ) W → List ℕ → ℕ
    → Type 0
IsToldOf b k result c name d = (result ≡ d) × (machine c ≡ machine b) × IsSameQueue b c

-- a machine with the same live names, tied to the same keys, and the same stamps
pub record KeepsLive (shard : ℕ) (m n : Machine (List ℕ)) : Type 0 where
  pub live : live_of n.table ≡ live_of m.table
  pub keyed : (keys : List ℕ → Option KeyName) → AreKeyed shard m keys → AreKeyed shard n keys
  pub stamps : (i : ℕ) → (table_at n i).stamp ≡ (table_at m i).stamp

-- room was made, and the live names are kept
pub record IsRoomy {W : Type 0} (b c : Core (List ℕ) W) : Type 0 where
  pub same : IsSameQueue b c
  pub kept : KeepsLive b.shard (machine b) (machine c)
  pub tick : c.wheel.filing.tick ≡ b.wheel.filing.tick
  pub noted : c.noted ≡ b.noted
  pub room : count_by is_held c.slots.rows < length c.slots.rows

-- none of the names is due
abbrev pub NoLeaseDue : ℕ → List Lease → Type 0
NoLeaseDue now live = filter (λ e. nat_le e.deadline now) live ≡ []

-- a live name left the queue, whose deadline in force is at most `now`
pub record IsLeaseOut {W : Type 0} (b : Core (List ℕ) W) (now : ℕ) (x : Lease) (c : Core (List ℕ) W)
    : Type 0 where
  pub same : IsSameQueue b c
  pub way : (m : Machine (List ℕ)) × (i : ℕ) × (born : ℕ) × KeepsLive b.shard (machine b) m
      × ((table_at m i).entry ≡ Some (live_lease born x.name x.deadline))
      × (machine c ≡ put m i (table_at m i).stamp None)
  pub due : x.deadline ≤ now
  pub noted : c.noted ≡ now

-- no live name is due at `now`, where the wheel then stands
pub record IsResting {W : Type 0} (b : Core (List ℕ) W) (now : ℕ) (c : Core (List ℕ) W)
    : Type 0 where
  pub same : IsSameQueue b c
  pub kept : KeepsLive b.shard (machine b) (machine c)
  pub none_due : NoLeaseDue now (live_of (machine c).table)
  pub tick : c.wheel.filing.tick ≡ now
  pub noted : c.noted ≡ now

-- one poll
abbrev pub IsPolledTo : {W : Type 0} → Core (List ℕ) W → ℕ → Option Lease → Core (List ℕ) W → Type 0
IsPolledTo b now None c = IsResting b now c
IsPolledTo b now (Some x) c = IsLeaseOut b now x c

-- what the calls do to the leases

-- no name is live, and no stamp was given
abbrev pub no_leases : ℕ → LeasesState
no_leases capacity = record { capacity = capacity; tick = 0; noted = 0; given = 0; live = [] }

-- a name goes live at the greater of what was asked and the tick
abbrev pub with_lease_at : LeasesState → List ℕ → ℕ → LeasesState
with_lease_at b name deadline =
    record b { given = b.given + 1; live = with_lease (lease name deadline) b.live }

-- a live name at another deadline, with that bound on the stamps
abbrev pub moved_lease : LeasesState → List ℕ → ℕ → ℕ → LeasesState
moved_lease b name deadline given = record b { given = given; live = moved name deadline b.live }

abbrev pub without_lease : LeasesState → List ℕ → LeasesState
without_lease b name = record b { live = without name b.live }

-- why a name's deadline stays: the name isn't live, or what was asked is beyond the limit
abbrev pub RefusesLease : LeasesState → List ℕ → ℕ → ℕ → Refusal → Type 0
RefusesLease b name when limit Missing = deadline_of name b.live ≡ None
RefusesLease b name when limit TooFar =
    (old : ℕ) × (deadline_of name b.live ≡ Some old) × (limit < when)

-- a live name gets as its deadline the greater of what was asked, at most the limit, and what was
-- noted
abbrev pub ResetsLease : LeasesState → List ℕ → ℕ → ℕ → Result ℕ Refusal → LeasesState → Type 0
ResetsLease b name when limit (Err refusal) c = RefusesLease b name when limit refusal × (c ≡ b)
ResetsLease b name when limit (Ok d) c =
    (old : ℕ) × (deadline_of name b.live ≡ Some old) × (when ≤ limit) × (d ≡ max when b.noted)
    × (c ≡ moved_lease b name d (b.given + 1))

-- a live name's deadline is raised to what was asked, at most the limit
abbrev pub ExtendsLease : LeasesState → List ℕ → ℕ → ℕ → Result ℕ Refusal → LeasesState → Type 0
ExtendsLease b name when limit (Err refusal) c = RefusesLease b name when limit refusal × (c ≡ b)
ExtendsLease b name when limit (Ok d) c =
    (old : ℕ) × (deadline_of name b.live ≡ Some old) × (when ≤ limit) × (d ≡ max when old)
    × (c ≡ moved_lease b name d b.given)

-- a live name ends, and its deadline in force is told
abbrev pub EndsLease : LeasesState → List ℕ → Option ℕ → LeasesState → Type 0
EndsLease b name None c = (deadline_of name b.live ≡ None) × (c ≡ b)
EndsLease b name (Some d) c = (deadline_of name b.live ≡ Some d) × (c ≡ without_lease b name)

-- one live name that is due leaves, or none is left that is
abbrev pub ExpiresLease : LeasesState → ℕ → Option Lease → LeasesState → Type 0
ExpiresLease b now None c = (c ≡ record b { tick = now; noted = now }) × NoLeaseDue now b.live
ExpiresLease b now (Some x) c =
    (b.live ≡ with_lease x c.live) × (x.deadline ≤ now) × (c.noted ≡ now)
    × (c.capacity ≡ b.capacity) × (c.given ≡ b.given)

-- the live names that are due leave, in order
abbrev pub Ticks : LeasesState → ℕ → List Lease → LeasesState → Type 0
Ticks b now due c =
    (due ≡ filter (λ e. nat_le e.deadline now) b.live)
    × (c ≡ record b { tick = now; noted = now; live = filter (λ e. nat_lt now e.deadline) b.live })

-- the key of a live name that may get such a deadline, or why it may not
abbrev pub FindsWithin : NameTable → List ℕ → ℕ → ℕ → Result KeyName Refusal → Type 0
FindsWithin t name when limit (Ok key) = (found_in t name ≡ Some key) × (when ≤ limit)
FindsWithin t name when limit (Err Missing) = found_in t name ≡ None
FindsWithin t name when limit (Err TooFar) =
    (key : KeyName) × (found_in t name ≡ Some key) × (limit < when)
