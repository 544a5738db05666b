-- What each command does to the leases: they stay tied, and what they show.
use Rattle.std.proofs.Common.{◌≡◌, ℕ, ◌+◌, ◌<◌, ◌≤◌, inr, false, List, length, refl, ap, sym, ◌∙◌, arith, suc, set}
use Rattle.std.specs.Prelude.{Option, Some, None, Err, max}
use Rattle.dq_ticks.specs.Keys.{KeyName}
use Rattle.dq_ticks.specs.declared.TheConstants.{LAST_STAMP}
use Rattle.dq_core.specs.Machine.{table_at, put}
use Rattle.dq_core.specs.Machine.{Entry}
use Rattle.dq_core.specs.Core.{Core, machine}
use Rattle.dq_replay.specs.declared.session.Lease.{Lease}
use Rattle.dq_replay.specs.declared.leases.Refusal.{Refusal}
use Rattle.dq_replay.specs.declared.leases.Refusal.TheVariants.{Missing, TooFar}
use Rattle.dq_replay.specs.Script.{with_lease, has_name, deadline_of, without, moved}
use Rattle.dq_replay.specs.Leases.{lease_of, with_lease_if, live_of, vacant, live_lease, key_at, NameTable, found_in, IsPutIn, one_if}
use Rattle.dq_replay.specs.LeasesState.{leases_state, AreLeases, IsLiveKey, IsSomeKey, IsChangedAt, IsRoomy, IsNewLease, with_lease_at, FindsWithin, RefusesLease}
use Rattle.dq_replay.proofs.Ordered.{length-with_lease}
use Rattle.dq_replay.proofs.LiveSlots.{live_here, IsLease, without_is, deadline_is, no_deadline}
use Rattle.dq_replay.proofs.Keyed.{IsPut}
use Rattle.dq_replay.proofs.Tied.{lease_at, no_key, not_live_no_key, leases_path, same_names, roomy_leased, put_leased, put_live, put_in_other, put_in_same}

none_some : {T : Type 0} (x : T) → ◌≡◌ {A = Option T} None (Some x) → ⊥
none_some x e = cc

name_of_entry : (a b : ℕ) (m n : List ℕ) (d e : ℕ) → ◌≡◌ {A = Option (Entry (List ℕ))} (Some (live_lease a m d)) (Some (live_lease b n e)) → n ≡ m
name_of_entry a b m n d e h = let same : live_lease a m d ≡ live_lease b n e = cc in sym (ap (λ x. x.value) same)

key_same : (a b : KeyName) → ◌≡◌ {A = Option KeyName} (Some a) (Some b) → a ≡ b
key_same a b h = cc

-- insert

-- the leases with room and with a table that has room
pub ready : {W : Type 0} (a b : Core (List ℕ) W) (t u : NameTable) (given : ℕ) → AreLeases a t given → IsRoomy a b → ((q : List ℕ) → found_in u q ≡ found_in t q) → length u.entries ≡ length t.entries → AreLeases b u given
ready a b t u given l roomy same size = same_names b t u given same size (roomy_leased a b t given roomy l)

pub new_leased : {W : Type 0} (b c : Core (List ℕ) W) (t u : NameTable) (given : ℕ) (name : List ℕ) (when : ℕ) (k : KeyName) → AreLeases b t given → has_name name (live_of (machine b).table) ≡ false → IsNewLease b name when k c
    → IsPutIn t name (Some k) u → length u.entries + one_if (found_in t name) ≡ length t.entries + 1 → AreLeases c u (given + 1)
new_leased b c t u given name when k l free_name new put_in size =
    let i : ℕ = k.entry.index in
    let s : ℕ = (table_at (machine b) i).stamp + 1 in
    let e : Option (Entry (List ℕ)) = Some (live_lease k.entry.born name (max when (machine b).tick)) in
    let none : found_in t name ≡ None = not_live_no_key b.shard (machine b) (found_in t) l.keyed name free_name in
    let below = l.stamps i in
    let one : one_if (found_in t name) ≡ 0 = ap one_if none in
    let live : live_of (machine c).table ≡ with_lease (record { name = name; deadline = max when (machine b).tick }) (live_of (machine b).table) =
    put_live b c i s e new.changed ∙ ap (with_lease (record { name = name; deadline = max when (machine b).tick })) (sym (live_here (machine b).table i new.changed.inside ∙ ap (λ o. with_lease_if (lease_of o) (live_of (set (machine b).table i vacant))) new.free))
    in
    let longer : length (live_of (machine c).table) ≡ suc (length (live_of (machine b).table)) = ap length live ∙ length-with_lease (record { name = name; deadline = max when (machine b).tick }) (live_of (machine b).table) in
    let count = l.count in
    put_leased b c t u given (given + 1) i s e name l new.changed (omega arith) (omega (arith, below))
    (λ born other d is. absurd (none_some (live_lease born other d) (sym new.free ∙ is)))
    (λ z at. absurd (none_some z (sym none ∙ at)))
    (inr (k.entry.born, max when (machine b).tick, refl, put_in_same t u name (Some k) put_in ∙ ap Some (new.key ∙ ap (λ m. key_at b.shard m i k.entry.born) new.changed.machine_is)))
    (put_in_other t u name (Some k) put_in)
    (omega (arith, size, one, longer, count))

pub new_live : {W : Type 0} (b c : Core (List ℕ) W) (name : List ℕ) (when : ℕ) (k : KeyName) → IsNewLease b name when k c → live_of (machine c).table ≡ with_lease (record { name = name; deadline = max when b.wheel.filing.tick }) (live_of (machine b).table)
new_live b c name when k new =
    put_live b c k.entry.index ((table_at (machine b) k.entry.index).stamp + 1) (Some (live_lease k.entry.born name (max when (machine b).tick))) new.changed
    ∙ ap (with_lease (record { name = name; deadline = max when (machine b).tick }))
    (sym (live_here (machine b).table k.entry.index new.changed.inside ∙ ap (λ o. with_lease_if (lease_of o) (live_of (set (machine b).table k.entry.index vacant))) new.free))

-- the tick and the noted tick stay where one slot changes
pub changed_tick : {W : Type 0} (b c : Core (List ℕ) W) (i s : ℕ) (e : Option (Entry (List ℕ))) → IsChangedAt b i s e c → c.wheel.filing.tick ≡ b.wheel.filing.tick
changed_tick b c i s e changed = ap (λ m. m.tick) changed.machine_is

pub changed_noted : {W : Type 0} (b c : Core (List ℕ) W) (i s : ℕ) (e : Option (Entry (List ℕ))) → IsChangedAt b i s e c → c.noted ≡ b.noted
changed_noted b c i s e changed = ap (λ m. m.noted) changed.machine_is

pub new_shown : {W : Type 0} (a b c : Core (List ℕ) W) (given : ℕ) (name : List ℕ) (when d : ℕ) (k : KeyName) → IsRoomy a b → IsNewLease b name when k c → d ≡ max when a.wheel.filing.tick → leases_state c (given + 1) ≡ with_lease_at (leases_state a given) name d
new_shown a b c given name when d k roomy new is =
    let i : ℕ = k.entry.index in
    let s : ℕ = (table_at (machine b) i).stamp + 1 in
    let e : Option (Entry (List ℕ)) = Some (live_lease k.entry.born name (max when (machine b).tick)) in
    leases_path c (given + 1) (with_lease_at (leases_state a given) name d)
    (new.changed.same.rows ∙ roomy.same.rows) (changed_tick b c i s e new.changed ∙ roomy.tick) (changed_noted b c i s e new.changed ∙ roomy.noted) refl
    (new_live b c name when k new ∙ (λ j. with_lease (record { name = name; deadline = (ap (max when) roomy.tick ∙ sym is) j }) (roomy.kept.live j)))

-- a live name

pub live_key : {W : Type 0} (b : Core (List ℕ) W) (t : NameTable) (given : ℕ) (name : List ℕ) (k : KeyName) → AreLeases b t given → found_in t name ≡ Some k → (d : ℕ) × IsLiveKey b k name d
live_key b t given name k l at = let was = l.keyed.live name k at in (was.0, (was.1, was.2))

pub some_key : {W : Type 0} (b : Core (List ℕ) W) (t : NameTable) (given : ℕ) (name : List ℕ) (k : KeyName) → AreLeases b t given → found_in t name ≡ Some k → IsSomeKey b k
some_key b t given name k l at = let was = l.keyed.live name k at in (name, was.0, (was.1, was.2))

pub key_lease : {W : Type 0} (b : Core (List ℕ) W) (t : NameTable) (given : ℕ) (name : List ℕ) (d : ℕ) (k : KeyName) → AreLeases b t given → IsLiveKey b k name d → IsLease (live_of (machine b).table) name d (live_of (set (machine b).table k.entry.index vacant))
key_lease b t given name d k l live = lease_at b.shard (machine b) (found_in t) l.keyed k.entry.index k.entry.born name d live.0

pub key_deadline : {W : Type 0} (b : Core (List ℕ) W) (t : NameTable) (given : ℕ) (name : List ℕ) (d : ℕ) (k : KeyName) → AreLeases b t given → IsLiveKey b k name d → deadline_of name (live_of (machine b).table) ≡ Some d
key_deadline b t given name d k l live = deadline_is (live_of (machine b).table) name d (live_of (set (machine b).table k.entry.index vacant)) (key_lease b t given name d k l live)

pub none_deadline : {W : Type 0} (b : Core (List ℕ) W) (t : NameTable) (given : ℕ) (name : List ℕ) → AreLeases b t given → found_in t name ≡ None → deadline_of name (live_of (machine b).table) ≡ None
none_deadline b t given name l none = no_deadline name (live_of (machine b).table) (no_key b.shard (machine b) (found_in t) l.keyed name none)

-- why a live name's deadline stays
pub refused_within : {W : Type 0} (b : Core (List ℕ) W) (t : NameTable) (given : ℕ) (name : List ℕ) (when limit : ℕ) (r : Refusal) → AreLeases b t given
    → FindsWithin t name when limit (Err r) → RefusesLease (leases_state b given) name when limit r
refused_within b t given name when limit Missing l none = none_deadline b t given name l none
refused_within b t given name when limit TooFar l (k, at, beyond) =
    let alive = live_key b t given name k l at in
    (alive.0, key_deadline b t given name alive.0 k l alive.1, beyond)

-- the slot of a live name changes
module _ {W : Type 0} (b c : Core (List ℕ) W) (t u : NameTable) (given more s : ℕ) (e : Option (Entry (List ℕ))) (name : List ℕ) (d : ℕ) (k : KeyName)
    (l : AreLeases b t given) (at : found_in t name ≡ Some k) (live : IsLiveKey b k name d) (changed : IsChangedAt b k.entry.index s e c) where
  rest : List Lease
  rest = live_of (set (machine b).table k.entry.index vacant)

  lease : IsLease (live_of (machine b).table) name d (live_of (set (machine b).table k.entry.index vacant))
  lease = key_lease b t given name d k l live

  one_more : length (live_of (machine b).table) ≡ suc (length (live_of (set (machine b).table k.entry.index vacant)))
  one_more = ap length lease.is ∙ length-with_lease (record { name = name; deadline = d }) (live_of (set (machine b).table k.entry.index vacant))

  pub key_put : given ≤ more → s ≤ more → IsPut b.shard (put (machine b) k.entry.index s e) k.entry.index name e (found_in u name) → ((q : List ℕ) → (q ≡ name → ⊥) → found_in u q ≡ found_in t q)
      → length u.entries ≡ length (live_of (machine c).table) → AreLeases c u more
  key_put up fits here others size =
      put_leased b c t u given more k.entry.index s e name l changed up fits
      (λ born other x is. name_of_entry k.entry.born born name other d x (sym live.0 ∙ is))
      (λ z found. ap (λ y. y.entry.index) (key_same z k (sym found ∙ at)))
      here others size

  -- another deadline
  pub key_moved : (x : ℕ) → e ≡ Some (live_lease k.entry.born name x) → live_of (machine c).table ≡ moved name x (live_of (machine b).table)
  key_moved x is =
      put_live b c k.entry.index s e changed ∙ (ap (λ o. with_lease_if (lease_of o) (live_of (set (machine b).table k.entry.index vacant))) is
      ∙ ap (with_lease (record { name = name; deadline = x })) (sym (without_is (live_of (machine b).table) name d (live_of (set (machine b).table k.entry.index vacant)) lease)))

  pub key_moved_size : (x : ℕ) → e ≡ Some (live_lease k.entry.born name x) → length (live_of (machine c).table) ≡ length (live_of (machine b).table)
  key_moved_size x is =
      let there = ap length (put_live b c k.entry.index s e changed ∙ ap (λ o. with_lease_if (lease_of o) (live_of (set (machine b).table k.entry.index vacant))) is) in
      there ∙ (length-with_lease (record { name = name; deadline = x }) (live_of (set (machine b).table k.entry.index vacant)) ∙ sym one_more)

  -- the end
  pub key_ended : lease_of e ≡ None → live_of (machine c).table ≡ without name (live_of (machine b).table)
  key_ended none =
      put_live b c k.entry.index s e changed ∙ (ap (λ o. with_lease_if o (live_of (set (machine b).table k.entry.index vacant))) none
      ∙ sym (without_is (live_of (machine b).table) name d (live_of (set (machine b).table k.entry.index vacant)) lease))

  pub key_ended_size : lease_of e ≡ None → suc (length (live_of (machine c).table)) ≡ length (live_of (machine b).table)
  key_ended_size none =
      let there = ap length (put_live b c k.entry.index s e changed ∙ ap (λ o. with_lease_if o (live_of (set (machine b).table k.entry.index vacant))) none) in
      ap suc there ∙ sym one_more

-- no stamp is the last one
pub stamps_below : {W : Type 0} (b : Core (List ℕ) W) (t : NameTable) (given : ℕ) → AreLeases b t given → given < LAST_STAMP → (i : ℕ) → (table_at (machine b) i).stamp < b.slots.last_stamp
stamps_below b t given l low i = let below = l.stamps i in let last = l.last in omega (arith, below, last, low)
