-- How the leases stay tied to the queue and to the names below them.
use Rattle.std.proofs.Common.{◌≡◌, ℕ, ◌<◌, ◌≤◌, ◌⊎◌, inl, inr, true, false, List, length, refl, ap, sym, ◌∙◌, subst, arith, get_or, set}
use Rattle.std.specs.Prelude.{Option, Some, None, bytes_eq, is_some}
use Rattle.std.proofs.lemmas.List.{get_or-set_same, get_or-set_other}
use Rattle.std.proofs.lemmas.Bool.{true≢false, cases_eq}
use Rattle.dq_ticks.specs.Keys.{KeyName}
use Rattle.dq_core.specs.Machine.{Machine, table_at, put}
use Rattle.dq_core.specs.Machine.{Entry}
use Rattle.dq_core.specs.Core.{Core, machine}
use Rattle.dq_replay.specs.declared.session.Lease.{Lease}
use Rattle.dq_replay.specs.Script.{has_name}
use Rattle.dq_replay.specs.Leases.{lease_by, lease_of, with_lease_if, live_of, vacant, live_lease, key_at, AreKeyed, NameTable, found_in, IsPutIn}
use Rattle.dq_replay.specs.LeasesState.{LeasesState, leases_state, AreLeases, IsChangedAt, IsRoomy}
use Rattle.dq_replay.proofs.LiveSlots.{put_here, put_there, inside_slots, live_set, live_here, none_live, name_same, name_other, IsLease, live_is}
use Rattle.dq_replay.proofs.Keyed.{IsPut, keyed_put}

-- a live name once more

none_some : {T : Type 0} (x : T) → ◌≡◌ {A = Option T} None (Some x) → ⊥
none_some x e = cc

lease_entry : (o : Option (Entry (List ℕ))) (x : Lease) → lease_of o ≡ Some x → (born : ℕ) × (o ≡ Some (live_lease born x.name x.deadline))
lease_entry None x h = absurd (none_some x h)
lease_entry (Some e) x h = by e.due refl
  where
    by : (o : Option ℕ) → e.due ≡ o → (born : ℕ) × (Some e ≡ Some (live_lease born x.name x.deadline))
    by None is = absurd (none_some x (sym (ap (lease_by e.value) is) ∙ h))
    by (Some d) is =
        let same : Some (record { name = e.value; deadline = d }) ≡ Some x = sym (ap (lease_by e.value) is) ∙ h in
        let twin : entry e.value d ≡ x = some_same (entry e.value d) x same in
        (e.born, λ i. Some (record { born = e.born; value = (twin i).name; due = (is ∙ ap (λ y. Some y.deadline) twin) i }))
      where
        entry : List ℕ → ℕ → Lease
        entry name deadline = record { name = name; deadline = deadline }

        some_same : (a b : Lease) → ◌≡◌ {A = Option Lease} (Some a) (Some b) → a ≡ b
        some_same a b q = cc

index_same : (a b : KeyName) → ◌≡◌ {A = Option KeyName} (Some a) (Some b) → a.entry.index ≡ b.entry.index
index_same a b q = let same : a ≡ b = cc in ap (λ k. k.entry.index) same

-- a live name stands once
pub lease_at : (shard : ℕ) (m : Machine (List ℕ)) (keys : List ℕ → Option KeyName) → AreKeyed shard m keys → (i born : ℕ) (name : List ℕ) (d : ℕ) → (table_at m i).entry ≡ Some (live_lease born name d)
    → IsLease (live_of m.table) name d (live_of (set m.table i vacant))
lease_at shard m keys tied i born name d is =
    let inside : i < length m.table = inside_slots m i (live_lease born name d) is in
    record {
      is = live_here m.table i inside ∙ ap (λ o. with_lease_if (lease_of o) (live_of (set m.table i vacant))) is;
      once = none_live (λ e. bytes_eq e.name name) (set m.table i vacant) (λ j x at. elim (cases_eq j i) [
        | inl q ↦
            let gone : get_or (set m.table i vacant) j vacant ≡ vacant = rw q (get_or-set_same m.table i vacant vacant inside) in
            absurd (none_some x (ap (λ s. lease_of s.entry) (sym gone) ∙ at))
        | inr away ↦
            let stays : get_or (set m.table i vacant) j vacant ≡ table_at m j = get_or-set_other m.table i j vacant vacant away in
            let other = lease_entry (table_at m j).entry x (ap (λ s. lease_of s.entry) (sym stays) ∙ at) in
            name_other x.name name (λ q. away (index_same (key_at shard m j other.0) (key_at shard m i born)
            (sym (tied.found j other.0 x.name x.deadline other.1) ∙ (ap keys q ∙ tied.found i born name d is))))
      ]);
    }

-- a name without a key isn't live, and the other way round
pub no_key : (shard : ℕ) (m : Machine (List ℕ)) (keys : List ℕ → Option KeyName) → AreKeyed shard m keys → (name : List ℕ) → keys name ≡ None → has_name name (live_of m.table) ≡ false
no_key shard m keys tied name none = none_live (λ e. bytes_eq e.name name) m.table (λ j x at.
    let other = lease_entry (table_at m j).entry x at in
    name_other x.name name (λ q. none_some (key_at shard m j other.0) (sym none ∙ (ap keys (sym q) ∙ tied.found j other.0 x.name x.deadline other.1))))

pub key_live : (shard : ℕ) (m : Machine (List ℕ)) (keys : List ℕ → Option KeyName) → AreKeyed shard m keys → (name : List ℕ) (k : KeyName) → keys name ≡ Some k → has_name name (live_of m.table) ≡ true
key_live shard m keys tied name k at =
    let was = tied.live name k at in
    live_is (live_of m.table) name was.0 (live_of (set m.table k.entry.index vacant)) (lease_at shard m keys tied k.entry.index k.entry.born name was.0 was.1)

pub not_live_no_key : (shard : ℕ) (m : Machine (List ℕ)) (keys : List ℕ → Option KeyName) → AreKeyed shard m keys → (name : List ℕ) → has_name name (live_of m.table) ≡ false → keys name ≡ None
not_live_no_key shard m keys tied name none = by (keys name) refl
  where
    by : (o : Option KeyName) → keys name ≡ o → keys name ≡ None
    by None is = is
    by (Some k) is = absurd (true≢false (sym (key_live shard m keys tied name k is) ∙ none))

pub live_by_key : (shard : ℕ) (m : Machine (List ℕ)) (keys : List ℕ → Option KeyName) → AreKeyed shard m keys → (name : List ℕ) → is_some (keys name) ≡ has_name name (live_of m.table)
live_by_key shard m keys tied name = by (keys name) refl
  where
    by : (o : Option KeyName) → keys name ≡ o → is_some (keys name) ≡ has_name name (live_of m.table)
    by None is = ap is_some is ∙ sym (no_key shard m keys tied name is)
    by (Some k) is = ap is_some is ∙ sym (key_live shard m keys tied name k is)

-- leases

pub leases_path : {W : Type 0} (c : Core (List ℕ) W) (given : ℕ) (x : LeasesState) → length c.slots.rows ≡ x.capacity → c.wheel.filing.tick ≡ x.tick → c.noted ≡ x.noted → given ≡ x.given
    → live_of (machine c).table ≡ x.live → leases_state c given ≡ x
leases_path c given x p q r s t = λ i. record { capacity = p i; tick = q i; noted = r i; given = s i; live = t i }

-- the same names in another table
pub same_names : {W : Type 0} (c : Core (List ℕ) W) (t u : NameTable) (given : ℕ) → ((q : List ℕ) → found_in u q ≡ found_in t q) → length u.entries ≡ length t.entries → AreLeases c t given → AreLeases c u given
same_names c t u given same size l = record {
  last = l.last;
  keyed = let all : found_in u ≡ found_in t = λ i q. same q i in subst (λ keys. AreKeyed c.shard (machine c) keys) (sym all) l.keyed;
  count = size ∙ l.count;
  stamps = l.stamps;
}

-- room was made
pub roomy_leased : {W : Type 0} (b c : Core (List ℕ) W) (t : NameTable) (given : ℕ) → IsRoomy b c → AreLeases b t given → AreLeases c t given
roomy_leased b c t given r l = record {
  last = r.same.last ∙ l.last;
  keyed = subst (λ s. AreKeyed s (machine c) (found_in t)) (sym r.same.shard) (r.kept.keyed (found_in t) l.keyed);
  count = l.count ∙ ap length (sym r.kept.live);
  stamps = λ i. subst (λ n. n ≤ given) (sym (r.kept.stamps i)) (l.stamps i);
}

-- one slot changed, for one name
pub put_leased : {W : Type 0} (b c : Core (List ℕ) W) (t u : NameTable) (given more i s : ℕ) (e : Option (Entry (List ℕ))) (n : List ℕ) → AreLeases b t given → IsChangedAt b i s e c → given ≤ more → s ≤ more
    → ((born : ℕ) (name : List ℕ) (d : ℕ) → (table_at (machine b) i).entry ≡ Some (live_lease born name d) → name ≡ n)
    → ((k : KeyName) → found_in t n ≡ Some k → k.entry.index ≡ i)
    → IsPut b.shard (put (machine b) i s e) i n e (found_in u n)
    → ((q : List ℕ) → (q ≡ n → ⊥) → found_in u q ≡ found_in t q)
    → length u.entries ≡ length (live_of (machine c).table)
    → AreLeases c u more
put_leased b c t u given more i s e n l changed up fits only nowhere here others size = record {
  last = changed.same.last ∙ l.last;
  keyed = subst (λ z. AreKeyed z (machine c) (found_in u)) (sym changed.same.shard) (subst (λ m. AreKeyed b.shard m (found_in u)) (sym changed.machine_is)
      (keyed_put b.shard (machine b) (found_in t) (found_in u) i s e n changed.inside l.keyed only nowhere here others));
  count = size;
  stamps = λ j. subst (λ m. (table_at m j).stamp ≤ more) (sym changed.machine_is) (stamp_by j (cases_eq j i));
}
  where
    stamp_by : (j : ℕ) → (j ≡ i) ⊎ (j ≡ i → ⊥) → (table_at (put (machine b) i s e) j).stamp ≤ more
    stamp_by j (inl q) = subst (λ z. (table_at (put (machine b) i s e) z).stamp ≤ more) (sym q) (subst (λ x. x.stamp ≤ more) (sym (put_here (machine b) i s e changed.inside)) fits)
    stamp_by j (inr away) = let below = l.stamps j in subst (λ x. x.stamp ≤ more) (sym (put_there (machine b) i s e j away)) (omega (arith, below, up))

-- the live names after a slot changed
pub put_live : {W : Type 0} (b c : Core (List ℕ) W) (i s : ℕ) (e : Option (Entry (List ℕ))) → IsChangedAt b i s e c → live_of (machine c).table ≡ with_lease_if (lease_of e) (live_of (set (machine b).table i vacant))
put_live b c i s e changed = ap (λ m. live_of m.table) changed.machine_is ∙ live_set (machine b).table i (record { stamp = s; entry = e }) changed.inside

pub put_in_other : (t u : NameTable) (n : List ℕ) (key : Option KeyName) → IsPutIn t n key u → (q : List ℕ) → (q ≡ n → ⊥) → found_in u q ≡ found_in t q
put_in_other t u n key put q other = put q ∙ rw (name_other n q (λ w. other (sym w))) refl

pub put_in_same : (t u : NameTable) (n : List ℕ) (key : Option KeyName) → IsPutIn t n key u → found_in u n ≡ key
put_in_same t u n key put = put n ∙ rw (name_same n) refl
