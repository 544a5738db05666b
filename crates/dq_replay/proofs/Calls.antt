-- What the calls of the leases leave of them, and what they show.
use Rattle.std.proofs.Common.{◌≡◌, ℕ, ◌+◌, ◌<◌, ◌≤◌, inl, inr, false, List, [], ◌∷◌, length, refl, ap, sym, ◌∙◌, subst, arith, suc, zero, get_or, set}
use Rattle.std.specs.Prelude.{Option, Some, None, Ok, max, replicate}
use Rattle.std.specs.List.{AllByRecursion}
use Rattle.std.proofs.lemmas.Bool.{cases_eq}
use Rattle.dq_ticks.specs.Keys.{KeyName}
use Rattle.dq_ticks.specs.declared.TheConstants.{LAST_STAMP}
use Rattle.dq_core.specs.Words.{never}
use Rattle.dq_core.specs.Slots.{unused}
use Rattle.dq_core.specs.Machine.{TableRow, Machine, Event, table_at, put, Note, Pass, Insert, Reset, Extend, Cancel, Remove, Reap, Expire, Step, Run, IsClearing}
use Rattle.dq_core.specs.Machine.{Entry}
use Rattle.dq_core.specs.Core.{Core, machine, table_of}
use Rattle.dq_core.specs.Calls.{SameCore}
use Rattle.dq_core.specs.Sweeps.{Clears}
use Rattle.dq_replay.specs.declared.session.Lease.{Lease}
use Rattle.dq_replay.specs.Script.{with_lease, deadline_of}
use Rattle.dq_replay.specs.Leases.{lease_of, with_lease_if, live_of, vacant, live_lease, key_at, AreKeyed, NameTable, found_in, IsPutIn, one_if}
use Rattle.dq_replay.specs.LeasesState.{leases_state, AreLeases, OfLiveKey, IsSameQueue, IsResetTo, IsExtendedTo, IsEndedLease, IsToldOf, NoLeaseDue, IsLeaseOut, IsResting, moved_lease, without_lease, ResetsLease, ExtendsLease, EndsLease, ExpiresLease}
use Rattle.dq_replay.proofs.Ordered.{length-with_lease}
use Rattle.dq_replay.proofs.LiveSlots.{put_here, put_there, inside_slots, live_set, live_here}
use Rattle.dq_replay.proofs.Keyed.{keyed_put}
use Rattle.dq_replay.proofs.Tied.{leases_path, put_in_other, put_in_same}
use Rattle.dq_replay.proofs.Moves.{changed_tick, changed_noted, key_put, key_moved, key_moved_size, key_ended, key_ended_size, key_deadline, live_key}

none_some : {T : Type 0} (x : T) → ◌≡◌ {A = Option T} None (Some x) → ⊥
none_some x e = cc

one_key : (t : NameTable) (name : List ℕ) (k : KeyName) → found_in t name ≡ Some k → one_if (found_in t name) ≡ 1
one_key t name k at = ap one_if at

-- reset
module _ {W : Type 0} (b c : Core (List ℕ) W) (t u : NameTable) (given : ℕ) (name : List ℕ) (when : ℕ) (k new : KeyName)
    (l : AreLeases b t given) (at : found_in t name ≡ Some k) (of : OfLiveKey b k (λ n d. IsResetTo b k when new c n)) where
  abbrev reset_stamp : ℕ
  reset_stamp = (table_at (machine b) k.entry.index).stamp + 1

  abbrev reset_entry : Option (Entry (List ℕ))
  reset_entry = Some (live_lease k.entry.born name (max when (machine b).tick))

  pub reset_tied : IsPutIn t name (Some new) u → length u.entries + one_if (found_in t name) ≡ length t.entries + 1 → AreLeases c u (given + 1)
  reset_tied put_in size =
      let alive = live_key b t given name k l at in
      let reset = of name alive.0 alive.1 in
      let below = l.stamps k.entry.index in
      let one = one_key t name k at in
      let count = l.count in
      let sizes = key_moved_size b c t u given (given + 1) reset_stamp reset_entry name alive.0 k l at alive.1 reset.0 (max when (machine b).tick) refl in
      key_put b c t u given (given + 1) reset_stamp reset_entry name alive.0 k l at alive.1 reset.0 (omega arith) (omega (arith, below))
      (inr (k.entry.born, max when (machine b).tick, refl, put_in_same t u name (Some new) put_in ∙ ap Some (reset.1 ∙ ap (λ m. key_at b.shard m k.entry.index k.entry.born) reset.0.machine_is)))
      (put_in_other t u name (Some new) put_in)
      (omega (arith, size, one, count, sizes))

  pub reset_shown : (asked limit : ℕ) → asked ≤ limit → when ≡ max asked b.noted → b.wheel.filing.tick ≤ b.noted → ResetsLease (leases_state b given) name asked limit (Ok when) (leases_state c (given + 1))
  reset_shown asked limit within is reached =
      let alive = live_key b t given name k l at in
      let reset = of name alive.0 alive.1 in
      let here : max when (machine b).tick ≡ when = omega (arith, is, reached) in (
        alive.0,
        key_deadline b t given name alive.0 k l alive.1,
        within,
        is,
        leases_path c (given + 1) (moved_lease (leases_state b given) name when (given + 1)) reset.0.same.rows
            (changed_tick b c k.entry.index reset_stamp reset_entry reset.0)
            (changed_noted b c k.entry.index reset_stamp reset_entry reset.0) refl
            (key_moved b c t u given (given + 1) reset_stamp reset_entry name alive.0 k l at alive.1 reset.0 when
            (ap (λ z. Some (live_lease k.entry.born name z)) here)),
      )

-- extend
module _ {W : Type 0} (b c : Core (List ℕ) W) (t : NameTable) (given : ℕ) (name : List ℕ) (when x : ℕ) (k : KeyName)
    (l : AreLeases b t given) (at : found_in t name ≡ Some k) (of : OfLiveKey b k (IsExtendedTo b k when x c)) where
  abbrev extend_stamp : ℕ
  extend_stamp = (table_at (machine b) k.entry.index).stamp

  abbrev extend_entry : Option (Entry (List ℕ))
  extend_entry = Some (live_lease k.entry.born name x)

  pub extend_tied : AreLeases c t given
  extend_tied =
      let alive = live_key b t given name k l at in
      let extended = of name alive.0 alive.1 in
      let below = l.stamps k.entry.index in
      let stamp : extend_stamp ≡ (table_at (put (machine b) k.entry.index extend_stamp extend_entry) k.entry.index).stamp = ap (λ z. z.stamp) (sym (put_here (machine b) k.entry.index extend_stamp extend_entry extended.1.inside)) in
      let count = l.count in
      let sizes = key_moved_size b c t t given given extend_stamp extend_entry name alive.0 k l at alive.1 extended.1 x refl in
      key_put b c t t given given extend_stamp extend_entry name alive.0 k l at alive.1 extended.1 (omega arith) below
      (inr (k.entry.born, x, refl, at ∙ ap Some (alive.1.1 ∙ ap (λ z. record { entry = record { shard = b.shard; index = k.entry.index; born = k.entry.born }; stamp = z }) stamp)))
      (λ q other. refl)
      (omega (arith, count, sizes))

  pub extend_shown : (limit : ℕ) → when ≤ limit → ExtendsLease (leases_state b given) name when limit (Ok x) (leases_state c given)
  extend_shown limit within =
      let alive = live_key b t given name k l at in
      let extended = of name alive.0 alive.1 in (
        alive.0,
        key_deadline b t given name alive.0 k l alive.1,
        within,
        extended.0,
        leases_path c given (moved_lease (leases_state b given) name x given) extended.1.same.rows
            (changed_tick b c k.entry.index extend_stamp extend_entry extended.1)
            (changed_noted b c k.entry.index extend_stamp extend_entry extended.1) refl
            (key_moved b c t t given given extend_stamp extend_entry name alive.0 k l at alive.1 extended.1 x refl),
      )

-- the end of a live name
module _ {W : Type 0} (b c : Core (List ℕ) W) (t u : NameTable) (given : ℕ) (name : List ℕ) (x : ℕ) (k : KeyName)
    (l : AreLeases b t given) (at : found_in t name ≡ Some k) (of : OfLiveKey b k (IsEndedLease b k x c)) where
  abbrev end_stamp : ℕ
  end_stamp = (table_at (machine b) k.entry.index).stamp

  pub end_tied : IsPutIn t name None u → length u.entries + one_if (found_in t name) ≡ length t.entries → AreLeases c u given
  end_tied put_in size =
      let alive = live_key b t given name k l at in
      let ended = of name alive.0 alive.1 in
      let below = l.stamps k.entry.index in
      let one = one_key t name k at in
      let count = l.count in
      let sizes = key_ended_size b c t u given given end_stamp ended.left name alive.0 k l at alive.1 ended.changed ended.none_live in
      key_put b c t u given given end_stamp ended.left name alive.0 k l at alive.1 ended.changed (omega arith) below
      (inl (ended.none_live, put_in_same t u name None put_in))
      (put_in_other t u name None put_in)
      (omega (arith, size, one, count, sizes))

  pub end_shown : EndsLease (leases_state b given) name (Some x) (leases_state c given)
  end_shown =
      let alive = live_key b t given name k l at in
      let ended = of name alive.0 alive.1 in (
        key_deadline b t given name alive.0 k l alive.1 ∙ ap Some (sym ended.told),
        leases_path c given (without_lease (leases_state b given) name) ended.changed.same.rows
            (changed_tick b c k.entry.index end_stamp ended.left ended.changed)
            (changed_noted b c k.entry.index end_stamp ended.left ended.changed) refl
            (key_ended b c t u given given end_stamp ended.left name alive.0 k l at alive.1 ended.changed ended.none_live),
      )

-- the machine as it was
pub same_tied : {W : Type 0} (b c : Core (List ℕ) W) (t : NameTable) (given : ℕ) → AreLeases b t given → machine c ≡ machine b → IsSameQueue b c → AreLeases c t given
same_tied b c t given l is same = record {
  last = same.last ∙ l.last;
  keyed = subst (λ m. AreKeyed c.shard m (found_in t)) (sym is) (subst (λ s. AreKeyed s (machine b) (found_in t)) (sym same.shard) l.keyed);
  count = l.count ∙ ap (λ m. length (live_of m.table)) (sym is);
  stamps = λ i. subst (λ m. (table_at m i).stamp ≤ given) (sym is) (l.stamps i);
}

pub same_shown : {W : Type 0} (b c : Core (List ℕ) W) (given : ℕ) → machine c ≡ machine b → IsSameQueue b c → leases_state c given ≡ leases_state b given
same_shown b c given is same = leases_path c given (leases_state b given) same.rows (ap (λ m. m.tick) is) (ap (λ m. m.noted) is) refl (ap (λ m. live_of m.table) is)

-- a look at the deadline of a live name
module _ {W : Type 0} (b c : Core (List ℕ) W) (t : NameTable) (given : ℕ) (name : List ℕ) (x : ℕ) (k : KeyName)
    (l : AreLeases b t given) (at : found_in t name ≡ Some k) (of : OfLiveKey b k (IsToldOf b k x c)) where
  pub told_tied : AreLeases c t given
  told_tied = let alive = live_key b t given name k l at in let told = of name alive.0 alive.1 in same_tied b c t given l told.1 told.2

  pub told_shown : leases_state c given ≡ leases_state b given
  told_shown = let alive = live_key b t given name k l at in let told = of name alive.0 alive.1 in same_shown b c given told.1 told.2

  pub told_deadline : Some x ≡ deadline_of name (live_of (machine b).table)
  told_deadline =
      let alive = live_key b t given name k l at in
      let told = of name alive.0 alive.1 in
      ap Some told.0 ∙ sym (key_deadline b t given name alive.0 k l alive.1)

-- clear

none_linked_live : (ss : List (TableRow (List ℕ))) → ((i : ℕ) → (get_or ss i vacant).entry ≡ None) → live_of ss ≡ []
none_linked_live [] h = refl
none_linked_live (s ∷ ss) h = ap (λ o. with_lease_if (lease_of o) (live_of ss)) (h 0) ∙ none_linked_live ss (λ i. h (suc i))

no_names : (t : NameTable) → t.entries ≡ [] → (name : List ℕ) → found_in t name ≡ None
no_names t empty name = ap (λ es. found_in (record { entries = es; spare = 0 }) name) empty

empty_keyed : (shard : ℕ) (m : Machine (List ℕ)) (t : NameTable) → ((i : ℕ) → (table_at m i).entry ≡ None) → t.entries ≡ [] → AreKeyed shard m (found_in t)
empty_keyed shard m t none empty = record {
  found = λ i born name d is. absurd (none_some (live_lease born name d) (sym (none i) ∙ is));
  live = λ name k is. absurd (none_some k (sym (no_names t empty name) ∙ is));
}

put_stamp : (m : Machine (List ℕ)) (i j : ℕ) → i < length m.table → (table_at (put m i (table_at m i).stamp None) j).stamp ≡ (table_at m j).stamp
put_stamp m i j inside = elim (cases_eq j i) [
  | inl q ↦ ap (λ z. (table_at (put m i (table_at m i).stamp None) z).stamp) q ∙ (ap (λ s. s.stamp) (put_here m i (table_at m i).stamp None inside) ∙ ap (λ z. (table_at m z).stamp) (sym q))
  | inr away ↦ ap (λ s. s.stamp) (put_there m i (table_at m i).stamp None j away)
]

cleared_event : (last : ℕ) (m n : Machine (List ℕ)) (e : Event (List ℕ)) → IsClearing false e → Step last m e n → ((i : ℕ) → (table_at n i).stamp ≡ (table_at m i).stamp) × (n.tick ≡ m.tick)
cleared_event last m n (Note t) h s = absurd h
cleared_event last m n (Pass t) h s = absurd h
cleared_event last m n (Insert i v w) h s = absurd h
cleared_event last m n (Reset i b w) h s = absurd h
cleared_event last m n (Extend i b w) h s = cc
cleared_event last m n (Cancel i b) h s = cc
cleared_event last m n (Remove i b) h (x, d, has, born, dues, is) = (λ j. ap (λ z. (table_at z j).stamp) is ∙ put_stamp m i j has.0, ap (λ z. z.tick) is)
cleared_event last m n (Reap i b) h (x, has, born, none, is) = (λ j. ap (λ z. (table_at z j).stamp) is ∙ put_stamp m i j has.0, ap (λ z. z.tick) is)
cleared_event last m n (Expire i b at) h s = absurd h

cleared_run : (last : ℕ) (m n : Machine (List ℕ)) (es : List (Event (List ℕ))) → AllByRecursion (IsClearing false) es → Run last m es n → ((i : ℕ) → (table_at n i).stamp ≡ (table_at m i).stamp) × (n.tick ≡ m.tick)
cleared_run last m n [] a r = (λ i. ap (λ z. (table_at z i).stamp) r, ap (λ z. z.tick) r)
cleared_run last m n (e ∷ es) a (k, step, rest) =
    let one = cleared_event last m k e a.0 step in
    let more = cleared_run last k n es a.1 rest in
    (λ i. more.0 i ∙ one.0 i, more.1 ∙ one.1)

pub cleared_tied : {W : Type 0} (b c : Core (List ℕ) W) (t u : NameTable) (given n : ℕ) → AreLeases b t given → SameCore b c → Clears false b n c → u.entries ≡ [] → AreLeases c u given
cleared_tied b c t u given n l same cl empty =
    let run = cl.ended.1.run in
    let way = cleared_run b.slots.last_stamp (machine b) (machine c) run.0 run.1 run.2 in
    record {
      last = same.1 ∙ l.last;
      keyed = empty_keyed c.shard (machine c) u cl.none empty;
      count = ap length empty ∙ sym (ap length (none_linked_live (machine c).table cl.none));
      stamps = λ i. subst (λ s. s ≤ given) (sym (way.0 i)) (l.stamps i);
    }

pub cleared_shown : {W : Type 0} (b c : Core (List ℕ) W) (given n : ℕ) → SameCore b c → Clears false b n c → leases_state c given ≡ record { capacity = length b.slots.rows; tick = b.wheel.filing.tick; noted = b.noted; given = given; live = [] }
cleared_shown b c given n same cl =
    let run = cl.ended.1.run in
    let way = cleared_run b.slots.last_stamp (machine b) (machine c) run.0 run.1 run.2 in
    leases_path c given (record { capacity = length b.slots.rows; tick = b.wheel.filing.tick; noted = b.noted; given = given; live = [] }) same.2 way.1 cl.ended.1.out.noted refl (none_linked_live (machine c).table cl.none)

-- polls

module _ {W : Type 0} (b c : Core (List ℕ) W) (t : NameTable) (given now : ℕ) (x : Lease) (l : AreLeases b t given) (gone : IsLeaseOut b now x c) where
  gone_keyed : AreKeyed b.shard gone.way.0 (found_in t)
  gone_keyed = gone.way.3.keyed (found_in t) l.keyed

  gone_at : found_in t x.name ≡ Some (key_at b.shard gone.way.0 gone.way.1 gone.way.2)
  gone_at = gone_keyed.found gone.way.1 gone.way.2 x.name x.deadline gone.way.4

  gone_inside : gone.way.1 < length gone.way.0.table
  gone_inside = inside_slots gone.way.0 gone.way.1 (live_lease gone.way.2 x.name x.deadline) gone.way.4

  gone_rest : live_of (machine c).table ≡ live_of (set gone.way.0.table gone.way.1 vacant)
  gone_rest = ap (λ m. live_of m.table) gone.way.5 ∙ live_set gone.way.0.table gone.way.1 (record { stamp = (table_at gone.way.0 gone.way.1).stamp; entry = None }) gone_inside

  gone_live : live_of (machine b).table ≡ with_lease x (live_of (machine c).table)
  gone_live =
      sym gone.way.3.live ∙ (live_here gone.way.0.table gone.way.1 gone_inside ∙ (ap (λ o. with_lease_if (lease_of o) (live_of (set gone.way.0.table gone.way.1 vacant))) gone.way.4 ∙ ap (with_lease x) (sym gone_rest)))

  gone_size : length (live_of (machine b).table) ≡ suc (length (live_of (machine c).table))
  gone_size = ap length gone_live ∙ length-with_lease x (live_of (machine c).table)

  pub gone_shown : ExpiresLease (leases_state b given) now (Some x) (leases_state c given)
  gone_shown = (gone_live, gone.due, gone.noted, gone.same.rows, refl)

  pub gone_tied : (u : NameTable) → IsPutIn t x.name None u → length u.entries + one_if (found_in t x.name) ≡ length t.entries → AreLeases c u given
  gone_tied u put_in size =
      let m : Machine (List ℕ) = gone.way.0 in
      let i : ℕ = gone.way.1 in
      let s : ℕ = (table_at m i).stamp in
      let put_keyed : AreKeyed b.shard (put m i s None) (found_in u) = keyed_put b.shard m (found_in t) (found_in u) i s None x.name gone_inside gone_keyed
      (λ born name d is. name_of gone.way.2 born x.name name x.deadline d (sym gone.way.4 ∙ is))
      (λ z at. ap (λ y. y.entry.index) (key_same z (key_at b.shard m i gone.way.2) (sym at ∙ gone_at)))
      (inl (refl, put_in_same t u x.name None put_in))
      (put_in_other t u x.name None put_in)
      in
      let one = one_key t x.name (key_at b.shard m i gone.way.2) gone_at in
      let count = l.count in
      let sizes = gone_size in
      record {
        last = gone.same.last ∙ l.last;
        keyed = subst (λ z. AreKeyed z (machine c) (found_in u)) (sym gone.same.shard) (subst (λ z. AreKeyed b.shard z (found_in u)) (sym gone.way.5) put_keyed);
        count = omega (arith, size, one, count, sizes);
        stamps = λ j. subst (λ z. (table_at z j).stamp ≤ given) (sym gone.way.5) (subst (λ z. z ≤ given) (sym (put_stamp m i j gone_inside)) (subst (λ z. z ≤ given) (sym (gone.way.3.stamps j)) (l.stamps j)));
      }
    where
      name_of : (a e : ℕ) (o n : List ℕ) (d f : ℕ) → ◌≡◌ {A = Option (Entry (List ℕ))} (Some (live_lease a o d)) (Some (live_lease e n f)) → n ≡ o
      name_of a e o n d f h = let same : live_lease a o d ≡ live_lease e n f = cc in sym (ap (λ y. y.value) same)

      key_same : (a e : KeyName) → ◌≡◌ {A = Option KeyName} (Some a) (Some e) → a ≡ e
      key_same a e h = cc

-- a fresh queue

fresh_slots : (n : ℕ) (i : ℕ) → get_or (table_of (replicate n (unused {T = List ℕ})) (replicate n never)) i vacant ≡ vacant
fresh_slots zero i = refl
fresh_slots (suc n) zero = refl
fresh_slots (suc n) (suc i) = fresh_slots n i

pub fresh_tied : {W : Type 0} (c : Core (List ℕ) W) (t : NameTable) (n : ℕ) → c.slots ≡ record { last_stamp = LAST_STAMP; rows = replicate n unused } → c.known ≡ replicate n never → t.entries ≡ [] → AreLeases c t 0
fresh_tied c t n slots known empty =
    let table : (machine c).table ≡ table_of (replicate n unused) (replicate n never) = λ j. table_of (slots j).rows (known j) in
    let at : (i : ℕ) → table_at (machine c) i ≡ vacant = λ i. ap (λ ss. get_or ss i vacant) table ∙ fresh_slots n i in
    let none : (i : ℕ) → (table_at (machine c) i).entry ≡ None = λ i. ap (λ s. s.entry) (at i) in
    record {
      last = ap (λ s. s.last_stamp) slots;
      keyed = empty_keyed c.shard (machine c) t none empty;
      count = ap length empty ∙ sym (ap length (none_linked_live (machine c).table none));
      stamps = λ i. let z : (table_at (machine c) i).stamp ≡ 0 = ap (λ s. s.stamp) (at i) in omega (arith, z);
    }

length-replicate : {A : Type 0} (n : ℕ) (x : A) → length (replicate n x) ≡ n
length-replicate zero x = refl
length-replicate (suc n) x = ap suc (length-replicate n x)

pub fresh_shown : {W : Type 0} (c : Core (List ℕ) W) (n : ℕ) → c.slots ≡ record { last_stamp = LAST_STAMP; rows = replicate n unused } → c.known ≡ replicate n never → c.wheel.filing.tick ≡ 0 → c.noted ≡ 0
    → leases_state c 0 ≡ record { capacity = n; tick = 0; noted = 0; given = 0; live = [] }
fresh_shown c n slots known tick noted =
    let table : (machine c).table ≡ table_of (replicate n unused) (replicate n never) = λ j. table_of (slots j).rows (known j) in
    let at : (i : ℕ) → table_at (machine c) i ≡ vacant = λ i. ap (λ ss. get_or ss i vacant) table ∙ fresh_slots n i in
    leases_path c 0 (record { capacity = n; tick = 0; noted = 0; given = 0; live = [] }) (ap (λ s. length s.rows) slots ∙ length-replicate n unused) tick noted refl
    (none_linked_live (machine c).table (λ i. ap (λ s. s.entry) (at i)))
