-- How names stay tied to keys while one slot of the machine changes.
use Rattle.std.proofs.Common.{◌≡◌, ℕ, ◌<◌, ◌⊎◌, inl, inr, List, length, refl, ap, sym, ◌∙◌, subst}
use Rattle.std.specs.Prelude.{Option, Some, None, bytes_eq}
use Rattle.std.proofs.lemmas.Bool.{true≢false, cases_Bool, cases_eq}
use Rattle.dq_ticks.specs.Keys.{KeyName}
use Rattle.dq_core.specs.Machine.{Machine, table_at, put}
use Rattle.dq_core.specs.Machine.{Entry}
use Rattle.dq_replay.specs.declared.session.Lease.{Lease}
use Rattle.dq_replay.specs.Leases.{lease_of, live_lease, key_at, AreKeyed}
use Rattle.dq_replay.proofs.LiveSlots.{put_here, put_there, name_is, name_same}

no_lease : (born : ℕ) (name : List ℕ) (d : ℕ) → ◌≡◌ {A = Option Lease} (lease_of (Some (live_lease born name d))) None → ⊥
no_lease born name d e = cc

-- what stands at a slot that is put, for the name n: nothing live and no key, or the name live under its key
abbrev pub IsPut : ℕ → Machine (List ℕ) → ℕ → List ℕ → Option (Entry (List ℕ)) → Option KeyName → Type 0
IsPut shard m i n e key =
    ((lease_of e ≡ None) × (key ≡ None))
    ⊎ ((born : ℕ) × (d : ℕ) × (e ≡ Some (live_lease born n d)) × (key ≡ Some (key_at shard m i born)))

-- slot i changes; only the name n was there, or nothing; and n was nowhere else
module _ (shard : ℕ) (m : Machine (List ℕ)) (keys news : List ℕ → Option KeyName) (i s : ℕ) (e : Option (Entry (List ℕ))) (n : List ℕ)
    (inside : i < length m.table) (tied : AreKeyed shard m keys)
    (only : (born : ℕ) (name : List ℕ) (d : ℕ) → (table_at m i).entry ≡ Some (live_lease born name d) → name ≡ n)
    (nowhere : (k : KeyName) → keys n ≡ Some k → k.entry.index ≡ i)
    (here : IsPut shard (put m i s e) i n e (news n))
    (others : (q : List ℕ) → (q ≡ n → ⊥) → news q ≡ keys q) where
  put_entry : (table_at (put m i s e) i).entry ≡ e
  put_entry = ap (λ x. x.entry) (put_here m i s e inside)

  put_found_here : (born : ℕ) (name : List ℕ) (d : ℕ) → e ≡ Some (live_lease born name d) → IsPut shard (put m i s e) i n e (news n) → news name ≡ Some (key_at shard (put m i s e) i born)
  put_found_here born name d is (inl nothing) = absurd (no_lease born name d (ap lease_of (sym is) ∙ nothing.0))
  put_found_here born name d is (inr (b, x, was, key)) =
      let both : Some (live_lease b n x) ≡ Some (live_lease born name d) = sym was ∙ is in
      let same : live_lease b n x ≡ live_lease born name d = cc in
      let names : n ≡ name = ap (λ y. y.value) same in
      let births : b ≡ born = ap (λ y. y.born) same in
      ap news (sym names) ∙ (key ∙ ap (λ z. Some (key_at shard (put m i s e) i z)) births)

  put_found_there : (j born : ℕ) (name : List ℕ) (d : ℕ) → (j ≡ i → ⊥) → (table_at (put m i s e) j).entry ≡ Some (live_lease born name d) → news name ≡ Some (key_at shard (put m i s e) j born)
  put_found_there j born name d away is =
      let slot : table_at (put m i s e) j ≡ table_at m j = put_there m i s e j away in
      let was : (table_at m j).entry ≡ Some (live_lease born name d) = ap (λ x. x.entry) (sym slot) ∙ is in
      let key : keys name ≡ Some (key_at shard m j born) = tied.found j born name d was in
      let other : name ≡ n → ⊥ = λ q. away (nowhere (key_at shard m j born) (ap keys (sym q) ∙ key)) in
      others name other ∙ (key ∙ ap (λ x. Some (record { entry = record { shard = shard; index = j; born = born }; stamp = x.stamp })) (sym slot))

  put_live_here : (name : List ℕ) (k : KeyName) → name ≡ n → news name ≡ Some k → IsPut shard (put m i s e) i n e (news n)
      → (d : ℕ) × ((table_at (put m i s e) k.entry.index).entry ≡ Some (live_lease k.entry.born name d)) × (k ≡ key_at shard (put m i s e) k.entry.index k.entry.born)
  put_live_here name k is at (inl nothing) =
      let gone : None ≡ Some k = sym nothing.1 ∙ (ap news (sym is) ∙ at) in absurd (none_key k gone)
    where
      none_key : (x : KeyName) → ◌≡◌ {A = Option KeyName} None (Some x) → ⊥
      none_key x q = cc
  put_live_here name k is at (inr (b, x, was, key)) =
      let same : Some (key_at shard (put m i s e) i b) ≡ Some k = sym key ∙ (ap news (sym is) ∙ at) in
      let twin : key_at shard (put m i s e) i b ≡ k = cc in
      subst (λ z. (d : ℕ) × ((table_at (put m i s e) z.entry.index).entry ≡ Some (live_lease z.entry.born name d)) × (z ≡ key_at shard (put m i s e) z.entry.index z.entry.born)) twin
      (x, put_entry ∙ (was ∙ ap (λ q. Some (live_lease b q x)) (sym is)), refl)

  put_live_there : (name : List ℕ) (k : KeyName) → (name ≡ n → ⊥) → news name ≡ Some k
      → (d : ℕ) × ((table_at (put m i s e) k.entry.index).entry ≡ Some (live_lease k.entry.born name d)) × (k ≡ key_at shard (put m i s e) k.entry.index k.entry.born)
  put_live_there name k other at =
      let was = tied.live name k (sym (others name other) ∙ at) in
      let away : k.entry.index ≡ i → ⊥ = λ q. other (only k.entry.born name was.0 (ap (λ z. (table_at m z).entry) (sym q) ∙ was.1)) in
      let slot : table_at (put m i s e) k.entry.index ≡ table_at m k.entry.index = put_there m i s e k.entry.index away in
      (was.0, ap (λ x. x.entry) slot ∙ was.1, was.2 ∙ ap (λ x. record { entry = record { shard = shard; index = k.entry.index; born = k.entry.born }; stamp = x.stamp }) (sym slot))

  pub keyed_put : AreKeyed shard (put m i s e) news
  keyed_put = record {
    found = λ j born name d is. elim (cases_eq j i) [
      | inl q ↦ subst (λ z. news name ≡ Some (key_at shard (put m i s e) z born)) (sym q)
          (put_found_here born name d (sym put_entry ∙ (ap (λ z. (table_at (put m i s e) z).entry) (sym q) ∙ is)) here)
      | inr away ↦ put_found_there j born name d away is
    ];
    live = λ name k at. elim (cases_Bool (bytes_eq name n)) [
      | inl q ↦ put_live_here name k (name_is name n q) at here
      | inr q ↦ put_live_there name k (λ w. absurd (true≢false (sym (ap (bytes_eq name) (sym w) ∙ name_same name) ∙ q))) at
    ];
  }
