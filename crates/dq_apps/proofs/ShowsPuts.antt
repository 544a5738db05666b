-- What a purge, a renewal and a put leave of what is seen.
use Rattle.std.proofs.Common.{◌≡◌, ℕ, ◌+◌, Bool, true, cond, nat_lt, Option, Some, None, Result, Ok, Err, refl, sym, ap, ◌∙◌, subst, arith, max}
use Rattle.std.specs.Prelude.{IfOk, IfErr, OnOk, OnErr, IsSomeAnd}
use Rattle.std.specs.Cmp.{IsEquivalence}
use Rattle.std.proofs.lemmas.Bool.{lt-ltb, true≢false}
use Rattle.dq_core.specs.declared.errors.CoreError.{CoreError}
use Rattle.dq_core.specs.declared.errors.CoreError.TheVariants.{TooFar, Full, Missing, WasCancelled, Worn, TickTooLarge, BadConfig, NoMemory}
use Rattle.dq_apps.specs.Cache.{Item, Cache, slot_at, moment_at, value_seen, AreDistinct}
use Rattle.dq_apps.specs.Calls.{at_moment, TakesDue, TakesExpired, purged, IsAbsent, Renews, Replaces, Adds, PutRefused, Puts, Purges}
use Rattle.dq_apps.specs.AtTheCall.{IsSeenUntil, KeepsSeen, KeepsOthers, ShowsPut, HandsBack, ShowsRenewal, kept_count, NoneDueNow}
use Rattle.dq_apps.proofs.SeenSlots.{part, part_hidden}
use Rattle.dq_apps.proofs.Sweeps.{step_moment, step_purged, left_in, distinct_swept, kept_counts}
use Rattle.dq_apps.proofs.Shows.{seen_kept, absent_none, purge_keeps, others_hidden, renewed_seen, renewed_others, kept_hidden}

module _ {K V : Type 0} {eq : K → K → Bool} (laws : IsEquivalence eq) (b c : Cache K V) where
  -- nothing changes
  same_seen : c ≡ b → (q : K) (t : ℕ) → value_seen eq c q t ≡ value_seen eq b q t
  same_seen is q t = ap (λ (x : Cache K V). value_seen eq x q t) is

  -- purge
  module _ (now : ℕ) where
    pub purges_keep : (r : Result ℕ CoreError) → Purges b now r c → KeepsSeen eq b c now
    purges_keep (Ok n) p q t later = ap (λ (x : Cache K V). value_seen eq x q t) p.2 ∙ purge_keeps laws b now q t later
    purges_keep (Err e) p q t later = same_seen p.2 q t

    pub purges_count : (r : Result ℕ CoreError) → Purges b now r c → IfOk r (λ n. kept_count c + n ≡ kept_count b)
    purges_count (Ok n) p =
        let counts = kept_counts (moment_at b now) b.slots in
        let told = p.1 in
        let left = ap (kept_count {K = K} {V = V}) p.2 in
        omega (arith, counts, told, left)
    purges_count (Err e) p = tt

    pub purges_due : (r : Result ℕ CoreError) → Purges b now r c → OnOk r (NoneDueNow c)
    purges_due (Ok n) p =
        let P : Cache K V → Type 0 = λ x. NoneDueNow x in
        subst P (sym p.2) (λ i x at. (left_in (moment_at b now) b.slots i x at).1)
    purges_due (Err e) p = tt

    pub purges_refused : (r : Result ℕ CoreError) → Purges b now r c → OnErr r (c ≡ b)
    purges_refused (Ok n) p = tt
    purges_refused (Err e) p = p.2

  -- take_expired
  module _ (now : ℕ) where
    -- what a purge leaves is the same before and after
    expired_purged : (out : Option (K × V)) → TakesDue (at_moment b (moment_at b now)) out c → purged c (moment_at c now) ≡ purged b (moment_at b now)
    expired_purged None t =
        let twice : max now (moment_at b now) ≡ moment_at b now = omega arith in
        (λ i. purged (t.0 i) (moment_at (t.0 i) now)) ∙ ap (purged b) twice
    expired_purged (Some out) t =
        let moment = step_moment (at_moment b (moment_at b now)) c out t in
        let at : moment_at c now ≡ moment_at b now = omega (arith, moment) in
        ap (purged c) at ∙ step_purged (at_moment b (moment_at b now)) c out t

    pub expired_keeps : (r : Result (Option (K × V)) CoreError) → TakesExpired b now r c → KeepsSeen eq b c now
    expired_keeps (Ok out) t q n later =
        sym (purge_keeps laws c now q n later)
        ∙ (ap (λ (x : Cache K V). value_seen eq x q n) (expired_purged out t.1) ∙ purge_keeps laws b now q n later)
    expired_keeps (Err e) t q n later = same_seen t.2 q n

    pub expired_rest : (r : Result (Option (K × V)) CoreError) → TakesExpired b now r c → IfOk r (λ out. out ≡ None → NoneDueNow c)
    expired_rest (Ok None) t =
        let P : Cache K V → Type 0 = λ x. NoneDueNow x in
        λ none. subst P (sym t.1.0) t.1.1
    expired_rest (Ok (Some out)) t = λ none. absurd (cc)
    expired_rest (Err e) t = tt

    pub expired_refused : (r : Result (Option (K × V)) CoreError) → TakesExpired b now r c → OnErr r (c ≡ b)
    expired_refused (Ok out) t = tt
    expired_refused (Err e) t = t.2

  -- renew
  module _ (key : K) (ttl now : ℕ) where
    pub renews_seen : AreDistinct eq b.slots → (r : Result ℕ CoreError) → Renews eq b key ttl now r c → IfOk r (ShowsRenewal eq b key ttl now c)
    renews_seen apart (Ok d) r =
        let t = r.2 in
        let x = t.1 in
        let later = lt-ltb (moment_at b now) x.deadline t.3 in
        let was : value_seen eq b key now ≡ Some x.value = seen_kept laws b apart key t.0 x t.2 (moment_at b now) ∙ ap (λ k. cond k (Some x.value) None) later in
        let P : Option V → Type 0 = λ o. IsSomeAnd o (λ v. IsSeenUntil eq c key v d) in
        (r.1, subst P (sym was) (renewed_seen laws b c key (moment_at b now) t.0 (record { key = x.key; value = x.value; deadline = d }) t.2.inside t.2.same t.5 (others_hidden laws b c key now apart t.0 x t.2)))
    renews_seen apart (Err e) r = tt

    pub renews_others : (r : Result ℕ CoreError) → Renews eq b key ttl now r c → KeepsOthers eq b c key now
    renews_others (Ok d) r =
        let t = r.2 in
        let x = t.1 in
        renewed_others laws b c key (moment_at b now) t.0 (record { key = x.key; value = x.value; deadline = d }) t.2.inside t.2.same t.5 now refl (kept_hidden laws b key t.0 x t.2)
    renews_others (Err e) r = λ q t apart later. same_seen r.1 q t

    pub renews_refused : (r : Result ℕ CoreError) → Renews eq b key ttl now r c → OnErr r (c ≡ b)
    renews_refused (Ok d) r = tt
    renews_refused (Err e) r = r.1

  -- put
  module _ (key : K) (value : V) (ttl now : ℕ) (apart : AreDistinct eq b.slots) where
    abbrev p : Cache K V
    p = purged b (moment_at b now)

    abbrev when : ℕ
    when = moment_at b now + ttl

    apart_still : AreDistinct eq p.slots
    apart_still = distinct_swept eq (moment_at b now) b.slots apart

    same_moment : p.moment ≡ moment_at p now
    same_moment = omega arith

    -- what is seen of the cache after the purge was seen before
    then_keeps : KeepsOthers eq p c key now → KeepsOthers eq b c key now
    then_keeps keeps q t other later = keeps q t other later ∙ purge_keeps laws b now q t later

    then_same : c ≡ p → KeepsSeen eq b c now
    then_same is q t later = ap (λ (x : Cache K V). value_seen eq x q t) is ∙ purge_keeps laws b now q t later

    -- a key that is kept gets another value
    module _ (old : V) (r : Replaces eq p key value when old c) where
      abbrev item : Item K V
      item = record { key = r.1.key; value = value; deadline = when }

      replaced_seen : IsSeenUntil eq c key value when
      replaced_seen = renewed_seen laws p c key p.moment r.0 item r.2.inside r.2.same r.5 (others_hidden laws p c key now apart_still r.0 r.1 r.2)

      replaced_others : KeepsOthers eq b c key now
      replaced_others = then_keeps (renewed_others laws p c key p.moment r.0 item r.2.inside r.2.same r.5 now same_moment (kept_hidden laws p key r.0 r.1 r.2))

      replaced_old : Some old ≡ value_seen eq b key now
      replaced_old =
          let later = (left_in (moment_at b now) b.slots r.0 r.1 r.2.item).1 in
          let at : nat_lt (moment_at p now) r.1.deadline ≡ true = lt-ltb (moment_at p now) r.1.deadline (omega (arith, later)) in
          ap Some r.4
          ∙ (sym (seen_kept laws p apart_still key r.0 r.1 r.2 (moment_at p now) ∙ ap (λ k. cond k (Some r.1.value) None) at)
          ∙ purge_keeps laws b now key now (omega arith))

    -- a key that isn't kept goes to a free slot
    module _ (absent : IsAbsent eq p key) (a : Adds eq p key value when c) where
      abbrev added : Item K V
      added = record { key = a.1; value = value; deadline = when }

      added_seen : IsSeenUntil eq c key value when
      added_seen =
          renewed_seen laws p c key p.moment a.0 added a.2 a.5 a.6 (λ n j ne. part_hidden (eq key) n (slot_at p.slots j).item (λ x at same. absurd (true≢false (sym same ∙ absent j x at))))

      added_others : KeepsOthers eq b c key now
      added_others =
          then_keeps (renewed_others laws p c key p.moment a.0 added a.2 a.5 a.6 now same_moment (λ q n other. ap (part (eq q) n) a.3))

      added_old : None ≡ value_seen eq b key now
      added_old = sym (absent_none laws p key (moment_at p now) absent) ∙ purge_keeps laws b now key now (omega arith)

    pub puts_seen : (r : Result (Option V) (CoreError × K × V)) → Puts eq b key value ttl now r c → IfOk r (ShowsPut eq b key value ttl now c)
    puts_seen (Ok (Some old)) r = (replaced_seen old r.1, replaced_old old r.1)
    puts_seen (Ok None) r = (added_seen r.1 r.2, added_old r.1 r.2)
    puts_seen (Err e) r = tt

    refused_seen : (e : CoreError) → PutRefused eq b key ttl now p e c → KeepsSeen eq b c now
    refused_seen (TickTooLarge limit) r = λ q t later. same_seen r.2 q t
    refused_seen (TooFar limit) r = λ q t later. same_seen r.3 q t
    refused_seen Worn r = then_same r.2
    refused_seen (Full linked worn) r = then_same r.3
    refused_seen NoMemory r = then_same r.3
    refused_seen Missing r = absurd r.2
    refused_seen WasCancelled r = absurd r.2
    refused_seen BadConfig r = absurd r.2

    pub puts_others : (r : Result (Option V) (CoreError × K × V)) → Puts eq b key value ttl now r c → KeepsOthers eq b c key now
    puts_others (Ok (Some old)) r = replaced_others old r.1
    puts_others (Ok None) r = added_others r.1 r.2
    puts_others (Err e) r = λ q t other later. refused_seen e.0 r.0 q t later

    pub puts_refused : (r : Result (Option V) (CoreError × K × V)) → Puts eq b key value ttl now r c → IfErr r (HandsBack eq b key value now c)
    puts_refused (Ok o) r = tt
    puts_refused (Err e) r = (r.1, r.2, refused_seen e.0 r.0)
