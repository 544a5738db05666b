-- What a caller's answers show at the call, from all that its calls did.
use Rattle.std.proofs.Common.{◌≡◌, ℕ, ◌+◌, ◌<◌, ◌≤◌, max, List, ◌∷◌, length, sym, ap, subst, inl, inr, ⊎_elim, Err, arith}
use Rattle.dq_ticks.specs.Keys.{KeyName}
use Rattle.dq_ticks.specs.Word.{stamp_of, field_of}
use Rattle.dq_core.specs.declared.words.CallError.{CallError}
use Rattle.dq_core.specs.declared.words.CallError.TheVariants.{TooFar, Unknown, Stale, Ended}
use Rattle.dq_words.specs.declared.views.View.{View}
use Rattle.dq_words.specs.declared.views.Call.{Call}
use Rattle.dq_words.specs.declared.views.StepKind.{StepKind}
use Rattle.dq_words.specs.declared.views.StepKind.TheVariants.{CallerLoad, ExtendMax, CancelMax}
use Rattle.dq_words.specs.AtTheCall.{word_seen, SeesLive, KeepsPromises, RefusedByWord, ExtendRefusedByWord}
use Rattle.dq_words.specs.Counts.{most_begins, cancels_in}
use Rattle.dq_words.specs.Plays.{Fair, CallerLoads, LiveFor, MissedStep, ExtendStep, CancelStep, extending, cancelling}
use Rattle.dq_words.specs.CallerCalls.{IsForged, WordRefuses, IsRefused, ExtendAccepted, CancelAccepted, CallerExtends}
use Rattle.dq_words.specs.Seats.{Sat}
use Rattle.dq_words.proofs.Callings.{seeing, seen_now, reads_by, not_forged}

-- accepted
pub cancel_keeps : (c : Sat) (k : KeyName) (d : ℕ) (w : View) → CancelAccepted c.view k d w → KeepsPromises c k d
cancel_keeps c k d w a = (a.small, a.agrees.0.0, a.gave_up)

pub cancel_counts : (v : View) (k : KeyName) (d : ℕ) (w : View) → CancelAccepted v k d w → cancels_in w.calls ≡ cancels_in v.calls + 1
cancel_counts v k d w a = ap cancels_in a.calls

pub extend_keeps : (c : Sat) (k : KeyName) (when d : ℕ) (w : View) → ExtendAccepted c.view k when d w → KeepsPromises c k d
extend_keeps c k when d w a =
    let P : ℕ → Type 0 = λ x. word_seen c k ≤ x in
    (a.small, a.agrees.0.0, subst P a.now a.reads.rises)

pub extend_sees : (v : View) (k : KeyName) (when d : ℕ) (c : Sat) → ExtendAccepted v k when d c.view → (when ≤ d) × SeesLive c k d
extend_sees v k when d c a = (a.asked, (a.small, a.now))

-- refused
pub by_word : (v : View) (k : KeyName) (made : List StepKind) (c : Sat) (e : CallError) → IsRefused v k e made c.view → RefusedByWord c k e
by_word v k made c (TooFar limit) r = ⊎_elim (λ (f : IsForged v k × (TooFar limit ≡ Unknown) × (c.view ≡ v)). absurd (let n = f.1 in cc)) (λ (r : WordRefuses v k (TooFar limit) made c.view). r.shows) r
by_word v k made c Unknown r =
    let P : View → Type 0 = λ x. IsForged x k in
    ⊎_elim (λ (f : IsForged v k × (Unknown ≡ Unknown) × (c.view ≡ v)). inl (subst P (sym f.2) f.0)) (λ (r : WordRefuses v k Unknown made c.view). inr r.shows) r
by_word v k made c (Stale seen) r = ⊎_elim (λ (f : IsForged v k × (Stale seen ≡ Unknown) × (c.view ≡ v)). absurd (let n = f.1 in cc)) (λ (r : WordRefuses v k (Stale seen) made c.view). r.shows) r
by_word v k made c (Ended how) r = ⊎_elim (λ (f : IsForged v k × (Ended how ≡ Unknown) × (c.view ≡ v)). absurd (let n = f.1 in cc))
    (λ (r : WordRefuses v k (Ended how) made c.view). let s = r.shows in ((s.0, s.2), s.1)) r

pub extend_by_word : (v : View) (k : KeyName) (when : ℕ) (c : Sat) (e : CallError) → CallerExtends v k when (Err e) c.view → ExtendRefusedByWord c k when e
extend_by_word v k when c (TooFar limit) h = (h.1, h.0)
extend_by_word v k when c Unknown h = (h.0, by_word v k _ c Unknown h.1)
extend_by_word v k when c (Stale seen) h = (h.0, by_word v k _ c (Stale seen) h.1)
extend_by_word v k when c (Ended how) h = (h.0, by_word v k _ c (Ended how) h.1)

-- A load, and a step behind it.
module _ (v v' u w : View) (i m n new : ℕ) (own : v ≡ v') (loads : CallerLoads v' u i m) where
  pub one_step : length u.steps ≤ length v.steps + 2
  one_step =
      let o : length v.steps ≡ length v'.steps = ap (λ (x : View). length x.steps) own in
      let a : length u.steps ≡ length (CallerLoad ∷ v'.steps) = ap (λ (x : View). length x.steps) loads.0 in
      omega (arith, o, a)

  behind : (kind : StepKind) → w.steps ≡ kind ∷ u.steps → length w.steps ≤ length v.steps + 2
  behind kind is =
      let o : length v.steps ≡ length v'.steps = ap (λ (x : View). length x.steps) own in
      let a : length u.steps ≡ length (CallerLoad ∷ v'.steps) = ap (λ (x : View). length x.steps) loads.0 in
      let b : length w.steps ≡ length (kind ∷ u.steps) = ap length is in
      omega (arith, o, a, b)

  pub extend_steps : ExtendStep u w i new n → length w.steps ≤ length v.steps + 2
  extend_steps step = ⊎_elim
      (λ (hit : LiveFor new n × (w ≡ extending u i new (max n new))). behind ExtendMax (ap (λ (x : View). x.steps) hit.1))
      (λ (miss : MissedStep u w i new n). behind CallerLoad (ap (λ (x : View). x.steps) miss.1)) step.2

  pub cancel_steps : CancelStep u w i new n → length w.steps ≤ length v.steps + 2
  cancel_steps step = ⊎_elim
      (λ (hit : LiveFor new n × (w ≡ cancelling u i new (field_of n) new) × (cancels_in w.calls ≤ most_begins)). behind CancelMax (ap (λ (x : View). x.steps) hit.1))
      (λ (miss : MissedStep u w i new n). behind CallerLoad (ap (λ (x : View). x.steps) miss.1)) step.2

-- A load that showed a lower stamp than the key's.
pub refused_at_once : (v v' u : View) (k : KeyName) (i asked m shown : ℕ) → v ≡ v' → (i ≡ k.entry.index) × (i < length v.seen) × (0 < k.stamp) → asked ≡ k.stamp
    → CallerLoads v' u i m → shown ≡ stamp_of m → shown < asked → IsRefused v k Unknown (CallerLoad ∷ v.steps) u
refused_at_once v v' u k i asked m shown own slot stamped loads is_shown below =
    let j : ℕ = k.entry.index in
    let inside : j < length v.seen = let at = slot.0 in let h = slot.1 in omega (arith, at, h) in
    let P : View × ℕ → Type 0 = λ x. CallerLoads x.0 u x.1 m in
    let loaded : CallerLoads v u j m = subst P (λ q. (sym own q, slot.0 q)) loads in
    let whole : u ≡ seeing v j m (CallerLoad ∷ v.steps) v.calls = loaded.0 in
    let here = seen_now v u j m (CallerLoad ∷ v.steps) v.calls inside whole in
    let calls : u.calls ≡ v.calls = ap (λ (x : View). x.calls) whole in
    let low : stamp_of m < k.stamp = omega (arith, stamped, is_shown, below) in
    let S : ℕ → Type 0 = λ x. stamp_of x < k.stamp in
    let Q : List Call × ℕ → Type 0 = λ x. Fair x.0 j x.1 in
    inr record {
      named = not_forged v k inside slot.2;
      reads = reads_by v u j m (CallerLoad ∷ v.steps) v.calls inside whole (omega arith) loaded.1;
      steps = ap (λ (x : View). x.steps) whole;
      shows = subst S (sym here) low;
      fair = subst Q (λ q. (sym calls q, sym here q)) loaded.2;
      calls = calls;
    }
