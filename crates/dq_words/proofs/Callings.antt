-- What a caller's load and step together tell.
use Rattle.std.proofs.Common.{◌≡◌, ◌⊎◌, ℕ, ◌<◌, ◌≤◌, max, List, ◌∷◌, length, get_or, set, sym, ap, ◌∙◌, subst, inr, ⊎_elim, Ok, Err, get_or-set_same, set-set, arith}
use Rattle.dq_ticks.specs.Keys.{KeyName}
use Rattle.dq_ticks.specs.Word.{word, stamp_of, mark_of, field_of}
use Rattle.dq_core.specs.declared.words.CallError.{CallError}
use Rattle.dq_core.specs.declared.words.CallError.TheVariants.{TooFar, Unknown, Stale, Ended}
use Rattle.dq_words.specs.declared.views.View.{View}
use Rattle.dq_words.specs.declared.views.Call.{Call}
use Rattle.dq_words.specs.declared.views.Call.TheVariants.{Extend, Cancel}
use Rattle.dq_words.specs.declared.views.StepKind.{StepKind}
use Rattle.dq_words.specs.declared.views.StepKind.TheVariants.{CallerLoad, ExtendMax, CancelMax}
use Rattle.dq_words.specs.Counts.{most_begins, cancels_in}
use Rattle.dq_words.specs.Plays.{Covers, NoneBeyond, Fair, CallerLoads, LiveFor, MissedStep, ExtendStep, CancelStep, stepping, extending, cancelling}
use Rattle.dq_words.specs.CallerCalls.{Reads, seen_at, IsForged, Refuses, IsRefused, IsAccepted, CallerExtends, CallerCancels}

-- the view v after a call that saw n
abbrev pub seeing : View → ℕ → ℕ → List StepKind → List Call → View
seeing v i n steps calls = record v { seen = set v.seen i n; steps = steps; calls = calls }

pub seen_now : (v w : View) (i n : ℕ) (steps : List StepKind) (calls : List Call) → i < length v.seen → w ≡ seeing v i n steps calls → seen_at w i ≡ n
seen_now v w i n steps calls inside is = ap (λ (u : View). get_or u.seen i 0) is ∙ get_or-set_same v.seen i n 0 inside

pub reads_by : (v w : View) (i n : ℕ) (steps : List StepKind) (calls : List Call) → i < length v.seen → w ≡ seeing v i n steps calls → length v.steps < length steps → get_or v.seen i 0 ≤ n
    → Reads v w i
reads_by v w i n steps calls inside is more low =
    let here = seen_now v w i n steps calls inside is in
    let s : w.steps ≡ steps = ap (λ (u : View). u.steps) is in
    let c : w.calls ≡ calls = ap (λ (u : View). u.calls) is in
    record {
      inside = inside;
      counted = let l : length w.steps ≡ length steps = ap length s in omega arith;
      rises = omega arith;
      only = is ∙ (λ q. record v { seen = set v.seen i (sym here q); steps = sym s q; calls = sym c q });
    }

-- a second step of a call sees in place of the first
seen_twice : (v : View) (i m n : ℕ) (steps : List StepKind) (calls : List Call) → seeing (seeing v i m (CallerLoad ∷ v.steps) v.calls) i n steps calls ≡ seeing v i n steps calls
seen_twice v i m n steps calls = λ q. record v { seen = set-set v.seen i m n q; steps = steps; calls = calls }

pub not_forged : (v : View) (k : KeyName) → k.entry.index < length v.seen → 0 < k.stamp → ¬ IsForged v k
not_forged v k inside pos h = ⊎_elim (λ (far : length v.seen ≤ k.entry.index). omega arith) (λ (z : k.stamp ≡ 0). omega arith) h

-- a word that is live not beyond d agrees with the calls that it was fair to
covers_by : (calls : List Call) (i n s d : ℕ) → Fair calls i n → stamp_of n ≡ s → mark_of n ≡ 0 → field_of n ≤ d → Covers calls i s d × NoneBeyond calls i s
covers_by calls i n s d fair at live low =
    let P : ℕ → Type 0 = λ z. Covers calls i z d × NoneBeyond calls i z in
    let own = fair.0 (λ (one : mark_of n ≡ 1). omega arith) in
    subst P at (((λ x h. let b = own.0 x h in omega arith), own.1), fair.1)

-- a refusal shows that the step missed
pub missed_by : (n s : ℕ) (e : CallError) → Refuses n s e → stamp_of n ≡ s → mark_of n ≡ 0 → ⊥
missed_by n s (TooFar limit) h a b = h
missed_by n s Unknown h a b = omega arith
missed_by n s (Stale seen) h a b = let x = h.0 in let y = h.1 in omega arith
missed_by n s (Ended how) h a b = h.1 b

module _ (v u w : View) (k : KeyName) (m n : ℕ) (inside : k.entry.index < length v.seen) (pos : 0 < k.stamp) (loaded : CallerLoads v u k.entry.index m) where
  abbrev i : ℕ
  i = k.entry.index

  seen_between : get_or u.seen i 0 ≡ m
  seen_between = ap (λ (x : View). get_or x.seen i 0) loaded.0 ∙ get_or-set_same v.seen i m 0 inside

  -- a call that was accepted at the deadline d
  accepted_at : (d : ℕ) → Fair u.calls i n → stamp_of n ≡ k.stamp → mark_of n ≡ 0 → field_of n ≤ d → IsAccepted v k d
  accepted_at d fair at live low =
      let mid : u.calls ≡ v.calls = ap (λ (x : View). x.calls) loaded.0 in
      let P : List Call → Type 0 = λ c. Covers c i k.stamp d × NoneBeyond c i k.stamp in
      subst P mid (covers_by u.calls i n k.stamp d fair at live low)

  -- a step that failed
  refused_after : (e : CallError) → w ≡ stepping u i n CallerLoad → get_or u.seen i 0 ≤ n → Fair u.calls i n → Refuses n k.stamp e → IsRefused v k e (CallerLoad ∷ CallerLoad ∷ v.steps) w
  refused_after e is low fair refuses =
      let whole : w ≡ seeing v i n (CallerLoad ∷ CallerLoad ∷ v.steps) v.calls = is ∙ ap (λ (x : View). stepping x i n CallerLoad) loaded.0 ∙ seen_twice v i m n (CallerLoad ∷ CallerLoad ∷ v.steps) v.calls in
      let here = seen_now v w i n (CallerLoad ∷ CallerLoad ∷ v.steps) v.calls inside whole in
      let calls : w.calls ≡ v.calls = ap (λ (x : View). x.calls) whole in
      let mid : u.calls ≡ v.calls = ap (λ (x : View). x.calls) loaded.0 in
      let a = seen_between in let b = loaded.1 in
      let P : ℕ → Type 0 = λ x. Refuses x k.stamp e in
      let Q : List Call × ℕ → Type 0 = λ x. Fair x.0 i x.1 in
      inr record {
        named = not_forged v k inside pos;
        reads = reads_by v w i n (CallerLoad ∷ CallerLoad ∷ v.steps) v.calls inside whole (omega arith) (omega arith);
        steps = ap (λ (x : View). x.steps) whole;
        shows = subst P (sym here) refuses;
        fair = subst Q (λ q. ((mid ∙ sym calls) q, sym here q)) fair;
        calls = calls;
      }

  -- no step follows a load that shows a lower stamp than the key's
  stamped : get_or u.seen i 0 ≤ n → k.stamp ≤ stamp_of m → stamp_of n < k.stamp → ⊥
  stamped low asked below = let a = seen_between in omega arith

  pub refuses_extend : (when new : ℕ) (e : CallError) → when ≤ 4398046511103 → new ≡ word k.stamp 0 when → k.stamp ≤ stamp_of m → ExtendStep u w i new n → Refuses n k.stamp e → CallerExtends v k when (Err e) w
  refuses_extend when new e small is asked steps refuses = by e (refused steps.2) refuses where
    at : stamp_of new ≡ k.stamp
    at = omega arith

    refused : ((LiveFor new n × (w ≡ extending u i new (max n new))) ⊎ MissedStep u w i new n) → IsRefused v k e (CallerLoad ∷ CallerLoad ∷ v.steps) w
    refused way = ⊎_elim
        (λ (hit : LiveFor new n × (w ≡ extending u i new (max n new))). absurd (missed_by n k.stamp e refuses (hit.0.0 ∙ at) hit.0.1))
        (λ (miss : MissedStep u w i new n). refused_after e miss.1 steps.0 steps.1 refuses) way

    by : (e : CallError) → IsRefused v k e (CallerLoad ∷ CallerLoad ∷ v.steps) w → Refuses n k.stamp e → CallerExtends v k when (Err e) w
    by (TooFar limit) r h = absurd h
    by Unknown r h = absurd (stamped steps.0 asked h)
    by (Stale seen) r h = (small, r)
    by (Ended how) r h = (small, r)

  pub refuses_cancel : (new : ℕ) (e : CallError) → new ≡ word k.stamp 1 0 → k.stamp ≤ stamp_of m → CancelStep u w i new n → Refuses n k.stamp e → CallerCancels v k (Err e) w
  refuses_cancel new e is asked steps refuses = by e (refused steps.2) refuses where
    at : stamp_of new ≡ k.stamp
    at = omega arith

    refused : ((LiveFor new n × (w ≡ cancelling u i new (field_of n) new) × (cancels_in w.calls ≤ most_begins)) ⊎ MissedStep u w i new n) → IsRefused v k e (CallerLoad ∷ CallerLoad ∷ v.steps) w
    refused way = ⊎_elim
        (λ (hit : LiveFor new n × (w ≡ cancelling u i new (field_of n) new) × (cancels_in w.calls ≤ most_begins)). absurd (missed_by n k.stamp e refuses (hit.0.0 ∙ at) hit.0.1))
        (λ (miss : MissedStep u w i new n). refused_after e miss.1 steps.0 steps.1 refuses) way

    by : (e : CallError) → IsRefused v k e (CallerLoad ∷ CallerLoad ∷ v.steps) w → Refuses n k.stamp e → CallerCancels v k (Err e) w
    by (TooFar limit) r h = absurd h
    by Unknown r h = absurd (stamped steps.0 asked h)
    by (Stale seen) r h = r
    by (Ended how) r h = r

  pub accepts_extend : (when new d : ℕ) → when ≤ 4398046511103 → new ≡ word k.stamp 0 when → ExtendStep u w i new n → stamp_of n ≡ k.stamp → mark_of n ≡ 0 → d ≡ max (field_of n) when → CallerExtends v k when (Ok d) w
  accepts_extend when new d small is steps same live best =
      let at : stamp_of new ≡ k.stamp = omega arith in let asked : field_of new ≡ when = omega arith in ⊎_elim
      (λ (hit : LiveFor new n × (w ≡ extending u i new (max n new))).
      let x : ℕ = max n new in
      let made : List StepKind = ExtendMax ∷ CallerLoad ∷ v.steps in
      let mine : List Call = Extend i k.stamp when ∷ v.calls in
      let whole : w ≡ seeing v i x made mine = hit.1 ∙ ap (λ (y : View). extending y i new x) loaded.0
      ∙ (λ q. seeing (seeing v i m (CallerLoad ∷ v.steps) v.calls) i x made (Extend i (at q) (asked q) ∷ v.calls))
      ∙ seen_twice v i m x made mine in
      let here = seen_now v w i x made mine inside whole in
      let a = seen_between in let b = loaded.1 in let c = steps.0 in record {
        in_range = small;
        stamped = pos;
        reads = reads_by v w i x made mine inside whole (omega arith) (omega arith);
        steps = ap (λ (y : View). y.steps) whole;
        now = here ∙ omega arith;
        asked = omega arith;
        small = omega arith;
        agrees = accepted_at d steps.1 same live (omega arith);
        calls = ap (λ (y : View). y.calls) whole;
      })
      (λ (miss : MissedStep u w i new n). absurd (miss.0 (same ∙ sym at) live)) steps.2

  pub accepts_cancel : (new d : ℕ) → new ≡ word k.stamp 1 0 → CancelStep u w i new n → stamp_of n ≡ k.stamp → mark_of n ≡ 0 → d ≡ field_of n → CallerCancels v k (Ok d) w
  accepts_cancel new d is steps same live best =
      let at : stamp_of new ≡ k.stamp = omega arith in ⊎_elim
      (λ (hit : LiveFor new n × (w ≡ cancelling u i new (field_of n) new) × (cancels_in w.calls ≤ most_begins)).
      let made : List StepKind = CancelMax ∷ CallerLoad ∷ v.steps in
      let mine : List Call = Cancel i k.stamp d ∷ v.calls in
      let whole : w ≡ seeing v i new made mine = hit.1 ∙ ap (λ (y : View). cancelling y i new (field_of n) new) loaded.0
      ∙ (λ q. seeing (seeing v i m (CallerLoad ∷ v.steps) v.calls) i new made (Cancel i (at q) (sym best q) ∷ v.calls))
      ∙ seen_twice v i m new made mine in
      let here = seen_now v w i new made mine inside whole in
      let a = seen_between in let b = loaded.1 in let c = steps.0 in record {
        stamped = pos;
        reads = reads_by v w i new made mine inside whole (omega arith) (omega arith);
        steps = ap (λ (y : View). y.steps) whole;
        now = here ∙ is;
        gave_up = omega arith;
        small = omega arith;
        agrees = accepted_at d steps.1 same live (omega arith);
        calls = ap (λ (y : View). y.calls) whole;
      })
      (λ (miss : MissedStep u w i new n). absurd (miss.0 (same ∙ sym at) live)) steps.2

-- The same from what a call's own steps say: its seat's view, its slot and its stamp have other names there.
module _ (v v' u w : View) (k : KeyName) (i asked m n shown : ℕ) (own : v ≡ v') (slot : (i ≡ k.entry.index) × (i < length v.seen) × (0 < k.stamp)) (stamped : asked ≡ k.stamp)
    (loads : CallerLoads v' u i m) (is_shown : shown ≡ stamp_of m) (given : asked ≤ shown) where
  inside : k.entry.index < length v.seen
  inside = let at = slot.0 in let h = slot.1 in omega arith

  loaded : CallerLoads v u k.entry.index m
  loaded = let P : View × ℕ → Type 0 = λ x. CallerLoads x.0 u x.1 m in subst P (λ q. (sym own q, slot.0 q)) loads

  given_stamp : k.stamp ≤ stamp_of m
  given_stamp = omega arith

  pub extend_refused : (when new : ℕ) (e : CallError) → when ≤ 4398046511103 → new ≡ word asked 0 when → ExtendStep u w i new n → Refuses n asked e → CallerExtends v k when (Err e) w
  extend_refused when new e small is step refuses =
      let P : ℕ → Type 0 = λ j. ExtendStep u w j new n in let Q : ℕ → Type 0 = λ s. Refuses n s e in
      refuses_extend v u w k m n inside slot.2 loaded when new e small (is ∙ ap (λ s. word s 0 when) stamped) given_stamp (subst P slot.0 step) (subst Q stamped refuses)

  pub extend_accepted : (when new before d : ℕ) → when ≤ 4398046511103 → new ≡ word asked 0 when → ExtendStep u w i new n → (stamp_of n ≡ asked) × (mark_of n ≡ 0) × (before ≡ field_of n) → d ≡ max before when → CallerExtends v k when (Ok d) w
  extend_accepted when new before d small is step live best =
      let P : ℕ → Type 0 = λ j. ExtendStep u w j new n in
      accepts_extend v u w k m n inside slot.2 loaded when new d small (is ∙ ap (λ s. word s 0 when) stamped) (subst P slot.0 step) (live.0 ∙ stamped) live.1 (best ∙ ap (λ b. max b when) live.2)

  pub cancel_refused : (new : ℕ) (e : CallError) → new ≡ word asked 1 0 → CancelStep u w i new n → Refuses n asked e → CallerCancels v k (Err e) w
  cancel_refused new e is step refuses =
      let P : ℕ → Type 0 = λ j. CancelStep u w j new n in let Q : ℕ → Type 0 = λ s. Refuses n s e in
      refuses_cancel v u w k m n inside slot.2 loaded new e (is ∙ ap (λ s. word s 1 0) stamped) given_stamp (subst P slot.0 step) (subst Q stamped refuses)

  pub cancel_accepted : (new d : ℕ) → new ≡ word asked 1 0 → CancelStep u w i new n → (stamp_of n ≡ asked) × (mark_of n ≡ 0) × (d ≡ field_of n) → CallerCancels v k (Ok d) w
  cancel_accepted new d is step live =
      let P : ℕ → Type 0 = λ j. CancelStep u w j new n in
      accepts_cancel v u w k m n inside slot.2 loaded new d (is ∙ ap (λ s. word s 1 0) stamped) (subst P slot.0 step) (live.0 ∙ stamped) live.1 live.2
