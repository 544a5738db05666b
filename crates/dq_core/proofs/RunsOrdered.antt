-- Runs one after the other, and the order in which a run's entries come out.
use Rattle.std.proofs.Common.{◌≡◌, ℕ, ◌≤◌, List, [], ◌∷◌, subst, ap, arith}
use Rattle.dq_core.specs.Machine.{Machine, Event, Note, Pass, Insert, Reset, Extend, Cancel, Remove, Reap, Expire, Step, Run}
use Rattle.dq_core.specs.Runs.{RunsJoin, outs, RiseFrom, OutsComeInOrder}

pub runs_join : (T : Type 0) → RunsJoin T
runs_join T last m k n [] fs r s = let P : Machine T → Type 0 = λ x. Run last x fs n in subst P r s
runs_join T last m k n (e ∷ es) fs (h, step, r) s = (h, step, runs_join T last h k n es fs r s)

rises_from : (t u : ℕ) (ds : List ℕ) → t ≤ u → RiseFrom u ds → RiseFrom t ds
rises_from t u [] below rise = tt
rises_from t u (d ∷ ds) below rise = (omega (arith, rise.0), rise.1)

-- what comes out after an event whose tick is no later
module _ {T : Type 0} (m k : Machine T) (es : List (Event T)) (rise : RiseFrom k.tick (outs es)) where
  still : k.tick ≡ m.tick → RiseFrom m.tick (outs es)
  still same = rises_from m.tick k.tick (outs es) (omega (arith, same)) rise

step_rises : {T : Type 0} (last : ℕ) (m k : Machine T) (e : Event T) (es : List (Event T)) → Step last m e k → RiseFrom k.tick (outs es) → RiseFrom m.tick (outs (e ∷ es))
step_rises last m k (Note t) es s rise = still m k es rise (ap (λ x. x.tick) s)
step_rises last m k (Pass t) es s rise =
    let at : k.tick ≡ t = ap (λ x. x.tick) s.3 in
    rises_from m.tick k.tick (outs es) (omega (arith, s.0, at)) rise
step_rises last m k (Insert i v w) es s rise = still m k es rise (ap (λ x. x.tick) s.3)
step_rises last m k (Reset i b w) es s rise = still m k es rise (ap (λ x. x.tick) s.6)
step_rises last m k (Extend i b w) es s rise = still m k es rise (ap (λ x. x.tick) s.5)
step_rises last m k (Cancel i b) es s rise = still m k es rise (ap (λ x. x.tick) s.5)
step_rises last m k (Remove i b) es s rise = still m k es rise (ap (λ x. x.tick) s.5)
step_rises last m k (Reap i b) es s rise = still m k es rise (ap (λ x. x.tick) s.4)
step_rises last m k (Expire i b at) es s rise =
    let now : at ≡ m.tick = s.4 in
    let same : k.tick ≡ m.tick = ap (λ x. x.tick) s.7 in
    (omega (arith, now), rises_from at k.tick (outs es) (omega (arith, now, same)) rise)

pub outs_come_in_order : (T : Type 0) → OutsComeInOrder T
outs_come_in_order T last m n [] r = tt
outs_come_in_order T last m n (e ∷ es) (k, step, r) = step_rises last m k e es step (outs_come_in_order T last k n es r)
