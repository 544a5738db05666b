-- The runs of any list of calls are one run, so the laws of runs hold over all of them.
use Rattle.std.proofs.Common.{ℕ, List, [], ◌∷◌, ◌++◌, refl, ap, ◌∙◌, subst}
use Rattle.dq_core.specs.Machine.{Run}
use Rattle.dq_core.specs.Core.{Core, machine}
use Rattle.dq_core.specs.Runs.{outs, RiseFrom}
use Rattle.dq_core.specs.RunsOfCalls.{GoesByRun, Recorded, GoesByCalls, given_by_all, LawsHoldOverCalls}
use Rattle.dq_core.proofs.RunsEnded.{ended_stays_ended}
use Rattle.dq_core.proofs.RunsEnding.{entries_leave_once}
use Rattle.dq_core.proofs.RunsKept.{values_stay, stamps_never_fall}
use Rattle.dq_core.proofs.RunsOrdered.{runs_join, outs_come_in_order}
use Rattle.dq_core.proofs.RunsOfCalls.{outs_join, no_birth_is_ahead}

calls_join : {T W : Type 0} (b c : Core T W) (calls : List (Recorded T W)) → GoesByCalls b calls c → GoesByRun b (given_by_all calls) c
calls_join b c [] is = ([], ap machine is, refl)
calls_join {T} b c (call ∷ calls) (r, same, rest) =
    let k = call.left in
    let s = calls_join k c calls rest in
    let P : ℕ → Type 0 = λ n. Run n (machine k) s.0 (machine c) in (
      r.0 ++ s.0,
      runs_join T b.slots.last_stamp (machine b) (machine k) (machine c) r.0 s.0 r.1 (subst P same.1 s.1),
      outs_join r.0 s.0 ∙ ap (λ xs. xs ++ outs s.0) r.2 ∙ ap (λ xs. call.gave ++ xs) s.2,
    )

pub laws_hold_over_calls : (T W : Type 0) → LawsHoldOverCalls T W
laws_hold_over_calls T W b c calls law way =
    let r = calls_join b c calls way in
    let last = b.slots.last_stamp in
    let P : List ℕ → Type 0 = λ ds. RiseFrom b.wheel.filing.tick ds in
    record {
      run = r;
      order = subst P r.2 (outs_come_in_order T last (machine b) (machine c) r.0 r.1);
      leaves = λ i e is. entries_leave_once T last (machine b) (machine c) r.0 r.1 i e is (no_birth_is_ahead T W b law i e is);
      stays = values_stay T last (machine b) (machine c) r.0 r.1;
      ended = ended_stays_ended T last (machine b) (machine c) r.0 r.1;
      stamps = stamps_never_fall T last (machine b) (machine c) r.0 r.1;
    }
