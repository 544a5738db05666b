use Rattle.std.proofs.Common.{sym, ap, ◌∙◌, subst}
use Rattle.dq_queue.specs.Leaving.{NoneIsLostIn}
use Rattle.dq_queue.specs.Runs.{KeepsGivenIds, EntriesLeaveOnceIn, EndedStaysEndedIn, DeadlinesHoldIn}
use Rattle.dq_queue.specs.Shards.{CallerView, HeldShard}
use Rattle.dq_queue.specs.Totals.{TotalsAgreeIn}
use Rattle.dq_queue.proofs.Histories.{one_name}
use Rattle.dq_queue.proofs.Leaving.{none_is_lost}
use Rattle.dq_queue.proofs.Runs.{deadlines_hold, ended_stays, leave_once}
use Rattle.dq_queue.proofs.Totals.{totals_agree}
use Rattle.dq_queue.proofs.shard.Shard.tell.Goals as goal

pub tell-requires-clause-table : goal.tell-requires-clause-table
tell-requires-clause-table g c =
    let at = ap (λ (s : HeldShard _). s.number) c.self.view_is ∙ (sym c.requires ∙ sym (ap (λ (v : CallerView _). v.shard) c.me.view_is)) in
    one_name g.J.Rooms.history c.self.inside.history.table c.me.inside.history.table _ _ c.self.invariant.1 c.me.invariant.1 at

pub returns-clause-leaves : goal.returns-clause-leaves
returns-clause-leaves g c = let P : HeldShard _ → Type 0 = λ s. EntriesLeaveOnceIn s.history.log in subst P c.self.view_is (leave_once _ c.self.invariant.4 c.self.invariant.9.ids)

pub returns-clause-ended : goal.returns-clause-ended
returns-clause-ended g c = let P : HeldShard _ → Type 0 = λ s. EndedStaysEndedIn s.history.log in subst P c.self.view_is (ended_stays _ c.self.invariant.4 c.self.invariant.9.ids)

pub returns-clause-due : goal.returns-clause-due
returns-clause-due g c = let P : HeldShard _ → Type 0 = λ s. DeadlinesHoldIn s.history.log in subst P c.self.view_is (deadlines_hold _ c.self.invariant.4 c.self.invariant.9.ids)

pub returns-clause-ids : goal.returns-clause-ids
returns-clause-ids g c = let P : HeldShard _ → Type 0 = λ s. KeepsGivenIds s.history.log in subst P c.self.view_is c.self.invariant.9.ids

pub returns-clause-totals : goal.returns-clause-totals
returns-clause-totals g c = let P : HeldShard _ → Type 0 = λ s. TotalsAgreeIn s.history.log in subst P c.self.view_is (totals_agree _ c.self.invariant.9.ids)

pub returns-clause-none_lost : goal.returns-clause-none_lost
returns-clause-none_lost g c = let P : HeldShard _ → Type 0 = λ s. NoneIsLostIn s.history.log in subst P c.self.view_is (none_is_lost _)
