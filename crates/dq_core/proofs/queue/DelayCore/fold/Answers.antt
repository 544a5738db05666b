use Rattle.std.proofs.Common.{◌≡◌, ◌<◌, ◌∙◌, length, sym, arith}
use Rattle.std.specs.List.{count_by}
use Rattle.dq_core.specs.Slots.{is_held}
use Rattle.dq_core.proofs.Folds.{law_folded, holds_stamps, machine_held, worn_same}
use Rattle.dq_core.proofs.queue.DelayCore.fold.Goals as goal

pub invariant_of-result : goal.invariant_of-result
invariant_of-result g c =
    let s = c.self.inside in
    let linked = c.linked.ensures in
    let none : count_by is_held s.slots.rows ≡ 0 = let z = c.if-linked-gt0.false in omega arith in
    let large : 0 < length s.wheel.filing.filed = rw (← c.self.view_is) at c.law.ensures.wheel.large in
    let size = c.self.invariant.0.as_filed in
    let some : 0 < length s.slots.rows = omega arith in
    let worn = c.worn-worn.ensures ∙ worn_same s.slots.last_stamp s.slots.rows (g.W.Words.known s.words) (holds_stamps c.self.invariant.0 none) in
    rw (c.tick-tick.ensures.value, c.last-last.ensures) (law_folded c.self.invariant.0 none some c.law-2.ensures.used, c.self.invariant.1, worn)

pub returns-clause-machine : goal.returns-clause-machine
returns-clause-machine g c =
    let s = c.self.inside in
    let linked = c.linked.ensures in
    let none : count_by is_held s.slots.rows ≡ 0 = let z = c.if-linked-gt0.false in omega arith in
    rw (← c.self.view_is, c.tick-tick.ensures.value)
    (sym (machine_held s.wheel.filing.tick s.noted s.slots.rows (g.W.Words.known s.words) (holds_stamps c.self.invariant.0 none)))
