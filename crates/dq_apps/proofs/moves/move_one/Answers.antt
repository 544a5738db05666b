use Rattle.std.proofs.Common.{IsSome, List, Option, Some, refl, ap, sym, ◌∙◌, subst}
use Rattle.dq_core.specs.Machine.{TableRow}
use Rattle.dq_apps.specs.declared.kept.Kept.{Kept}
use Rattle.dq_apps.specs.TimerTable.{timer_at}
use Rattle.dq_apps.specs.Moves.{HaveMoved}
use Rattle.dq_apps.proofs.MovedTimers.{unmoved, none_left, left_there, room, one_moved}
use Rattle.dq_apps.proofs.moves.move_one.Goals as goal

pub returns-in_default-clause-moved : goal.returns-in_default-clause-moved
returns-in_default-clause-moved g c =
    let es = c.args.stock.now.entries in
    let o = c.args.worn.now.slots in
    let f = c.args.fresh.now in
    let P : List (TableRow g.row.K.Denot) → Type 0 = λ ss. HaveMoved g.K.PartialEq.eq es o f es ss f in
    subst P (sym (ap (λ x. x.slots) c.in_default.ensures.0)) (unmoved g.met.K.Eq.laws es o f c.requires)

pub returns-in_default-clause-left : goal.returns-in_default-clause-left
returns-in_default-clause-left g c = λ i.
    ap (λ x. (timer_at x.slots i).entry) c.in_default.ensures.0
    ∙ none_left g.met.K.Eq.laws c.args.stock.now.entries c.args.worn.now.slots c.args.fresh.now c.requires c.in_default.ensures.1 i

pub start_at-requires-clause-there : goal.start_at-requires-clause-there
start_at-requires-clause-there g c =
    let s = c.in-Some.ensures in
    let there = left_there g.met.K.Eq.laws c.args.stock.now.entries c.args.worn.now.slots c.args.fresh.now c.requires s.0 s.1 c.in-Some.key s.2 s.4 in
    let P : Option (Kept g.row.V.Denot) → Type 0 = λ o. IsSome o in
    subst P (sym there.1) refl

pub start_at-requires-clause-room : goal.start_at-requires-clause-room
start_at-requires-clause-room g c =
    let s = c.in-Some.ensures in
    room g.met.K.Eq.laws c.args.stock.now.entries c.args.worn.now.slots c.args.fresh.now c.requires s.0 (record { born = s.1; value = c.in-Some.key; due = Some s.2 }) s.3 s.4

pub returns-clause-moved : goal.returns-clause-moved
returns-clause-moved g c =
    let es = c.args.stock.now.entries in
    let o = c.args.worn.now.slots in
    let f = c.args.fresh.now in
    let s = c.in-Some.ensures in
    let there = left_there g.met.K.Eq.laws es o f c.requires s.0 s.1 c.in-Some.key s.2 s.4 in
    let t = c.start_at.ensures there.0 there.1 in
    let P : List (TableRow g.row.K.Denot) → Type 0 = λ ss. HaveMoved g.K.PartialEq.eq es o f c.start_at.new.stock.entries ss c.start_at.new.timers in
    subst P (sym (ap (λ x. x.slots) s.6)) (one_moved g.met.K.Eq.laws es o f c.requires s.0 s.1 s.2 c.in-Some.key s.3 s.4 c.start_at.new.stock.entries c.start_at.new.timers there.0 there.1 t.0 t.1 t.2)
