use Rattle.std.proofs.Common.{◌≡◌, ◌≢◌, ℕ, Bool, false, List, Option, Some, is_some, subst, refl, sym, ap, ◌∙◌}
use Rattle.dq_bell.specs.Seats.{LeaderSeat, CloserSeat}
use Rattle.dq_bell.specs.Rolls.{RollState, StandsInLine, LeavesRoll, first_in}
use Rattle.dq_bell.specs.Lines.{LineState, IsAwakeAt, LeavesLine}
use Rattle.dq_bell.proofs.Lined.{line_of, hands_on}
use Rattle.dq_bell.proofs.line.Line.leave.Goals as goal

alike : (o : Option ℕ) (f g : ℕ) → o ≡ Some f → o ≡ Some g → f ≡ g
alike o f g a b = cc

-- one that is not in line leaves all as it is
stays_out : (l : LeaderSeat) (c : CloserSeat) (r : RollState) (s : List Bool) (i : ℕ)
    → ¬ StandsInLine r i → IsAwakeAt s i → LeavesLine (line_of l c r s) i false (line_of l c r s)
stays_out l c r s i out awake = record {
  leader = refl;
  closer = refl;
  is_out = out;
  awake = awake;
  stay = λ j n. (λ x. x, λ x. x);
  size = refl;
  follows = λ n. (refl, refl);
  next = λ e f h. let P : ℕ → Type 0 = λ a. IsAwakeAt s a in let w : IsAwakeAt s f = subst P (alike _ i f e h) awake in (w, sym w);
  sleep_on = λ j n or. refl;
}

-- one that followed leaves
follower_leaves : (l : LeaderSeat) (c : CloserSeat) (r r2 : RollState) (s : List Bool) (i : ℕ)
    → LeavesRoll r i r2 → IsAwakeAt s i → first_in r ≢ Some i → LeavesLine (line_of l c r s) i false (line_of l c r2 s)
follower_leaves l c r r2 s i left awake follows = record {
  leader = refl;
  closer = refl;
  is_out = left.is_out;
  awake = awake;
  stay = left.others;
  size = left.size;
  follows = λ n. (left.first n, refl);
  next = λ e. absurd (follows e);
  sleep_on = λ j n or. refl;
}

pub returns : goal.returns
returns g c =
    let i = c.self.inside in
    let asleep = ap (λ (l : LineState). l.sleeps) c.self.view_is in
    let old : LineState → Type 0 = λ l. LeavesLine l c.args.at (is_some c.call.result) (line_of i.leader i.closer c.leave-2.new.self c.call.new.self) in
    let new : List Bool → Type 0 = λ s. LeavesLine (line_of i.leader i.closer i.roll i.sleepers) c.args.at (is_some c.call.result) (line_of i.leader i.closer c.leave-2.new.self s) in
    subst old c.self.view_is
    (subst new (sym c.call.ensures.sleeps)
    (hands_on i.leader i.closer i.roll c.leave-2.new.self i.sleepers c.args.at c.in-Some.next (is_some c.call.result) c.leave-2.ensures (rw asleep c.requires) (c.is_first.ensures.yes c.if-not-is_first.false) (sym c.first.ensures ∙ c.in-Some.is) c.call.ensures.called))

pub returns-then-not-is_in_line : goal.returns-then-not-is_in_line
returns-then-not-is_in_line g c =
    let i = c.self.inside in
    let asleep = ap (λ (l : LineState). l.sleeps) c.self.view_is in
    rw (← c.self.view_is)
    (stays_out i.leader i.closer i.roll i.sleepers c.args.at (c.is_in_line.ensures.no c.if-not-is_in_line.true) (rw asleep c.requires))

pub returns-then-not-is_first : goal.returns-then-not-is_first
returns-then-not-is_first g c =
    let i = c.self.inside in
    let asleep = ap (λ (l : LineState). l.sleeps) c.self.view_is in
    rw (← c.self.view_is)
    (follower_leaves i.leader i.closer i.roll c.leave.new.self i.sleepers c.args.at c.leave.ensures (rw asleep c.requires) (c.is_first.ensures.no c.if-not-is_first.true))
