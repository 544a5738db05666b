use Rattle.std.proofs.Common.{refl, sym, ◌∙◌, inl, inr}
use Rattle.dq_bell.proofs.Lined.{refused, found_earlier, leads_awake, leader_falls, follower_falls, leader_line, follower_line}
use Rattle.dq_bell.proofs.line.Line.sleep.Goals as goal

pub returns-then-is_closed-clause-awake : goal.returns-then-is_closed-clause-awake
returns-then-is_closed-clause-awake g c =
    let i = c.self.inside in
    (refl, refused i.leader i.leader i.closer i.roll i.sleepers c.args.at c.args.until _ c.self.view_is c.self.invariant (inl (sym c.is_closed.ensures ∙ c.if-is_closed.true)))

pub returns-then-not-is_in_line-clause-awake : goal.returns-then-not-is_in_line-clause-awake
returns-then-not-is_in_line-clause-awake g c =
    let i = c.self.inside in
    (refl, refused i.leader i.leader i.closer i.roll i.sleepers c.args.at c.args.until _ c.self.view_is c.self.invariant (inr (inl (c.is_in_line.ensures.no c.if-not-is_in_line.true))))

pub returns-then-sleeps_at-clause-awake : goal.returns-then-sleeps_at-clause-awake
returns-then-sleeps_at-clause-awake g c =
    let i = c.self.inside in
    (refl, refused i.leader i.leader i.closer i.roll i.sleepers c.args.at c.args.until _ c.self.view_is c.self.invariant (inr (inr (inl (sym c.sleeps_at.ensures ∙ c.if-sleeps_at.true)))))

pub invariant_of-self : goal.invariant_of-self
invariant_of-self g c =
    let i = c.self.inside in
    rw (c.put.ensures)
    (follower_line i.leader i.leader i.closer i.roll i.sleepers c.args.at c.args.until _ c.self.view_is c.self.invariant (sym c.is_closed.ensures ∙ c.if-is_closed.false)
    (c.is_in_line.ensures.yes c.if-not-is_in_line.false) (sym c.sleeps_at.ensures ∙ c.if-sleeps_at.false) (c.is_first.ensures.no c.if-not-is_first.true))

pub returns-then-not-is_first-clause-asleep : goal.returns-then-not-is_first-clause-asleep
returns-then-not-is_first-clause-asleep g c =
    let i = c.self.inside in
    rw (c.put.ensures)
    (follower_falls i.leader i.leader i.closer i.roll i.sleepers c.args.at c.args.until _ c.self.view_is c.self.invariant (sym c.is_closed.ensures ∙ c.if-is_closed.false)
    (c.is_in_line.ensures.yes c.if-not-is_in_line.false) (sym c.sleeps_at.ensures ∙ c.if-sleeps_at.false) refl (c.is_first.ensures.no c.if-not-is_first.true))

pub invariant_of-self-then-not-may_sleep : goal.invariant_of-self-then-not-may_sleep
invariant_of-self-then-not-may_sleep g c =
    let i = c.self.inside in
    leads_awake i.leader c.may_sleep.new.self i.closer i.roll i.sleepers c.args.at c.args.until _ c.self.view_is c.self.invariant c.may_sleep.ensures.same
    (c.is_first.ensures.yes c.if-not-is_first.false) (sym c.sleeps_at.ensures ∙ c.if-sleeps_at.false)

pub returns-then-not-may_sleep-clause-awake : goal.returns-then-not-may_sleep-clause-awake
returns-then-not-may_sleep-clause-awake g c =
    let i = c.self.inside in (
      refl,
      found_earlier i.leader c.may_sleep.new.self i.closer i.roll i.sleepers c.args.at c.args.until _ c.self.view_is c.self.invariant c.may_sleep.ensures.same
          (c.is_first.ensures.yes c.if-not-is_first.false) (c.may_sleep.ensures.wakes c.if-not-may_sleep.true),
    )

pub invariant_of-self-2 : goal.invariant_of-self-2
invariant_of-self-2 g c =
    let i = c.self.inside in
    rw (c.put-2.ensures)
    (leader_line i.leader c.may_sleep.new.self i.closer i.roll i.sleepers c.args.at c.args.until _ c.self.view_is c.self.invariant (sym c.is_closed.ensures ∙ c.if-is_closed.false)
    (c.is_in_line.ensures.yes c.if-not-is_in_line.false) (sym c.sleeps_at.ensures ∙ c.if-sleeps_at.false) c.may_sleep.ensures.same (c.may_sleep.ensures.sleeps c.if-not-may_sleep.false).1)

pub returns-clause-asleep : goal.returns-clause-asleep
returns-clause-asleep g c =
    let i = c.self.inside in
    rw (c.put-2.ensures)
    (leader_falls i.leader c.may_sleep.new.self i.closer i.roll i.sleepers c.args.at c.args.until _ c.self.view_is c.self.invariant (sym c.is_closed.ensures ∙ c.if-is_closed.false)
    (c.is_in_line.ensures.yes c.if-not-is_in_line.false) (sym c.sleeps_at.ensures ∙ c.if-sleeps_at.false) c.may_sleep.ensures.same (c.is_first.ensures.yes c.if-not-is_first.false)
    (c.may_sleep.ensures.sleeps c.if-not-may_sleep.false))
