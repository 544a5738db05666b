use Rattle.std.proofs.Common.{◌≡◌, ◌<◌, ap, sym, ◌∙◌, arith}
use Rattle.std.specs.List.{count_by}
use Rattle.dq_wheel.specs.Moves.{passed}
use Rattle.dq_core.specs.Slots.{is_held}
use Rattle.dq_core.proofs.queue.DelayCore.renew_as.Goals as goal

pub returns-clause-renews : goal.returns-clause-renews
returns-clause-renews g c =
    let linked = c.linked-linked.ensures in
    let none : count_by is_held c.self.inside.slots.rows ≡ 0 = let z = c.if-linked-gt0.false in omega arith in
    let higher : c.self.inside.shard < c.fresh.inside.shard = let z = c.if-fresh-self.false in omega arith in
    let noted : c.self.inside.noted ≡ c.args.self.now.noted = ap (λ b. b.noted) c.self.view_is in
    let after = c.replace.ensures.after in (
      sym (ap (λ b. count_by is_held b.slots.rows) c.self.view_is) ∙ none,
      rw (← c.self.view_is, ← c.fresh.view_is) higher,
      c.replace.ensures.value,
      ap (λ q. q.wheel.filing) after ∙ c.come_to.ensures.way ∙ ap (λ n. passed c.args.fresh.wheel.filing n) noted,
      after ∙ c.come_to.ensures.rest
          ∙ ap (λ n. record c.args.fresh { noted = n; wheel = c.come_to.new.self.wheel }) noted
          ∙ ap (λ w. record c.args.fresh { noted = c.args.self.now.noted; wheel = w }) (sym (ap (λ q. q.wheel) after)),
    )
