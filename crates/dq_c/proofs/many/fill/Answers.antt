use Rattle.std.proofs.Common.{◌≡◌, ◌<◌, true, length, Ok, refl, sym, ap, ◌∙◌, subst, arith}
use Rattle.std.proofs.lemmas.List.{length-set}
use Rattle.dq_core.specs.Calls.{Polls}
use Rattle.dq_c.specs.Answers.{tells}
use Rattle.dq_c.proofs.Rows.{none_out, one_more, keeps_on, same_on, rests, full}
use Rattle.dq_c.proofs.many.fill.Goals as goal

pub loop-taken-init : goal.loop-taken-init
loop-taken-init c = (refl, refl, ((refl, refl, refl), refl), none_out c.args.core.now c.args.tick c.args.outs.now, λ i past. refl)

pub returns-in-Ok-Waiting-clause-fills : goal.returns-in-Ok-Waiting-clause-fills
returns-in-Ok-Waiting-clause-fills c =
    let l = c.loop-taken in
    rests c.args.core.now c.args.tick l.taken c.args.outs.now l.outs l.core c.poll.new.self c.poll.result _ c.with_two.result l.invariant.2 l.invariant.3 l.invariant.4 (omega (arith, c.loop-taken-test.true, l.invariant.0, l.invariant.1)) (c.poll.ensures.same, c.poll.ensures.origin) c.poll.ensures.polls
    (c.in-Ok-Waiting.is ∙ ap Ok c.in-Ok-Waiting.field-0-is) c.with_two.ensures

pub returns-in-Ok-Idle-clause-fills : goal.returns-in-Ok-Idle-clause-fills
returns-in-Ok-Idle-clause-fills c =
    let l = c.loop-taken in
    rests c.args.core.now c.args.tick l.taken c.args.outs.now l.outs l.core c.poll.new.self c.poll.result _ c.with_one.result l.invariant.2 l.invariant.3 l.invariant.4 (omega (arith, c.loop-taken-test.true, l.invariant.0, l.invariant.1)) (c.poll.ensures.same, c.poll.ensures.origin) c.poll.ensures.polls
    (c.in-Ok-Idle.is ∙ ap Ok c.in-Ok-Idle.field-0-is) c.with_one.ensures

pub returns-in-Err-clause-fills : goal.returns-in-Err-clause-fills
returns-in-Err-clause-fills c =
    let l = c.loop-taken in
    rests c.args.core.now c.args.tick l.taken c.args.outs.now l.outs l.core c.poll.new.self c.poll.result _ c.of_core.result l.invariant.2 l.invariant.3 l.invariant.4 (omega (arith, c.loop-taken-test.true, l.invariant.0, l.invariant.1)) (c.poll.ensures.same, c.poll.ensures.origin) c.poll.ensures.polls
    c.in-Err.is c.of_core.ensures

pub loop-taken-preserved : goal.loop-taken-preserved
loop-taken-preserved c =
    let l = c.loop-taken in
    let size = l.invariant.0 in
    let end = l.invariant.1 in
    let inside : l.taken < length l.outs = omega (arith, c.loop-taken-test.true, size, end) in
    let polled = subst (λ x. Polls true l.core c.args.tick x c.poll.new.self) (c.in-Ok-Out.is ∙ ap Ok c.in-Ok-Out.field-0-is) c.poll.ensures.polls in (
      length-set l.outs l.taken c.of.result ∙ size,
      end,
      same_on c.args.core.now l.core c.poll.new.self l.invariant.2 (c.poll.ensures.same, c.poll.ensures.origin),
      one_more c.args.core.now c.args.tick l.taken l.outs c.of.result l.core c.poll.new.self inside l.invariant.3 (c.in-Ok-Out.entry, polled, c.of.ensures),
      keeps_on l.taken c.args.outs.now l.outs c.of.result l.invariant.4,
    )

pub returns-clause-fills : goal.returns-clause-fills
returns-clause-fills c =
    let l = c.loop-taken in
    let size = l.invariant.0 in
    let past = c.loop-taken-test.false in
    let few = l.auto.taken-end in
    let all : l.taken ≡ length l.outs = omega (arith, past, few, size) in
    full c.args.core.now c.args.tick l.taken c.args.outs.now l.outs l.core c.told.result l.invariant.2 l.invariant.3 l.invariant.4 all (c.told.ensures ∙ ap tells (sym all))
