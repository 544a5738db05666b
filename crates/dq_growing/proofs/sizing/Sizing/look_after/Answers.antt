use Rattle.std.proofs.Common.{◌≡◌, refl, inl, inr, rules}
use Rattle.dq_growing.specs.declared.TheConstants.{NEVER}
use Rattle.dq_growing.proofs.Sizes.{looks_on, looks_work}
use Rattle.dq_growing.proofs.sizing.Sizing.look_after.Goals as goal

pub returns-then-is_to_shrink : goal.returns-then-is_to_shrink
returns-then-is_to_shrink g c =
    looks_work c.args.self.now c.note_work.new.self c.args.store.now _ c.cores.ensures (c.is_to_shrink.ensures.yes c.if-is_to_shrink.true) c.note_work.ensures

pub returns-then-self : goal.returns-then-self
returns-then-self g c =
    let quiet : c.args.self.now.quiet_since ≡ NEVER = search rules in
    looks_on c.args.self.now _ c.args.store.now _ c.cores.ensures (c.is_to_shrink.ensures.no c.if-is_to_shrink.false) (inr (inl quiet, refl))

pub returns-then-has_straggler : goal.returns-then-has_straggler
returns-then-has_straggler g c =
    looks_on c.args.self.now _ c.args.store.now _ c.cores.ensures (c.is_to_shrink.ensures.no c.if-is_to_shrink.false)
    (inl (c.has_straggler.ensures.yes c.if-has_straggler.true, refl))

pub returns-else-has_straggler : goal.returns-else-has_straggler
returns-else-has_straggler g c =
    looks_on c.args.self.now _ c.args.store.now _ c.cores.ensures (c.is_to_shrink.ensures.no c.if-is_to_shrink.false)
    (inr (inr (c.has_straggler.ensures.no c.if-has_straggler.false), refl))
