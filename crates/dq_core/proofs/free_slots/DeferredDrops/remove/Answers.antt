use Rattle.std.proofs.Common.{◌≡◌, length, drop, ap, arith, ◌∙◌}
use Rattle.std.proofs.Math.Seq.{take-append_seam}
use Rattle.dq_core.proofs.DeferredBits.{count_some, kept_removed}
use Rattle.dq_core.proofs.free_slots.DeferredDrops.remove.Goals as goal

pub overflow_sub-self : goal.overflow_sub-self
overflow_sub-self g c =
    let inside = ap (λ d. length d.bits) c.self.view_is in
    let was = rw c.deref.ensures.value at (c.has_bit.ensures.0 c.if-not-has_bit.false) in
    count_some _ _ _ _ c.args.index c.self.invariant (omega (arith, inside, c.requires)) was

pub invariant_of-self : goal.invariant_of-self
invariant_of-self g c =
    let whole : length c.clear_bit.new.bits ≡ c.self.inside.bits.len = omega (arith, c.clear_bit.auto.bits, c.as_mut_slice.ensures.len) in
    let same : length c.clear_bit.new.bits ≡ length c.self.inside.bits.items = c.clear_bit.auto.bits ∙ ap length c.as_mut_slice.ensures.value in
    let written = take-append_seam c.clear_bit.new.bits (drop (length c.clear_bit.new.bits) c.self.inside.bits.items) in
    let inside = ap (λ d. length d.bits) c.self.view_is in
    let was = rw c.deref.ensures.value at (c.has_bit.ensures.0 c.if-not-has_bit.false) in
    let kept = c.self.invariant in
    rw (← whole, written)
    (kept_removed c.self.inside.bits.items c.clear_bit.new.bits c.self.inside.summary c.clear_bit.new.summary c.self.inside.current c.self.inside.current c.self.inside.count c.args.index kept same kept.last c.clear_bit.ensures.summed (omega (arith, inside, c.requires)) was c.clear_bit.ensures.cleared (rw c.as_mut_slice.ensures.value at c.clear_bit.ensures.others))

pub returns-clause-removed : goal.returns-clause-removed
returns-clause-removed g c =
    let whole : length c.clear_bit.new.bits ≡ c.self.inside.bits.len = omega (arith, c.clear_bit.auto.bits, c.as_mut_slice.ensures.len) in
    let same : length c.clear_bit.new.bits ≡ length c.self.inside.bits.items = c.clear_bit.auto.bits ∙ ap length c.as_mut_slice.ensures.value in
    let written = take-append_seam c.clear_bit.new.bits (drop (length c.clear_bit.new.bits) c.self.inside.bits.items) in
    let inside = ap (λ d. length d.bits) c.self.view_is in
    let was = rw c.deref.ensures.value at (c.has_bit.ensures.0 c.if-not-has_bit.false) in
    let some = count_some _ _ _ _ c.args.index c.self.invariant (omega (arith, inside, c.requires)) was in
    rw (← c.self.view_is, ← whole, written)
    (c.clear_bit.ensures.cleared, omega (arith, some, was), (same, rw c.as_mut_slice.ensures.value at c.clear_bit.ensures.others))
