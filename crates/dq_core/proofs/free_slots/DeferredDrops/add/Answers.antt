use Rattle.std.proofs.Common.{◌≡◌, length, drop, ap, arith, ◌∙◌}
use Rattle.std.proofs.Math.Seq.{take-append_seam}
use Rattle.dq_core.proofs.DeferredBits.{bit_not_one, count_small, kept_added}
use Rattle.dq_core.proofs.free_slots.DeferredDrops.add.Goals as goal

pub overflow_add-self : goal.overflow_add-self
overflow_add-self g c = let small = count_small _ _ _ _ c.self.invariant in omega (arith, small)

pub invariant_of-self : goal.invariant_of-self
invariant_of-self g c =
    let whole : length c.set_bit.new.bits ≡ c.self.inside.bits.len = omega (arith, c.set_bit.auto.bits, c.as_mut_slice.ensures.len) in
    let same : length c.set_bit.new.bits ≡ length c.self.inside.bits.items = c.set_bit.auto.bits ∙ ap length c.as_mut_slice.ensures.value in
    let written = take-append_seam c.set_bit.new.bits (drop (length c.set_bit.new.bits) c.self.inside.bits.items) in
    let inside = ap (λ d. length d.bits) c.self.view_is in
    let was = rw c.deref.ensures.value at (bit_not_one _ _ _ c.has_bit.ensures c.if-has_bit.false) in
    rw (← whole, written)
    (kept_added c.self.inside.bits.items c.set_bit.new.bits c.self.inside.summary c.set_bit.new.summary c.self.inside.current c.self.inside.count c.args.index c.self.invariant same c.set_bit.ensures.summed (omega (arith, inside, c.requires)) was c.set_bit.ensures.set (rw c.as_mut_slice.ensures.value at c.set_bit.ensures.others))

pub returns : goal.returns
returns g c =
    let whole : length c.set_bit.new.bits ≡ c.self.inside.bits.len = omega (arith, c.set_bit.auto.bits, c.as_mut_slice.ensures.len) in
    let same : length c.set_bit.new.bits ≡ length c.self.inside.bits.items = c.set_bit.auto.bits ∙ ap length c.as_mut_slice.ensures.value in
    let written = take-append_seam c.set_bit.new.bits (drop (length c.set_bit.new.bits) c.self.inside.bits.items) in
    let was = rw c.deref.ensures.value at (bit_not_one _ _ _ c.has_bit.ensures c.if-has_bit.false) in
    rw (← c.self.view_is, ← whole, written)
    (c.set_bit.ensures.set, omega (arith, was), (same, rw c.as_mut_slice.ensures.value at c.set_bit.ensures.others))
