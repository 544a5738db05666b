use Rattle.std.proofs.Common.{◌≡◌, length, drop, ap, arith, ◌∙◌}
use Rattle.std.proofs.Math.Seq.{take-append_seam}
use Rattle.dq_wheel.specs.Walks.{bit_of}
use Rattle.dq_core.proofs.FreeBits.{bit_given}
use Rattle.dq_core.proofs.free_slots.FreeSlots.set.Goals as goal

pub invariant_of-self : goal.invariant_of-self
invariant_of-self g c =
    let whole : length c.set_bit.new.bits ≡ c.self.inside.bits.len = omega (arith, c.set_bit.auto.bits, c.as_mut_slice.ensures.len) in
    let same : length c.set_bit.new.bits ≡ length c.self.inside.bits.items = c.set_bit.auto.bits ∙ ap length c.as_mut_slice.ensures.value in
    let kept = c.self.invariant in
    let written = take-append_seam c.set_bit.new.bits (drop (length c.set_bit.new.bits) c.self.inside.bits.items) in
    rw (← whole, written)
    (record { size = omega (arith, same, kept.size); last = omega (arith, same, kept.last); stack = kept.stack; summed = c.set_bit.ensures.summed })

pub returns : goal.returns
returns g c =
    let whole : length c.set_bit.new.bits ≡ c.self.inside.bits.len = omega (arith, c.set_bit.auto.bits, c.as_mut_slice.ensures.len) in
    let same : length c.set_bit.new.bits ≡ length c.self.inside.bits.items = c.set_bit.auto.bits ∙ ap length c.as_mut_slice.ensures.value in
    let written = take-append_seam c.set_bit.new.bits (drop (length c.set_bit.new.bits) c.self.inside.bits.items) in
    let held = rw (← c.self.view_is) at c.requires.held in
    let was : bit_of c.self.inside.bits.items c.args.index ≡ 0 = omega (arith, held) in
    let others = rw c.as_mut_slice.ensures.value at c.set_bit.ensures.others in
    rw (← c.self.view_is, ← whole, written)
    (bit_given _ _ _ _ was c.set_bit.ensures.set others same)
