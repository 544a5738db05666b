use Rattle.std.proofs.Common.{◌≡◌, length, drop, ap, arith, rules, refl, inl, sym, ◌∙◌}
use Rattle.std.proofs.Math.Seq.{take-append_seam}
use Rattle.dq_core.proofs.FreeBits.{bit_given}
use Rattle.dq_core.proofs.free_slots.FreeSlots.take.Goals as goal

pub invariant_of-self-2 : goal.invariant_of-self-2
invariant_of-self-2 g c =
    let whole : length c.take_bit.new.bits ≡ c.self.inside.bits.len = omega (arith, c.take_bit.auto.bits, c.as_mut_slice.ensures.len) in
    let same : length c.take_bit.new.bits ≡ length c.self.inside.bits.items = c.take_bit.auto.bits ∙ ap length c.as_mut_slice.ensures.value in
    let read = ap length c.deref.ensures.value in
    let kept = c.self.invariant in
    let word = c.in-Some-filled_word.ensures.0 in
    let written = take-append_seam c.take_bit.new.bits (drop (length c.take_bit.new.bits) c.self.inside.bits.items) in
    rw (← whole, written) (record { size = omega arith; last = omega arith; stack = omega arith; summed = c.take_bit.ensures.summed })

pub returns : goal.returns
returns g c =
    let whole : length c.take_bit.new.bits ≡ c.self.inside.bits.len = omega (arith, c.take_bit.auto.bits, c.as_mut_slice.ensures.len) in
    let same : length c.take_bit.new.bits ≡ length c.self.inside.bits.items = c.take_bit.auto.bits ∙ ap length c.as_mut_slice.ensures.value in
    let written = take-append_seam c.take_bit.new.bits (drop (length c.take_bit.new.bits) c.self.inside.bits.items) in
    let was = rw c.as_mut_slice.ensures.value at c.take_bit.ensures.was_set in
    let others = rw c.as_mut_slice.ensures.value at c.take_bit.ensures.others in
    let popped : c.pop.new.self.items ≡ c.self.inside.recent.items = search rules in
    rw (← c.self.view_is, ← whole, written, popped)
    (inl (bit_given _ _ _ _ c.take_bit.ensures.cleared was (λ j d. sym (others j d)) (sym same), refl))
