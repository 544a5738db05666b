use Rattle.std.proofs.Common.{◌≡◌, length, drop, ap, arith, ◌∙◌}
use Rattle.std.proofs.Math.Seq.{take-append_seam}
use Rattle.std.proofs.Common.{refl}
use Rattle.dq_core.proofs.DeferredBits.{count_some, count_none, kept_removed}
use Rattle.dq_core.proofs.FreeBits.{none_free}
use Rattle.dq_core.proofs.free_slots.DeferredDrops.take.Goals as goal

pub returns-in_default : goal.returns-in_default
returns-in_default g c =
    let none = rw c.deref.ensures.value at c.in_default.ensures in
    (rw (← c.self.view_is) (count_none _ _ _ _ c.self.invariant none), rw (← c.self.view_is) (none_free _ none), refl)

pub overflow_sub-self : goal.overflow_sub-self
overflow_sub-self g c =
    let was = rw c.as_mut_slice.ensures.value at c.take_bit-index.ensures.was_set in
    let room = rw c.as_mut_slice.ensures.value at c.take_bit-index.ensures.room in
    count_some _ _ _ _ c.take_bit-index.result c.self.invariant room was

pub invariant_of-self : goal.invariant_of-self
invariant_of-self g c =
    let whole : length c.take_bit-index.new.bits ≡ c.self.inside.bits.len = omega (arith, c.take_bit-index.auto.bits, c.as_mut_slice.ensures.len) in
    let same : length c.take_bit-index.new.bits ≡ length c.self.inside.bits.items = c.take_bit-index.auto.bits ∙ ap length c.as_mut_slice.ensures.value in
    let written = take-append_seam c.take_bit-index.new.bits (drop (length c.take_bit-index.new.bits) c.self.inside.bits.items) in
    let word = c.in-Some.ensures.0 in
    let was = rw c.as_mut_slice.ensures.value at c.take_bit-index.ensures.was_set in
    let room = rw c.as_mut_slice.ensures.value at c.take_bit-index.ensures.room in
    rw (← whole, written)
    (kept_removed c.self.inside.bits.items c.take_bit-index.new.bits c.self.inside.summary c.take_bit-index.new.summary c.self.inside.current c.in-Some.word c.self.inside.count c.take_bit-index.result c.self.invariant same (rw c.deref.ensures.value at word) c.take_bit-index.ensures.summed room was c.take_bit-index.ensures.cleared (rw c.as_mut_slice.ensures.value at c.take_bit-index.ensures.others))

pub returns : goal.returns
returns g c =
    let whole : length c.take_bit-index.new.bits ≡ c.self.inside.bits.len = omega (arith, c.take_bit-index.auto.bits, c.as_mut_slice.ensures.len) in
    let same : length c.take_bit-index.new.bits ≡ length c.self.inside.bits.items = c.take_bit-index.auto.bits ∙ ap length c.as_mut_slice.ensures.value in
    let written = take-append_seam c.take_bit-index.new.bits (drop (length c.take_bit-index.new.bits) c.self.inside.bits.items) in
    let was = rw c.as_mut_slice.ensures.value at c.take_bit-index.ensures.was_set in
    let room = rw c.as_mut_slice.ensures.value at c.take_bit-index.ensures.room in
    let some = count_some _ _ _ _ c.take_bit-index.result c.self.invariant room was in
    rw (← c.self.view_is, ← whole, written)
    (room, was, omega (arith, some), c.take_bit-index.ensures.cleared, (same, rw c.as_mut_slice.ensures.value at c.take_bit-index.ensures.others))
