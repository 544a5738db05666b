use Rattle.std.proofs.Common.{◌≡◌, ◌/◌, ◌+◌, replicate, arith, rules}
use Rattle.dq_core.proofs.DeferredBits.{kept_new}
use Rattle.dq_core.proofs.free_slots.DeferredDrops.new.Goals as goal

pub invariant_of-result : goal.invariant_of-result
invariant_of-result g c =
    let words = c.saturating_sub.result / 64 + 1 in
    let items : c.in_ok-bits.bits.items ≡ replicate words 0 = search rules in
    rw items (kept_new words (omega arith) (omega (arith, c.saturating_sub.ensures, c.requires)))
