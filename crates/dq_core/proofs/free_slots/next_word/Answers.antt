use Rattle.std.proofs.Common.{◌≡◌, ◌+◌, ◌/◌, ◌%◌, ◌^◌, get_or, arith}
use Rattle.std.specs.Int.Width.{w64}
use Rattle.std.proofs.lemmas.Nat.Bits.{bit_at-trailing_zeros}
use Rattle.dq_core.proofs.FreeBits.{found_ahead, found_in, none_in, shifted_fits}
use Rattle.dq_core.proofs.free_slots.next_word.Goals as goal

pub returns-then-ahead-ne0 : goal.returns-then-ahead-ne0
returns-then-ahead-ne0 c =
    let word = get_or c.args.summary.now (c.args.from / 64) 0 / 2 ^ (c.args.from % 64) in
    let fits = shifted_fits (get_or c.args.summary.now (c.args.from / 64) 0) (c.args.from % 64) (omega arith) in
    let bit = bit_at-trailing_zeros w64 word (omega arith) fits in
    found_ahead c.args.summary.now c.args.from _ (omega arith) c.requires bit.1

pub returns-then-word-ne0 : goal.returns-then-word-ne0
returns-then-word-ne0 c =
    let next = (c.args.from / 64 + 1 + c.loop-turn.turn) % 16 in
    let bit = bit_at-trailing_zeros w64 (get_or c.args.summary.now next 0) (omega arith) (omega arith) in
    found_in c.args.summary.now next _ (omega arith) bit.0 bit.1

pub returns : goal.returns
returns c =
    let all : c.loop-turn.turn ≡ 16 = omega arith in
    none_in c.args.summary.now _ (rw all at c.loop-turn.invariant)
