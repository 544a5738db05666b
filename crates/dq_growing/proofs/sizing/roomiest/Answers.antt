use Rattle.std.proofs.Common.{◌≡◌, ℕ, length, subst, rules}
use Rattle.dq_growing.specs.Sizing.{IsRoomiest}
use Rattle.dq_growing.proofs.Sizes.{roomiest_first, roomiest_next}
use Rattle.dq_growing.proofs.sizing.roomiest.Goals as goal

pub loop-at-init : goal.loop-at-init
loop-at-init g c = roomiest_first c.args.cores.now c.args.any_will_do

pub loop-at-preserved : goal.loop-at-preserved
loop-at-preserved g c =
    roomiest_next c.args.cores.now c.loop-at.at c.args.any_will_do c.loop-at.roomiest c.roomier-roomiest.result c.loop-at.invariant c.roomier-roomiest.ensures

pub returns : goal.returns
returns g c =
    let all : c.loop-at.at ≡ length c.args.cores.now.cores = search rules in
    let P : ℕ → Type 0 = λ n. IsRoomiest c.args.cores.now n c.args.any_will_do c.loop-at.roomiest in
    subst P all c.loop-at.invariant
