use Rattle.std.proofs.Common.{◌≡◌, ◌<◌, ℕ, length, sym, subst, rules}
use Rattle.dq_growing.specs.Polls.{TellsLeastBelow}
use Rattle.dq_growing.proofs.Leasts.{joins}
use Rattle.dq_growing.proofs.cores.Cores.least.Goals as goal

pub loop-at-preserved : goal.loop-at-preserved
loop-at-preserved g c =
    let inside : c.loop-at.at < length c.self.inside.cores.items = search rules in
    let w = c.wake_of.ensures in
    rw (c.joined-least.ensures, ← c.self.view_is)
    (joins c.self.inside.cores.items c.loop-at.at c.index.result.now (inside, sym c.index.ensures) c.loop-at.least c.wake_of.result
    (rw (← c.self.view_is) at c.loop-at.invariant) w.tells w.bounds)

pub returns : goal.returns
returns g c =
    let all : c.loop-at.at ≡ length c.self.inside.cores.items = search rules in
    let P : ℕ → Type 0 = λ n. TellsLeastBelow c.self.inside.cores.items n c.loop-at.least in
    rw (← c.self.view_is) (subst P all (rw (← c.self.view_is) at c.loop-at.invariant))
