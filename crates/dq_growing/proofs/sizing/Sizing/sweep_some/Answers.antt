use Rattle.std.proofs.Common.{◌≡◌, length, rules}
use Rattle.dq_growing.proofs.Sizes.{slots_there, sweeps_next}
use Rattle.dq_growing.specs.Cores.{IsCoreAt}
use Rattle.dq_growing.specs.Sizing.{slots_at}
use Rattle.dq_growing.proofs.sizing.Sizing.sweep_some.Goals as goal

pub returns-clause-sweeps : goal.returns-clause-sweeps
returns-clause-sweeps g c =
    let many : c.count-cores.result ≡ length c.args.store.now.cores.cores = search rules in
    let at : IsCoreAt c.args.store.now.cores.cores c.args.self.now.sweep.place c.in-Some.core.now = search rules in
    let size : c.capacity-capacity.result ≡ slots_at c.args.store.now.cores c.args.self.now.sweep.place =
    slots_there c.args.store.now.cores c.args.self.now.sweep.place c.capacity-capacity.result c.in-Some.core.now at c.capacity-capacity.ensures in
    let swept = c.sweep_some-swept in
    sweeps_next _ c.args.store.now swept.new.self c.args.self.now.sweep c.go_on-2.new.self swept.result c.next_of.result c.count-cores.result c.capacity-capacity.result
    swept.ensures.sweeps c.next_of.ensures swept.ensures.notes many size c.go_on-2.ensures.goes_on c.go_on-2.ensures.left
