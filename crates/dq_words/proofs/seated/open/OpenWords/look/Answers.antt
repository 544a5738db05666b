use Rattle.std.proofs.Common.{ap}
use Rattle.dq_ticks.specs.declared.words.Parts.{Parts}
use Rattle.dq_words.proofs.OpenCalls.{not_asked}
use Rattle.dq_words.proofs.seated.open.OpenWords.look.Goals as goal

pub returns-then-seen-asked-clause-refused : goal.returns-then-seen-asked-clause-refused
returns-then-seen-asked-clause-refused g c =
    let shown = ap (λ (p : Parts). p.stamp) c.unpack-seen.ensures in
    not_asked c.args.self.now _ c.args.key.now _ _ _ c.in-Some.ensures c.stamp-asked.ensures c.pass-found.ensures.step c.pass-found.ensures.table c.pass-found.ensures.row
    c.pass-found.ensures.now _ shown c.if-seen-asked.true
