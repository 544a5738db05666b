use Rattle.std.proofs.Common.{◌∙◌, sym, ap}
use Rattle.dq_core.specs.declared.words.CallError.TheVariants.{Unknown}
use Rattle.dq_ticks.specs.declared.words.Parts.{Parts}
use Rattle.dq_words.specs.Seats.{Sat}
use Rattle.dq_words.proofs.Answered.{by_word, refused_at_once}
use Rattle.dq_words.proofs.caller.Caller.look.Goals as goal

pub returns-then-seen-asked-clause-looks : goal.returns-then-seen-asked-clause-looks
returns-then-seen-asked-clause-looks g c =
    let own = ap (λ (s : Sat). s.view) (sym c.self.view_is) in
    let shown = ap (λ (p : Parts). p.stamp) c.unpack-seen.ensures in
    refused_at_once _ _ _ c.args.key.now _ _ _ _ own c.in-Some.ensures c.stamp-asked.ensures c.caller_load.ensures.step shown c.if-seen-asked.true

pub returns-then-seen-asked-clause-refused : goal.returns-then-seen-asked-clause-refused
returns-then-seen-asked-clause-refused g c = by_word _ c.args.key.now _ c.caller_load.new.self Unknown (returns-then-seen-asked-clause-looks g c)

pub returns-clause-table : goal.returns-clause-table
returns-clause-table g c = c.caller_load.ensures.table ∙ ap (λ (s : Sat). s.table) c.self.view_is

pub returns-then-seen-asked-clause-table : goal.returns-then-seen-asked-clause-table
returns-then-seen-asked-clause-table g c = c.caller_load.ensures.table ∙ ap (λ (s : Sat). s.table) c.self.view_is

pub returns-then-asked-seen-clause-table : goal.returns-then-asked-seen-clause-table
returns-then-asked-seen-clause-table g c = c.caller_load.ensures.table ∙ ap (λ (s : Sat). s.table) c.self.view_is
