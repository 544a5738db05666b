use Rattle.std.proofs.Common.{Option, Ok, Err, sym, ◌∙◌, subst, inr}
use Rattle.dq_apps.specs.Refreshes.{Sets}
use Rattle.dq_apps.proofs.cache.TtlCache.get_or_insert_with.Goals as goal

pub returns-in-Ok-set-clause-gets : goal.returns-in-Ok-set-clause-gets
returns-in-Ok-set-clause-gets g c =
    let eq = g.K.PartialEq.eq in
    let b = c.args.self.now in
    let none = c.in_default.ensures in
    let set = c.in-Ok-set.ensures in
    let P : Option g.row.V.Denot → Type 0 = λ o. Sets eq b c.args.key c.in-Ok-clone.copy c.args.ttl c.args.now (Ok o) c.set.new.self in
    inr (sym none, c.make-value.ensures, (c.in-Ok-clone.copy, c.in-Ok-clone.ensures.cases, subst P (set.seen.1 ∙ sym none) set.sets))

pub returns-clause-gets : goal.returns-clause-gets
returns-clause-gets g c =
    let eq = g.K.PartialEq.eq in
    let b = c.args.self.now in
    let e = c.in-Err-set in
    let copy = c.in-Ok-clone.copy in
    let P : g.row.K.Denot → g.row.V.Denot → Type 0 = λ y z. Sets eq b c.args.key copy c.args.ttl c.args.now (Err (e.error, y, z)) c.set.new.self in
    let key_back = subst (λ y. P y e.field-0-2) e.ensures.refused.0 e.ensures.sets in
    (sym c.in_default.ensures, c.make-value.ensures, inr (copy, c.in-Ok-clone.ensures.cases, subst (λ z. P c.args.key z) e.ensures.refused.1 key_back))
