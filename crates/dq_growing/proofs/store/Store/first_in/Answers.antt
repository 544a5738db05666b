use Rattle.std.proofs.Common.{ap, ◌∙◌}
use Rattle.dq_growing.specs.Notes.{user_at}
use Rattle.dq_growing.proofs.Stored.{stored, first_none, first_some}
use Rattle.dq_growing.proofs.store.Store.first_in.Goals as goal

pub returns-in_default-peek : goal.returns-in_default-peek
returns-in_default-peek g c =
    let i = c.self.inside in
    rw (← c.self.view_is) (first_none (stored i.cores i.notes) c.args.place c.in-Some.core.now c.in-Some.ensures.found c.peek.result c.peek.ensures c.in_default-peek.is)

pub returns : goal.returns
returns g c =
    let i = c.self.inside in
    let named = c.user-user.ensures ∙ ap (λ p. user_at i.notes p) c.entry.ensures in
    rw (← c.self.view_is)
    (first_some (stored i.cores i.notes) c.args.place c.in-Some.core.now c.in-Some.ensures.found c.peek.result c.in-Some-peek.key c.user-user.result c.peek.ensures c.in-Some-peek.is named)
