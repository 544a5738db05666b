use Rattle.std.proofs.Common.{refl, arith, rules}
use Rattle.std.proofs.lemmas.List.{length-map, set-get_or}
use Rattle.dq_wheel.specs.declared.TheConstants.{LISTS}
use Rattle.dq_wheel.proofs.Links.{last_in}
use Rattle.dq_wheel.proofs.Taken.{put_last}
use Rattle.dq_wheel.proofs.lists.put_last.Goals as goal

pub returns-clause-taken : goal.returns-clause-taken
returns-clause-taken c =
    rw (c.append.ensures.next, c.append.ensures.prev, c.append.ensures.home)
    (put_last _ _ _ _ _ _ _ _ _ c.requires.taken c.requires.index_in c.requires.to_in c.requires.away refl c.row_at-row.ensures.next)

pub append-requires-clause-last_in : goal.append-requires-clause-last_in
append-requires-clause-last_in c =
    let t = c.requires.taken in
    let inside = last_in c.args.capacity LISTS _ _ _ t.rank t.circle c.args.to c.requires.to_in in
    omega (arith, inside, t.next_len, length-map c.args.rows.now (λ r. r.next))

pub returns-clause-filed : goal.returns-clause-filed
returns-clause-filed c = search (rules, set-get_or)

pub returns-clause-moves : goal.returns-clause-moves
returns-clause-moves c = search rules
