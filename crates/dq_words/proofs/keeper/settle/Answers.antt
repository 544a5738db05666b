use Rattle.dq_words.proofs.keeper.settle.Goals as goal

pub returns-then-found-old-clause-seat : goal.returns-then-found-old-clause-seat
returns-then-found-old-clause-seat g c = c.settle-found.ensures.seat

pub returns-then-is_live-clause-seat : goal.returns-then-is_live-clause-seat
returns-then-is_live-clause-seat g c = c.settle-found.ensures.seat

pub returns-else-is_live-clause-seat : goal.returns-else-is_live-clause-seat
returns-else-is_live-clause-seat g c = c.settle-found.ensures.seat

pub returns-then-found-old-clause-table : goal.returns-then-found-old-clause-table
returns-then-found-old-clause-table g c = c.settle-found.ensures.table

pub returns-then-is_live-clause-table : goal.returns-then-is_live-clause-table
returns-then-is_live-clause-table g c = c.settle-found.ensures.table

pub returns-else-is_live-clause-table : goal.returns-else-is_live-clause-table
returns-else-is_live-clause-table g c = c.settle-found.ensures.table
