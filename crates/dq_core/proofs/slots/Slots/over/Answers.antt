use Rattle.std.proofs.Common.{◌≡◌, ◌<◌, ◌∙◌, ◌++◌, List, [], ◌∷◌, length, ap, sym, subst, arith, rules, refl}
use Rattle.dq_core.specs.Cells.{rows_of}
use Rattle.dq_core.specs.Slots.{Row}
use Rattle.dq_core.proofs.Folds.{IsNewRow, new_none, new_next, new_free, new_worn, new_kept, rows_push, rows_size, row_for, looked}
use Rattle.dq_core.proofs.CellRows.{none_deferred}
use Rattle.dq_core.proofs.DeferredCells.{none_behind, none_noted, values_at}
use Rattle.dq_core.proofs.slots.Slots.over.Goals.{then-stamp-last, else-stamp-last}
use Rattle.dq_core.proofs.slots.Slots.over.Goals as goal

pub loop-index-init : goal.loop-index-init
loop-index-init g c =
    let P : List (Row g.row.T.Denot) → Type 0 = λ rs. IsNewRow c.args.last (g.W.Words.known c.args.words.now) 0 rs c.in_ok-free.free 0 in
    record {
      known = search rules;
      counts = search rules;
      origin = search rules;
      begun = λ i s d x. x;
      rows = subst P (sym (ap rows_of c.in_ok-cells.ensures.items)) (new_none g.row.T.Denot c.args.last (g.W.Words.known c.args.words.now) c.in_ok-free.free c.in_ok-free.ensures.1);
      few = omega arith;
      end = c.rows-capacity.ensures;
      deferred = λ i. rw c.in_ok-cells.ensures.items refl;
      cells_room = omega (arith, c.in_ok-cells.ensures.capacity);
      room = c.in_ok-free.ensures.0;
    }

pub set-requires-clause-held : goal.set-requires-clause-held
set-requires-clause-held g c = new_next c.loop-index.invariant.rows

pub loop-index-preserved : goal.loop-index-preserved
loop-index-preserved g c =
    let i = c.loop-index.invariant in
    let end = i.end in
    let n = c.loop-index.index in
    let few = i.few in
    let e = c.look-stamp.ensures in
    let known = g.W.Words.known c.args.words.now in
    let inside : n < length known = omega (arith, end, c.loop-index-test.true) in
    let l = looked _ known _ _ n c.look-stamp.result i.known (c.requires.over n inside).0 e.learned e.unused e.known in
    let s = c.look-stamp.result.stamp in
    let is : s ≡ _ = ap (λ p. p.stamp) l.1 in
    let cells : rows_of c.push_reserved.new.self.items ≡ rows_of c.loop-index.cells.items ++ row_for s ∷ [] =
    ap rows_of (c.push_reserved.ensures.items ∙ ap (λ x. c.loop-index.cells.items ++ x ∷ []) c.at.ensures) ∙ rows_push c.loop-index.cells.items s in
    record {
      known = l.0;
      counts = e.counts ∙ i.counts;
      origin = e.origin ∙ i.origin;
      begun = λ a b d x. e.begun a b d (i.begun a b d x);
      rows = elim c.if-stamp-last.branch [
        | then-stamp-last w ↦ rw (w.free-is, w.free_count-is, cells) (new_free i.rows w.set.new.self s is w.if-stamp-last.true w.set.ensures)
        | else-stamp-last w ↦ rw (w.free-is, w.free_count-is, cells) (new_worn i.rows s is (let over = w.if-stamp-last.false in omega (arith, over)))
      ];
      few = elim c.if-stamp-last.branch [
        | then-stamp-last w ↦ omega (arith, few, w.free_count-is)
        | else-stamp-last w ↦ omega (arith, few, w.free_count-is)
      ];
      end = end;
      deferred = rw (c.push_reserved.ensures.items, c.at.ensures) (none_behind c.loop-index.cells.items _ i.deferred refl);
      cells_room = search rules;
      room = elim c.if-stamp-last.branch [
        | then-stamp-last w ↦ rw w.free-is (omega (arith, i.room, w.set.ensures.room))
        | else-stamp-last w ↦ rw w.free-is i.room
      ];
    }

pub invariant_of-result : goal.invariant_of-result
invariant_of-result g c =
    let i = c.loop-index.invariant in
    let end = i.end in
    let size = i.rows.size in
    let cells = rows_size c.loop-index.cells.items in
    let small = c.requires.size in
    let all : c.loop-index.index ≡ c.rows-capacity.result = omega arith in
    (new_kept i.rows c.in_ok-deferred.deferred (all ∙ end) c.requires.used c.requires.bound (omega arith) c.requires.over c.in_ok-deferred.ensures.2 (omega (arith, all, i.room)), omega (arith, size, cells, all, c.in_ok-deferred.ensures.0), omega (arith, size, cells, all, c.in_ok-deferred_worn.ensures.0), none_deferred c.args.last c.loop-index.cells.items _ _ c.in_ok-deferred.ensures.2 c.in_ok-deferred_worn.ensures.2, none_noted c.needs_drop.result c.loop-index.cells.items _ _ i.deferred c.in_ok-deferred.ensures.2 c.in_ok-deferred_worn.ensures.2)

pub returns-clause-none : goal.returns-clause-none
returns-clause-none g c = λ i. values_at c.loop-index.cells.items i ∙ c.loop-index.invariant.deferred i
