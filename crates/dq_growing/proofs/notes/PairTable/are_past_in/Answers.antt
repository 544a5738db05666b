use Rattle.std.proofs.Common.{ℕ}
use Rattle.dq_ticks.specs.declared.keys.EntryId.{EntryId}
use Rattle.dq_growing.specs.Notes.{ArePastBy, numbers_of}
use Rattle.dq_growing.proofs.Pairing.{found_among, among_found, first_among, one_less, one_more, none_left}
use Rattle.dq_growing.proofs.notes.PairTable.are_past_in.Goals as goal

pub loop-numbers-preserved : goal.loop-numbers-preserved
loop-numbers-preserved g c =
    let Q : ℕ × ℕ × ℕ → Type 0 = λ n. ArePastBy n c.args.core.now in
    let x = c.in-Some.numbers.now in
    let steps = c.in-Some.ensures.steps in (
      (λ k among. one_less Q k x c.next.new.self c.loop-numbers.numbers-iterator steps (c.is_past_in.ensures.yes c.if-not-is_past_in.false) (c.loop-numbers.invariant.0 k among)),
      (λ k among. c.loop-numbers.invariant.1 k (one_more k x c.next.new.self c.loop-numbers.numbers-iterator steps among)),
    )

pub returns-then-not-is_past_in-clause-no : goal.returns-then-not-is_past_in-clause-no
returns-then-not-is_past_in-clause-no g c is all =
    let x = c.in-Some.numbers.now in
    let id : EntryId = record { shard = x.0; index = x.1; born = x.2 } in
    let among = c.loop-numbers.invariant.1 x (first_among x c.next.new.self c.loop-numbers.numbers-iterator c.in-Some.ensures.steps) in
    let found = among_found c.args.self.now.entries x among in
    c.is_past_in.ensures.no c.if-not-is_past_in.true (all id found.0 found.1)

pub returns-clause-yes : goal.returns-clause-yes
returns-clause-yes g c _ k o found =
    let Q : ℕ × ℕ × ℕ → Type 0 = λ n. ArePastBy n c.args.core.now in
    none_left Q (numbers_of k) c.loop-numbers.numbers-iterator c.in-None.ensures.steps.0
    (c.loop-numbers.invariant.0 (numbers_of k) (found_among c.args.self.now.entries (numbers_of k) o found))
