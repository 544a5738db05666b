-- What a call took out has ended, since no birth is ahead of its slot in any run and the slot is empty; so has what it cancelled.
use Rattle.std.proofs.Common.{◌≡◌, ℕ, ◌≤◌, Bool, List, [], ◌∷◌, Some, None, Ok, sym, ap, ◌∙◌, subst, arith}
use Rattle.dq_ticks.specs.declared.keys.Key.{Key}
use Rattle.dq_ticks.specs.declared.keys.EntryId.{EntryId}
use Rattle.dq_core.specs.declared.outcomes.Removed.{Removed}
use Rattle.dq_core.specs.declared.outcomes.Expired.{Expired}
use Rattle.dq_core.specs.declared.outcomes.Turn.TheVariants.{Out}
use Rattle.dq_core.specs.declared.outcomes.Piece.TheVariants.{Answer}
use Rattle.dq_core.specs.Machine.{Entry, TableRow, Machine, Event, Note, table_at, put, with_due, Has, Run}
use Rattle.dq_core.specs.Core.{Core, machine, IsLawfulCore}
use Rattle.dq_core.specs.Calls.{Removes, IsFoundCancelled, Polls, noting}
use Rattle.dq_core.specs.KeyCalls.{Cancels}
use Rattle.dq_core.specs.Pieces.{PollsSome}
use Rattle.dq_core.specs.Runs.{HasEnded}
use Rattle.dq_core.specs.RunsOfCalls.{WhatLeftHasEnded}
use Rattle.dq_core.proofs.RunsMoves.{Moves, Alone, Begun, Again, Taken, step_moves, put_same}
use Rattle.dq_core.proofs.RunsKept.{some_same}
use Rattle.dq_core.proofs.RunsOfCalls.{no_birth_is_ahead}

-- what the slot has was born at a stamp that it has had
abbrev pub BirthHad : {T : Type 0} → TableRow T → Type 0
BirthHad {T} a = (e : Entry T) → a.entry ≡ Some e → e.born ≤ a.stamp

had_on : {T : Type 0} (a z : TableRow T) (ends : ℕ → ℕ) → Moves a z ends → BirthHad a → BirthHad z
had_on a z ends (Alone same none) had e linked = subst (λ x. BirthHad x) (sym same) had e linked
had_on a z ends (Begun v d empty is none) had e linked =
    let born = ap (λ x. x.born) (some_same _ e (sym (ap (λ x. x.entry) is) ∙ linked)) in
    let at = ap (λ x. x.stamp) is in
    omega (arith, born, at)
had_on a z ends (Again e s d linked above is lives none) had f linked' =
    let born = ap (λ x. x.born) (some_same _ f (sym (ap (λ x. x.entry) is) ∙ linked')) in
    let at = ap (λ x. x.stamp) is in
    let before = had e linked in
    omega (arith, born, at, above, before)
had_on a z ends (Taken e linked is left) had f linked' = let gone = ap (λ x. x.entry) is in cc

had_run : {T : Type 0} (last : ℕ) (m n : Machine T) (es : List (Event T)) → Run last m es n → (i : ℕ) → BirthHad (table_at m i) → BirthHad (table_at n i)
had_run last m n [] r i had = subst (λ x. BirthHad (table_at x i)) (sym r) had
had_run last m n (e ∷ es) (k, step, r) i had = had_run last k n es r i (had_on _ _ _ (step_moves last m k e step i) had)

-- an entry whose slot was emptied has ended
emptied : {T : Type 0} (m n : Machine T) (i : ℕ) (e : Entry T) → BirthHad (table_at m i) → Has m i e → n ≡ put m i (table_at m i).stamp None → HasEnded n i e.born
emptied m n i e had has is =
    let here = put_same m n i _ _ has.0 is in (
      let at = ap (λ x. x.stamp) here in let before = had e has.1 in omega (arith, at, before),
      λ live. let gone = ap (λ x. x.entry) here in let there = live.2 in cc,
    )

module _ {T W : Type 0} (shared : Bool) (b c : Core T W) (law : IsLawfulCore b) where
  had : (i : ℕ) → BirthHad (table_at (machine b) i)
  had i e is = no_birth_is_ahead T W b law i e is

  removed : (id : EntryId) (x : Removed T) → Removes shared b id (Ok x) c → HasEnded (machine c) id.index id.born
  removed id x h =
      let m = h.run.0 in
      let kept = had_run b.slots.last_stamp (machine b) m h.run.1.0 h.run.1.2 id.index (had id.index) in
      emptied m (machine c) id.index (record { born = id.born; value = x.value; due = Some x.deadline }) kept h.run.3 h.run.2.5

  came_out : (tick : ℕ) (x : Expired T) → Polls shared b tick (Ok (Out x)) c → HasEnded (machine c) x.key.entry.index x.key.entry.born
  came_out tick x (accepted, note, answered, noted) =
      let m = answered.run.0 in
      let i = x.key.entry.index in
      let way = answered.run.1 in
      let kept = had_run b.slots.last_stamp (machine b) m (Note tick ∷ way.0) (machine (noting b tick), note, way.2) i (had i) in
      let left = answered.run.2.0 in
      emptied m (machine c) i (record { born = x.key.entry.born; value = x.value; due = Some x.deadline }) kept left.1 left.0.7

  came_out_of_a_piece : (tick most : ℕ) (x : Expired T) → PollsSome shared b tick most (Ok (Answer (Out x))) c → HasEnded (machine c) x.key.entry.index x.key.entry.born
  came_out_of_a_piece tick most x (accepted, note, answered, noted) =
      let m = answered.run.0 in
      let i = x.key.entry.index in
      let way = answered.run.1 in
      let kept = had_run b.slots.last_stamp (machine b) m (Note tick ∷ way.0) (machine (noting b tick), note, way.2) i (had i) in
      let left = answered.run.2.0 in
      emptied m (machine c) i (record { born = x.key.entry.born; value = x.value; due = Some x.deadline }) kept left.1 left.0.7

  given_up : (k : Key) (d born : ℕ) → Cancels b k (Ok d) c → born ≤ k.stamp → HasEnded (machine c) k.entry.index born
  given_up k d born h before =
      let e = h.step.0 in
      let here = put_same (machine b) (machine c) k.entry.index k.stamp (with_due e None) h.step.2.0 h.step.5 in (
        let at = ap (λ x. x.stamp) here in omega (arith, at, before),
        λ live.
            let same = some_same _ live.0 (sym (ap (λ x. x.entry) here) ∙ live.2) in
            let due = ap (λ x. x.due) same ∙ live.4 in
            cc,
      )

  found : (id : EntryId) → IsFoundCancelled shared b id c → HasEnded (machine c) id.index id.born
  found id h =
      let e = h.entry.0 in
      let callers = h.looked.callers in
      let kept = had_run b.slots.last_stamp (machine b) (machine c) callers.0 callers.2 id.index (had id.index) in (
        let before = kept e h.entry.1.1 in let born = h.entry.2 in omega (arith, before, born),
        λ live.
            let same = some_same e live.0 (sym h.entry.1.1 ∙ live.2) in
            let due = sym h.entry.3 ∙ ap (λ x. x.due) same ∙ live.4 in
            cc,
      )

pub what_left_has_ended : (T W : Type 0) → WhatLeftHasEnded T W
what_left_has_ended T W shared b c law = record {
  remove = removed shared b c law;
  poll = came_out shared b c law;
  poll_some = came_out_of_a_piece shared b c law;
  cancel = given_up shared b c law;
  found = found shared b c law;
}
