use Rattle.std.proofs.Common.{◌≡◌, ◌≢◌, ◌⊎◌, ◌∙◌, ℕ, Bool, false, true≢false, List, Some, set, refl, sym, subst, inl, inr, arith}
use Rattle.std.proofs.lemmas.List.{get_or-set_other, length-set}
use Rattle.dq_bell.specs.Seats.{LeaderSeat, CloserSeat, AtSameBell}
use Rattle.dq_bell.specs.Rolls.{RollState, first_in}
use Rattle.dq_bell.specs.Lines.{IsLine, IsAwakeAt, HasLooked}
use Rattle.dq_bell.proofs.Lined.{awake_there}
use Rattle.dq_bell.proofs.line.Line.rise.Goals as goal

alike_or_not : (x y : ℕ) → (x ≡ y) ⊎ (x ≢ y)
alike_or_not x y = grind arith

awake_at : (s : List Bool) (f j : ℕ) → j ≡ f → IsAwakeAt (set s f false) j
awake_at s f j e = let P : ℕ → Type 0 = λ a. IsAwakeAt (set s f false) a in subst P (sym e) (awake_there s f)

-- one is awake from now on; if another one leads, it has looked as before
risen_line : (l l2 : LeaderSeat) (c : CloserSeat) (r : RollState) (s : List Bool) (f : ℕ)
    → IsLine l c r s → AtSameBell l l2 → ((j : ℕ) → first_in r ≡ Some j → j ≢ f → HasLooked l → HasLooked l2)
    → IsLine l2 c r (set s f false)
risen_line l l2 c r s f line bell looks = record {
  in_line = λ j h. elim (alike_or_not j f) [
    | inl e ↦ absurd (true≢false (sym h ∙ awake_at s f j e))
    | inr n ↦ line.in_line j (sym (get_or-set_other s f j false false n) ∙ h)
  ];
  led = λ j first h. elim (alike_or_not j f) [
    | inl e ↦ absurd (true≢false (sym h ∙ awake_at s f j e))
    | inr n ↦ looks j first n (line.led j first (sym (get_or-set_other s f j false false n) ∙ h))
  ];
  room = λ o. (let a = line.room o in let d = length-set s f false in omega arith);
  bell = (line.bell.0 ∙ sym bell.0, line.bell.1 ∙ sym bell.1, line.bell.2);
}

pub returns-then-not-is_first-clause-awake : goal.returns-then-not-is_first-clause-awake
returns-then-not-is_first-clause-awake g c =
    let s = c.self.inside.sleepers in
    rw (← c.self.view_is, c.take.ensures.sleeps)
    (record {
      stays = record { bell = (refl, refl, refl); closer = refl; roll = refl };
      awake = awake_there s c.args.at;
      others = λ j n. get_or-set_other s c.args.at j false false n;
    })

pub returns-then-not-is_first-clause-told : goal.returns-then-not-is_first-clause-told
returns-then-not-is_first-clause-told g c =
    rw (← c.self.view_is) (λ e. absurd (c.is_first.ensures.no c.if-not-is_first.true e))

pub returns-then-not-is_first-clause-follows : goal.returns-then-not-is_first-clause-follows
returns-then-not-is_first-clause-follows g c = rw (← c.self.view_is) (λ n. refl)

pub returns-then-not-is_first-clause-own : goal.returns-then-not-is_first-clause-own
returns-then-not-is_first-clause-own g c = rw (← c.self.view_is) c.take.ensures.taken

pub invariant_of-self : goal.invariant_of-self
invariant_of-self g c =
    let i = c.self.inside in
    rw (c.take.ensures.sleeps)
    (risen_line i.leader i.leader i.closer i.roll i.sleepers c.args.at c.self.invariant (refl, refl, refl) (λ j first n h. h))

pub returns-clause-awake : goal.returns-clause-awake
returns-clause-awake g c =
    let s = c.self.inside.sleepers in
    rw (← c.self.view_is, c.take-2.ensures.sleeps)
    (record {
      stays = record { bell = c.rise.ensures.same; closer = refl; roll = refl };
      awake = awake_there s c.args.at;
      others = λ j n. get_or-set_other s c.args.at j false false n;
    })

pub returns-clause-told : goal.returns-clause-told
returns-clause-told g c = λ e. c.rise.ensures.awake

pub returns-clause-follows : goal.returns-clause-follows
returns-clause-follows g c = rw (← c.self.view_is) (λ n. absurd (n (c.is_first.ensures.yes c.if-not-is_first.false)))

pub returns-clause-own : goal.returns-clause-own
returns-clause-own g c = rw (← c.self.view_is) c.take-2.ensures.taken
