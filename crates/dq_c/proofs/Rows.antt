-- Entries that came out stay in the row while it is filled on.
use Rattle.std.proofs.Common.{◌≡◌, ℕ, zero, suc, ◌+◌, ◌<◌, ◌≤◌, true, List, length, Result, refl, sym, subst, ◌∙◌, inl, inr, arith}
use Rattle.std.proofs.Math.ListN.{get_or, set}
use Rattle.std.proofs.lemmas.List.{get_or-set_same, get_or-set_other}
use Rattle.dq_core.specs.Calls.{Polls}
use Rattle.dq_core.specs.declared.errors.CoreError.{CoreError}
use Rattle.dq_core.specs.declared.outcomes.Turn.{Turn}
use Rattle.dq_c.specs.Answers.{tells}
use Rattle.dq_c.specs.Keys.{IsOutOf}
use Rattle.dq_c.specs.Many.{ComeOut, ComesOut, KeepsFrom, RestSays, FillSays, no_expired}
use Rattle.dq_c.specs.Owner.{Owned, SameQueue}
use Rattle.dq_c.specs.declared.answers.DqAnswer.{DqAnswer}
use Rattle.dq_c.specs.declared.keys.DqExpired.{DqExpired}

-- none came out at first
pub none_out : (b : Owned) (tick : ℕ) (row : List DqExpired) → ComeOut b tick 0 row b
unfolding ComeOut
none_out b tick row = refl

-- those before the place k are as they were
pub still_out : (b : Owned) (tick n k : ℕ) (row : List DqExpired) (out : DqExpired) (c : Owned)
    → n ≤ k → ComeOut b tick n row c → ComeOut b tick n (set row k out) c
unfolding ComeOut
still_out b tick zero k row out c few h = h
still_out b tick (suc n) k row out c few (m, before, (x, polled, is)) =
    let same : get_or (set row k out) n no_expired ≡ get_or row n no_expired = get_or-set_other row k n out no_expired (λ e. omega (arith, few, e)) in
    (m, still_out b tick n k row out m (omega (arith, few)) before, (x, polled, subst (λ (y : DqExpired). IsOutOf y x) (sym same) is))

-- one more came out, and stands at the place n
pub one_more : (b : Owned) (tick n : ℕ) (row : List DqExpired) (out : DqExpired) (m c : Owned)
    → n < length row → ComeOut b tick n row m → ComesOut m tick out c → ComeOut b tick (n + 1) (set row n out) c
unfolding ComeOut
one_more b tick n row out m c inside before (x, polled, is) =
    let there : get_or (set row n out) n no_expired ≡ out = get_or-set_same row n out no_expired inside in
    let after : ComeOut b tick (suc n) (set row n out) c = (m, still_out b tick n n row out m (omega arith) before, (x, polled, subst (λ (y : DqExpired). IsOutOf y x) (sym there) is)) in
    let next : suc n ≡ n + 1 = omega arith in
    subst (λ (k : ℕ). ComeOut b tick k (set row n out) c) next after

-- what was written at the place n lies before those from n + 1 on
pub keeps_on : (n : ℕ) (before row : List DqExpired) (out : DqExpired) → KeepsFrom n before row → KeepsFrom (n + 1) before (set row n out)
keeps_on n before row out h i past = get_or-set_other row n i out no_expired (λ e. omega (arith, past, e)) ∙ h i (omega (arith, past))

-- what no call changes, over two calls
pub same_on : (b m c : Owned) → SameQueue b m → SameQueue m c → SameQueue b c
same_on b m c s t = ((t.0.0 ∙ s.0.0, t.0.1 ∙ s.0.1, t.0.2 ∙ s.0.2), t.1 ∙ s.1)

-- the row has room, and the last poll took nothing out
pub rests : (b : Owned) (tick n : ℕ) (before row : List DqExpired) (m c : Owned) (r r' : Result (Turn ℕ) CoreError) (answer : DqAnswer)
    → SameQueue b m → ComeOut b tick n row m → KeepsFrom n before row → n < length row → SameQueue m c → Polls true m tick r c → r ≡ r' → RestSays n r' answer → FillSays b tick before row answer c
rests b tick n before row m c r r' answer same come keeps room after polled e says =
    let told = subst (λ (x : Result (Turn ℕ) CoreError). Polls true m tick x c) e polled in
    (same_on b m c same after, (n, m, come, keeps, inr (room, (r', told, says))))

-- the row is full
pub full : (b : Owned) (tick n : ℕ) (before row : List DqExpired) (m : Owned) (answer : DqAnswer)
    → SameQueue b m → ComeOut b tick n row m → KeepsFrom n before row → n ≡ length row → answer ≡ tells n → FillSays b tick before row answer m
full b tick n before row m answer same come keeps size says = (same, (n, m, come, keeps, inl (size, says, refl)))
