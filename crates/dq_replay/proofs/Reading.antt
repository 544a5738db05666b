-- What one more byte makes of the front of a line.
use Rattle.std.proofs.Common.{◌≡◌, ℕ, ◌+◌, ◌<◌, false, List, [], ◌∷◌, ◌++◌, length, arith}
use Rattle.std.specs.Prelude.{Option, ◌==◌}
use Rattle.std.specs.Io.KnownBytes.{Consumes}
use Rattle.std.proofs.lemmas.Bool.{ne_eqb}
use Rattle.std.proofs.lemmas.List.{length_push}
use Rattle.std.proofs.lemmas.List.Elements.{All-push}
use Rattle.dq_replay.specs.declared.line.TheConstants.{LINE_LIMIT}
use Rattle.dq_replay.specs.Lines.{HasNoEnd, TakesFront}
use Rattle.dq_replay.proofs.Known.{consumes_two}

pub no_end_push : (line : List ℕ) (b : ℕ) → HasNoEnd line → (b ≡ 10 → ⊥) → HasNoEnd (line ++ b ∷ [])
no_end_push line b no_end other = All-push (λ x. (x == 10) ≡ false) line b no_end (ne_eqb b 10 other)

pub takes_front : (had mid left : Option (List ℕ)) (line : List ℕ) (b : ℕ) → HasNoEnd line → length line < LINE_LIMIT → (b ≡ 10 → ⊥)
    → Consumes had mid line → Consumes mid left (b ∷ []) → TakesFront had left
takes_front had mid left line b no_end short other front byte =
    (line ++ b ∷ [], (no_end_push line b no_end other, omega (arith, length_push line b)), consumes_two had mid left line (b ∷ []) front byte)

pub takes_too_many : (had mid left : Option (List ℕ)) (line : List ℕ) (b : ℕ) → HasNoEnd line → length line ≡ LINE_LIMIT → (b ≡ 10 → ⊥)
    → Consumes had mid line → Consumes mid left (b ∷ []) → (front : List ℕ) × HasNoEnd front × (length front ≡ LINE_LIMIT + 1) × Consumes had left front
takes_too_many had mid left line b no_end full other front byte =
    (line ++ b ∷ [], no_end_push line b no_end other, omega (arith, length_push line b), consumes_two had mid left line (b ∷ []) front byte)
