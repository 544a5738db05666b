-- Ways of a queue's wheel, one after another.
use Rattle.std.proofs.Common.{◌≡◌, ◌≢◌, ℕ, ◌<◌, ◌≤◌, Bool, true, false, List, [], ◌∷◌, ◌++◌, Some, MatchBool, refl, subst, inl, inr, ◌⊎◌}
use Rattle.dq_wheel.specs.State.{Filing, filed_at}
use Rattle.dq_wheel.specs.Wakes.{IsNextWake, wake_for}
use Rattle.dq_wheel.specs.Moves.{passed}
use Rattle.dq_ticks.specs.declared.words.Parts.{Parts}
use Rattle.dq_core.specs.Words.{word_at, live}
use Rattle.dq_core.specs.Calls.{LooksOver}
use Rattle.dq_core.proofs.Looks.{learned_more}
use Rattle.dq_core.specs.WheelWays.{GoesOn, WheelStep, GoesThrough, WheelGoes}

through_more : (shared : Bool) (known : List Parts) (limit : ℕ) (u v w : Filing) (us vs : List Filing) → GoesThrough shared known limit u us v → GoesThrough shared known limit v vs w → GoesThrough shared known limit u (us ++ vs) w
through_more shared known limit u v w [] vs a b = let P : Filing → Type 0 = λ x. GoesThrough shared known limit x vs w in subst P a b
through_more shared known limit u v w (x ∷ us) vs a b = (a.0, through_more shared known limit x v w us vs a.1 b)

-- what was learned of a word as it is known now was learned of it as it was known before
step_known : (shared : Bool) (old new : List Parts) (limit : ℕ) (v w : Filing) → LooksOver shared old new → WheelStep shared new limit v w → WheelStep shared old limit v w
step_known shared old new limit v w looks (inl out) = inl out
step_known shared old new limit v w looks (inr (inl (i, s, d, at, later, learned, is))) =
    inr (inl (i, s, d, at, later, learned_more shared (word_at old i) (word_at new i) (live s d) (looks.1 i) learned, is))
step_known shared old new limit v w looks (inr (inr on)) = inr (inr on)

through_known : (shared : Bool) (old new : List Parts) (limit : ℕ) (v w : Filing) (us : List Filing) → LooksOver shared old new → GoesThrough shared new limit v us w → GoesThrough shared old limit v us w
through_known shared old new limit v w [] looks a = a
through_known shared old new limit v w (u ∷ us) looks a = (step_known shared old new limit v u looks a.0, through_known shared old new limit u w us looks a.1)

-- one way after another, to the same limit, by what was known at first
pub goes_more : (shared : Bool) (old new : List Parts) (limit limit' : ℕ) (u v w : Filing) → limit' ≡ limit → LooksOver shared old new → WheelGoes shared old limit u v → WheelGoes shared new limit' v w → WheelGoes shared old limit u w
goes_more shared old new limit limit' u v w same looks a b =
    let P : ℕ → Type 0 = λ l. WheelGoes shared new l v w in
    let c = subst P same b in
    (a.0 ++ c.0, through_more shared old limit u v w a.0 c.0 a.1 (through_known shared old new limit v w c.0 looks c.1))

pub goes_one : (shared : Bool) (known : List Parts) (limit : ℕ) (v w : Filing) → WheelStep shared known limit v w → WheelGoes shared known limit v w
goes_one shared known limit v w s = (w ∷ [], (s, refl))

pub goes_none : (shared : Bool) (known : List Parts) (limit : ℕ) (v : Filing) → WheelGoes shared known limit v v
goes_none shared known limit v = ([], refl)

went : (reached : Bool) (limit : ℕ) (v w : Filing) → MatchBool reached
    ((n : ℕ) × IsNextWake v.tick v.filed n × (n ≤ limit) × (w ≡ passed v n))
    (((i f : ℕ) → filed_at v.filed i ≡ Some f → limit < wake_for v.tick f) × (w ≡ passed v limit))
    → ((n : ℕ) × IsNextWake v.tick v.filed n × (n ≤ limit) × (w ≡ passed v n))
    ⊎ (((i f : ℕ) → filed_at v.filed i ≡ Some f → limit < wake_for v.tick f) × (w ≡ passed v limit))
went true limit v w h = inl h
went false limit v w h = inr h

-- the wheel went on, by what it tells of its way
pub goes_on : (reached : Bool) (limit : ℕ) (v mid w : Filing) → mid ≡ v → v.tick < limit → ((i : ℕ) → filed_at v.filed i ≢ Some v.tick) → MatchBool reached
    ((n : ℕ) × IsNextWake mid.tick mid.filed n × (n ≤ limit) × (w ≡ passed mid n))
    (((i f : ℕ) → filed_at mid.filed i ≡ Some f → limit < wake_for mid.tick f) × (w ≡ passed mid limit))
    → GoesOn limit v w
goes_on reached limit v mid w same less none way =
    let P : Filing → Type 0 = λ x.
    ((n : ℕ) × IsNextWake x.tick x.filed n × (n ≤ limit) × (w ≡ passed x n))
    ⊎ (((i f : ℕ) → filed_at x.filed i ≡ Some f → limit < wake_for x.tick f) × (w ≡ passed x limit)) in
    (less, none, subst P same (went reached limit mid w way))
