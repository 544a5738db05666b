-- What a wheel uses of levels and starts.
use Rattle.std.proofs.Common.{◌≡◌, ◌≢◌, ℕ, suc, ◌+◌, ◌-◌, ◌*◌, ◌/◌, ◌%◌, ◌^◌, ◌<◌, ◌≤◌, ◌⊎◌, inl, inr, refl, sym, ◌∙◌, ap, subst, arith, if◌then◌else◌, nat_lt}
use Rattle.std.proofs.Math.Nat.{pow-suc, add-mul, mul_assoc, mul_comm, div-mul-le_self, lt-div-mul-add, mul-div_cancel}
use Rattle.std.proofs.lemmas.Nat.{le-div, div_below, mul-le}
use Rattle.std.proofs.lemmas.Bool.{cases_eq, cases_lt}
use Rattle.std.proofs.lemmas.Bool.Decides.{nat_tests}
use Rattle.dq_ticks.specs.Digits.{digit_of, level, start, start_for, turn, IsAhead}
use Rattle.dq_ticks.specs.Places.{IsNoLater}
use Rattle.dq_ticks.specs.Units.{lap, top_span}
use Rattle.dq_ticks.proofs.Levels.{IsLevel, above_suc, level_by, level_is, level_small, power_pos, same_above}

pub digit_below : (t place : ℕ) → digit_of t place < 64
digit_below t place = omega arith

-- t / p * p is t with what is below p cut off
div_mono : (e f p : ℕ) → 0 < p → e ≤ f → e / p ≤ f / p
div_mono e f p pos le = le-div (e / p) f p pos (omega (arith, div-mul-le_self e p))

div_less : (e f p : ℕ) → 0 < p → e ≤ f → e / p ≢ f / p → e / p < f / p
div_less e f p pos le apart = omega (arith, div_mono e f p pos le)

floor_le : (f p : ℕ) → f / p * p ≤ f
floor_le f p = div-mul-le_self f p

floor_above : (e f p : ℕ) → 0 < p → e / p < f / p → e < f / p * p
floor_above e f p pos below =
    let more : e / p + 1 ≤ f / p = omega arith in
    omega (arith, lt-div-mul-add {a = e} pos, mul-le (e / p + 1) p (f / p) p more (omega arith))

below_floor : (n f p : ℕ) → 0 < p → n < f / p * p → n / p < f / p
below_floor n f p pos below = div_below n p (f / p) pos below

floor_high : (f p : ℕ) → 0 < p → f / p * p / p ≡ f / p
floor_high f p pos = mul-div_cancel (f / p) pos

pub start_low : (e place k : ℕ) → place < 5 → start e place k ≡ e / 64 ^ (place + 1) * 64 ^ (place + 1) + k * 64 ^ place
unfolding start
start_low e place k below = grind (arith, nat_tests)

pub start_top : (e k : ℕ) → start e 5 k ≡ (e / lap + (if nat_lt (digit_of e 5) k then 0 else 1)) * lap + k * top_span
unfolding start
start_top e k = refl

pub rejoin : (q r p a : ℕ) → a ≡ q * 64 + r → q * (p * 64) + r * p ≡ a * p
rejoin q r p a is =
    ap (λ x. x + r * p) (ap (λ x. q * x) (mul_comm p 64) ∙ sym (mul_assoc q 64 p)) ∙ sym (add-mul (q * 64) r p) ∙ ap (λ x. x * p) (sym is)

lap_floor : (e f : ℕ) → e < f → f < e + lap → e / top_span ≢ f / top_span →
    (e / lap + (if nat_lt (e / top_span % 64) (f / top_span % 64) then 0 else 1)) * lap + f / top_span % 64 * top_span ≡ f / top_span * top_span
lap_floor e f later near apart = grind (arith, nat_tests)

start_floor_at : (e f L : ℕ) → e < f → f < e + lap → IsLevel e f L → start e L (digit_of f L) ≡ f / 64 ^ L * 64 ^ L
start_floor_at e f L later near at =
    elim (cases_lt L 5) [
      | inl below ↦
          let agrees : e / 64 ^ suc L ≡ f / 64 ^ suc L = at.agrees below in
          let next : L + 1 ≡ suc L = omega arith in
          let high : e / 64 ^ (L + 1) ≡ f / 64 ^ L / 64 = ap (λ n. e / 64 ^ n) next ∙ agrees ∙ above_suc f L in
          let unit : 64 ^ (L + 1) ≡ 64 ^ L * 64 = ap (λ n. 64 ^ n) next ∙ pow-suc 64 L in
          start_low e L (digit_of f L) below
          ∙ ap (λ x. x + digit_of f L * 64 ^ L) (ap (λ q. q * 64 ^ (L + 1)) high ∙ ap (λ p. f / 64 ^ L / 64 * p) unit)
          ∙ rejoin (f / 64 ^ L / 64) (digit_of f L) (64 ^ L) (f / 64 ^ L) (omega arith)
      | inr top ↦
          let is : 5 ≡ L = omega (arith, at.small) in
          let P : ℕ → Type 0 = λ M. start e M (digit_of f M) ≡ f / 64 ^ M * 64 ^ M in
          let Q : ℕ → Type 0 = λ M. e / 64 ^ M ≢ f / 64 ^ M in
          subst P is (start_top e (digit_of f 5) ∙ lap_floor e f later near (subst Q (sym is) at.differs))
    ]

start_for_is : (e f : ℕ) → start_for e f ≡ start e (level e f) (digit_of f (level e f))
unfolding start_for
start_for_is e f = refl

at_level_of : (e f : ℕ) → IsAhead e f → IsLevel e f (level e f)
at_level_of e f a = level_is e f (omega (arith, a.later, a.in_range)) a.in_range (λ same. absurd (omega (arith, a.later)))

-- the start of the slot of f is f with its lower digits 0
start_floor_of : (e f : ℕ) → IsAhead e f → start_for e f ≡ f / 64 ^ level e f * 64 ^ level e f
start_floor_of e f a = start_for_is e f ∙ start_floor_at e f (level e f) a.later a.near (at_level_of e f a)

module _ (e f : ℕ) (a : IsAhead e f) where
  pub at_level : IsLevel e f (level e f)
  at_level = at_level_of e f a

  pub start_floor : start_for e f ≡ f / 64 ^ level e f * 64 ^ level e f
  start_floor = start_floor_of e f a

  pub higher : e / 64 ^ level e f < f / 64 ^ level e f
  higher = div_less e f (64 ^ level e f) (power_pos (level e f)) (omega (arith, a.later)) at_level.differs

  pub start_le : start_for e f ≤ f
  start_le = rw start_floor (floor_le f (64 ^ level e f))

  pub start_above : e < start_for e f
  start_above = rw start_floor (floor_above e f (64 ^ level e f) (power_pos (level e f)) higher)

  -- a tick before the start of the slot sees f at the same level
  at_level_later : (n : ℕ) → e ≤ n → n < start_for e f → IsLevel n f (level e f)
  at_level_later n from before =
      let p : ℕ = 64 ^ level e f in
      let below : n / p < f / p = below_floor n f p (power_pos (level e f)) (rw start_floor at before) in
      record {
        small = at_level.small;
        differs = λ same. absurd (omega (arith, below));
        agrees = λ low.
            let q : ℕ = 64 ^ suc (level e f) in
            let low_end : e / q ≤ n / q = div_mono e n q (power_pos (suc (level e f))) from in
            let high_end : n / q ≤ f / q = div_mono n f q (power_pos (suc (level e f))) (omega (arith, before, start_le)) in
            let ends : e / q ≡ f / q = at_level.agrees low in
            omega arith;
      }

  -- places are stable: the level stays until the slot starts
  pub level_stable : (n : ℕ) → e ≤ n → n < start_for e f → level n f ≡ level e f
  level_stable n from before =
      sym (level_by n f (level e f) (omega (arith, before, start_le, a.in_range)) a.in_range (at_level_later n from before))

  pub ahead_later : (n : ℕ) → e ≤ n → n < start_for e f → IsAhead n f
  ahead_later n from before =
      record { later = omega (arith, before, start_le); near = omega (arith, from, a.near); in_range = a.in_range }

  pub start_stable : (n : ℕ) → e ≤ n → n < start_for e f → start_for n f ≡ start_for e f
  start_stable n from before =
      let same : level n f ≡ level e f = level_stable n from before in
      start_floor_of n f (ahead_later n from before) ∙ ap (λ L. f / 64 ^ L * 64 ^ L) same ∙ sym start_floor

  lower_at_start : start_for e f < f → level (start_for e f) f < level e f
  lower_at_start before =
      let s : ℕ = start_for e f in
      let ahead : IsAhead s f = record { later = before; near = omega (arith, start_above, a.near); in_range = a.in_range } in
      elim (cases_lt (level s f) (level e f)) [
        | inl lower ↦ lower
        | inr higher ↦
            let p : ℕ = 64 ^ level e f in
            let same : s / p ≡ f / p = ap (λ t. t / p) start_floor ∙ floor_high f p (power_pos (level e f)) in
            absurd ((at_level_of s f ahead).differs (same_above s f (level e f) (level s f) higher same))
      ]

  -- at the start of its slot f is due, or stands at a lower level
  pub start_opens : (start_for e f ≡ f) ⊎ (level (start_for e f) f < level e f)
  start_opens =
      elim (cases_lt (start_for e f) f) [
        | inl before ↦ inr (lower_at_start before)
        | inr late ↦ inl (omega (arith, start_le))
      ]

-- what stands at a lower level comes before each slot of a higher one
pub lower_first : (e f g : ℕ) → IsAhead e f → IsAhead e g → level e f < level e g → f < start_for e g
lower_first e f g a b lower =
    let L : ℕ = level e f in
    let M : ℕ = level e g in
    let agrees : e / 64 ^ suc L ≡ f / 64 ^ suc L = (at_level_of e f a).agrees (omega (arith, (at_level_of e g b).small)) in
    let same : e / 64 ^ M ≡ f / 64 ^ M = same_above e f (suc L) M (omega arith) agrees in
    let below : f / 64 ^ M < g / 64 ^ M = omega (arith, higher e g b) in
    rw (start_floor_of e g b) (floor_above f g (64 ^ M) (power_pos M) below)

-- within a level the slot of the earlier turn comes first
pub turn_low : (e place k : ℕ) → place ≢ 5 → turn e place k ≡ k
turn_low e place k other = grind (arith, nat_tests)

pub turn_top : (e place k : ℕ) → place ≡ 5 → turn e place k ≡ (k + 63 - digit_of e 5) % 64
turn_top e place k top = grind (arith, nat_tests)

lap_turn : (e f : ℕ) → e < f → f ≤ e + 64 → (f % 64 + 63 - e % 64) % 64 ≡ f - e - 1
lap_turn e f later near = omega arith

lap_order : (e f g : ℕ) → e < f → f ≤ e + 64 → e < g → g ≤ e + 64 → (f % 64 + 63 - e % 64) % 64 < (g % 64 + 63 - e % 64) % 64 → f < g
lap_order e f g f_later f_near g_later g_near before = omega (arith, lap_turn e f f_later f_near, lap_turn e g g_later g_near)

lap_near : (e f : ℕ) → f < e + lap → f / top_span ≤ e / top_span + 64
lap_near e f near = omega arith

high_order_low : (e f g L : ℕ) → L < 5 → IsLevel e f L → IsLevel e g L → digit_of f L < digit_of g L → f / 64 ^ L < g / 64 ^ L
high_order_low e f g L below at_f at_g before =
    let same : f / 64 ^ L / 64 ≡ g / 64 ^ L / 64 =
    sym (above_suc f L) ∙ sym (at_f.agrees below) ∙ at_g.agrees below ∙ above_suc g L in
    omega arith

high_order_top : (e f g : ℕ) → IsAhead e f → IsAhead e g → IsLevel e f 5 → IsLevel e g 5 → turn e 5 (digit_of f 5) < turn e 5 (digit_of g 5) → f / 64 ^ 5 < g / 64 ^ 5
high_order_top e f g a b at_f at_g before =
    let p : ℕ = top_span in
    let f_above : e / p < f / p = div_less e f p (omega arith) (omega (arith, a.later)) at_f.differs in
    let g_above : e / p < g / p = div_less e g p (omega arith) (omega (arith, b.later)) at_g.differs in
    lap_order (e / p) (f / p) (g / p) f_above (lap_near e f a.near) g_above (lap_near e g b.near) before

high_order : (e f g L : ℕ) → IsAhead e f → IsAhead e g → IsLevel e f L → IsLevel e g L → turn e L (digit_of f L) < turn e L (digit_of g L) → f / 64 ^ L < g / 64 ^ L
high_order e f g L a b at_f at_g before =
    elim (cases_lt L 5) [
      | inl below ↦ let other : L ≢ 5 = omega arith in high_order_low e f g L below at_f at_g (omega (arith, turn_low e L (digit_of f L) other, turn_low e L (digit_of g L) other))
      | inr top ↦
          let is : 5 ≡ L = omega (arith, at_f.small) in
          let P : ℕ → Type 0 = λ M. IsLevel e f M → IsLevel e g M → turn e M (digit_of f M) < turn e M (digit_of g M) → f / 64 ^ M < g / 64 ^ M in
          subst P is (high_order_top e f g a b) at_f at_g before
    ]

pub before_later : (e f g : ℕ) → IsAhead e f → IsAhead e g → level e f ≡ level e g → turn e (level e f) (digit_of f (level e f)) < turn e (level e f) (digit_of g (level e f)) → f < start_for e g
before_later e f g a b same before =
    let L : ℕ = level e f in
    let P : ℕ → Type 0 = λ M. IsLevel e g M in
    let Q : ℕ → Type 0 = λ M. f < g / 64 ^ M * 64 ^ M in
    let below : f / 64 ^ L < g / 64 ^ L = high_order e f g L a b (at_level_of e f a) (subst P (sym same) (at_level_of e g b)) before in
    rw (start_floor_of e g b) (subst Q same (floor_above f g (64 ^ L) (power_pos L) below))

-- slots of one turn are one slot
same_turn_low : (e L k j : ℕ) → L ≢ 5 → turn e L k ≡ turn e L j → k ≡ j
same_turn_low e L k j other same = omega (arith, turn_low e L k other, turn_low e L j other)

same_turn_top : (e k j : ℕ) → k < 64 → j < 64 → turn e 5 k ≡ turn e 5 j → k ≡ j
same_turn_top e k j k_in j_in same = omega arith

same_turn : (e L k j : ℕ) → k < 64 → j < 64 → turn e L k ≡ turn e L j → k ≡ j
same_turn e L k j k_in j_in same =
    elim (cases_eq L 5) [
      | inl top ↦
          let P : ℕ → Type 0 = λ M. turn e M k ≡ turn e M j → k ≡ j in
          subst P (sym top) (same_turn_top e k j k_in j_in) same
      | inr other ↦ same_turn_low e L k j other same
    ]

same_slot : (e f g : ℕ) → level e f ≡ level e g → digit_of f (level e f) ≡ digit_of g (level e f) → start_for e f ≡ start_for e g
same_slot e f g same slot =
    start_for_is e f ∙ ap (λ k. start e (level e f) k) slot ∙ ap (λ L. start e L (digit_of g L)) same ∙ sym (start_for_is e g)

starts_by_turn : (e f g : ℕ) → IsAhead e f → IsAhead e g → level e f ≡ level e g → turn e (level e f) (digit_of f (level e f)) ≤ turn e (level e f) (digit_of g (level e f)) → start_for e f ≤ start_for e g
starts_by_turn e f g a b same turns =
    let L : ℕ = level e f in
    elim (cases_lt (turn e L (digit_of f L)) (turn e L (digit_of g L))) [
      | inl before ↦ omega (arith, start_le e f a, before_later e f g a b same before)
      | inr after ↦
          let slot : digit_of f L ≡ digit_of g L =
          same_turn e L (digit_of f L) (digit_of g L) (digit_below f L) (digit_below g L) (omega arith) in
          omega (arith, same_slot e f g same slot)
    ]

pub soonest_first : (e f g : ℕ) → IsAhead e f → IsAhead e g → IsNoLater e f g → start_for e f ≤ start_for e g
soonest_first e f g a b no_later =
    elim no_later [
      | inl lower ↦ omega (arith, start_le e f a, lower_first e f g a b lower)
      | inr turns ↦ starts_by_turn e f g a b turns.0 turns.1
    ]
