use Rattle.std.proofs.Common.{rules, ℕ, ◌≡◌, ◌≢◌, ◌<◌, ◌∙◌, refl, sym, Option, None, Some, MatchOption, unwrap_or}
use Rattle.dq_ticks.specs.Digits.{level}
use Rattle.dq_ticks.specs.declared.TheConstants.{LEVELS}
use Rattle.dq_wheel.proofs.Numbers.{level_due}
use Rattle.dq_wheel.proofs.lists.list_of.Goals as goal

-- what is due has level 0
level_or : (t w : ℕ) (o : Option ℕ)
    → MatchOption o (t ≡ w) (λ n. (t ≢ w) × (n < LEVELS) × (n ≡ level t w)) → unwrap_or o 0 ≡ level t w
level_or t w None due = sym (level_due t w due)
level_or t w (Some n) found = search rules

pub returns-clause-value : goal.returns-clause-value
returns-clause-value c =
    let level_is : c.unwrap_or-level.result ≡ level c.args.tick c.args.when =
    c.unwrap_or-level.ensures ∙ level_or _ _ c.level_of.result c.level_of.ensures in
    rw (c.digit.ensures, level_is) refl
