-- What the keeper has begun stays written, and how many steps it makes.
use Rattle.std.proofs.Common.{◌≡◌, ℕ, suc, ◌+◌, ◌≤◌, List, ◌∷◌, length, Option, Some, None, sym, ap, subst, inl, inr, arith}
use Rattle.dq_core.specs.declared.words.Look.{Look}
use Rattle.dq_core.specs.declared.words.Look.TheVariants.{StillLive, LookCancelled, LookExpired, LookRemoved}
use Rattle.dq_core.specs.declared.words.Settled.{Settled}
use Rattle.dq_core.specs.declared.words.Settled.TheVariants.{SettledExpired, Later, SettledCancelled}
use Rattle.dq_ticks.specs.Word.{word, stamp_of, field_of}
use Rattle.dq_words.specs.declared.views.View.{View}
use Rattle.dq_words.specs.declared.views.Write.{Write}
use Rattle.dq_words.specs.declared.views.Write.TheVariants.{Begin}
use Rattle.dq_words.specs.Endings.{WritesStay}
use Rattle.dq_words.specs.Files.{IsIn}
use Rattle.dq_words.specs.KeeperCalls.{KeeperSettles, KeeperRenews, KeeperFinishes, KeeperFinishesBy}
use Rattle.dq_words.specs.Plays.{beginning, BeginStep, KeeperLoads}

-- no write more
stays : (v w : View) → w.writes ≡ v.writes → WritesStay v w
stays v w is = λ i b d h. let P : List Write → Type 0 = λ ws. IsIn ws (Begin i b d) in subst P (sym is) h

-- one write more
stays_on : (v w : View) (x : Write) → w.writes ≡ x ∷ v.writes → WritesStay v w
stays_on v w x is = λ i b d h. let P : List Write → Type 0 = λ ws. IsIn ws (Begin i b d) in subst P (sym is) (inr h)

-- what a begin writes
pub begins : (v w : View) (i s d n : ℕ) → n ≡ word s 0 d → d ≤ 4398046511103 → w ≡ beginning v i n → IsIn w.writes (Begin i s d)
begins v w i s d n is small e =
    let a : s ≡ stamp_of n = omega arith in
    let b : d ≡ field_of n = omega arith in
    let P : List Write → Type 0 = λ ws. IsIn ws (Begin i s d) in
    let here : Begin i s d ≡ Begin i (stamp_of n) (field_of n) = λ q. Begin i (a q) (b q) in
    subst P (sym (ap (λ (u : View). u.writes) e)) (inl here)

pub begin_stays : (v w : View) (i n : ℕ) → BeginStep v w i n → WritesStay v w
begin_stays v w i n h = stays_on v w (Begin i (stamp_of n) (field_of n)) (ap (λ (u : View). u.writes) h)

pub load_stays : (v w : View) (i n : ℕ) → KeeperLoads v w i n → WritesStay v w
load_stays v w i n h = stays v w (ap (λ (u : View). u.writes) h.0)

pub settle_stays : (v w : View) (i s at : ℕ) (r : Settled) → KeeperSettles v i s at r w → WritesStay v w
settle_stays v w i s at SettledExpired h = stays_on v w _ (ap (λ (u : View). u.writes) h.1)
settle_stays v w i s at (Later d) h = stays v w (ap (λ (u : View). u.writes) h.2.0)
settle_stays v w i s at SettledCancelled h = stays v w (ap (λ (u : View). u.writes) h.0)

pub renew_stays : (v w : View) (i s when : ℕ) (r : Option ℕ) → KeeperRenews v i s when r w → WritesStay v w
renew_stays v w i s when (Some d) h = stays_on v w _ (ap (λ (u : View). u.writes) h.2.1)
renew_stays v w i s when None h = stays v w (ap (λ (u : View). u.writes) h.1.1)

pub finish_stays : (v w : View) (i s : ℕ) (r : Option ℕ) → KeeperFinishes v i s r w → WritesStay v w
finish_stays v w i s (Some d) h = stays_on v w _ (ap (λ (u : View). u.writes) h.2.1)
finish_stays v w i s None h = stays v w (ap (λ (u : View). u.writes) h.1.1)

pub finish_by_stays : (v w : View) (i s tick : ℕ) (r : Look) → KeeperFinishesBy v i s tick r w → WritesStay v w
finish_by_stays v w i s tick (LookRemoved d) h = finish_stays v w i s (Some d) h.1
finish_by_stays v w i s tick (StillLive d) h = stays v w (ap (λ (u : View). u.writes) h.3.1)
finish_by_stays v w i s tick LookCancelled h = finish_stays v w i s None h
finish_by_stays v w i s tick (LookExpired d) h = absurd h

-- one step more
once : (v w : View) → length w.steps ≡ suc (length v.steps) → length w.steps ≤ length v.steps + 1
once v w is = omega (arith, is)

pub load_once : (v w : View) (i n : ℕ) → KeeperLoads v w i n → length w.steps ≤ length v.steps + 1
load_once v w i n h = once v w (ap (λ (u : View). length u.steps) h.0)

pub settle_once : (v w : View) (i s at : ℕ) (r : Settled) → KeeperSettles v i s at r w → length w.steps ≤ length v.steps + 1
settle_once v w i s at SettledExpired h = once v w (ap (λ (u : View). length u.steps) h.1)
settle_once v w i s at (Later d) h = once v w (ap (λ (u : View). length u.steps) h.2.0)
settle_once v w i s at SettledCancelled h = once v w (ap (λ (u : View). length u.steps) h.0)
