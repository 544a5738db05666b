-- What a put comes to, from what its steps do.
use Rattle.std.proofs.Common.{◌≡◌, ℕ, ◌+◌, ◌≤◌, Bool, Option, Some, None, Ok, Err, refl, ap, ◌∙◌, subst}
use Rattle.dq_ticks.specs.declared.TheConstants.{LAST_TICK}
use Rattle.dq_core.specs.declared.errors.CoreError.{CoreError}
use Rattle.dq_core.specs.declared.errors.CoreError.TheVariants.{TooFar, Full, Missing, WasCancelled, Worn, TickTooLarge, BadConfig, NoMemory}
use Rattle.dq_apps.specs.Cache.{Cache, moment_at}
use Rattle.dq_apps.specs.Calls.{due_count, at_moment, purged, Purges, TakesDue, TakesExpired, InRange, IsAbsent, IsKeptWorn, Replaces, Adds, AddRefused, PutRefused, Puts}

module _ {K V : Type 0} (b p d : Cache K V) (now m : ℕ) (small : now ≤ LAST_TICK) (em : m ≡ moment_at b now) (ep : p ≡ at_moment b m) where
  -- the moment was set, and all that is due dropped
  pub purge_steps : (n : ℕ) → n ≡ due_count p.moment p.slots → d ≡ purged p p.moment → Purges b now (Ok n) d
  purge_steps n en ed = (
    small,
    en ∙ ((λ i. due_count (ep i).moment (ep i).slots) ∙ ap (λ k. due_count k b.slots) em),
    ed ∙ ((λ i. purged (ep i) (ep i).moment) ∙ ap (purged b) em),
  )

  -- the moment was set, and one that is due taken
  pub expired_steps : (out : Option (K × V)) → TakesDue p out d → TakesExpired b now (Ok out) d
  expired_steps out t = (small, subst (λ (x : Cache K V). TakesDue x out d) (ep ∙ ap (at_moment b) em) t)

module _ {K V : Type 0} (eq : K → K → Bool) (b d : Cache K V) (key : K) (value : V) (ttl now : ℕ) where
  -- the moment was set, and what was due dropped
  pub at_purge : (p : Cache K V) (m : ℕ) → m ≡ moment_at b now → p ≡ at_moment b m → d ≡ purged p p.moment → d ≡ purged b (moment_at b now)
  at_purge p m em ep ed = ed ∙ ((λ i. purged (ep i) (ep i).moment) ∙ ap (purged b) em)

  module _ (when : ℕ) (is : d ≡ purged b (moment_at b now)) (ew : when ≡ moment_at b now + ttl) (range : InRange b ttl now) (c : Cache K V) where
    pub puts_replaced : (old : V) → Replaces eq d key value when old c → Puts eq b key value ttl now (Ok (Some old)) c
    puts_replaced old r = (range, subst (λ (x : Cache K V). Replaces eq x key value (moment_at b now + ttl) old c) is (subst (λ n. Replaces eq d key value n old c) ew r))

    pub puts_worn : IsKeptWorn eq d key → c ≡ d → Puts eq b key value ttl now (Err (Worn, key, value)) c
    puts_worn w same = ((range, subst (λ (x : Cache K V). IsKeptWorn eq x key) is w, same ∙ is), refl, refl)

    pub puts_added : IsAbsent eq d key → Adds eq d key value when c → Puts eq b key value ttl now (Ok None) c
    puts_added absent a = (range, subst (λ (x : Cache K V). IsAbsent eq x key) is absent, subst (λ (x : Cache K V). Adds eq x key value (moment_at b now + ttl) c) is (subst (λ n. Adds eq d key value n c) ew a))

    refused_by : (e : CoreError) → IsAbsent eq d key → AddRefused d e → c ≡ d → PutRefused eq b key ttl now (purged b (moment_at b now)) e c
    refused_by (Full linked worn) absent r same = (range, subst (λ (x : Cache K V). IsAbsent eq x key) is absent, subst (λ (x : Cache K V). AddRefused x (Full linked worn)) is r, same ∙ is)
    refused_by NoMemory absent r same = (range, subst (λ (x : Cache K V). IsAbsent eq x key) is absent, subst (λ (x : Cache K V). AddRefused x NoMemory) is r, same ∙ is)
    refused_by (TooFar limit) absent r same = absurd r
    refused_by Missing absent r same = absurd r
    refused_by WasCancelled absent r same = absurd r
    refused_by Worn absent r same = absurd r
    refused_by (TickTooLarge limit) absent r same = absurd r
    refused_by BadConfig absent r same = absurd r

    pub puts_refused : (e : CoreError × K × V) → IsAbsent eq d key → AddRefused d e.0 → e.1 ≡ key → e.2 ≡ value → c ≡ d → Puts eq b key value ttl now (Err e) c
    puts_refused e absent r ek ev same = (refused_by e.0 absent r same, ek, ev)
