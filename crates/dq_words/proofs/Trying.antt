-- What the keeper's tries leave of its view.
use Rattle.std.proofs.Common.{◌≡◌, ◌≢◌, ◌∷◌, ℕ, suc, ◌<◌, length, get_or, ap, ◌∙◌, subst, ⊎_elim, get_or-set_same, set-set, arith}
use Rattle.dq_words.specs.declared.views.View.{View}
use Rattle.dq_words.specs.declared.views.StepKind.TheVariants.{KeeperLoad, FailedExchange}
use Rattle.dq_words.specs.Keeping.{IsOpen}
use Rattle.dq_ticks.specs.Word.{word, mark_of, field_of}
use Rattle.dq_core.specs.declared.words.Look.TheVariants.{StillLive}
use Rattle.dq_words.specs.KeeperCalls.{failed_on, after_failures, FindsCancelled, KeeperFinishesBy}
use Rattle.dq_words.specs.Plays.{stepping}
use Rattle.dq_words.specs.Plays.{SeatGoesOn}
use Rattle.dq_words.specs.Word.{LearnedWord}
use Rattle.dq_words.proofs.Keepings.{learned_on, open_on}

-- the slot i of stamp s was loaded, some exchanges failed, and the last step saw x
pub record Loaded (v w : View) (i s x : ℕ) : Type 0 where
  pub many : ℕ
  pub is : w ≡ after_failures v i x many
  pub learned : LearnedWord (get_or v.seen i 0) x
  pub open_word : IsOpen x s

pub loaded_more : (v u w : View) (i s x y : ℕ) → i < length v.seen → Loaded v u i s x → LearnedWord (get_or u.seen i 0) y → w ≡ stepping u i y FailedExchange → Loaded v w i s y
loaded_more v u w i s x y inside l learned is =
    let here : get_or u.seen i 0 ≡ x = ap (λ (z : View). get_or z.seen i 0) l.is ∙ get_or-set_same v.seen i x 0 inside in
    let P : ℕ → Type 0 = λ k. LearnedWord k y in
    let new : LearnedWord x y = subst P here learned in
    record {
      many = suc l.many;
      is = is ∙ ap (λ (z : View). stepping z i y FailedExchange) l.is ∙ (λ q. record v { seen = set-set v.seen i x y q; steps = failed_on (suc l.many) (KeeperLoad ∷ v.steps) });
      learned = learned_on (get_or v.seen i 0) x y l.learned new;
      open_word = open_on x y s l.open_word new;
    }

-- where the last word that was seen isn't live, it is cancelled
pub found_cancelled : (v w : View) (i s x : ℕ) → Loaded v w i s x → mark_of x ≢ 0 → FindsCancelled v i s w
found_cancelled v w i s x l ended =
    let is : x ≡ word s 1 0 = ⊎_elim (λ (e : x ≡ word s 1 0). e) (λ (e : x ≡ word s 0 (field_of x)). absurd (ended (omega arith))) l.open_word.1 in
    let P : ℕ → Type 0 = λ y. LearnedWord (get_or v.seen i 0) y in
    (subst P is l.learned, (l.many, l.is ∙ ap (λ y. after_failures v i y l.many) is))

-- where it is live, it was found so
pub found_live : (v w : View) (i s x d tick : ℕ) → Loaded v w i s x → mark_of x ≡ 0 → d ≡ field_of x → tick < d → KeeperFinishesBy v i s tick (StillLive d) w
found_live v w i s x d tick l live at late =
    let is : x ≡ word s 0 d = ⊎_elim (λ (e : x ≡ word s 1 0). absurd (omega arith)) (λ (e : x ≡ word s 0 (field_of x)). omega (arith, e, at)) l.open_word.1 in
    let P : ℕ → Type 0 = λ y. LearnedWord (get_or v.seen i 0) y in
    (late, omega (arith, at), subst P is l.learned, (l.many, l.is ∙ ap (λ y. after_failures v i y l.many) is))

pub goes_more : (u v w : View) → SeatGoesOn u v → SeatGoesOn v w → SeatGoesOn u w
goes_more u v w a b = record { knew = b.knew; row = b.row ∙ a.row; role = b.role ∙ a.role; issued = λ k. b.issued (a.role ∙ k) ∙ a.issued k }
