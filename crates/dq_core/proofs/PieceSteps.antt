-- The steps of a poll in pieces: each keeps the shard law, goes the machine's way, and leaves a step less.
use Rattle.std.proofs.Common.{◌≡◌, ◌≢◌, ℕ, ◌+◌, ◌-◌, ◌*◌, ◌<◌, ◌≤◌, max, Bool, List, [], ◌∷◌, ◌++◌, length, get_or, set, Option, Some, None, IfSome, MatchOption, MatchBool, true, false, refl, sym, ap, ◌∙◌, subst, inl, inr, ◌⊎◌, arith}
use Rattle.std.specs.List.{sum_by}
use Rattle.std.proofs.lemmas.List.{length-map, length-set, length-append, get_or-set_same, set-get_or}
use Rattle.std.proofs.lemmas.List.Sums.{sum_by-set, sum_by-le}
use Rattle.std.proofs.lemmas.List.Elements.{All-from_get_or}
use Rattle.std.proofs.lemmas.Bool.{cases_eq}
use Rattle.std.proofs.lemmas.Nat.{mul-le}
use Rattle.std.proofs.Math.Nat.{add-mul}
use Rattle.dq_ticks.specs.declared.words.Parts.{Parts}
use Rattle.dq_ticks.specs.declared.TheConstants.{LAST_TICK}
use Rattle.dq_ticks.specs.Units.{lap}
use Rattle.dq_ticks.specs.declared.words.Mark.TheVariants.{LiveMark, CancelledMark}
use Rattle.dq_wheel.specs.State.{Filing, WheelState, filed_at, linked, unlinked, OthersStayFiled}
use Rattle.dq_wheel.specs.Moves.{ReachesLimit}
use Rattle.dq_wheel.specs.Arrivals.{arrives, ArrivesAtWake, AreFiledByThen}
use Rattle.dq_core.specs.declared.slots.Held.{Held}
use Rattle.dq_core.specs.declared.outcomes.Expired.{Expired}
use Rattle.dq_core.specs.declared.outcomes.Pace.{Pace}
use Rattle.dq_core.specs.declared.outcomes.Pace.TheVariants.{Whole, InPieces}
use Rattle.dq_core.specs.declared.outcomes.Progress.{Progress}
use Rattle.dq_core.specs.declared.outcomes.Progress.TheVariants.{Gave, Went, Rests}
use Rattle.dq_core.specs.declared.outcomes.Turn.{Turn}
use Rattle.dq_core.specs.declared.outcomes.Turn.TheVariants.{Out, Waiting, Idle}
use Rattle.dq_core.specs.declared.outcomes.Piece.TheVariants.{Answer, Working}
use Rattle.dq_core.specs.Words.{Counts, word_at, never, live, cancelled, IsInForce, IsSettled, Learned, settled_counts}
use Rattle.dq_core.specs.declared.words.Settled.TheVariants.{SettledExpired, Later, SettledCancelled}
use Rattle.dq_core.specs.Slots.{SlotState, row_at, vacated, vacated_row}
use Rattle.dq_core.specs.Machine.{Machine, Pass, RunOf, IsOnTheWay, NoneLiveBefore}
use Rattle.dq_core.specs.Core.{Core, machine, IsPlaced, IsLawfulCore, filing_for}
use Rattle.dq_core.specs.TableRows.{machine_of}
use Rattle.dq_core.specs.Calls.{SameCore, LooksOver, IsFiledOver, IsUnderWay, IsAnswered, IsOut, IsTurn, TurnRow, turn_counts, TellsWake, WakesAhead, work, noting}
use Rattle.dq_core.specs.Pieces.{ArrivesOn, PieceStep, ComesThrough, WheelComes, IsFiledByThen, IsComing, IsAnsweredBy, due_step, steps_left, LeavesFewer, IsPieceStep, IsPieceBy, SettlesByLook, LooksOn, IfDue, IsPolledSome, IsStepAt}
use Rattle.dq_core.proofs.Looks.{looks_none, looks_more, learned_more}
use Rattle.dq_core.proofs.Law.{filed_is, force_learned}
use Rattle.dq_core.proofs.Steps.{IsAtRest, relinked, step_later, later_lawful, step_cancelled, cancelled_lawful}
use Rattle.dq_core.proofs.RunsMoves.{least_out}
use Rattle.dq_core.proofs.Ways.{run_of_more, run_of_none, run_of_one, none_before, none_due, machine_is, core_of}

-- ways of the wheel, one after another
through_more : (shared : Bool) (known : List Parts) (limit : ℕ) (u v w : Filing) (us vs : List Filing) → ComesThrough shared known limit u us v → ComesThrough shared known limit v vs w → ComesThrough shared known limit u (us ++ vs) w
through_more shared known limit u v w [] vs a b = let P : Filing → Type 0 = λ x. ComesThrough shared known limit x vs w in subst P a b
through_more shared known limit u v w (x ∷ us) vs a b = (a.0, through_more shared known limit x v w us vs a.1 b)

step_known : (shared : Bool) (old new : List Parts) (limit : ℕ) (v w : Filing) → LooksOver shared old new → PieceStep shared new limit v w → PieceStep shared old limit v w
step_known shared old new limit v w looks (inl out) = inl out
step_known shared old new limit v w looks (inr (inl (i, s, d, at, later, learned, is))) =
    inr (inl (i, s, d, at, later, learned_more shared (word_at old i) (word_at new i) (live s d) (looks.1 i) learned, is))
step_known shared old new limit v w looks (inr (inr on)) = inr (inr on)

through_known : (shared : Bool) (old new : List Parts) (limit : ℕ) (v w : Filing) (us : List Filing) → LooksOver shared old new → ComesThrough shared new limit v us w → ComesThrough shared old limit v us w
through_known shared old new limit v w [] looks a = a
through_known shared old new limit v w (u ∷ us) looks a = (step_known shared old new limit v u looks a.0, through_known shared old new limit u w us looks a.1)

comes_more : (shared : Bool) (old new : List Parts) (limit limit' n m : ℕ) (u v w : Filing) → limit' ≡ limit → LooksOver shared old new → WheelComes shared old limit n u v → WheelComes shared new limit' m v w → WheelComes shared old limit (n + m) u w
comes_more shared old new limit limit' n m u v w same looks a b =
    let P : ℕ → Type 0 = λ l. WheelComes shared new l m v w in
    let c = subst P same b in
    let size : length (a.0 ++ c.0) ≡ length a.0 + length c.0 = length-append a.0 c.0 in
    let few : length a.0 ≤ n = a.1 in
    let few' : length c.0 ≤ m = c.1 in
    (a.0 ++ c.0, omega (arith, size, few, few'), through_more shared old limit u v w a.0 c.0 a.2 (through_known shared old new limit v w c.0 looks c.2))

comes_one : (shared : Bool) (known : List Parts) (limit : ℕ) (v w : Filing) → PieceStep shared known limit v w → WheelComes shared known limit 1 v w
comes_one shared known limit v w s = (w ∷ [], omega arith, (s, refl))

comes_none : (shared : Bool) (known : List Parts) (limit : ℕ) (v : Filing) → WheelComes shared known limit 0 v v
comes_none shared known limit v = ([], omega arith, refl)

-- a way of fewer steps is one of at most more
comes_fewer : (shared : Bool) (known : List Parts) (limit n m : ℕ) (v w : Filing) → n ≤ m → WheelComes shared known limit n v w → WheelComes shared known limit m v w
comes_fewer shared known limit n m v w le a =
    let few : length a.0 ≤ n = a.1 in
    (a.0, omega (arith, few, le), a.2)

went : (reached : Bool) (limit : ℕ) (v w : Filing) → MatchBool reached (ArrivesAtWake v limit w) (ReachesLimit v limit w) → ArrivesAtWake v limit w ⊎ ReachesLimit v limit w
went true limit v w h = inl h
went false limit v w h = inr h

-- the wheel went on, by what it tells of its way
pub arrives_on : (reached : Bool) (limit : ℕ) (v mid w : Filing) → mid ≡ v → v.tick < limit → ((i : ℕ) → filed_at v.filed i ≢ Some v.tick) → MatchBool reached (ArrivesAtWake mid limit w) (ReachesLimit mid limit w) → ArrivesOn limit v w
arrives_on reached limit v mid w same less none way =
    let P : Filing → Type 0 = λ x. ArrivesAtWake x limit w ⊎ ReachesLimit x limit w in
    (less, none, subst P same (went reached limit mid w way))

-- as many indexes are filed or not as before
arrived_size : (limit : ℕ) (v w : Filing) → ArrivesAtWake v limit w ⊎ ReachesLimit v limit w → length w.filed ≡ length v.filed
arrived_size limit v w (inl (n, wake, by, is)) = ap (λ x. length x.filed) is ∙ length-map v.filed (arrives v.tick n)
arrived_size limit v w (inr (late, is)) = ap (λ x. length x.filed) is

-- how one index is filed
kept_filed : (v : Filing) (old : List Parts) (w : Filing) (new : List Parts) (i : ℕ) (o : Option ℕ) → filed_at v.filed i ≡ o → filed_at w.filed i ≡ o → word_at new i ≡ word_at old i → IsFiledByThen v old w new i
kept_filed v old w new i None was now same = inl now
kept_filed v old w new i (Some f) was now same = inr (inl (f, f, was, now, omega arith, same))

filed_of : (v : Filing) (old : List Parts) (w : Filing) (new : List Parts) (i : ℕ) → IsFiledOver v old w new i → IsFiledByThen v old w new i
filed_of v old w new i (inl (same, word)) = kept_filed v old w new i (filed_at v.filed i) refl same word
filed_of v old w new i (inr (inl gone)) = inl gone
filed_of v old w new i (inr (inr (t, from, to, mark, is))) = inr (inr (t, filing_for t (word_at new i).field, from, to, mark, is, omega arith))

filed_earlier : (v : Filing) (old : List Parts) (w : Filing) (new : List Parts) (i : ℕ) (o : Option ℕ) → filed_at v.filed i ≡ o →
    MatchOption o (filed_at w.filed i ≡ None) (λ f. (g : ℕ) × (filed_at w.filed i ≡ Some g) × (g ≤ f)) → word_at new i ≡ word_at old i → IsFiledByThen v old w new i
filed_earlier v old w new i None was now same = inl now
filed_earlier v old w new i (Some f) was now same = inr (inl (f, now.0, was, now.1, now.2, same))

-- how it is filed after two ways
then_more : (u : Filing) (a : List Parts) (v : Filing) (b : List Parts) (w : Filing) (c : List Parts) (i : ℕ) → u.tick ≤ v.tick → v.tick ≤ w.tick → IsFiledByThen u a v b i → IsFiledByThen v b w c i → IsFiledByThen u a w c i
then_more u a v b w c i up up' x (inl gone) = inl gone
then_more u a v b w c i up up' (inl gone) (inr (inl (f, g, was, now, le, word))) = absurd (cc)
then_more u a v b w c i up up' (inr (inl (f, g, was, now, le, word))) (inr (inl (f', g', was', now', le', word'))) =
    let same : g ≡ f' = cc in
    inr (inl (f, g', was, now', omega arith, word' ∙ word))
then_more u a v b w c i up up' (inr (inr (t, g, from, to, mark, now, le))) (inr (inl (f', g', was', now', le', word'))) =
    let same : g ≡ f' = cc in
    let P : Parts → Type 0 = λ p. g ≤ filing_for t p.field in
    let bound : g ≤ filing_for t (word_at c i).field = subst P (sym word') le in
    inr (inr (t, g', from, omega (arith, to, up'), ap (λ p. p.mark) word' ∙ mark, now', omega arith))
then_more u a v b w c i up up' x (inr (inr (t, g, from, to, mark, now, le))) = inr (inr (t, g, omega (arith, from, up), to, mark, now, le))

-- one way after another
coming_more : {T W : Type 0} (shared : Bool) (n m : ℕ) (a b c : Core T W) → b.slots.last_stamp ≡ a.slots.last_stamp → b.noted ≡ a.noted → IsComing shared n a b → IsComing shared m b c → IsComing shared (n + m) a c
coming_more shared n m a b c last noted x y =
    let P : ℕ → Type 0 = λ n. RunOf (IsOnTheWay shared) n (machine b) (machine c) in
    let ticks = x.ticks in
    let ticks' = y.ticks in
    record {
      way = run_of_more (IsOnTheWay shared) a.slots.last_stamp (machine a) (machine b) (machine c) x.way (subst P last y.way);
      looks = looks_more shared a.known b.known c.known x.looks y.looks;
      wheel = comes_more shared a.known b.known a.noted b.noted n m a.wheel.filing b.wheel.filing c.wheel.filing noted x.looks x.wheel y.wheel;
      ticks = omega arith;
      filed = λ i. then_more a.wheel.filing a.known b.wheel.filing b.known c.wheel.filing c.known i ticks ticks' (x.filed i) (y.filed i);
      counts = y.counts ∙ x.counts;
    }

pub coming_none : {T W : Type 0} (shared : Bool) (b : Core T W) → IsComing shared 0 b b
coming_none shared b =
    record {
      way = run_of_none (IsOnTheWay shared) b.slots.last_stamp (machine b) (machine b) refl;
      looks = looks_none shared b.known;
      wheel = comes_none shared b.known b.noted b.wheel.filing;
      ticks = omega arith;
      filed = λ i. kept_filed b.wheel.filing b.known b.wheel.filing b.known i (filed_at b.wheel.filing.filed i) refl refl refl;
      counts = refl;
    }

-- a way of fewer steps is one of at most more
coming_fewer : {T W : Type 0} (shared : Bool) (n m : ℕ) (b c : Core T W) → n ≤ m → IsComing shared n b c → IsComing shared m b c
coming_fewer shared n m b c le x =
    record {
      way = x.way;
      looks = x.looks;
      wheel = comes_fewer shared b.known b.noted n m b.wheel.filing c.wheel.filing le x.wheel;
      ticks = x.ticks;
      filed = x.filed;
      counts = x.counts;
    }

-- a step that poll makes too
pub coming_by : {T W : Type 0} (shared : Bool) (b c : Core T W) → PieceStep shared b.known b.noted b.wheel.filing c.wheel.filing → IsUnderWay shared b c → IsComing shared 1 b c
coming_by shared b c step x =
    record {
      way = x.way;
      looks = x.looks;
      wheel = comes_one shared b.known b.noted b.wheel.filing c.wheel.filing step;
      ticks = x.ticks;
      filed = λ i. filed_of b.wheel.filing b.known c.wheel.filing c.known i (x.filed i);
      counts = x.counts;
    }

answered_by : {T W : Type 0} (shared : Bool) (b c : Core T W) (turn : Turn T) → PieceStep shared b.known b.noted b.wheel.filing c.wheel.filing → IsAnswered shared b turn c → IsAnsweredBy shared 1 b turn c
answered_by shared b c turn step x =
    record {
      run = x.run;
      row = x.row;
      wheel = comes_one shared b.known b.noted b.wheel.filing c.wheel.filing step;
      ticks = x.ticks;
      filed = λ i. filed_of b.wheel.filing b.known c.wheel.filing c.known i (x.filed i);
      counts = x.counts;
    }

-- the steps that are left
due_here : (t f : ℕ) → f ≡ t → due_step t (Some f) ≡ 1
due_here t f is = grind arith

not_due : (t f : ℕ) → f ≢ t → due_step t (Some f) ≡ 0
not_due t f other = grind arith

due_few : (t : ℕ) (o : Option ℕ) → due_step t o ≤ 1
due_few t None = omega arith
due_few t (Some f) = elim (cases_eq f t) [ inl is ↦ omega (arith, due_here t f is) | inr other ↦ omega (arith, not_due t f other) ]

-- one index that was due is so no more
pub steps_fewer : {T W : Type 0} (b c : Core T W) (i : ℕ) (o : Option ℕ) → i < length b.wheel.filing.filed → filed_at b.wheel.filing.filed i ≡ Some b.wheel.filing.tick →
    due_step b.wheel.filing.tick o ≡ 0 → c.wheel.filing.filed ≡ set b.wheel.filing.filed i o → c.wheel.filing.tick ≡ b.wheel.filing.tick → c.noted ≡ b.noted →
    length c.slots.rows ≡ length b.slots.rows → steps_left c + 2 ≤ steps_left b
steps_fewer b c i o inside at none ef et en er =
    let t = b.wheel.filing.tick in
    let put = sum_by-set (due_step t) b.wheel.filing.filed i o None inside in
    let was : due_step t (filed_at b.wheel.filing.filed i) ≡ 1 = ap (due_step t) at ∙ due_here t t refl in
    rw (ef, et, en, er) (omega (arith, put, was, none))

-- where a step takes two off
two_fewer : {T W : Type 0} (b c : Core T W) → steps_left c + 2 ≤ steps_left b → LeavesFewer b c
two_fewer b c two = (omega (arith, two), λ due. two)

ahead_more : (k j m d d' : ℕ) → k + 1 ≤ j → d' < m → k * m + d' + 1 ≤ j * m + d
ahead_more k j m d d' less few =
    let grown : (k + 1) * m ≤ j * m = mul-le (k + 1) m j m less (omega arith) in
    let one : (k + 1) * m ≡ k * m + 1 * m = add-mul k 1 m in
    omega arith

-- the tick went on
steps_on : {T W : Type 0} (b c : Core T W) → length c.wheel.filing.filed ≤ length c.slots.rows → b.wheel.filing.tick < c.wheel.filing.tick → c.wheel.filing.tick ≤ b.noted →
    c.noted ≡ b.noted → length c.slots.rows ≡ length b.slots.rows → steps_left c + 1 ≤ steps_left b
steps_on b c size up small en er =
    let t = c.wheel.filing.tick in
    let bound : sum_by (due_step t) c.wheel.filing.filed ≤ length c.wheel.filing.filed * 1 =
    sum_by-le (due_step t) 1 c.wheel.filing.filed (All-from_get_or (λ o. due_step t o ≤ 1) c.wheel.filing.filed None (λ i inside. due_few t (get_or c.wheel.filing.filed i None))) in
    rw (en, er)
    (ahead_more (b.noted - t) (b.noted - b.wheel.filing.tick) (2 * length b.slots.rows + 1) (2 * sum_by (due_step b.wheel.filing.tick) b.wheel.filing.filed)
    (2 * sum_by (due_step t) c.wheel.filing.filed) (omega arith) (omega arith))

-- a word in force is live, or was cancelled
live_seen : (s f : ℕ) (v : Parts) → IsInForce s f v → v.mark ≡ LiveMark → v ≡ live s v.field
live_seen s f v (pos, inl (is, after, small)) mark = is
live_seen s f v (pos, inr is) mark =
    let over : v.mark ≡ CancelledMark = ap (λ p. p.mark) is in
    absurd (cc)

over_seen : (s f : ℕ) (v : Parts) → IsInForce s f v → v.mark ≢ LiveMark → v ≡ cancelled s
over_seen s f v (pos, inl (is, after, small)) mark = absurd (mark (ap (λ p. p.mark) is))
over_seen s f v (pos, inr is) mark = is

-- of a word that was in force at a tick nothing is learned where it is live no later
same_seen : (shared : Bool) (s t : ℕ) (w v : Parts) → IsInForce s t w → Learned shared w v → v.mark ≡ LiveMark → v.field ≤ t → v ≡ w
same_seen shared s t w v force (inl same) mark small = same
same_seen shared s t w v (pos, inl (is, after, low)) (inr (open_, alive, inl (is', more, low'))) mark small =
    let stamp : w.stamp ≡ s = ap (λ p. p.stamp) is in
    let field : v.field ≡ w.field = omega (arith, after, more, small) in
    is' ∙ ap (λ n. live n v.field) stamp ∙ ap (λ n. live s n) field ∙ sym is
same_seen shared s t w v (pos, inr is) (inr (open_, alive, inl (is', more, low'))) mark small =
    let over : w.mark ≡ CancelledMark = ap (λ p. p.mark) is in
    absurd (cc)
same_seen shared s t w v force (inr (open_, alive, inr is')) mark small =
    let over : v.mark ≡ CancelledMark = ap (λ p. p.mark) is' in
    absurd (cc)

-- the steps at a tick
module _ {T W : Type 0} (shared : Bool) (b c : Core T W) (l : IsLawfulCore b) (i : ℕ) (due : filed_at b.wheel.filing.filed i ≡ Some b.wheel.filing.tick) (en : c.noted ≡ b.noted) where
  inside_filed : i < length b.wheel.filing.filed
  inside_filed =
      let at = filed_is l i b.wheel.filing.tick due in
      let size = l.as_filed in
      let inside = at.inside in
      omega arith

  -- a due entry that is live at a later deadline is filed again
  piece_later : (d : ℕ) → IsSettled shared (row_at b.slots.rows i).stamp b.wheel.filing.tick (word_at b.known i) (Later d) (word_at c.known i) → c.wheel.filing ≡ linked (unlinked b.wheel.filing i) i (filing_for b.wheel.filing.tick d) → c.slots ≡ b.slots → c.known ≡ set b.known i (word_at c.known i) → c.counts ≡ b.counts →
      IsComing shared 1 b c × (steps_left c + 2 ≤ steps_left b)
  piece_later d settled ew es ek ec =
      let t = b.wheel.filing.tick in
      let g = filing_for t d in
      let filing : c.wheel.filing ≡ linked b.wheel.filing i g = ew ∙ relinked b.wheel.filing i g in
      let L : Parts → Type 0 = λ p. Learned shared (word_at b.known i) p in
      let later : t < d = settled.0 in
      let way = step_later shared b c l i due en d settled ew es ek ec in (
        coming_by shared b c (inr (inl (i, (row_at b.slots.rows i).stamp, d, due, later, subst L settled.1 settled.2, filing))) way.0,
        steps_fewer b c i (Some g) inside_filed due (not_due t g (λ e. omega arith)) (ap (λ f. f.filed) filing) (ap (λ f. f.tick) filing) en (ap (λ x. length x.rows) es),
      )

  -- a due entry that is found cancelled is reaped
  piece_cancelled : IsSettled shared (row_at b.slots.rows i).stamp b.wheel.filing.tick (word_at b.known i) SettledCancelled (word_at c.known i) → c.wheel.filing ≡ unlinked b.wheel.filing i → c.slots ≡ vacated b.slots i → c.known ≡ set b.known i (word_at c.known i) → c.counts ≡ b.counts →
      IsComing shared 1 b c × (steps_left c + 2 ≤ steps_left b)
  piece_cancelled settled ew es ek ec =
      let way = step_cancelled shared b c l i due en settled ew es ek ec in (
        coming_by shared b c (inl (i, due, ew)) way.0,
        steps_fewer b c i None inside_filed due refl (ap (λ f. f.filed) ew) (ap (λ f. f.tick) ew) en
            (ap (λ x. length x.rows) es ∙ length-set b.slots.rows i (vacated_row (row_at b.slots.rows i))),
      )

  -- each of both is a step of a poll too
  pub both_later : (d : ℕ) → IsSettled shared (row_at b.slots.rows i).stamp b.wheel.filing.tick (word_at b.known i) (Later d) (word_at c.known i) → c.wheel.filing ≡ linked (unlinked b.wheel.filing i) i (filing_for b.wheel.filing.tick d) → c.slots ≡ b.slots → c.known ≡ set b.known i (word_at c.known i) → c.counts ≡ b.counts →
      (IsUnderWay shared b c × (work c < work b)) × (IsComing shared 1 b c × LeavesFewer b c)
  both_later d settled ew es ek ec =
      let piece = piece_later d settled ew es ek ec in
      (step_later shared b c l i due en d settled ew es ek ec, (piece.0, two_fewer b c piece.1))

  pub both_cancelled : IsSettled shared (row_at b.slots.rows i).stamp b.wheel.filing.tick (word_at b.known i) SettledCancelled (word_at c.known i) → c.wheel.filing ≡ unlinked b.wheel.filing i → c.slots ≡ vacated b.slots i → c.known ≡ set b.known i (word_at c.known i) → c.counts ≡ b.counts →
      (IsUnderWay shared b c × (work c < work b)) × (IsComing shared 1 b c × LeavesFewer b c)
  both_cancelled settled ew es ek ec =
      let piece = piece_cancelled settled ew es ek ec in
      (step_cancelled shared b c l i due en settled ew es ek ec, (piece.0, two_fewer b c piece.1))

  -- the word of a due index, as it was looked at
  inside_known : i < length b.known
  inside_known =
      let at = filed_is l i b.wheel.filing.tick due in
      let size = l.as_known in
      let inside = at.inside in
      omega arith

  pub looked_force : (v : Parts) → Learned shared (word_at b.known i) v → IsInForce (row_at b.slots.rows i).stamp b.wheel.filing.tick v
  looked_force v learned =
      let at = filed_is l i b.wheel.filing.tick due in
      force_learned shared (row_at b.slots.rows i).stamp b.wheel.filing.tick (word_at b.known i) v at.in_force learned

  looked_word : (v : Parts) → c.known ≡ set b.known i v → word_at c.known i ≡ v
  looked_word v ek = ap (λ ws. word_at ws i) ek ∙ get_or-set_same b.known i v never inside_known

  looked_known : (v : Parts) → c.known ≡ set b.known i v → c.known ≡ set b.known i (word_at c.known i)
  looked_known v ek = ek ∙ ap (λ p. set b.known i p) (sym (looked_word v ek))

  looked_learned : (v : Parts) → Learned shared (word_at b.known i) v → c.known ≡ set b.known i v → Learned shared (word_at b.known i) (word_at c.known i)
  looked_learned v learned ek =
      let L : Parts → Type 0 = λ p. Learned shared (word_at b.known i) p in
      subst L (sym (looked_word v ek)) learned

  -- a look that finds it live at a later tick settles it, as a step of its word would
  looked_later : (v : Parts) → Learned shared (word_at b.known i) v → v.mark ≡ LiveMark → b.wheel.filing.tick < v.field → c.known ≡ set b.known i v →
      IsSettled shared (row_at b.slots.rows i).stamp b.wheel.filing.tick (word_at b.known i) (Later v.field) (word_at c.known i)
  looked_later v learned mark later ek = (later, looked_word v ek ∙ live_seen _ _ v (looked_force v learned) mark, looked_learned v learned ek)

  -- and so does one that finds it cancelled
  looked_cancelled : (v : Parts) → Learned shared (word_at b.known i) v → v.mark ≢ LiveMark → c.known ≡ set b.known i v →
      IsSettled shared (row_at b.slots.rows i).stamp b.wheel.filing.tick (word_at b.known i) SettledCancelled (word_at c.known i)
  looked_cancelled v learned mark ek = (looked_word v ek ∙ over_seen _ _ v (looked_force v learned) mark, looked_learned v learned ek)

  pub look_later : (v : Parts) → Learned shared (word_at b.known i) v → v.mark ≡ LiveMark → b.wheel.filing.tick < v.field → c.known ≡ set b.known i v →
      c.wheel.filing ≡ linked (unlinked b.wheel.filing i) i (filing_for b.wheel.filing.tick v.field) → c.slots ≡ b.slots → c.counts ≡ b.counts →
      IsLawfulCore c × IsComing shared 1 b c × (steps_left c + 2 ≤ steps_left b)
  look_later v learned mark later ek ew es ec =
      let settled = looked_later v learned mark later ek in
      let known = looked_known v ek in
      let piece = piece_later v.field settled ew es known ec in
      (later_lawful shared b c l i due en v.field settled ew es known ec, piece.0, piece.1)

  pub look_cancelled : (v : Parts) → Learned shared (word_at b.known i) v → v.mark ≢ LiveMark → c.known ≡ set b.known i v →
      c.wheel.filing ≡ unlinked b.wheel.filing i → c.slots ≡ vacated b.slots i → c.counts ≡ b.counts →
      IsLawfulCore c × IsComing shared 1 b c × (steps_left c + 2 ≤ steps_left b)
  look_cancelled v learned mark ek ew es ec =
      let settled = looked_cancelled v learned mark ek in
      let known = looked_known v ek in
      let piece = piece_cancelled settled ew es known ec in
      (cancelled_lawful shared b c l i due en settled ew es known ec, piece.0, piece.1)

  -- a look that finds it live at the tick learns nothing
  pub look_same : (v : Parts) (known : List Parts) → Learned shared (word_at b.known i) v → v.mark ≡ LiveMark → v.field ≤ b.wheel.filing.tick → known ≡ set b.known i v → known ≡ b.known
  look_same v known learned mark small ek =
      let at = filed_is l i b.wheel.filing.tick due in
      let same = same_seen shared (row_at b.slots.rows i).stamp b.wheel.filing.tick (word_at b.known i) v at.in_force learned mark small in
      ek ∙ ap (λ p. set b.known i p) same ∙ set-get_or b.known i never

-- a due entry that expires, by a step of a poll
pub both_expired : {T W : Type 0} (shared : Bool) (b c : Core T W) (i : ℕ) {x : Expired T} → filed_at b.wheel.filing.filed i ≡ Some b.wheel.filing.tick → c.wheel.filing ≡ unlinked b.wheel.filing i → IsAnswered shared b (Out x) c →
    IsAnswered shared b (Out x) c × IsAnsweredBy shared 1 b (Out x) c
both_expired shared b c i {x} due ew ans = (ans, answered_by shared b c (Out x) (inl (i, due, ew)) ans)

module _ {T W : Type 0} (shared : Bool) (b c : Core T W) (l : IsLawfulCore b) (on : ArrivesOn b.noted b.wheel.filing c.wheel.filing)
    (earlier : AreFiledByThen b.wheel.filing.filed c.wheel.filing.filed) (small : c.wheel.filing.tick ≤ b.noted) (up : b.wheel.filing.tick < c.wheel.filing.tick)
    (before : (i f : ℕ) → filed_at c.wheel.filing.filed i ≡ Some f → c.wheel.filing.tick ≤ f)
    (es : c.slots ≡ b.slots) (ek : c.known ≡ b.known) (ec : c.counts ≡ b.counts) (en : c.noted ≡ b.noted) where
  size : length c.wheel.filing.filed ≡ length b.wheel.filing.filed
  size = arrived_size b.noted b.wheel.filing c.wheel.filing on.2

  late_of : (o : Option ℕ) (i f : ℕ) → o ≡ Some f → MatchOption o (filed_at c.wheel.filing.filed i ≡ None) (λ f. (g : ℕ) × (filed_at c.wheel.filing.filed i ≡ Some g) × (g ≤ f)) →
      c.wheel.filing.tick ≤ f
  late_of None i f is now = absurd (cc)
  late_of (Some k) i f is now =
      let same : k ≡ f = cc in
      let le : c.wheel.filing.tick ≤ now.0 = before i now.0 now.1 in
      let less : now.0 ≤ k = now.2 in
      omega arith

  pub step_arrived : IsComing shared 1 b c × LeavesFewer b c
  step_arrived =
      let t = c.wheel.filing.tick in
      let Q : List Parts → Type 0 = λ ws. LooksOver shared b.known ws in
      let late : (i f : ℕ) → filed_at b.wheel.filing.filed i ≡ Some f → t ≤ f = λ i f e. late_of (filed_at b.wheel.filing.filed i) i f e (earlier i) in
      let none : NoneLiveBefore (machine b) t = none_before b.wheel.filing.tick b.noted b.slots.last_stamp t b.slots.rows b.known b.wheel.filing.filed l.as_known l.each late in
      let mc : machine c ≡ machine_of t b.noted b.slots.rows b.known = machine_is c t b.noted b.slots.rows b.known refl en (ap (λ x. x.rows) es) ek in
      let rows : length c.slots.rows ≡ length b.slots.rows = ap (λ x. length x.rows) es in
      let filed = l.as_filed in
      let as_many = size in (
        record {
          way = run_of_one (IsOnTheWay shared) b.slots.last_stamp (machine b) (machine c) (Pass t) tt (omega (arith, up), small, none, mc);
          looks = subst Q (sym ek) (looks_none shared b.known);
          wheel = comes_one shared b.known b.noted b.wheel.filing c.wheel.filing (inr (inr on));
          ticks = omega (arith, up);
          filed = λ i. filed_earlier b.wheel.filing b.known c.wheel.filing c.known i (filed_at b.wheel.filing.filed i) refl (earlier i) (ap (λ ws. word_at ws i) ek);
          counts = ec;
        },
        (steps_on b c (omega arith) up small en rows, λ due. absurd (on.1 due.0 due.1)),
      )

-- what a loop of steps keeps
abbrev pub IsOnPiece : {T W : Type 0} → Bool → Core T W → ℕ → ℕ → Core T W → Type 0
IsOnPiece shared b t turns cur =
    (t ≤ LAST_TICK) × SameCore (noting b t) cur × (cur.noted ≡ max b.noted t) × IsComing shared turns (noting b t) cur
    × (steps_left cur + turns ≤ steps_left (noting b t))

pub piece_more : {T W : Type 0} (shared : Bool) (b cur c : Core T W) (t turns made : ℕ) → IsOnPiece shared b t turns cur → 0 < made → SameCore cur c → c.noted ≡ cur.noted →
    IsComing shared made cur c × (steps_left c + made ≤ steps_left cur) → IsOnPiece shared b t (turns + made) c
piece_more shared b cur c t turns made on some same noted way =
    let fewer : steps_left c + made ≤ steps_left cur = way.1 in
    let left : steps_left cur + turns ≤ steps_left (noting b t) = on.4 in (
      on.0,
      (same.0 ∙ on.1.0, same.1 ∙ on.1.1, same.2 ∙ on.1.2),
      noted ∙ on.2,
      coming_more shared turns made (noting b t) cur c on.1.1 on.2 on.3 way.0,
      omega arith,
    )

pub piece_init : {T W : Type 0} (shared : Bool) (b n : Core T W) (t : ℕ) → t ≤ LAST_TICK → n ≡ noting b t → IsOnPiece shared b t 0 n
piece_init {T} {W} shared b n t small is =
    let P : Core T W → Type 0 = λ m. IsOnPiece shared b t 0 m in
    subst P (sym is) (small, (refl, refl, refl), refl, coming_none shared (noting b t), omega arith)

-- a piece that takes an entry out
pub piece_out : {T W : Type 0} (shared : Bool) (b cur c : Core T W) (t turns most : ℕ) (x : Expired T) → IsOnPiece shared b t turns cur → IsAnsweredBy shared 1 cur (Out x) c → c.noted ≡ cur.noted → turns < most →
    IsPolledSome shared b t most (Answer (Out x)) c
piece_out {T} shared b cur c t turns most x on ans noted less =
    let n = noting b t in
    let same : SameCore n cur = on.1 in
    let way : IsComing shared turns n cur = on.3 in
    let L : ℕ → Type 0 = λ s. (m : Machine T) × RunOf (IsOnTheWay shared) s (machine cur) m × IsOut cur.shard s m x (machine c) in
    let S : ℕ → Type 0 = λ s. (m : Machine T) × RunOf (IsOnTheWay shared) n.slots.last_stamp (machine cur) m × IsOut s n.slots.last_stamp m x (machine c) in
    let run = subst S same.0 (subst L same.1 ans.run) in
    let up = way.ticks in
    let up' = ans.ticks in (
      on.0,
      refl,
      record {
        run = (run.0, run_of_more (IsOnTheWay shared) n.slots.last_stamp (machine n) (machine cur) run.0 way.way run.1, run.2);
        row = (ans.row.0, looks_more shared n.known cur.known ans.row.0 way.looks ans.row.1, ans.row.2, ans.row.3);
        wheel = comes_fewer shared n.known n.noted (turns + 1) most n.wheel.filing c.wheel.filing (omega (arith, less))
            (comes_more shared n.known cur.known n.noted cur.noted turns 1 n.wheel.filing cur.wheel.filing c.wheel.filing on.2 way.looks way.wheel ans.wheel);
        ticks = omega arith;
        filed = λ i. then_more n.wheel.filing n.known cur.wheel.filing cur.known c.wheel.filing c.known i up up' (way.filed i) (ans.filed i);
        counts = ans.counts ∙ ap (λ k. settled_counts k SettledExpired) way.counts;
      },
      noted ∙ on.2,
    )

-- what comes out is due, and no live entry has an earlier deadline
pub out_due : {T W : Type 0} (shared : Bool) (b c : Core T W) (x : Expired T) → IsAnsweredBy shared 1 b (Out x) c → (x.deadline ≤ c.noted) × NoneLiveBefore (machine c) x.deadline
out_due shared b c x ans =
    let m = ans.run.0 in
    let step = ans.run.2.0.0 in
    let noted : c.noted ≡ m.noted = ap (λ k. k.noted) step.7 in
    let by : x.deadline ≤ m.noted = step.5 in
    (omega arith, least_out b.slots.last_stamp m (machine c) x.key.entry.index x.key.entry.born x.deadline step)

-- the same of a whole poll
pub polled_due : {T W : Type 0} (shared : Bool) (b c : Core T W) (x : Expired T) → IsAnswered shared b (Out x) c → (x.deadline ≤ c.noted) × NoneLiveBefore (machine c) x.deadline
polled_due shared b c x ans =
    let m = ans.run.0 in
    let step = ans.run.2.0.0 in
    let noted : c.noted ≡ m.noted = ap (λ k. k.noted) step.7 in
    let by : x.deadline ≤ m.noted = step.5 in
    (omega arith, least_out b.slots.last_stamp m (machine c) x.key.entry.index x.key.entry.born x.deadline step)

-- a piece that finds nothing due
piece_rests : {T W : Type 0} (shared : Bool) (b cur : Core T W) (t turns most : ℕ) (turn : Turn T) → IsOnPiece shared b t turns cur → turns ≤ most →
    IsTurn cur.shard cur.slots.last_stamp (machine cur) turn (machine cur) cur.wheel.filing → TurnRow shared (noting b t).known turn cur.known →
    turn_counts b.counts turn ≡ b.counts → IsPolledSome shared b t most (Answer turn) cur
piece_rests {T} {W} shared b cur t turns most turn on few is row counts =
    let n = noting b t in
    let same : SameCore n cur = on.1 in
    let way : IsComing shared turns n cur = on.3 in
    let S : ℕ → Type 0 = λ s. IsTurn s cur.slots.last_stamp (machine cur) turn (machine cur) cur.wheel.filing in
    let L : ℕ → Type 0 = λ s. IsTurn n.shard s (machine cur) turn (machine cur) cur.wheel.filing in (
      on.0,
      refl,
      record {
        run = (machine cur, way.way, subst L same.1 (subst S same.0 is));
        row = row;
        wheel = comes_fewer shared n.known n.noted turns most n.wheel.filing cur.wheel.filing few way.wheel;
        ticks = way.ticks;
        filed = way.filed;
        counts = way.counts ∙ sym counts;
      },
      on.2,
    )

rested : {T W : Type 0} (shared : Bool) (b cur after : Core T W) (t turns : ℕ) → IsOnPiece shared b t turns cur → after ≡ cur → IsOnPiece shared b t turns after
rested {T} {W} shared b cur after t turns on e = let P : Core T W → Type 0 = λ m. IsOnPiece shared b t turns m in subst P (sym e) on

wakes_later : {T W : Type 0} (c : Core T W) (next : ℕ) → c.wheel.filing.tick ≡ c.noted → ((i : ℕ) → filed_at c.wheel.filing.filed i ≢ Some c.wheel.filing.tick) → WakesAhead c (Some next) → c.noted < next
wakes_later c next at none ahead = let later = ahead none in omega (arith, at, later)

pub piece_waiting : {T W : Type 0} (shared : Bool) (b cur after : Core T W) (t turns most next : ℕ) → IsOnPiece shared b t turns cur → turns ≤ most → IsAtRest cur after → TellsWake after (Some next) → WakesAhead after (Some next) →
    IsPolledSome shared b t most (Answer (Waiting next)) after
piece_waiting shared b cur after t turns most next on few r wake ahead =
    let now = rested shared b cur after t turns on r.0 in
    piece_rests shared b after t turns most (Waiting next) now few (refl, r.1, none_due (machine after) after.noted r.2, wake, wakes_later after next r.1 r.3 ahead) now.3.looks refl

pub piece_idle : {T W : Type 0} (shared : Bool) (b cur after : Core T W) (t turns most : ℕ) → IsOnPiece shared b t turns cur → turns ≤ most → IsAtRest cur after → TellsWake after None →
    IsPolledSome shared b t most (Answer Idle) after
piece_idle shared b cur after t turns most on few r wake =
    let now = rested shared b cur after t turns on r.0 in
    piece_rests shared b after t turns most Idle now few (refl, r.1, none_due (machine after) after.noted r.2, wake) now.3.looks refl

-- where none is due at the noted tick, a step at either pace rests
pub step_rests : {T W : Type 0} (shared : Bool) (pace : Pace) (b c : Core T W) → IsAtRest b c → IsStepAt shared pace b Rests c
step_rests shared Whole b c rest = rest
step_rests shared InPieces b c rest = rest

-- where only the words themselves are other than before, as after a look that learned nothing
pub looked_same : {T W : Type 0} (shard noted : ℕ) (wheel : WheelState) (slots : SlotState T) (known known' : List Parts) (counts counts' : Counts) (words : W) →
    known' ≡ known → counts' ≡ counts → core_of shard noted wheel slots known' counts' words ≡ core_of shard noted wheel slots known counts words
looked_same shard noted wheel slots known known' counts counts' words ek ec =
    ap (λ ws. core_of shard noted wheel slots ws counts' words) ek ∙ ap (λ n. core_of shard noted wheel slots known n words) ec

coming_beside : {T W : Type 0} (shared : Bool) (b c : Core T W) (w : W) → IsComing shared 1 (record b { words = w }) c → IsComing shared 1 b c
coming_beside shared b c w x = record { way = x.way; looks = x.looks; wheel = x.wheel; ticks = x.ticks; filed = x.filed; counts = x.counts }

answered_beside : {T W : Type 0} (shared : Bool) (b c : Core T W) (turn : Turn T) (w : W) → IsAnsweredBy shared 1 (record b { words = w }) turn c → IsAnsweredBy shared 1 b turn c
answered_beside shared b c turn w x = record { run = x.run; row = x.row; wheel = x.wheel; ticks = x.ticks; filed = x.filed; counts = x.counts }

-- a step after a look that learned nothing of a due index
piece_beside : {T W : Type 0} (shared : Bool) (b : Core T W) (w : W) (i : ℕ) (made : Progress T) (c : Core T W) → filed_at b.wheel.filing.filed i ≡ Some b.wheel.filing.tick →
    IsPieceStep shared (record b { words = w }) made c → IsPieceBy shared b 2 made c
piece_beside shared b w i (Gave x) c due step = answered_beside shared b c (Out x) w step
piece_beside shared b w i Went c due step = (coming_fewer shared 1 2 b c (omega arith) (coming_beside shared b c w step.0), step.1.1 (i, due))
piece_beside {T} {W} shared b w i Rests c due step =
    let F : Core T W → Type 0 = λ q. filed_at q.wheel.filing.filed i ≡ Some q.wheel.filing.tick in
    absurd (step.3 i (subst F (sym step.0) due))

pub piece_by_two : {T W : Type 0} (shared : Bool) (b n : Core T W) (i : ℕ) (made : Progress T) (c : Core T W) → filed_at b.wheel.filing.filed i ≡ Some b.wheel.filing.tick →
    n ≡ record b { words = n.words } → IsPieceStep shared n made c → IsPieceBy shared b 2 made c
piece_by_two {T} {W} shared b n i made c due same step =
    let P : Core T W → Type 0 = λ q. IsPieceStep shared q made c in
    piece_beside shared b n.words i made c due (subst P same step)

-- an index that is due
pub due_next : (w : Filing) (o : Option ℕ) → IfSome o (λ j. filed_at w.filed j ≡ Some w.tick) → IfSome o (λ j. j < length w.filed) → IfDue w o
due_next w None due inside = tt
due_next w (Some j) due inside = (inside, due)

-- what is due next stays so where another index was filed anew
pub due_beside : (v w : Filing) (i : ℕ) (o : Option ℕ) → OthersStayFiled v.filed w.filed i → w.tick ≡ v.tick → length w.filed ≡ length v.filed →
    IfSome o (λ j. filed_at v.filed j ≡ Some v.tick) → IfSome o (λ j. j < length v.filed) → IfSome o (λ j. j ≢ i) → IfDue w o
due_beside v w i None others tick size due inside other = tt
due_beside v w i (Some j) others tick size due inside other = (rw size inside, others j other ∙ (due ∙ ap Some (sym tick)))

-- looks that settle one due index after the other
abbrev pub IsOnLooks : {T W : Type 0} → Bool → Core T W → ℕ → Core T W → Type 0
IsOnLooks shared b made cur = SameCore b cur × (cur.noted ≡ b.noted) × IsComing shared made b cur × (steps_left cur + 2 * made ≤ steps_left b)

pub looks_init : {T W : Type 0} (shared : Bool) (b : Core T W) → IsOnLooks shared b 0 b
looks_init shared b = ((refl, refl, refl), refl, coming_none shared b, omega arith)

pub looks_on : {T W : Type 0} (shared : Bool) (b cur c : Core T W) (made : ℕ) → IsOnLooks shared b made cur → SameCore cur c → c.noted ≡ cur.noted →
    SettlesByLook shared cur true c → IsOnLooks shared b (made + 1) c
looks_on shared b cur c made on same noted way =
    let fewer : steps_left c + 2 ≤ steps_left cur = way.1 in
    let left : steps_left cur + 2 * made ≤ steps_left b = on.3 in (
      (same.0 ∙ on.0.0, same.1 ∙ on.0.1, same.2 ∙ on.0.2),
      noted ∙ on.1,
      coming_more shared made 1 b cur c on.0.1 on.1 on.2 way.0,
      omega arith,
    )

-- the last one settles none
coming_looked : {T W : Type 0} (shared : Bool) (n : ℕ) (b c : Core T W) (w : W) → IsComing shared n b c → IsComing shared n b (record c { words = w })
coming_looked shared n b c w x = record { way = x.way; looks = x.looks; wheel = x.wheel; ticks = x.ticks; filed = x.filed; counts = x.counts }

pub looks_stop : {T W : Type 0} (shared : Bool) (b cur c : Core T W) (made : ℕ) → IsOnLooks shared b made cur → SettlesByLook shared cur false c → LooksOn shared b (made + 1) c
looks_stop {T} {W} shared b cur c made on same =
    let P : Core T W → Type 0 = λ q. LooksOn shared b (made + 1) q in
    let left : steps_left cur + 2 * made ≤ steps_left b = on.3 in
    subst P (sym same) (coming_looked shared (made + 1) b cur c.words (coming_fewer shared made (made + 1) b cur (omega arith) on.2), omega arith)

-- after a look that settled its own
pub piece_by_looks : {T W : Type 0} (shared : Bool) (b n c : Core T W) (more : ℕ) → SameCore b n → n.noted ≡ b.noted → SettlesByLook shared b true n → LooksOn shared n more c →
    IsPieceBy shared b (1 + more) Went c
piece_by_looks shared b n c more same noted way looks =
    let fewer : steps_left n + 2 ≤ steps_left b = way.1 in
    let left : steps_left c + more ≤ steps_left n + 1 = looks.1 in
    (coming_more shared 1 more b n c same.1 noted way.0 looks.0, omega arith)
