-- What a call leaves of the cores that are away from a shard, and of the ids that entries had been given.
use Rattle.std.proofs.Common.{◌≡◌, ◌≢◌, ◌⊎◌, ℕ, ◌≤◌, arith, Bool, true, false, true≢false, not, List, [], ◌∷◌, ◌++◌, length, Option, Some, None, Result, Ok, Err, OnOk, OnErr, refl, sym, ap, ◌∙◌, subst, inl, inr, ⊎_elim}
use mathlib.Core.Logic.{dite}
use native.Mathlib.Decide.{ℕ_discrete}
use Rattle.std.proofs.lemmas.Bool.Decides.{nat_tests}
use Rattle.dq_ticks.specs.declared.keys.EntryId.{EntryId}
use Rattle.atomic_table.specs.Seated.{TableId}
use Rattle.dq_core.specs.Core.{Core, machine}
use Rattle.dq_core.specs.Folds.{FoldedCore, IsFoldable, at_tick, folded_machine}
use Rattle.dq_core.specs.Machine.{Machine, table_at}
use Rattle.boxcar.specs.Slot.{Named}
use Rattle.dq_words.specs.Claims.{Claimed, IsOf}
use Rattle.dq_queue.specs.declared.journal.views.Entry.{Entry}
use Rattle.dq_queue.specs.declared.journal.views.View.{View}
use Rattle.dq_queue.specs.History.{entry, entries_by}
use Rattle.dq_queue.specs.Once.{EntersOnce, IsWithNumber}
use Rattle.dq_queue.specs.Views.{first_witness}
use Rattle.dq_growing.specs.declared.cores.TakeError.{TakeError}
use Rattle.dq_growing.specs.Cores.{HasNo, IsCoreAt}
use Rattle.dq_growing.specs.Notes.{ArePastBy, numbers_of}
use Rattle.dq_growing.specs.Runs.{IsUsedId}
use Rattle.dq_growing.specs.Sizing.{WasBeside}
use Rattle.dq_growing.specs.Sized.{SizedState}
use Rattle.dq_growing.specs.Store.{StoreState}
use Rattle.dq_growing.proofs.Rows.{at_snoc, snoc_last, snoc_long}
use Rattle.dq_growing.proofs.Standing.{some_is}
use Rattle.dq_words.specs.OpenCalls.{Open}
use Rattle.dq_words.specs.Seats.{Sat}
use Rattle.dq_queue.specs.Calls.{HasGiven, IsStoreCall, StoreTakesIn, StoreGives}
use Rattle.dq_queue.specs.Claims.{AreClaimed, AreClaimsOf, BringsNoCore, ClaimsWords, HasClaim, IsClaimAt, IsClaimed}
use Rattle.dq_queue.specs.Loans.{is_away, IsLent, IsLentCore, IsLentFold, IsAway, IsAwayBy, IsStill, LoansAreKept}
use Rattle.dq_queue.specs.Runs.{ByCall, IsNewNumber, KeepsGiven, KeepsGivenIds, WasGivenIn}
use Rattle.dq_queue.specs.Shards.{IsAsLeft, IsStoreHistory}
use Rattle.dq_queue.proofs.Claims.{claim_before, claim_last, claim_more, comes_claimed, more_claimed, same_cores, still_claimed, were_there}
use Rattle.dq_queue.proofs.Runs.{BringsNone, by_call, keeps_id, used_in}

-- lists

abbrev head_or : {X : Type 0} → X → List X → X
head_or d [] = d
head_or d (x ∷ xs) = x

abbrev rest_of : {X : Type 0} → List X → List X
rest_of [] = []
rest_of (x ∷ xs) = xs

off : (b : Bool) → b ≡ true → b ≡ false → ⊥
off b t f = true≢false (sym t ∙ f)

abbrev or_else : {X : Type 0} → X → Option X → X
or_else d None = d
or_else d (Some x) = x

module _ {E : Type 0} where
  entries_here : (by : ℕ) (log : List (Entry E)) (e : Entry E) → e.by ≡ by → entries_by by (e ∷ log) ≡ e ∷ entries_by by log
  entries_here by log e h = grind (arith, nat_tests)

  entries_else : (by : ℕ) (log : List (Entry E)) (e : Entry E) → e.by ≢ by → entries_by by (e ∷ log) ≡ entries_by by log
  entries_else by log e h = grind (arith, nat_tests)

module _ {T : Type 0} where
  -- the entries of a register

  -- what is away was in before it left
  in_before : (mine rest : List (Entry (Core T Sat))) (e : Entry (Core T Sat)) → mine ≡ e ∷ rest → is_away rest ≡ false → is_away mine ≡ true
  in_before mine rest e same out = ap is_away same ∙ ap not out

  one_core : (k : ℕ) (c d : Core T Sat) (rest more : List (Entry (Core T Sat))) → entry k (Some c) ∷ rest ≡ entry k (Some d) ∷ more → c ≡ d
  one_core k c d rest more same = ap (λ (l : List (Entry (Core T Sat))). or_else c ((head_or (entry k (Some c)) l).left)) same

  -- what is still a core that is away

  still_itself : (c : Core T Sat) → IsStill c c.shard c.words.table (machine c)
  still_itself c = record { same = (refl, refl); past = λ u p. p }

  -- an entry of a loan, and the register before and after
  module _ (h v w : View (Core T Sat)) (x : Core T Sat) (enters : EntersOnce h v (Some x) w) (now : List (Entry (Core T Sat))) (is : now ≡ w.log) where
    all : now ≡ entry v.number (Some x) ∷ h.log
    all = is ∙ enters.2

    -- the loan's entries before were those that it knew
    pub its_entries : entries_by v.number h.log ≡ v.mine
    its_entries =
        let P : ℕ → Type 0 = λ k. entries_by k w.log ≡ w.mine in
        let Q : List (Entry (Core T Sat)) → Type 0 = λ l. entries_by v.number l ≡ w.mine in
        let by : entries_by v.number (entry v.number (Some x) ∷ h.log) ≡ w.mine = subst Q enters.2 (subst P enters.5 enters.4) in
        let here = entries_here v.number h.log (entry v.number (Some x)) refl in
        ap rest_of (sym here ∙ (by ∙ enters.3))

    pub its_entries_now : entries_by v.number now ≡ entry v.number (Some x) ∷ v.mine
    its_entries_now =
        ap (λ (l : List (Entry (Core T Sat))). entries_by v.number l) all
        ∙ (entries_here v.number h.log (entry v.number (Some x)) refl ∙ ap (λ (l : List (Entry (Core T Sat))). entry v.number (Some x) ∷ l) its_entries)

    -- of other loans it has the same entries
    pub others_out : (k : ℕ) (c : Core T Sat) → v.number ≢ k → IsAway now k c → IsAway h.log k c
    others_out k c ne out =
        let same : entries_by k now ≡ entries_by k h.log = ap (λ (l : List (Entry (Core T Sat))). entries_by k l) all ∙ entries_else k h.log (entry v.number (Some x)) ne in
        (out.0, sym same ∙ out.1, out.2)

    -- where its core was away, it is away no more
    pub not_out : (b c : Core T Sat) → IsAwayBy v.mine v.number b → IsAway now v.number c → ⊥
    not_out b c was out =
        let same : v.mine ≡ out.0 = ap rest_of (sym its_entries_now ∙ out.1) in
        off (is_away v.mine) (in_before v.mine was.0 (entry v.number (Some b)) was.1 was.2) (ap is_away same ∙ out.2)

    -- where it was not, this core is away
    pub one_out : (c : Core T Sat) → IsAway now v.number c → x ≡ c
    one_out c out = one_core v.number x c v.mine out.0 (sym its_entries_now ∙ out.1)

    -- this core is lent by it
    pub lent_now : IsWithNumber w → is_away v.mine ≡ false → IsLentCore w x
    lent_now numbered in_it = (numbered, (x, (v.mine, enters.3 ∙ ap (λ (n : ℕ). entry n (Some x) ∷ v.mine) (sym enters.5), in_it), still_itself x))

    -- a core that was away is in
    pub in_again : (b : Core T Sat) → IsAwayBy v.mine v.number b → is_away w.mine ≡ false
    in_again b was = ap is_away enters.3 ∙ ap not (in_before v.mine was.0 (entry v.number (Some b)) was.1 was.2)

    pub out_before : (b : Core T Sat) → IsAwayBy v.mine v.number b → IsAway h.log v.number b
    out_before b was = (was.0, its_entries ∙ was.1, was.2)

  -- one call more

  -- what a call has to leave, that the shard's word be kept
  pub record Leaves (log : List (Entry (SizedState T Sat))) (b : StoreState T Sat) (more : List (Entry (Core T Sat))) (is : List (Claimed Open)) : Type 0 where
    pub away : (k : ℕ) (c : Core T Sat) → IsAway more k c → HasNo b.cores.cores c.shard
    pub claimed : (k : ℕ) (c : Core T Sat) → IsAway more k c → IsClaimed is c
    pub past : (u : EntryId) → WasGivenIn log u → (k : ℕ) (c : Core T Sat) → IsAway more k c → ArePastBy (numbers_of u) c
    pub apart : (k l : ℕ) (c d : Core T Sat) → IsAway more k c → IsAway more l d → c.shard ≡ d.shard → k ≡ l

  kept_by : (log : List (Entry (SizedState T Sat))) (e : Entry (SizedState T Sat)) (a b : SizedState T Sat) (u : EntryId) → e.left ≡ Some b → IsAsLeft log a → WasGivenIn log u → KeepsGiven u a.store b.store
      → ByCall (KeepsGiven u) e log
  kept_by [] e a b u left at given kept = absurd given
  kept_by (x ∷ xs) e a b u left at given kept = by_call (KeepsGiven u) e [] x xs a b at left kept

  pub step : (log : List (Entry (SizedState T Sat))) (e : Entry (SizedState T Sat)) (a b : SizedState T Sat) (loans more : List (Entry (Core T Sat))) (was is : List (Claimed Open))
      → LoansAreKept log a.store loans was → e.left ≡ Some b → IsAsLeft log a → ((u : EntryId) → WasGivenIn log u → KeepsGiven u a.store b.store)
      → AreClaimed b.store.cores.cores is → ((j : ℕ) (k : Claimed Open) → IsClaimAt was j k → IsClaimAt is j k)
      → Leaves log b.store more is → LoansAreKept (e ∷ log) b.store more is
  step log e a b loans more was is old left at keeps claimed wider leaves = record {
    ids = ((λ u given. kept_by log e a b u left at given (keeps u given)), old.ids);
    known = known;
    past = past;
    away = leaves.away;
    claimed = leaves.claimed;
    apart = leaves.apart;
  }
    where
      given_now : (u : EntryId) → ((h : SizedState T Sat) × (e.left ≡ Some h) × HasGiven h.store u) → HasGiven b.store u
      given_now u g = let P : SizedState T Sat → Type 0 = λ h. HasGiven h.store u in subst P (some_is g.0 b (sym g.1 ∙ left)) g.2

      known : (u : EntryId) → WasGivenIn (e ∷ log) u → HasClaim is u.shard
      known u (inl now) =
          let g = given_now u now in
          let core = g.1 in
          let k = claimed core.0 core.1 core.2.0 in
          (k.0, k.1, k.2, k.3.0 ∙ core.2.1)
      known u (inr older) = let k = old.known u older in (k.0, k.1, wider k.0 k.1 k.2, k.3)

      past : (u : EntryId) → WasGivenIn (e ∷ log) u → (k : ℕ) (c : Core T Sat) → IsAway more k c → ArePastBy (numbers_of u) c
      past u (inl now) k c out =
          let g = given_now u now in
          let core = g.1 in
          λ same. absurd (leaves.away k c out core.0 core.1 core.2.0 (core.2.1 ∙ same))
      past u (inr older) k c out = leaves.past u older k c out

  -- at first nothing is given, and no core is away
  pub none_yet : (h : View (SizedState T Sat)) (g : View (Core T Sat)) (a : SizedState T Sat) (claims : List (Claimed Open)) → h ≡ first_witness → g ≡ first_witness
      → LoansAreKept h.log a.store g.log claims
  none_yet h g a claims history loans =
      let P : List (Entry (SizedState T Sat)) × List (Entry (Core T Sat)) → Type 0 = λ x. LoansAreKept x.0 a.store x.1 claims in
      let first : P ([], []) = record {
        ids = tt {0};
        known = λ u given. absurd given;
        past = λ u given. absurd given;
        away = λ k c out. absurd (none k c out);
        claimed = λ k c out. absurd (none k c out);
        apart = λ k l c d out. absurd (none k c out);
      } in
      subst P (λ n. (ap (λ (v : View (SizedState T Sat)). v.log) (sym history) n, ap (λ (v : View (Core T Sat)). v.log) (sym loans) n)) first
    where
      none : (k : ℕ) (c : Core T Sat) → IsAway [] k c → ⊥
      none k c out = off (is_away (entry k (Some c) ∷ out.0)) (ap not out.2) (ap is_away (sym out.1))

  -- a call that brings no core

  none_brought : (s t : StoreState T Sat) (u : EntryId) → BringsNoCore s t → BringsNone u s t
  none_brought s t u brings c takes =
      let P : List (Core T Sat) → Type 0 = λ l. IsCoreAt l (length s.cores.cores) c in
      let b = brings (length s.cores.cores) c (subst P (sym takes.0) (last_at s.cores.cores c)) in
      absurd (takes.2.2 b.0 b.1 b.2 (sym b.3))
    where
      last_at : (cores : List (Core T Sat)) (c : Core T Sat) → IsCoreAt (cores ++ c ∷ []) (length cores) c
      last_at cores c = let long = snoc_long cores c in (omega (arith, long), snoc_last cores c c)

  no_core_of : (s t : StoreState T Sat) (n : ℕ) → BringsNoCore s t → HasNo s.cores.cores n → HasNo t.cores.cores n
  no_core_of s t n brings none i c at same = let b = brings i c at in none b.0 b.1 b.2 (sym b.3 ∙ same)

  ids_kept : (log : List (Entry (SizedState T Sat))) (a b : SizedState T Sat) → IsStoreHistory log → KeepsGivenIds log → IsAsLeft log a → IsStoreCall a.store b.store → BringsNoCore a.store b.store
      → (u : EntryId) → WasGivenIn log u → KeepsGiven u a.store b.store
  ids_kept log a b history kept at call brings u given =
      keeps_id u a.store b.store call (none_brought a.store b.store u brings) (used_in log history kept u given a at)

  pub ordinary : (log : List (Entry (SizedState T Sat))) (e : Entry (SizedState T Sat)) (a b : SizedState T Sat) (loans : List (Entry (Core T Sat))) (was : List (Claimed Open))
      → LoansAreKept log a.store loans was → IsStoreHistory log → e.left ≡ Some b → IsAsLeft log a → IsStoreCall a.store b.store → BringsNoCore a.store b.store
      → AreClaimed a.store.cores.cores was → LoansAreKept (e ∷ log) b.store loans was
  ordinary log e a b loans was old history left at call brings claimed =
      step log e a b loans loans was was old left at (ids_kept log a b history old.ids at call brings) (still_claimed a.store b.store was brings claimed) (λ j k y. y)
      (record {
        away = λ k c out. no_core_of a.store b.store c.shard brings (old.away k c out);
        claimed = old.claimed;
        past = old.past;
        apart = old.apart;
      })

  -- a core of a new number comes in
  pub comes_new : (log : List (Entry (SizedState T Sat))) (e : Entry (SizedState T Sat)) (a b : SizedState T Sat) (loans : List (Entry (Core T Sat))) (was : List (Claimed Open)) (c : Core T Sat) (own : Claimed Open)
      → LoansAreKept log a.store loans was → IsStoreHistory log → e.left ≡ Some b → IsAsLeft log a → StoreTakesIn c (Ok (tt {0})) a.store b.store
      → AreClaimed a.store.cores.cores was → (¬ HasClaim was own.number) → ClaimsWords own c → LoansAreKept (e ∷ log) b.store loans (was ++ own ∷ [])
  comes_new log e a b loans was c own old history left at takes claimed fresh words =
      step log e a b loans loans was is old left at keeps all wider
      (record {
        away = away;
        claimed = λ k d out. let y = old.claimed k d out in (y.0, y.1, wider y.0 y.1 y.2, y.3);
        past = old.past;
        apart = old.apart;
      })
    where
      is : List (Claimed Open)
      is = was ++ own ∷ []

      wider : (j : ℕ) (k : Claimed Open) → IsClaimAt was j k → IsClaimAt is j k
      wider j k y = claim_before was own j k y

      keeps : (u : EntryId) → WasGivenIn log u → KeepsGiven u a.store b.store
      keeps u given =
          let y = old.known u given in
          inl (takes.3 u (λ same. absurd (fresh (y.0, y.1, y.2, y.3 ∙ (same ∙ sym words.0)))) (used_in log history old.ids u given a at))

      all : AreClaimed b.store.cores.cores is
      all = comes_claimed a.store b.store c is takes.0.0 (more_claimed a.store.cores.cores was is wider claimed) (length was, own, claim_last was own, words)

      away : (k : ℕ) (d : Core T Sat) → IsAway loans k d → HasNo b.store.cores.cores d.shard
      away k d out i x core same =
          let P : List (Core T Sat) → Type 0 = λ l. IsCoreAt l i x in
          ⊎_elim
          (λ (y : IsCoreAt a.store.cores.cores i x). old.away k d out i x y same)
          (λ (y : (i ≡ length a.store.cores.cores) × (c ≡ x)).
          let z = old.claimed k d out in
          let n : c.shard ≡ d.shard = ap (λ (q : Core T Sat). q.shard) y.1 ∙ same in
          fresh (z.0, z.1, z.2, z.3.0 ∙ (sym n ∙ sym words.0)))
          (at_snoc a.store.cores.cores c x i (subst P takes.0.0.0 core))

  -- a number that no claim has is a new one
  pub new_number : (log : List (Entry (SizedState T Sat))) (s : StoreState T Sat) (loans : List (Entry (Core T Sat))) (was : List (Claimed Open)) (c : Core T Sat) (own : Claimed Open)
      (r : Result (Unit {0}) (TakeError × Core T Sat)) → LoansAreKept log s loans was → OnOk r (¬ HasClaim was own.number) → ClaimsWords own c → OnOk r (IsNewNumber log c.shard)
  new_number log s loans was c own (Ok done) old fresh words = λ u given same. let y = old.known u given in fresh (y.0, y.1, y.2, y.3 ∙ (same ∙ sym words.0))
  new_number log s loans was c own (Err e) old fresh words = tt {0}

  -- so it is of a core that comes in with its claim, if it has a new number; refused, it is as it was
  pub takes_new : (rows : List Named) (log : List (Entry (SizedState T Sat))) (e : Entry (SizedState T Sat)) (a b : SizedState T Sat) (loans : List (Entry (Core T Sat))) (was is : List (Claimed Open)) (c : Core T Sat)
      (own : Claimed Open) (r : Result (Unit {0}) (TakeError × Core T Sat)) → LoansAreKept log a.store loans was → IsStoreHistory log → e.left ≡ Some b → IsAsLeft log a
      → StoreTakesIn c r a.store b.store → AreClaimsOf rows was × AreClaimed a.store.cores.cores was → OnOk r (¬ HasClaim was own.number) → OnOk r (is ≡ was ++ own ∷ []) → OnErr r (is ≡ was)
      → IsOf rows own × ClaimsWords own c → AreClaimsOf rows is × AreClaimed b.store.cores.cores is × LoansAreKept (e ∷ log) b.store loans is
  takes_new rows log e a b loans was is c own (Ok done) old history left at takes claimed fresh more same words =
      let P : List (Claimed Open) → Type 0 = λ l. AreClaimsOf rows l × AreClaimed b.store.cores.cores l × LoansAreKept (e ∷ log) b.store loans l in
      subst P (sym more) (
        claim_more rows was own claimed.0 words.0,
        comes_claimed a.store b.store c (was ++ own ∷ []) takes.0.0 (more_claimed a.store.cores.cores was (was ++ own ∷ []) (claim_before was own) claimed.1) (length was, own, claim_last was own, words.1),
        comes_new log e a b loans was c own old history left at takes claimed.1 fresh words.1,
      )
  takes_new rows log e a b loans was is c own (Err x) old history left at takes claimed fresh more same words =
      let P : List (Claimed Open) → Type 0 = λ l. AreClaimsOf rows l × AreClaimed b.store.cores.cores l × LoansAreKept (e ∷ log) b.store loans l in
      let brings = same_cores a.store b.store takes.1.1 in
      subst P (sym same) (
        claimed.0,
        still_claimed a.store b.store was brings claimed.1,
        ordinary log e a b loans was old history left at (inr (inr (inr (inr (inr (inl (c, Err x, takes))))))) brings claimed.1,
      )

  -- a core that drained leaves
  module _ (log : List (Entry (SizedState T Sat))) (e : Entry (SizedState T Sat)) (a b : SizedState T Sat) (h v w : View (Core T Sat)) (now : List (Entry (Core T Sat))) (was : List (Claimed Open)) (c : Core T Sat) where
    pub goes_out : LoansAreKept log a.store h.log was → IsStoreHistory log → e.left ≡ Some b → IsAsLeft log a → StoreGives (Some c) a.store b.store
        → AreClaimed a.store.cores.cores was → EntersOnce h v (Some c) w → now ≡ w.log
        → LoansAreKept (e ∷ log) b.store now was
    goes_out old history left at gives claimed enters is =
        step log e a b h.log now was was old left at keeps (still_claimed a.store b.store was brings claimed) (λ j k y. y)
        (record {
          away = λ k d out. ⊎_elim
              (λ (y : IsAway h.log k d). no_core_of a.store b.store d.shard brings (old.away k d y))
              (λ (y : (v.number ≡ k) × (c ≡ d)). let P : Core T Sat → Type 0 = λ x. HasNo b.store.cores.cores x.shard in subst P y.1 out_of.2)
              (which k d out);
          claimed = λ k d out. ⊎_elim
              (λ (y : IsAway h.log k d). old.claimed k d y)
              (λ (y : (v.number ≡ k) × (c ≡ d)). let P : Core T Sat → Type 0 = λ x. IsClaimed was x in subst P y.1 own)
              (which k d out);
          past = λ u given k d out. ⊎_elim
              (λ (y : IsAway h.log k d). old.past u given k d y)
              (λ (y : (v.number ≡ k) × (c ≡ d)). let P : Core T Sat → Type 0 = λ x. ArePastBy (numbers_of u) x in subst P y.1 (past u given))
              (which k d out);
          apart = λ k l d x out other same. ⊎_elim
              (λ (y : IsAway h.log k d). ⊎_elim
              (λ (z : IsAway h.log l x). old.apart k l d x y z same)
              (λ (z : (v.number ≡ l) × (c ≡ x)). absurd (was_in k d y (same ∙ sym (number z.1))))
              (which l x other))
              (λ (y : (v.number ≡ k) × (c ≡ d)). ⊎_elim
              (λ (z : IsAway h.log l x). absurd (was_in l x z (sym same ∙ sym (number y.1))))
              (λ (z : (v.number ≡ l) × (c ≡ x)). sym y.0 ∙ z.0)
              (which l x other))
              (which k d out);
        })
      where
        brings : BringsNoCore a.store b.store
        brings = were_there a.store b.store gives.2

        -- it holds nothing, was in, and isn't any more
        out_of : IsFoldable c × WasBeside a.store.cores c × HasNo b.store.cores.cores c.shard
        out_of = gives.0

        used : (u : EntryId) → WasGivenIn log u → IsUsedId a.store u
        used u given = used_in log history old.ids u given a at

        keeps : (u : EntryId) → WasGivenIn log u → KeepsGiven u a.store b.store
        keeps u given = inl (gives.5 u (used u given))

        past : (u : EntryId) → WasGivenIn log u → ArePastBy (numbers_of u) c
        past u given same = let id = used u given in let was_here = out_of.1 in id.1 was_here.0 c was_here.2 (sym same)

        own : IsClaimed was c
        own = let was_here = out_of.1 in claimed was_here.0 c was_here.2

        number : {d : Core T Sat} → c ≡ d → c.shard ≡ d.shard
        number e = ap (λ (x : Core T Sat). x.shard) e

        -- no core of its number was away while it was in
        was_in : (k : ℕ) (d : Core T Sat) → IsAway h.log k d → d.shard ≡ c.shard → ⊥
        was_in k d out same = let was_here = out_of.1 in old.away k d out was_here.0 c was_here.2 (sym same)

        which : (k : ℕ) (d : Core T Sat) → IsAway now k d → IsAway h.log k d ⊎ ((v.number ≡ k) × (c ≡ d))
        which k d out = dite (ℕ_discrete v.number k)
            (λ same. let P : ℕ → Type 0 = λ n. IsAway now n d in inr (same, one_out h v w c enters now is d (subst P (sym same) out)))
            (λ ne. inl (others_out h v w c enters now is k d ne out))

  -- a core that left comes back
  module _ (log : List (Entry (SizedState T Sat))) (e : Entry (SizedState T Sat)) (a b : SizedState T Sat) (h v w : View (Core T Sat)) (now : List (Entry (Core T Sat))) (was : List (Claimed Open)) (c : Core T Sat)
      (old : LoansAreKept log a.store h.log was) (history : IsStoreHistory log) (left : e.left ≡ Some b) (at : IsAsLeft log a) (claimed : AreClaimed a.store.cores.cores was)
      (lent : IsLentCore v c) (enters : EntersOnce h v (Some c) w) (is : now ≡ w.log) where
    abbrev gone : Core T Sat
    gone = lent.1.0

    still : IsStill gone c.shard c.words.table (machine c)
    still = lent.1.2

    was_out : IsAway h.log v.number gone
    was_out = out_before h v w c enters now is gone lent.1.1

    past_by : (u : EntryId) → WasGivenIn log u → ArePastBy (numbers_of u) c
    past_by u given same = still.past u (old.past u given v.number gone was_out) same

    own : IsClaimed was c
    own = let k = old.claimed v.number gone was_out in (k.0, k.1, k.2, (k.3.0 ∙ sym still.same.0, k.3.1 ∙ sym still.same.1))

    -- the others that are away were away before
    other : (k : ℕ) (d : Core T Sat) → IsAway now k d → (v.number ≢ k) × IsAway h.log k d
    other k d out = dite (ℕ_discrete v.number k)
        (λ same. let P : ℕ → Type 0 = λ n. IsAway now n d in absurd (not_out h v w c enters now is gone d lent.1.1 (subst P (sym same) out)))
        (λ ne. (ne, others_out h v w c enters now is k d ne out))

    pub comes_back : StoreTakesIn c (Ok (tt {0})) a.store b.store → LoansAreKept (e ∷ log) b.store now was
    comes_back takes =
        step log e a b h.log now was was old left at (λ u given. inl (takes.3 u (past_by u given) (used_in log history old.ids u given a at)))
        (comes_claimed a.store b.store c was takes.0.0 claimed own) (λ j k y. y)
        (record {
          away = away;
          claimed = λ k d out. old.claimed k d (other k d out).1;
          past = λ u given k d out. old.past u given k d (other k d out).1;
          apart = λ k l d x y z same. old.apart k l d x (other k d y).1 (other l x z).1 same;
        })
      where
        away : (k : ℕ) (d : Core T Sat) → IsAway now k d → HasNo b.store.cores.cores d.shard
        away k d out i x core same =
            let P : List (Core T Sat) → Type 0 = λ l. IsCoreAt l i x in
            let was_there = other k d out in
            ⊎_elim
            (λ (y : IsCoreAt a.store.cores.cores i x). old.away k d was_there.1 i x y same)
            (λ (y : (i ≡ length a.store.cores.cores) × (c ≡ x)).
            let n : c.shard ≡ d.shard = ap (λ (q : Core T Sat). q.shard) y.1 ∙ same in
            was_there.0 (old.apart v.number k gone d was_out was_there.1 (sym still.same.0 ∙ n)))
            (at_snoc a.store.cores.cores c x i (subst P takes.0.0.0 core))

    pub comes_claimed_back : StoreTakesIn c (Ok (tt {0})) a.store b.store → AreClaimed b.store.cores.cores was
    comes_claimed_back takes = comes_claimed a.store b.store c was takes.0.0 claimed own

    -- refused, it is away again, as it is by then
    pub stays_out : (x y : View (Core T Sat)) (later : List (Entry (Core T Sat))) (call : IsStoreCall a.store b.store) → b.store.cores ≡ a.store.cores → x.log ≡ now → EntersOnce x w (Some c) y → later ≡ y.log
        → LoansAreKept (e ∷ log) b.store later was
    stays_out x y later call same log_is again is_later =
        step log e a b h.log later was was old left at (ids_kept log a b history old.ids at call brings) (still_claimed a.store b.store was brings claimed) (λ j k z. z)
        (record {
          away = λ k d out. ⊎_elim
              (λ (z : (v.number ≢ k) × IsAway h.log k d). no_core_of a.store b.store d.shard brings (old.away k d z.1))
              (λ (z : (v.number ≡ k) × (c ≡ d)). let P : ℕ → Type 0 = λ n. HasNo b.store.cores.cores n in
              subst P (sym still.same.0 ∙ number z.1) (no_core_of a.store b.store gone.shard brings (old.away v.number gone was_out)))
              (which k d out);
          claimed = λ k d out. ⊎_elim
              (λ (z : (v.number ≢ k) × IsAway h.log k d). old.claimed k d z.1)
              (λ (z : (v.number ≡ k) × (c ≡ d)). let P : Core T Sat → Type 0 = λ q. IsClaimed was q in subst P z.1 own)
              (which k d out);
          past = λ u given k d out. ⊎_elim
              (λ (z : (v.number ≢ k) × IsAway h.log k d). old.past u given k d z.1)
              (λ (z : (v.number ≡ k) × (c ≡ d)). let P : Core T Sat → Type 0 = λ q. ArePastBy (numbers_of u) q in subst P z.1 (past_by u given))
              (which k d out);
          apart = λ k l d q out others alike. ⊎_elim
              (λ (z : (v.number ≢ k) × IsAway h.log k d). ⊎_elim
              (λ (o : (v.number ≢ l) × IsAway h.log l q). old.apart k l d q z.1 o.1 alike)
              (λ (o : (v.number ≡ l) × (c ≡ q)). absurd (z.0 (sym (old.apart k v.number d gone z.1 was_out (alike ∙ (sym (number o.1) ∙ still.same.0))))))
              (which l q others))
              (λ (z : (v.number ≡ k) × (c ≡ d)). ⊎_elim
              (λ (o : (v.number ≢ l) × IsAway h.log l q). absurd (o.0 (old.apart v.number l gone q was_out o.1 (sym still.same.0 ∙ (number z.1 ∙ alike)))))
              (λ (o : (v.number ≡ l) × (c ≡ q)). sym z.0 ∙ o.0)
              (which l q others))
              (which k d out);
        })
      where
        brings : BringsNoCore a.store b.store
        brings = same_cores a.store b.store same

        number : {d : Core T Sat} → c ≡ d → c.shard ≡ d.shard
        number e = ap (λ (x : Core T Sat). x.shard) e

        n : w.number ≡ v.number
        n = enters.5

        which : (k : ℕ) (d : Core T Sat) → IsAway later k d → ((v.number ≢ k) × IsAway h.log k d) ⊎ ((v.number ≡ k) × (c ≡ d))
        which k d out = dite (ℕ_discrete w.number k)
            (λ z. let P : ℕ → Type 0 = λ m. IsAway later m d in inr (sym n ∙ z, one_out x w y c again later is_later d (subst P (sym z) out)))
            (λ ne. let P : List (Entry (Core T Sat)) → Type 0 = λ l. IsAway l k d in inl (other k d (subst P log_is (others_out x w y c again later is_later k d ne out))))
