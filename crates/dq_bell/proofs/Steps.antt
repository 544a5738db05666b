-- Each step keeps the rule.
use Rattle.std.proofs.Common.{◌≡◌, ◌≢◌, ◌⊎◌, ℕ, zero, suc, ◌+◌, ◌*◌, ◌<◌, ◌≤◌, List, [], ◌∷◌, ◌++◌, length, get_or, set, replicate, Bool, true, false, true≢false, refl, sym, ap, ◌∙◌, subst, inl, inr, ⊎_elim, arith}
use Rattle.std.proofs.lemmas.List.{get_or-set_same, get_or-set_other, set-get_or, length-set, length-replicate, get_or-replicate}
use mathlib.Core.Option.{some, none, some-ne-none, some-injective}
use mathlib.Core.Logic.{dite}
use native.Mathlib.Decide.{ℕ_discrete, dec_le}
use lib.ListN.{get_elem?}
use Rattle.atomic_table.specs.Table.{State, step, keeps, opening, Allows, Splits}
use Rattle.atomic_table.proofs.Lists.{at_set, set_else, at_longer}
use Rattle.dq_bell.specs.declared.rule.SeatView.{SeatView}
use Rattle.dq_bell.specs.declared.TheConstants.{NEVER}
use Rattle.dq_bell.specs.Views.{first_leader, dealing, dealt_hint, having_written, having_asked, having_heard, having_rung, having_armed, having_seen, having_found}
use Rattle.dq_bell.specs.Rule.{armed_until, hint_at, IsYetToAsk, IsHeeded, WakesInTime, IsSeat, OneWrites, OneLeads, IsBell}
use Rattle.dq_bell.specs.Law.{NoWakeIsLost, NobodySleepsOnceClosed}
use Rattle.dq_bell.specs.Plays.{lowers, asks, rings, arms, looks}

off : false ≡ true → ⊥
off e = true≢false (sym e)

-- lists

pub there : (l : List SeatView) (i : ℕ) (a b : SeatView) → get_elem? l i ≡ some b → get_elem? (set l i a) i ≡ some a
there [] i a b e = absurd (some-ne-none b (sym e))
there (x ∷ xs) zero a b e = refl
there (x ∷ xs) (suc i) a b e = there xs i a b e

pub at_end : (l : List SeatView) (a b : SeatView) (j : ℕ) → get_elem? (l ++ a ∷ []) j ≡ some b → (get_elem? l j ≡ some b) ⊎ ((j ≡ length l) × (a ≡ b))
at_end [] a b zero e = inr (refl, some-injective a b e)
at_end [] a b (suc j) e = absurd (some-ne-none b (sym e))
at_end (x ∷ xs) a b zero e = inl e
at_end (x ∷ xs) a b (suc j) e = ⊎_elim inl (λ t. inr (ap suc t.0, t.1)) (at_end xs a b j e)

-- one seat's view is set to another of the same kind
module _ (views : List SeatView) (id : ℕ) (v w : SeatView) (at : get_elem? views id ≡ some v) (kind : w.writes ≡ v.writes) (place : w.place ≡ v.place) where
  pub owed_on : (v.owes ≡ true → w.owes ≡ true) → (p : ℕ) → IsYetToAsk views p → IsYetToAsk (set views id w) p
  owed_on owes p o =
      dite (ℕ_discrete o.0 id)
      (λ e. let P : ℕ → Type 0 = λ j. get_elem? views j ≡ some o.1 in
      let is : o.1 ≡ v = some-injective _ _ (sym (subst P e o.2) ∙ at) in
      (id, w, there views id w v at, kind ∙ (sym (ap (λ (u : SeatView). u.writes) is) ∙ o.3), owes (sym (ap (λ (u : SeatView). u.owes) is) ∙ o.4), place ∙ (sym (ap (λ (u : SeatView). u.place) is) ∙ o.5)))
      (λ ne. (o.0, o.1, set_else views id o.0 w ne ∙ o.2, o.3, o.4, o.5))

  pub apart_on : OneWrites views → OneWrites (set views id w)
  apart_on apart j k x y ej ek hx hy n =
      ⊎_elim
      (λ (a : (j ≡ id) × (w ≡ x)).
      ⊎_elim (λ (b : (k ≡ id) × (w ≡ y)). a.0 ∙ sym b.0)
      (λ (b : (k ≢ id) × (get_elem? views k ≡ some y)).
      a.0 ∙ apart id k v y at b.1 (sym kind ∙ (ap (λ (u : SeatView). u.writes) a.1 ∙ hx)) hy (sym place ∙ (ap (λ (u : SeatView). u.place) a.1 ∙ n)))
      (at_set views id k w y ek))
      (λ (a : (j ≢ id) × (get_elem? views j ≡ some x)).
      ⊎_elim (λ (b : (k ≡ id) × (w ≡ y)). apart j id x v a.1 at hx (sym kind ∙ (ap (λ (u : SeatView). u.writes) b.1 ∙ hy)) (n ∙ (sym (ap (λ (u : SeatView). u.place) b.1) ∙ place)) ∙ sym b.0)
      (λ (b : (k ≢ id) × (get_elem? views k ≡ some y)). apart j k x y a.1 b.1 hx hy n)
      (at_set views id k w y ek))
      (at_set views id j w x ej)

  pub one_on : w.leads ≡ v.leads → OneLeads views → OneLeads (set views id w)
  one_on leads one j k x y ej ek hx hy =
      ⊎_elim
      (λ (a : (j ≡ id) × (w ≡ x)).
      ⊎_elim (λ (b : (k ≡ id) × (w ≡ y)). a.0 ∙ sym b.0)
      (λ (b : (k ≢ id) × (get_elem? views k ≡ some y)). a.0 ∙ one id k v y at b.1 (sym leads ∙ (ap (λ (u : SeatView). u.leads) a.1 ∙ hx)) hy)
      (at_set views id k w y ek))
      (λ (a : (j ≢ id) × (get_elem? views j ≡ some x)).
      ⊎_elim (λ (b : (k ≡ id) × (w ≡ y)). one j id x v a.1 at hx (sym leads ∙ (ap (λ (u : SeatView). u.leads) b.1 ∙ hy)) ∙ sym b.0)
      (λ (b : (k ≢ id) × (get_elem? views k ≡ some y)). one j k x y a.1 b.1 hx hy)
      (at_set views id k w y ek))
      (at_set views id j w x ej)

  pub dealt_on : (d : ℕ) → ((j : ℕ) (u : SeatView) → get_elem? views j ≡ some u → u.writes ≡ true → u.place < d)
      → (j : ℕ) (u : SeatView) → get_elem? (set views id w) j ≡ some u → u.writes ≡ true → u.place < d
  dealt_on d h j u e y =
      ⊎_elim
      (λ (x : (j ≡ id) × (w ≡ u)).
      let b : v.place < d = h id v at (sym kind ∙ (ap (λ (z : SeatView). z.writes) x.1 ∙ y)) in
      let q : u.place ≡ v.place = sym (ap (λ (z : SeatView). z.place) x.1) ∙ place in omega arith)
      (λ (x : (j ≢ id) × (get_elem? views j ≡ some u)). h j u x.1 y)
      (at_set views id j w u e)

  -- all seats fit after the step
  pub each_on : (n : ℕ) (ws : List ℕ) → IsSeat n ws (set views id w) w
      → ((j : ℕ) (u : SeatView) → j ≢ id → get_elem? views j ≡ some u → IsSeat n ws (set views id w) u)
      → (j : ℕ) (u : SeatView) → get_elem? (set views id w) j ≡ some u → IsSeat n ws (set views id w) u
  each_on n ws own others j u e =
      ⊎_elim
      (λ (x : (j ≡ id) × (w ≡ u)). let P : SeatView → Type 0 = λ y. IsSeat n ws (set views id w) y in subst P x.1 own)
      (λ (x : (j ≢ id) × (get_elem? views j ≡ some u)). others j u x.0 x.1)
      (at_set views id j w u e)

-- steps of a keeper
module _ (key slots id : ℕ) (v : SeatView) (c : List (ℕ × ℕ)) (keeper : v.writes ≡ true) (plain : v.leads ≡ false) where
  pub lowers_ok : (p h : ℕ) → v.place ≡ p → Allows (IsBell key) slots id (v, c) ((p + 1) * 16) (λ _. h) (λ _. lowers (step slots ((p + 1) * 16) h 0 none) (v, c) h)
  lowers_ok p h is s k sized at wide =
      let w = having_written v h in
      let ws = set s.words ((p + 1) * 16) h in
      let vs = set s.views id w in
      let mine = (k.each id v at).hint keeper in
      let inside : (p + 1) * 16 < length s.words = let a = mine.0 in let b = k.size in omega arith in
      let own : IsSeat key ws vs w = record {
        hint = λ _. (mine.0, let P : ℕ → Type 0 = λ q. get_or ws ((q + 1) * 16) 0 ≡ h in subst P (sym is) (get_or-set_same s.words ((p + 1) * 16) h 0 inside));
        lead = λ y. absurd (off (sym plain ∙ y));
      } in (
        w,
        keeps,
        tt,
        record {
          size = length-set s.words ((p + 1) * 16) h ∙ k.size;
          writers = apart_on s.views id v w at refl refl k.writers;
          leader = one_on s.views id v w at refl refl refl k.leader;
          each = each_on s.views id v w at refl refl key ws own (others s k at);
        },
        refl,
      )
    where
      others : (s : State ℕ SeatView) → IsBell key s → get_elem? s.views id ≡ some v → (j : ℕ) (u : SeatView) → j ≢ id → get_elem? s.views j ≡ some u → IsSeat key (set s.words ((p + 1) * 16) h) (set s.views id (having_written v h)) u
      others s k at j u ne e =
          let w = having_written v h in
          let ws = set s.words ((p + 1) * 16) h in
          let f = k.each j u e in
          let front : armed_until ws ≡ armed_until s.words = get_or-set_other s.words ((p + 1) * 16) 0 h 0 (λ q. omega arith) in record {
            hint = λ y. let b = f.hint y in (b.0, get_or-set_other s.words ((p + 1) * 16) ((u.place + 1) * 16) h 0 (λ q. ne (k.writers j id u v e at y keeper (omega arith))) ∙ b.1);
            lead = λ y. let l = f.lead y in record {
              seen = l.seen;
              wakes = ⊎_elim (λ z. inl (front ∙ z)) (λ z. inr (front ∙ z.0, λ q lt. heed s at u q (z.1 q lt))) l.wakes;
              dealt = dealt_on s.views id v w at refl refl u.dealt l.dealt;
              fresh = λ q ge lt. get_or-set_other s.words ((p + 1) * 16) ((q + 1) * 16) h 0 (λ x. let d = l.dealt id v at keeper in omega arith) ∙ l.fresh q ge lt;
            };
          }
        where
          heed : (s : State ℕ SeatView) → get_elem? s.views id ≡ some v → (u : SeatView) (q : ℕ) → IsHeeded s.words s.views u.until q → IsHeeded (set s.words ((p + 1) * 16) h) (set s.views id (having_written v h)) u.until q
          heed s at u q was =
              dite (ℕ_discrete q p)
              (λ x. inr (id, having_written v h, there s.views id (having_written v h) v at, keeper, refl, is ∙ sym x))
              (λ n. ⊎_elim
              (λ le. inl (let same = get_or-set_other s.words ((p + 1) * 16) ((q + 1) * 16) h 0 (λ x. n (omega arith)) in omega arith))
              (λ o. inr (owed_on s.views id v (having_written v h) at refl refl (λ _. refl) q o))
              was)

  pub asks_ok : Allows (IsBell key) slots id (v, c) 0 (λ n. n) (asks (step slots 0 0 0 none) (v, c))
  asks_ok s k sized at wide =
      let a : ℕ = get_or s.words 0 0 in
      let stays = set-get_or s.words 0 0 in
      dite (dec_le a v.hint)
      (λ le. (
        having_asked v a,
        keeps,
        tt,
        (let P : List ℕ → Type 0 = λ ws. IsBell key (record { words = ws; homes = s.homes; views = set s.views id (having_asked v a) }) in subst P (sym stays) (told false a s k at (within s k at a refl le))),
        ((λ _. refl), (λ lt. absurd (omega arith))),
      ))
      (λ no. (
        having_heard v a,
        keeps,
        tt,
        (let P : List ℕ → Type 0 = λ ws. IsBell key (record { words = ws; homes = s.homes; views = set s.views id (having_heard v a) }) in subst P (sym stays) (told v.owes a s k at (λ t q _ was. beyond a s at t q was))),
        ((λ le. absurd (no le)), (λ _. refl)),
      ))
    where
      told : (owes : Bool) (until : ℕ) (s : State ℕ SeatView) → IsBell key s → get_elem? s.views id ≡ some v
          → ((t q : ℕ) → armed_until s.words ≡ t → IsHeeded s.words s.views t q → IsHeeded s.words (set s.views id (record v { owes = owes; heard = until })) t q)
          → IsBell key (record { words = s.words; homes = s.homes; views = set s.views id (record v { owes = owes; heard = until }) })
      told owes until s k at heed =
          let w : SeatView = record v { owes = owes; heard = until } in
          let mine = (k.each id v at).hint keeper in
          let own : IsSeat key s.words (set s.views id w) w = record {
            hint = λ _. mine;
            lead = λ y. absurd (off (sym plain ∙ y));
          } in record {
            size = k.size;
            writers = apart_on s.views id v w at refl refl k.writers;
            leader = one_on s.views id v w at refl refl refl k.leader;
            each = each_on s.views id v w at refl refl key s.words own (λ j u ne e. let f = k.each j u e in record {
              hint = f.hint;
              lead = λ y. let l = f.lead y in record {
                seen = l.seen;
                wakes = ⊎_elim inl (λ z. inr (z.0, λ q lt. heed u.until q z.0 (z.1 q lt))) l.wakes;
                dealt = dealt_on s.views id v w at refl refl u.dealt l.dealt;
                fresh = l.fresh;
              };
            });
          }

      beyond : (a : ℕ) (s : State ℕ SeatView) → get_elem? s.views id ≡ some v → (t q : ℕ)
          → IsHeeded s.words s.views t q → IsHeeded s.words (set s.views id (having_heard v a)) t q
      beyond a s at t q was = ⊎_elim inl (λ o. inr (owed_on s.views id v (having_heard v a) at refl refl (λ y. y) q o)) was

      within : (s : State ℕ SeatView) → IsBell key s → get_elem? s.views id ≡ some v → (a : ℕ) → a ≡ get_or s.words 0 0 → a ≤ v.hint
          → (t q : ℕ) → armed_until s.words ≡ t → IsHeeded s.words s.views t q → IsHeeded s.words (set s.views id (having_asked v a)) t q
      within s k at a is_a le t q is was =
          ⊎_elim inl
          (λ o. dite (ℕ_discrete o.0 id)
          (λ x. let P : ℕ → Type 0 = λ j. get_elem? s.views j ≡ some o.1 in
          let same : o.1 ≡ v = some-injective _ _ (sym (subst P x o.2) ∙ at) in
          let here : v.place ≡ q = sym (ap (λ (u : SeatView). u.place) same) ∙ o.5 in
          let mine = ((k.each id v at).hint keeper).1 in
          let Q : ℕ → Type 0 = λ i. hint_at s.words i ≡ v.hint in
          let h : hint_at s.words q ≡ v.hint = subst Q here mine in inl (omega arith))
          (λ n. inr (o.0, o.1, set_else s.views id o.0 (having_asked v a) n ∙ o.2, o.3, o.4, o.5)))
          was

  pub rings_ok : Allows (IsBell key) slots id (v, c) 0 (λ _. 0) (λ _. rings (step slots 0 0 0 none) (v, c) 0)
  rings_ok s k sized at wide =
      let w = having_rung v in
      let ws = set s.words 0 0 in
      let mine = (k.each id v at).hint keeper in
      let inside : 0 < length s.words = let b = k.size in omega arith in
      let rung : armed_until ws ≡ 0 = get_or-set_same s.words 0 0 0 inside in
      let own : IsSeat key ws (set s.views id w) w = record {
        hint = λ _. (mine.0, get_or-set_other s.words 0 ((v.place + 1) * 16) 0 0 (λ q. omega arith) ∙ mine.1);
        lead = λ y. absurd (off (sym plain ∙ y));
      } in (
        w,
        keeps,
        tt,
        record {
          size = length-set s.words 0 0 ∙ k.size;
          writers = apart_on s.views id v w at refl refl k.writers;
          leader = one_on s.views id v w at refl refl refl k.leader;
          each = each_on s.views id v w at refl refl key ws own (λ j u ne e. let f = k.each j u e in record {
            hint = λ y. let b = f.hint y in (b.0, get_or-set_other s.words 0 ((u.place + 1) * 16) 0 0 (λ q. omega arith) ∙ b.1);
            lead = λ y. let l = f.lead y in record {
              seen = l.seen;
              wakes = inl rung;
              dealt = dealt_on s.views id v w at refl refl u.dealt l.dealt;
              fresh = λ q ge lt. get_or-set_other s.words 0 ((q + 1) * 16) 0 0 (λ x. omega arith) ∙ l.fresh q ge lt;
            };
          });
        },
        refl,
      )

-- steps of the leader
module _ (key slots id : ℕ) (v : SeatView) (c : List (ℕ × ℕ)) (leads : v.leads ≡ true) (plain : v.writes ≡ false) where
  pub arms_ok : (until : ℕ) → Allows (IsBell key) slots id (v, c) 0 (λ _. until) (λ _. arms (step slots 0 until 0 none) (v, c) until)
  arms_ok until s k sized at wide =
      let w = having_armed v until in
      let ws = set s.words 0 until in
      let l = (k.each id v at).lead leads in
      let inside : 0 < length s.words = let b = k.size in omega arith in
      let own : IsSeat key ws (set s.views id w) w = record {
        hint = λ y. absurd (off (sym plain ∙ y));
        lead = λ _. record {
          seen = omega arith;
          wakes = inr (get_or-set_same s.words 0 until 0 inside, λ q lt. absurd (omega arith));
          dealt = dealt_on s.views id v w at refl refl v.dealt l.dealt;
          fresh = λ q ge lt. get_or-set_other s.words 0 ((q + 1) * 16) until 0 (λ x. omega arith) ∙ l.fresh q ge lt;
        };
      } in (
        w,
        keeps,
        tt,
        record {
          size = length-set s.words 0 until ∙ k.size;
          writers = apart_on s.views id v w at refl refl k.writers;
          leader = one_on s.views id v w at refl refl refl k.leader;
          each = each_on s.views id v w at refl refl key ws own (λ j u ne e. let f = k.each j u e in record {
            hint = λ y. let b = f.hint y in (b.0, get_or-set_other s.words 0 ((u.place + 1) * 16) until 0 (λ q. omega arith) ∙ b.1);
            lead = λ y. absurd (ne (k.leader j id u v e at y leads));
          });
        },
        refl,
      )

  -- the words stay, and the leader knows something else of hints that it heeds
  knows : (w : SeatView) → w.writes ≡ v.writes → w.place ≡ v.place → w.leads ≡ v.leads → w.dealt ≡ v.dealt → w.seen ≤ key
      → (s : State ℕ SeatView) → IsBell key s → get_elem? s.views id ≡ some v → WakesInTime s.words (set s.views id w) w
      → IsBell key (record { words = s.words; homes = s.homes; views = set s.views id w })
  knows w kind place lead dealt few s k at heeds =
      let l = (k.each id v at).lead leads in
      let own : IsSeat key s.words (set s.views id w) w = record {
        hint = λ y. absurd (off (sym plain ∙ (sym kind ∙ y)));
        lead = λ _. record {
          seen = few;
          wakes = heeds;
          dealt = λ j u e y. let a = dealt_on s.views id v w at kind place v.dealt l.dealt j u e y in omega arith;
          fresh = λ q ge lt. l.fresh q (omega arith) lt;
        };
      } in record {
        size = k.size;
        writers = apart_on s.views id v w at kind place k.writers;
        leader = one_on s.views id v w at kind place lead k.leader;
        each = each_on s.views id v w at kind place key s.words own (λ j u ne e. let f = k.each j u e in record {
          hint = f.hint;
          lead = λ y. absurd (ne (k.leader j id u v e at y leads));
        });
      }

  pub looks_ok : (i : ℕ) → i ≡ v.seen → i < key → Allows (IsBell key) slots id (v, c) ((i + 1) * 16) (λ n. n) (looks (step slots ((i + 1) * 16) 0 0 none) (v, c))
  looks_ok i is small s k sized at wide =
      let a : ℕ = get_or s.words ((i + 1) * 16) 0 in
      let stays = set-get_or s.words ((i + 1) * 16) 0 in
      let l = (k.each id v at).lead leads in
      dite (dec_le v.until a)
      (λ le. (
        having_seen v,
        keeps,
        tt,
        (let P : List ℕ → Type 0 = λ ws. IsBell key (record { words = ws; homes = s.homes; views = set s.views id (having_seen v) }) in
            subst P (sym stays) (knows (having_seen v) refl refl refl refl (omega arith) s k at (seen s at le l.wakes))),
        ((λ _. refl), (λ lt. absurd (omega arith))),
      ))
      (λ no. (
        having_found v,
        keeps,
        tt,
        (let P : List ℕ → Type 0 = λ ws. IsBell key (record { words = ws; homes = s.homes; views = set s.views id (having_found v) }) in
            subst P (sym stays) (knows (having_found v) refl refl refl refl l.seen s k at (found s at l.wakes))),
        ((λ le. absurd (no le)), (λ _. refl)),
      ))
    where
      seen : (s : State ℕ SeatView) → get_elem? s.views id ≡ some v → v.until ≤ get_or s.words ((i + 1) * 16) 0 → WakesInTime s.words s.views v → WakesInTime s.words (set s.views id (having_seen v)) (having_seen v)
      seen s at le heeds =
          ⊎_elim inl (λ z. inr (
            z.0,
            λ q lt. dite (ℕ_discrete q i)
                (λ x. let P : ℕ → Type 0 = λ j. v.until ≤ hint_at s.words j in inl (subst P (sym x) le))
                (λ n. ⊎_elim inl (λ o. inr (owed_on s.views id v (having_seen v) at refl refl (λ y. y) q o)) (z.1 q (omega arith))),
          )) heeds

      found : (s : State ℕ SeatView) → get_elem? s.views id ≡ some v → WakesInTime s.words s.views v → WakesInTime s.words (set s.views id (having_found v)) (having_found v)
      found s at heeds =
          ⊎_elim inl (λ z. inr (
            z.0,
            λ q lt. ⊎_elim inl (λ o. inr (owed_on s.views id v (having_found v) at refl refl (λ y. y) q o)) (z.1 q lt),
          )) heeds

-- one place more
module _ (key id : ℕ) (v : SeatView) (leads : v.leads ≡ true) (plain : v.writes ≡ false) (room : v.dealt < key) where
  pub deals : Splits (IsBell key) id v (dealing v) (dealt_hint v)
  deals s k at =
      let w = dealing v in
      let u = dealt_hint v in
      let set_views = set s.views id w in
      let l = (k.each id v at).lead leads in
      let leader : OneLeads set_views = one_on s.views id v w at refl refl refl k.leader in
      let writers : OneWrites set_views = apart_on s.views id v w at refl refl k.writers in
      let dealt = dealt_on s.views id v w at refl refl v.dealt l.dealt in
      let longer : (q : ℕ) → IsYetToAsk s.views q → IsYetToAsk (set_views ++ u ∷ []) q =
      λ q o. let x = owed_on s.views id v w at refl refl (λ y. y) q o in (x.0, x.1, at_longer set_views (u ∷ []) x.0 x.1 x.2, x.3, x.4, x.5) in
      let mine : IsSeat key s.words (set_views ++ u ∷ []) w = record {
        hint = λ y. absurd (off (sym plain ∙ y));
        lead = λ _. record {
          seen = l.seen;
          wakes = ⊎_elim inl (λ z. inr (z.0, λ q lt. ⊎_elim inl (λ o. inr (longer q o)) (z.1 q lt))) l.wakes;
          dealt = λ j x e y. ⊎_elim (λ old. let a = dealt j x old y in omega arith) (λ new. let a = ap (λ (z : SeatView). z.place) new.1 in omega arith) (at_end set_views u x j e);
          fresh = λ q ge lt. l.fresh q (omega arith) lt;
        };
      } in
      let his : IsSeat key s.words (set_views ++ u ∷ []) u = record {
        hint = λ _. (room, l.fresh v.dealt (omega arith) room);
        lead = λ y. absurd (off y);
      } in record {
        size = k.size;
        writers = λ j i x y ej ei hx hy n.
            ⊎_elim
            (λ a. ⊎_elim (λ b. writers j i x y a b hx hy n)
            (λ b. let p = dealt j x a hx in let m = ap (λ (z : SeatView). z.place) b.1 in absurd (omega arith))
            (at_end set_views u y i ei))
            (λ a. ⊎_elim (λ b. let p = dealt i y b hy in let m = ap (λ (z : SeatView). z.place) a.1 in absurd (omega arith))
            (λ b. a.0 ∙ sym b.0)
            (at_end set_views u y i ei))
            (at_end set_views u x j ej);
        leader = λ j i x y ej ei hx hy.
            ⊎_elim
            (λ a. ⊎_elim (λ b. leader j i x y a b hx hy) (λ b. absurd (off (ap (λ (z : SeatView). z.leads) b.1 ∙ hy))) (at_end set_views u y i ei))
            (λ a. absurd (off (ap (λ (z : SeatView). z.leads) a.1 ∙ hx)))
            (at_end set_views u x j ej);
        each = λ j x e.
            ⊎_elim
            (λ old. ⊎_elim
            (λ (z : (j ≡ id) × (w ≡ x)). let P : SeatView → Type 0 = λ y. IsSeat key s.words (set_views ++ u ∷ []) y in subst P z.1 mine)
            (λ (z : (j ≢ id) × (get_elem? s.views j ≡ some x)). let f = k.each j x z.1 in record {
              hint = f.hint;
              lead = λ y. absurd (z.0 (k.leader j id x v z.1 at y leads));
            })
            (at_set s.views id j w x old))
            (λ new. let P : SeatView → Type 0 = λ y. IsSeat key s.words (set_views ++ u ∷ []) y in subst P new.1 his)
            (at_end set_views u x j e);
      }

-- the start
pub opens : (n : ℕ) (ws : List ℕ) → ws ≡ set (replicate (n * 16 + 1) NEVER) 0 0 → IsBell n (opening ws [] first_leader)
opens n ws is =
    let P : List ℕ → Type 0 = λ l. IsBell n (opening l [] first_leader) in
    subst P (sym is) (record {
      size = length-set (replicate (n * 16 + 1) NEVER) 0 0 ∙ length-replicate (n * 16 + 1) NEVER;
      writers = λ j k x y ej ek hx hy q. absurd (off (ap (λ (z : SeatView). z.writes) (only j x ej) ∙ hx));
      leader = λ j k x y ej ek hx hy. at_0 j x ej ∙ sym (at_0 k y ek);
      each = λ j v e. let Q : SeatView → Type 0 = λ u. IsSeat n (set (replicate (n * 16 + 1) NEVER) 0 0) (first_leader ∷ []) u in subst Q (only j v e) (record {
        hint = λ y. absurd (off y);
        lead = λ _. record {
          seen = omega arith;
          wakes = inl (get_or-set_same (replicate (n * 16 + 1) NEVER) 0 0 0 (let a = length-replicate (n * 16 + 1) NEVER in omega arith));
          dealt = λ i u e' y. absurd (off (ap (λ (z : SeatView). z.writes) (only i u e') ∙ y));
          fresh = λ q ge lt. get_or-set_other (replicate (n * 16 + 1) NEVER) 0 ((q + 1) * 16) 0 0 (λ z. omega arith) ∙ get_or-replicate (n * 16 + 1) ((q + 1) * 16) NEVER 0 (omega arith);
        };
      });
    })
  where
    only : (j : ℕ) (v : SeatView) → get_elem? (first_leader ∷ []) j ≡ some v → first_leader ≡ v
    only zero v e = some-injective _ _ e
    only (suc j) v e = absurd (some-ne-none v (sym e))

    at_0 : (j : ℕ) (v : SeatView) → get_elem? (first_leader ∷ []) j ≡ some v → j ≡ 0
    at_0 zero v e = refl
    at_0 (suc j) v e = absurd (some-ne-none v (sym e))

-- who sleeps sleeps beyond no hint
pub none_lost : NoWakeIsLost
none_lost n t j v k asleep nobody p lt =
    let l = (k.each j v asleep.0).lead asleep.1 in
    ⊎_elim (λ z. absurd (asleep.3 z)) (λ z. ⊎_elim (λ le. le) (λ o. absurd (nobody p o)) (z.1 p (let s = asleep.2 in omega arith))) l.wakes

-- once a hint is 0, and its writer has asked, nobody sleeps
pub none_sleeps : NobodySleepsOnceClosed
none_sleeps n t k j v b closed asleep =
    let u = closed.0 in
    let l = (b.each j v asleep.0).lead asleep.1 in
    let told = (b.each k u closed.1).hint closed.2 in
    ⊎_elim (λ z. asleep.3 z)
    (λ z. ⊎_elim
    (λ le. asleep.3 (let h = told.1 in let zero = closed.3 in let a = z.0 in omega arith))
    (λ o. let same : o.0 ≡ k = b.writers o.0 k o.1 u o.2 closed.1 o.3 closed.2 o.5 in
    let P : ℕ → Type 0 = λ i. get_elem? t.views i ≡ some o.1 in
    let is : o.1 ≡ u = some-injective _ _ (sym (subst P same o.2) ∙ closed.1) in
    off (sym closed.4 ∙ (sym (ap (λ (x : SeatView). x.owes) is) ∙ o.4)))
    (z.1 u.place (let s = asleep.2 in let h = told.0 in omega arith)))
    l.wakes
