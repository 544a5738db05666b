-- What the rule of the words says of the seats it says of all places.
use Rattle.std.proofs.Common.{◌≡◌, ◌≢◌, ℕ, zero, suc, ◌+◌, ◌%◌, ◌<◌, ◌≤◌, ◌^◌, eqb, max, if◌then◌else◌, Bool, true, false, true≢false, List, [], ◌∷◌, ◌++◌, get_or, set, replicate, sym, refl, ap, ◌∙◌, subst, inr, ⊎_elim, arith}
use mathlib.Core.Option.{some, none, some-injective, some-ne-none}
use mathlib.Core.Logic.{dite}
use native.Mathlib.Decide.{ℕ_discrete}
use prog.Atomic.{either}
use lib.ListN.{get_elem?}
use Rattle.atomic_table.specs.Table.{step, keeps, homes_after, opening, Allows, Splits, Joins}
use Rattle.atomic_table.proofs.Lists.{at_set, at_snoc, at_longer, set_else, set_again}
use Rattle.dq_words.specs.declared.views.Call.{Call}
use Rattle.dq_words.specs.declared.views.Place.{Place}
use Rattle.dq_words.specs.declared.views.View.{View}
use Rattle.dq_words.specs.Files.{IsIn}
use Rattle.dq_words.specs.Places.{views_in, seats_of, AreShown, Placed, standing, placed, carrier, carried, hearing, PlaceMe, InPlace, told_loaded, AreSpent, spending, parted, taking, AreOthers, apart_loaded}
use Rattle.dq_words.specs.Plays.{WordMe, Knowing, issuing, newcomer, caller_loaded, keeper_loaded, extend_made, cancel_made, begin_made, exchange_made, give_back_made, return_loaded, LiveFor, MissedStep, extending}
use Rattle.dq_words.specs.Rule.{Ruled, first_keeper}
use Rattle.dq_words.proofs.Advances.{by_order, role_first}
use Rattle.dq_words.proofs.Gathers.{set_at}
use Rattle.dq_words.proofs.Starts.{starts, issues}

-- the views of the seats

seat_first : (p : Place) (ps : List Place) → p.carries ≡ false → views_in (p ∷ ps) ≡ p.view ∷ views_in ps
seat_first p ps off = ap (λ (b : Bool). if b then views_in ps else p.view ∷ views_in ps) off

carrier_first : (p : Place) (ps : List Place) → p.carries ≡ true → views_in (p ∷ ps) ≡ views_in ps
carrier_first p ps on = ap (λ (b : Bool). if b then views_in ps else p.view ∷ views_in ps) on

-- the number of a place among the seats
abbrev pub number_of : List Place → ℕ → ℕ
number_of [] id = zero
number_of (p ∷ ps) zero = zero
number_of (p ∷ ps) (suc id) = if p.carries then number_of ps id else suc (number_of ps id)

pub seat_at : (ps : List Place) (id : ℕ) (p : Place) → get_elem? ps id ≡ some p → p.carries ≡ false → get_elem? (views_in ps) (number_of ps id) ≡ some p.view
seat_at [] id p at off = absurd (some-ne-none p (sym at))
seat_at (q ∷ ps) zero p at off =
    let e : q ≡ p = some-injective q p at in
    let f : q.carries ≡ false = ap (λ (x : Place). x.carries) e ∙ off in
    ap (λ (vs : List View). get_elem? vs 0) (seat_first q ps f) ∙ ap (λ (x : Place). some x.view) e
seat_at (q ∷ ps) (suc id) p at off = by q.carries (seat_at ps id p at off)
  where
    by : (b : Bool) → get_elem? (views_in ps) (number_of ps id) ≡ some p.view → get_elem? (if b then views_in ps else q.view ∷ views_in ps) (if b then number_of ps id else suc (number_of ps id)) ≡ some p.view
    by true e = e
    by false e = e

pub seat_set : (ps : List Place) (id : ℕ) (p q : Place) → get_elem? ps id ≡ some p → p.carries ≡ false → q.carries ≡ false → views_in (set ps id q) ≡ set (views_in ps) (number_of ps id) q.view
seat_set [] id p q at off now = absurd (some-ne-none p (sym at))
seat_set (r ∷ ps) zero p q at off now =
    let f : r.carries ≡ false = ap (λ (x : Place). x.carries) (some-injective r p at) ∙ off in
    seat_first q ps now ∙ sym (ap (λ (vs : List View). set vs 0 q.view) (seat_first r ps f))
seat_set (r ∷ ps) (suc id) p q at off now = by r.carries (seat_set ps id p q at off now)
  where
    by : (b : Bool) → views_in (set ps id q) ≡ set (views_in ps) (number_of ps id) q.view → (if b then views_in (set ps id q) else r.view ∷ views_in (set ps id q)) ≡ set (if b then views_in ps else r.view ∷ views_in ps) (if b then number_of ps id else suc (number_of ps id)) q.view
    by true e = e
    by false e = ap (λ (vs : List View). r.view ∷ vs) e

carrier_set : (ps : List Place) (id : ℕ) (p q : Place) → get_elem? ps id ≡ some p → p.carries ≡ true → q.carries ≡ true → views_in (set ps id q) ≡ views_in ps
carrier_set [] id p q at on now = refl
carrier_set (r ∷ ps) zero p q at on now =
    let f : r.carries ≡ true = ap (λ (x : Place). x.carries) (some-injective r p at) ∙ on in
    carrier_first q ps now ∙ sym (carrier_first r ps f)
carrier_set (r ∷ ps) (suc id) p q at on now = ap (λ (vs : List View). if r.carries then vs else r.view ∷ vs) (carrier_set ps id p q at on now)

pub seat_new : (ps : List Place) (q : Place) → q.carries ≡ false → views_in (ps ++ q ∷ []) ≡ views_in ps ++ q.view ∷ []
seat_new [] q off = seat_first q [] off
seat_new (r ∷ ps) q off = by r.carries (seat_new ps q off)
  where
    by : (b : Bool) → views_in (ps ++ q ∷ []) ≡ views_in ps ++ q.view ∷ [] → (if b then views_in (ps ++ q ∷ []) else r.view ∷ views_in (ps ++ q ∷ [])) ≡ (if b then views_in ps else r.view ∷ views_in ps) ++ q.view ∷ []
    by true e = e
    by false e = ap (λ (vs : List View). r.view ∷ vs) e

carrier_new : (ps : List Place) (q : Place) → q.carries ≡ true → views_in (ps ++ q ∷ []) ≡ views_in ps
carrier_new [] q on = carrier_first q [] on
carrier_new (r ∷ ps) q on = ap (λ (vs : List View). if r.carries then vs else r.view ∷ vs) (carrier_new ps q on)

-- what is shown stays so

-- a view has the calls of another
abbrev pub Has : View → View → Type 0
Has w v = (c : Call) → IsIn v.calls c → IsIn w.calls c

pub has_same : (v w : View) → w.calls ≡ v.calls → Has w v
has_same v w e c h = subst (λ (l : List Call). IsIn l c) (sym e) h

pub has_more : (v w : View) (x : Call) → w.calls ≡ x ∷ v.calls → Has w v
has_more v w x e c h = subst (λ (l : List Call). IsIn l c) (sym e) (inr h)

shown_set : (vs : List View) (k : ℕ) (v w : View) → get_elem? vs k ≡ some v → Has w v → (calls : List Call) → AreShown vs calls → AreShown (set vs k w) calls
shown_set vs k v w at has calls shown c h =
    let s = shown c h in
    dite (ℕ_discrete s.0 k)
    (λ (e : s.0 ≡ k). let P : ℕ → Type 0 = λ j. get_elem? vs j ≡ some s.1 in
    let same : s.1 ≡ v = some-injective _ _ (sym (subst P e s.2) ∙ at) in
    let Q : View → Type 0 = λ u. IsIn u.calls c in
    (k, w, set_at vs k v w at, has c (subst Q same s.3)))
    (λ ne. (s.0, s.1, set_else vs k s.0 w ne ∙ s.2, s.3))

pub shown_new : (vs : List View) (u : View) (calls : List Call) → AreShown vs calls → AreShown (vs ++ u ∷ []) calls
shown_new vs u calls shown c h = let s = shown c h in (s.0, s.1, at_longer vs (u ∷ []) s.0 s.1 s.2, s.3)

pub shown_same : (vs ws : List View) (calls : List Call) → ws ≡ vs → AreShown vs calls → AreShown ws calls
shown_same vs ws calls e shown = let P : List View → Type 0 = λ l. AreShown l calls in subst P (sym e) shown

-- calls of seats that were given up stay so

place_at : (ps : List Place) (id : ℕ) (p q : Place) → get_elem? ps id ≡ some p → get_elem? (set ps id q) id ≡ some q
place_at [] id p q at = absurd (some-ne-none p (sym at))
place_at (r ∷ ps) zero p q at = refl
place_at (r ∷ ps) (suc id) p q at = place_at ps id p q at

-- the place q goes on from p: it is of a seat where p was, is given up where p was, and has its calls
abbrev GoesOn : Place → Place → Type 0
GoesOn p q = p.carries ≡ false → (q.carries ≡ false) × (p.spent ≡ true → q.spent ≡ true) × Has q.view p.view

spent_set : (ps : List Place) (id : ℕ) (p q : Place) → get_elem? ps id ≡ some p → GoesOn p q → (calls : List Call) → AreSpent ps calls → AreSpent (set ps id q) calls
spent_set ps id p q at on calls spent c h =
    let s = spent c h in
    dite (ℕ_discrete s.0 id)
    (λ (e : s.0 ≡ id). let P : ℕ → Type 0 = λ j. get_elem? ps j ≡ some s.1 in
    let same : s.1 ≡ p = some-injective _ _ (sym (subst P e s.2) ∙ at) in
    let seat = on (ap (λ (x : Place). x.carries) (sym same) ∙ s.3) in
    let Q : Place → Type 0 = λ x. IsIn x.view.calls c in
    (id, q, place_at ps id p q at, seat.0, seat.1 (ap (λ (x : Place). x.spent) (sym same) ∙ s.4), seat.2 c (subst Q same s.5)))
    (λ ne. (s.0, s.1, set_else ps id s.0 q ne ∙ s.2, s.3, s.4, s.5))

spent_new : (ps : List Place) (q : Place) (calls : List Call) → AreSpent ps calls → AreSpent (ps ++ q ∷ []) calls
spent_new ps q calls spent c h = let s = spent c h in (s.0, s.1, at_longer ps (q ∷ []) s.0 s.1 s.2, s.3, s.4, s.5)

-- of all places, what each knows of such calls
abbrev pub AllApart : List Place → Type 0
AllApart ps = (j : ℕ) (p : Place) → get_elem? ps j ≡ some p → AreSpent ps p.apart

apart_set : (ps : List Place) (id : ℕ) (p q : Place) → get_elem? ps id ≡ some p → GoesOn p q → AllApart ps → AreSpent (set ps id q) q.apart → AllApart (set ps id q)
apart_set ps id p q at on all mine j u there = ⊎_elim
    (λ (y : (j ≡ id) × (q ≡ u)). let P : Place → Type 0 = λ z. AreSpent (set ps id q) z.apart in subst P y.1 mine)
    (λ (y : (j ≢ id) × (get_elem? ps j ≡ some u)). spent_set ps id p q at on u.apart (all j u y.1))
    (at_set ps id j q u there)

-- the same where it keeps what it knows of them
apart_same : (ps : List Place) (id : ℕ) (p q : Place) → get_elem? ps id ≡ some p → GoesOn p q → q.apart ≡ p.apart → AllApart ps → AllApart (set ps id q)
apart_same ps id p q at on same all = apart_set ps id p q at on all
    (let P : List Call → Type 0 = λ l. AreSpent (set ps id q) l in subst P (sym same) (spent_set ps id p q at on p.apart (all id p at)))

pub apart_new : (ps : List Place) (q : Place) → AllApart ps → AreSpent (ps ++ q ∷ []) q.apart → AllApart (ps ++ q ∷ [])
apart_new ps q all mine j u there = ⊎_elim
    (λ was. spent_new ps q u.apart (all j u was))
    (λ (same : q ≡ u). let P : Place → Type 0 = λ z. AreSpent (ps ++ q ∷ []) z.apart in subst P same mine)
    (at_snoc ps q u j there)

-- a seat goes on with as much
as_before : (p q : Place) → p.carries ≡ false → q.carries ≡ p.carries → q.spent ≡ p.spent → Has q.view p.view → GoesOn p q
as_before p q off seat spent has is = (seat ∙ off, (λ gone. spent ∙ gone), has)

-- a step of a seat
module _ (rows slots id : ℕ) (me : PlaceMe) (i : ℕ) (f : ℕ → ℕ) (tells : ℕ → WordMe → Type 0) (off : me.0.carries ≡ false) (has : (n : ℕ) (m : WordMe) → tells n m → Has m.0 me.0.view)
    (allowed : (k : ℕ) → Allows (Ruled rows) slots k (me.0.view, me.1) i f tells) where
  pub lifts : Allows (Placed rows) slots id me i f (λ n m. tells n (m.0.view, m.1) × (m.0 ≡ standing me.0 m.0.view))
  lifts s r sized at wide =
      let p : Place = me.0 in
      let k : ℕ = number_of s.views id in
      let here = seat_at s.views id p at off in
      let x = allowed k (seats_of s) r.ruled sized here wide in
      let w : View = x.0 in
      let q : Place = standing p w in
      let vs : views_in (set s.views id q) ≡ set (views_in s.views) k w = seat_set s.views id p q at off off in
      let more = has _ _ x.4 in
      let still : (calls : List Call) → AreShown (views_in s.views) calls → AreShown (views_in (set s.views id q)) calls =
      λ calls h. shown_same _ _ calls vs (shown_set (views_in s.views) k p.view w here more calls h) in
      let P : List View → Type 0 = λ l. Ruled rows (record { words = set s.words i (f (get_or s.words i 0)); homes = homes_after s.homes me.1 x.1; views = l }) in (
        q,
        x.1,
        x.2,
        record {
          ruled = subst P (sym vs) x.3;
          told = λ j u there. ⊎_elim
              (λ (y : (j ≡ id) × (q ≡ u)). let Q : Place → Type 0 = λ z. AreShown (views_in (set s.views id q)) z.told in subst Q y.1 (still p.told (r.told id p at)))
              (λ (y : (j ≢ id) × (get_elem? s.views j ≡ some u)). still u.told (r.told j u y.1))
              (at_set s.views id j q u there);
          apart = apart_same s.views id p q at (as_before p q off refl refl more) refl r.apart;
        },
        (x.4, refl),
      )

module _ (rows slots id : ℕ) (me : PlaceMe) (i : ℕ) (off : me.0.carries ≡ false) where
  abbrev v : View
  v = me.0.view

  abbrev own : WordMe
  own = (me.0.view, me.1)

  pub caller_loading : ((k : ℕ) → Allows (Ruled rows) slots k own i (λ n. n) (Knowing caller_loaded (step slots i 0 0 none) own)) → Allows (Placed rows) slots id me i (λ n. n) (InPlace (Knowing caller_loaded) (step slots i 0 0 none) me)
  caller_loading allowed = lifts rows slots id me i (λ n. n) (Knowing caller_loaded (step slots i 0 0 none) own) off (λ n m t. has_same v m.0 (ap (λ (u : View). u.calls) t.0.0)) allowed

  pub keeper_loading : ((k : ℕ) → Allows (Ruled rows) slots k own i (λ n. n) (Knowing keeper_loaded (step slots i 0 0 none) own)) → Allows (Placed rows) slots id me i (λ n. n) (InPlace (Knowing keeper_loaded) (step slots i 0 0 none) me)
  keeper_loading allowed = lifts rows slots id me i (λ n. n) (Knowing keeper_loaded (step slots i 0 0 none) own) off (λ n m t. has_same v m.0 (ap (λ (u : View). u.calls) t.0.0)) allowed

  pub return_loading : ((k : ℕ) → Allows (Ruled rows) slots k own i (λ n. n) (Knowing return_loaded (step slots i 0 0 none) own)) → Allows (Placed rows) slots id me i (λ n. n) (InPlace (Knowing return_loaded) (step slots i 0 0 none) me)
  return_loading allowed = lifts rows slots id me i (λ n. n) (Knowing return_loaded (step slots i 0 0 none) own) off (λ n m t. has_same v m.0 (ap (λ (u : View). u.calls) t.0.0)) allowed

  pub extending_at : (x : ℕ) → ((k : ℕ) → Allows (Ruled rows) slots k own i (λ n. max n x) (Knowing extend_made (step slots i x 0 none) own)) → Allows (Placed rows) slots id me i (λ n. max n x) (InPlace (Knowing extend_made) (step slots i x 0 none) me)
  extending_at x allowed = lifts rows slots id me i (λ n. max n x) (Knowing extend_made (step slots i x 0 none) own) off
      (λ n m t. ⊎_elim
      (λ (y : LiveFor x n × (m.0 ≡ extending v i x (max n x))). has_more v m.0 _ (ap (λ (u : View). u.calls) y.1))
      (λ (y : MissedStep v m.0 i x n). has_same v m.0 (ap (λ (u : View). u.calls) y.1))
      t.0.2)
      allowed

  pub cancelling_at : (x : ℕ) → ((k : ℕ) → Allows (Ruled rows) slots k own i (λ n. max n x) (Knowing cancel_made (step slots i x 0 none) own)) → Allows (Placed rows) slots id me i (λ n. max n x) (InPlace (Knowing cancel_made) (step slots i x 0 none) me)
  cancelling_at x allowed = lifts rows slots id me i (λ n. max n x) (Knowing cancel_made (step slots i x 0 none) own) off
      (λ n m t. ⊎_elim
      (λ y. has_more v m.0 _ (ap (λ (u : View). u.calls) y.1))
      (λ (y : MissedStep v m.0 i x n). has_same v m.0 (ap (λ (u : View). u.calls) y.1))
      t.0.2)
      allowed

  pub beginning_at : (x : ℕ) → ((k : ℕ) → Allows (Ruled rows) slots k own i (λ _. x) (λ _. Knowing begin_made (step slots i x 0 none) own x)) → Allows (Placed rows) slots id me i (λ _. x) (λ _. InPlace (Knowing begin_made) (step slots i x 0 none) me x)
  beginning_at x allowed = lifts rows slots id me i (λ _. x) (λ _. Knowing begin_made (step slots i x 0 none) own x) off (λ n m t. has_same v m.0 (ap (λ (u : View). u.calls) t.0)) allowed

  pub exchanging : (g : View → ℕ → ℕ → ℕ → View) (old new : ℕ) → (g v i old new).calls ≡ v.calls
      → ((k : ℕ) → Allows (Ruled rows) slots k own i (λ n. either (eqb n old) new n) (Knowing (exchange_made g) (step slots i old new none) own))
      → Allows (Placed rows) slots id me i (λ n. either (eqb n old) new n) (InPlace (Knowing (exchange_made g)) (step slots i old new none) me)
  exchanging g old new same allowed = lifts rows slots id me i (λ n. either (eqb n old) new n) (Knowing (exchange_made g) (step slots i old new none) own) off
      (λ n m t. dite (ℕ_discrete n old)
      (λ e. has_same v m.0 (ap (λ (u : View). u.calls) (t.0.1.0 e) ∙ same))
      (λ ne. has_same v m.0 (ap (λ (u : View). u.calls) (t.0.1.1 ne))))
      allowed

  pub giving_back_at : (x : ℕ) → ((k : ℕ) → Allows (Ruled rows) slots k own i (λ n. (n + x) % 2 ^ 64) (Knowing give_back_made (step slots i x 0 none) own)) → Allows (Placed rows) slots id me i (λ n. (n + x) % 2 ^ 64) (InPlace (Knowing give_back_made) (step slots i x 0 none) me)
  giving_back_at x allowed = lifts rows slots id me i (λ n. (n + x) % 2 ^ 64) (Knowing give_back_made (step slots i x 0 none) own) off (λ n m t. has_same v m.0 (ap (λ (u : View). u.calls) t.0)) allowed

-- a new table
pub opens : (rows : ℕ) (words : List ℕ) → words ≡ replicate (rows + 1) 0 → rows ≤ 65536 → Placed rows (opening words [] (placed (first_keeper rows)))
opens rows words is few = record { ruled = starts rows words is few; told = by; apart = none }
  where
    by : (j : ℕ) (p : Place) → get_elem? (placed (first_keeper rows) ∷ []) j ≡ some p → AreShown (first_keeper rows ∷ []) p.told
    by zero p at = let P : Place → Type 0 = λ u. AreShown (first_keeper rows ∷ []) u.told in subst P (some-injective _ p at) (λ c h. absurd h)
    by (suc j) p at = absurd (some-ne-none p (sym at))

    none : AllApart (placed (first_keeper rows) ∷ [])
    none zero p at = let P : Place → Type 0 = λ u. AreSpent (placed (first_keeper rows) ∷ []) u.apart in subst P (some-injective _ p at) (λ c h. absurd h)
    none (suc j) p at = absurd (some-ne-none p (sym at))

-- one caller more
pub issues_at : (rows id : ℕ) (p : Place) → p.carries ≡ false → p.view.keeps ≡ true → p.view.issued < 1024 → Splits (Placed rows) id p (standing p (issuing p.view)) (placed (newcomer p.view))
issues_at rows id p off keeper room s r at =
    let k : ℕ = number_of s.views id in
    let l : Place = standing p (issuing p.view) in
    let n : Place = placed (newcomer p.view) in
    let here = seat_at s.views id p at off in
    let one : views_in (set s.views id l) ≡ set (views_in s.views) k l.view = seat_set s.views id p l at off off in
    let two : views_in (set s.views id l ++ n ∷ []) ≡ set (views_in s.views) k l.view ++ n.view ∷ [] = seat_new (set s.views id l) n refl ∙ ap (λ (vs : List View). vs ++ n.view ∷ []) one in
    let still : (calls : List Call) → AreShown (views_in s.views) calls → AreShown (views_in (set s.views id l ++ n ∷ [])) calls =
    λ calls h. shown_same _ _ calls two (shown_new _ n.view calls (shown_set (views_in s.views) k p.view l.view here (λ c x. x) calls h)) in
    let P : List View → Type 0 = λ vs. Ruled rows (record { words = s.words; homes = s.homes; views = vs }) in
    record {
      ruled = subst P (sym two) (issues rows k p.view keeper room (seats_of s) r.ruled here);
      told = λ j u there. ⊎_elim
          (λ was. ⊎_elim
          (λ (y : (j ≡ id) × (l ≡ u)). let Q : Place → Type 0 = λ z. AreShown (views_in (set s.views id l ++ n ∷ [])) z.told in subst Q y.1 (still p.told (r.told id p at)))
          (λ (y : (j ≢ id) × (get_elem? s.views j ≡ some u)). still u.told (r.told j u y.1))
          (at_set s.views id j l u was))
          (λ (same : n ≡ u). let Q : Place → Type 0 = λ z. AreShown (views_in (set s.views id l ++ n ∷ [])) z.told in subst Q same (λ c h. absurd h))
          (at_snoc (set s.views id l) n u j there);
      apart = apart_new (set s.views id l) n (apart_same s.views id p l at (as_before p l off refl refl (λ c x. x)) refl r.apart) (λ c h. absurd h);
    }

-- a seat's calls go out of a copy of them
pub tells : (rows id : ℕ) (p : Place) → p.carries ≡ false → Splits (Placed rows) id p p (carried p)
tells rows id p off s r at =
    let t : Place = carried p in
    let again : set s.views id p ≡ s.views = set_again s.views id p at in
    let vs : views_in (set s.views id p ++ t ∷ []) ≡ views_in s.views = carrier_new (set s.views id p) t refl ∙ ap views_in again in
    let P : List View → Type 0 = λ l. Ruled rows (record { words = s.words; homes = s.homes; views = l }) in
    let still : (calls : List Call) → AreShown (views_in s.views) calls → AreShown (views_in (set s.views id p ++ t ∷ [])) calls = λ calls h. shown_same _ _ calls vs h in
    record {
      ruled = subst P (sym vs) r.ruled;
      told = λ j u there. ⊎_elim
          (λ was. let Q : List Place → Type 0 = λ l. get_elem? l j ≡ some u in still u.told (r.told j u (subst Q again was)))
          (λ (same : t ≡ u). let Q : Place → Type 0 = λ z. AreShown (views_in (set s.views id p ++ t ∷ [])) z.told in
          subst Q same (still t.told (λ c h. (number_of s.views id, p.view, seat_at s.views id p at off, h))))
          (at_snoc (set s.views id p) t u j there);
      apart = apart_new (set s.views id p) t (apart_same s.views id p p at (as_before p p off refl refl (λ c x. x)) refl r.apart) (λ c h. absurd h);
    }

-- and come into another
pub hears : (rows id : ℕ) (p : Place) (other : ℕ) (q : Place) → p.carries ≡ false → q.carries ≡ true → Joins (Placed rows) id p other q (hearing p q) (carrier [])
hears rows id p other q off on s r at apart there =
    let b : Place = hearing p q in
    let e : Place = carrier [] in
    let k : ℕ = number_of s.views id in
    let theirs : get_elem? s.views other ≡ some q = ⊎_elim (λ (x : (other ≡ id) × (b ≡ q)). absurd (apart x.0)) (λ (x : (other ≢ id) × (get_elem? s.views other ≡ some q)). x.1) (at_set s.views id other b q there) in
    let here = seat_at s.views id p at off in
    let one : views_in (set s.views id b) ≡ views_in s.views = seat_set s.views id p b at off off ∙ set_again (views_in s.views) k p.view here in
    let vs : views_in (set (set s.views id b) other e) ≡ views_in s.views = carrier_set (set s.views id b) other q e there on refl ∙ one in
    let P : List View → Type 0 = λ l. Ruled rows (record { words = s.words; homes = s.homes; views = l }) in
    let still : (calls : List Call) → AreShown (views_in s.views) calls → AreShown (views_in (set (set s.views id b) other e)) calls = λ calls h. shown_same _ _ calls vs h in
    record {
      ruled = subst P (sym vs) r.ruled;
      told = λ j u now. ⊎_elim
          (λ (x : (j ≡ other) × (e ≡ u)). let Q : Place → Type 0 = λ z. AreShown (views_in (set (set s.views id b) other e)) z.told in subst Q x.1 (λ c h. absurd h))
          (λ (x : (j ≢ other) × (get_elem? (set s.views id b) j ≡ some u)). ⊎_elim
          (λ (y : (j ≡ id) × (b ≡ u)). let Q : Place → Type 0 = λ z. AreShown (views_in (set (set s.views id b) other e)) z.told in subst Q y.1 (still b.told (r.told other q theirs)))
          (λ (y : (j ≢ id) × (get_elem? s.views j ≡ some u)). still u.told (r.told j u y.1))
          (at_set s.views id j b u x.1))
          (at_set (set s.views id b) other j e u now);
      apart = apart_set (set s.views id b) other q e there (λ seat. absurd (true≢false (sym on ∙ seat)))
          (apart_same s.views id p b at (as_before p b off refl refl (λ c x. x)) refl r.apart) (λ c h. absurd h);
    }

pub word_again : (ws : List ℕ) (i : ℕ) → set ws i (get_or ws i 0) ≡ ws
word_again [] i = refl
word_again (w ∷ ws) zero = refl
word_again (w ∷ ws) (suc i) = ap (λ (l : List ℕ). w ∷ l) (word_again ws i)

-- the keeper's load of what was told
pub learns_told : (rows slots id : ℕ) (me : PlaceMe) (i : ℕ) → me.0.carries ≡ false → me.0.view.keeps ≡ true → Allows (Placed rows) slots id me i (λ n. n) (told_loaded (step slots i 0 0 none) me)
learns_told rows slots id me i off keeper s r sized at wide =
    let p : Place = me.0 in
    let here = seat_at s.views id p at off in
    let sees = r.ruled.kept.sees (number_of s.views id) p.view here in
    let first = role_first (number_of s.views id) p.view sees.role keeper in
    let F : ℕ → Type 0 = λ j. get_elem? (views_in s.views) j ≡ some p.view in
    let R : ℕ → Type 0 = λ n. Ruled n (seats_of s) in
    let again : set s.views id p ≡ s.views = set_again s.views id p at in
    let words : set s.words i (get_or s.words i 0) ≡ s.words = word_again s.words i in
    let P : List Place → Type 0 = λ l. Placed rows (record { words = s.words; homes = s.homes; views = l }) in
    let Q : List ℕ → Type 0 = λ ws. Placed rows (record { words = ws; homes = s.homes; views = set s.views id p }) in (
      p,
      keeps,
      tt,
      subst Q (sym words) (subst P (sym again) r),
      (refl, (seats_of s, subst R (sym sees.row) r.ruled, subst F first here, r.told id p at)),
    )

-- a seat is given up, and its calls go out of it
pub spends : (rows id : ℕ) (p : Place) → p.carries ≡ false → Splits (Placed rows) id p (spending p) (parted p)
spends rows id p off s r at =
    let l : Place = spending p in
    let t : Place = parted p in
    let k : ℕ = number_of s.views id in
    let one : views_in (set s.views id l) ≡ views_in s.views = seat_set s.views id p l at off off ∙ set_again (views_in s.views) k p.view (seat_at s.views id p at off) in
    let vs : views_in (set s.views id l ++ t ∷ []) ≡ views_in s.views = carrier_new (set s.views id l) t refl ∙ one in
    let P : List View → Type 0 = λ v. Ruled rows (record { words = s.words; homes = s.homes; views = v }) in
    let still : (calls : List Call) → AreShown (views_in s.views) calls → AreShown (views_in (set s.views id l ++ t ∷ [])) calls = λ calls h. shown_same _ _ calls vs h in
    let all = apart_same s.views id p l at (λ seat. (off, (λ gone. refl), (λ c x. x))) refl r.apart in
    record {
      ruled = subst P (sym vs) r.ruled;
      told = λ j u there. ⊎_elim
          (λ was. ⊎_elim
          (λ (y : (j ≡ id) × (l ≡ u)). let Q : Place → Type 0 = λ z. AreShown (views_in (set s.views id l ++ t ∷ [])) z.told in subst Q y.1 (still p.told (r.told id p at)))
          (λ (y : (j ≢ id) × (get_elem? s.views j ≡ some u)). still u.told (r.told j u y.1))
          (at_set s.views id j l u was))
          (λ (same : t ≡ u). let Q : Place → Type 0 = λ z. AreShown (views_in (set s.views id l ++ t ∷ [])) z.told in subst Q same (λ c h. absurd h))
          (at_snoc (set s.views id l) t u j there);
      apart = apart_new (set s.views id l) t all (λ c h. (id, l, at_longer (set s.views id l) (t ∷ []) id l (place_at s.views id p l at), off, refl, h));
    }

-- and come into another
pub takes : (rows id : ℕ) (p : Place) (other : ℕ) (q : Place) → p.carries ≡ false → q.carries ≡ true → Joins (Placed rows) id p other q (taking p q) (carrier [])
takes rows id p other q off on s r at distinct there =
    let b : Place = taking p q in
    let e : Place = carrier [] in
    let k : ℕ = number_of s.views id in
    let theirs : get_elem? s.views other ≡ some q = ⊎_elim (λ (x : (other ≡ id) × (b ≡ q)). absurd (distinct x.0)) (λ (x : (other ≢ id) × (get_elem? s.views other ≡ some q)). x.1) (at_set s.views id other b q there) in
    let here = seat_at s.views id p at off in
    let one : views_in (set s.views id b) ≡ views_in s.views = seat_set s.views id p b at off off ∙ set_again (views_in s.views) k p.view here in
    let vs : views_in (set (set s.views id b) other e) ≡ views_in s.views = carrier_set (set s.views id b) other q e there on refl ∙ one in
    let P : List View → Type 0 = λ l. Ruled rows (record { words = s.words; homes = s.homes; views = l }) in
    let still : (calls : List Call) → AreShown (views_in s.views) calls → AreShown (views_in (set (set s.views id b) other e)) calls = λ calls h. shown_same _ _ calls vs h in
    let goes : GoesOn p b = as_before p b off refl refl (λ c x. x) in
    record {
      ruled = subst P (sym vs) r.ruled;
      told = λ j u now. ⊎_elim
          (λ (x : (j ≡ other) × (e ≡ u)). let Q : Place → Type 0 = λ z. AreShown (views_in (set (set s.views id b) other e)) z.told in subst Q x.1 (λ c h. absurd h))
          (λ (x : (j ≢ other) × (get_elem? (set s.views id b) j ≡ some u)). ⊎_elim
          (λ (y : (j ≡ id) × (b ≡ u)). let Q : Place → Type 0 = λ z. AreShown (views_in (set (set s.views id b) other e)) z.told in subst Q y.1 (still p.told (r.told id p at)))
          (λ (y : (j ≢ id) × (get_elem? s.views j ≡ some u)). still u.told (r.told j u y.1))
          (at_set s.views id j b u x.1))
          (at_set (set s.views id b) other j e u now);
      apart = apart_set (set s.views id b) other q e there (λ seat. absurd (true≢false (sym on ∙ seat)))
          (apart_set s.views id p b at goes r.apart (spent_set s.views id p b at goes q.apart (r.apart other q theirs))) (λ c h. absurd h);
    }

-- two seats have two numbers
number_less : (ps : List Place) (i k : ℕ) (p : Place) → get_elem? ps i ≡ some p → p.carries ≡ false → i < k → number_of ps i < number_of ps k
number_less [] i k p at off less = absurd (some-ne-none p (sym at))
number_less (q ∷ ps) zero zero p at off less = absurd (omega arith)
number_less (q ∷ ps) zero (suc k) p at off less = by q.carries (ap (λ (x : Place). x.carries) (some-injective q p at) ∙ off)
  where
    by : (b : Bool) → b ≡ false → zero < (if b then number_of ps k else suc (number_of ps k))
    by true e = absurd (true≢false e)
    by false e = omega arith
number_less (q ∷ ps) (suc i) zero p at off less = absurd (omega arith)
number_less (q ∷ ps) (suc i) (suc k) p at off less = by q.carries (number_less ps i k p at off (omega arith))
  where
    by : (b : Bool) → number_of ps i < number_of ps k → (if b then number_of ps i else suc (number_of ps i)) < (if b then number_of ps k else suc (number_of ps k))
    by true h = h
    by false h = omega arith

number_apart : (ps : List Place) (i k : ℕ) (p q : Place) → get_elem? ps i ≡ some p → get_elem? ps k ≡ some q → p.carries ≡ false → q.carries ≡ false → i ≢ k → number_of ps i ≢ number_of ps k
number_apart ps i k p q at there off off' ne same = by_order i k ⊥
    (λ le. let lt : i < k = by_order k i (i < k) (λ ge. absurd (ne (omega arith))) (λ h. h) in let a = number_less ps i k p at off lt in omega arith)
    (λ lt. let a = number_less ps k i q there off' lt in omega arith)

-- a seat's load of what others did that were given up, as it wasn't
pub learns_apart : (rows slots id : ℕ) (me : PlaceMe) (i : ℕ) → me.0.carries ≡ false → me.0.spent ≡ false → Allows (Placed rows) slots id me i (λ n. n) (apart_loaded (step slots i 0 0 none) me)
learns_apart rows slots id me i off here s r sized at wide =
    let p : Place = me.0 in
    let mine = seat_at s.views id p at off in
    let sees = r.ruled.kept.sees (number_of s.views id) p.view mine in
    let R : ℕ → Type 0 = λ n. Ruled n (seats_of s) in
    let again : set s.views id p ≡ s.views = set_again s.views id p at in
    let words : set s.words i (get_or s.words i 0) ≡ s.words = word_again s.words i in
    let P : List Place → Type 0 = λ l. Placed rows (record { words = s.words; homes = s.homes; views = l }) in
    let Q : List ℕ → Type 0 = λ ws. Placed rows (record { words = ws; homes = s.homes; views = set s.views id p }) in
    let others : AreOthers (number_of s.views id) (views_in s.views) p.apart = λ c h.
    let z = r.apart id p at c h in
    let ne : z.0 ≢ id = λ e. let F : ℕ → Type 0 = λ j. get_elem? s.views j ≡ some z.1 in
    true≢false (sym z.4 ∙ ap (λ (x : Place). x.spent) (some-injective z.1 p (sym (subst F e z.2) ∙ at)) ∙ here) in
    (number_of s.views z.0, z.1.view, number_apart s.views z.0 id z.1 p z.2 at z.3 off ne, seat_at s.views z.0 z.1 z.2 z.3, z.5) in (
      p,
      keeps,
      tt,
      subst Q (sym words) (subst P (sym again) r),
      (refl, (seats_of s, number_of s.views id, subst R (sym sees.row) r.ruled, mine, others)),
    )
