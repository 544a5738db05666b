-- What stands in a store whose cores come and go.
use Rattle.std.proofs.Common.{◌≡◌, ◌≢◌, ℕ, suc, ◌<◌, ◌≤◌, ◌+◌, ◌-◌, ◌*◌, ◌/◌, ◌^◌, List, [], ◌∷◌, ◌++◌, length, get_or, remove, map, take, min, max, Bool, true, false, if◌then◌else◌, Option, Some, None, MatchOption, Result, Ok, Err, OnOk, refl, sym, ap, ◌∙◌, subst, inl, inr, ⊎_elim, arith, ◌⊎◌}
use Rattle.std.proofs.lemmas.Bool.{cases_eq, lt-ltb, le-ltb, eq-eqb, ne_eqb}
use mathlib.Core.Logic.{dite}
use native.Mathlib.Decide.{ℕ_discrete}
use Rattle.std.proofs.lemmas.List.{get_or-map, get_or_past, length-map, take_all}
use Rattle.std.proofs.lemmas.List.Sums.{sum_by_more}
use Rattle.std.specs.List.{sum_by}
use Rattle.std.specs.Int.{IsNextPowerOfTwo}
use Rattle.std.proofs.Math.Pow.{pow_mono}
use Rattle.std.proofs.lemmas.Nat.{pow_pos}
use Rattle.std.proofs.lemmas.Grind.{pow_more}
use Rattle.dq_ticks.specs.declared.TheConstants.{CAPACITY_LIMIT}
use Rattle.std.proofs.lemmas.List.Edits.{length-remove, get_or-remove_below, get_or-remove_above}
use Rattle.dq_ticks.specs.declared.keys.EntryId.{EntryId}
use Rattle.dq_wheel.proofs.Links.{nat_le_or_lt}
use Rattle.dq_core.specs.AtTheCall.{linked_in}
use Rattle.dq_core.specs.Core.{Core, IsLawfulCore}
use Rattle.dq_core.specs.Folds.{IsFoldable}
use Rattle.dq_core.specs.Machine.{Entry}
use Rattle.dq_core.specs.Core.{machine}
use Rattle.dq_core.specs.Machine.{NoneLinked}
use Rattle.dq_core.specs.Readers.{TellsLeast}
use Rattle.dq_ticks.specs.declared.keys.Key.{Key}
use Rattle.dq_core.specs.declared.outcomes.Swept.{Swept}
use Rattle.dq_growing.specs.declared.sizing.Sizing.{Sizing}
use Rattle.dq_growing.specs.declared.sweeping.Sweep.{Sweep}
use Rattle.dq_growing.specs.Cores.{CoreRow, AreCores, HasNo, IsCoreAt, OnCoreAt, SweepsFrom, GivesDrained, TakesIn, opened_without}
use Rattle.dq_growing.specs.declared.sizing.Room.{Room}
use Rattle.dq_growing.specs.Notes.{Book}
use Rattle.dq_growing.specs.Moving.{HasOpenRoom}
use Rattle.dq_growing.specs.Sizing.{AllWere, ComesInto, KeepsTick, GoesOnBehind, TakesOff, WayGoesOn, slots_at, slots_in, linked_of, way_for, with_work, IsNextSize, IsSmall, IsWorn, IsSpare, IsNeedless, IsNeedlessAt, IsOpenHalfFree, IsTooLarge, HasNeedless, HasStraggler, HasNoWork, EndsQuiet, IsToShrink, LooksAfter, MayShrink, NoneNeedless, WillDo, MayHaveSlots, FoundElsewhere, NotesWorkIf, HasClearAt, HasNoneToOpen, IsNearlyDrained, IsRoomAt, IsRoomier, IsRoomiest, NoStraggler, OnlyOpens, OpensIf, OpensWanted, StaysOpen, SweepsNext, TellsStraggler, WasBeside, clear_slots, MayOpen, OpensOne}
use Rattle.dq_growing.specs.Stands.{HasEntry, IsThere, SameStand}
use Rattle.dq_growing.specs.Store.{StoreState, StandsFor, TellsFirstIn, entry_told}
use Rattle.dq_growing.proofs.Leasts.{some_not_none}
use Rattle.dq_growing.proofs.Rows.{at_snoc, one_at, removed_at, snoc_before, snoc_long}
use Rattle.dq_growing.proofs.Standing.{all_same}
use Rattle.dq_growing.proofs.Stored.{same_for, stored, unlinked}

pub then_stand : {T : Type 0} (A B C : EntryId → Entry T → Type 0) → SameStand A B → SameStand B C → SameStand A C
then_stand A B C x y = (
  (λ o e z. let f = x.0 o e z in let g = y.0 o f.0 f.1 in (g.0, g.1, g.2 ∙ f.2)),
  (λ o e z. let f = y.1 o e z in let g = x.1 o f.0 f.1 in (g.0, g.1, g.2 ∙ f.2)),
)

pub all_stand : {T : Type 0} (A : EntryId → Entry T → Type 0) → SameStand A A
all_stand A = ((λ o e z. (e, z, refl)), (λ o e z. (e, z, refl)))

-- of two powers of two that aren't less than n, the greater one isn't the least such
lower_power : (n p q i j : ℕ) → p ≡ 2 ^ i → q ≡ 2 ^ j → n ≤ p → q / 2 < max 1 n → i < j → ⊥
lower_power n p q i j is too above below less =
    let le : i + 1 ≤ j = omega (arith, less) in
    let rises : 2 ^ (i + 1) ≤ 2 ^ j = pow_mono le in
    let twice : 2 ^ (i + 1) ≡ 2 ^ i * 2 = pow_more 2 i in
    let pos = pow_pos i in
    omega (arith, is, too, above, below, rises, twice, pos)

one_power : (n p q : ℕ) → IsNextPowerOfTwo n p → IsNextPowerOfTwo n q → p ≡ q
one_power n p q x y =
    let i = x.0.0 in
    let j = y.0.0 in
    ⊎_elim
    (λ (e : i ≡ j). x.0.1 ∙ ap (λ k. 2 ^ k) e ∙ sym y.0.1)
    (λ (ne : i ≢ j). elim (nat_le_or_lt i j) [
      | inl le ↦ absurd (lower_power n p q i j x.0.1 y.0.1 x.1 y.2 (omega (arith, le, ne)))
      | inr lt ↦ absurd (lower_power n q p j i y.0.1 x.0.1 y.1 x.2 lt)
    ])
    (cases_eq i j)

module _ {T W : Type 0} where
  -- a core comes in with nothing linked
  snoc_same : (s t : CoreRow T W) (c : Core T W) → IsLawfulCore c → linked_in c ≡ 0 → t.cores ≡ s.cores ++ c ∷ [] → SameStand (HasEntry s) (HasEntry t)
  snoc_same s t c lawful none is =
      let old = s.cores in
      let Is : List (Core T W) → Type 0 = λ l. (o : EntryId) (e : Entry T) → HasEntry s o e → (i : ℕ) × (d : Core T W) × IsCoreAt l i d × IsThere d o e in
      let on : Is t.cores = subst Is (sym is)
      (λ o e z. let long = snoc_long old c in let inside = z.2.0 in
      (z.0, z.1, (omega arith, snoc_before old c z.1 z.0 inside ∙ z.2.1), z.3)) in
      let Was : List (Core T W) → Type 0 = λ l. (o : EntryId) (e : Entry T) (i : ℕ) (d : Core T W) → IsCoreAt l i d → IsThere d o e → HasEntry s o e in
      let back : Was t.cores = subst Was (sym is)
      (λ o e i d at there. ⊎_elim
      (λ (y : IsCoreAt old i d). (i, d, y, there))
      (λ (y : (i ≡ length old) × (c ≡ d)). let P : Core T W → Type 0 = λ k. IsThere k o e in absurd (unlinked c lawful none o e (subst P (sym y.1) there)))
      (at_snoc old c d i at)) in (
        (λ o e z. (e, on o e z, refl)),
        (λ o e z. (e, back o e z.0 z.1 z.2 z.3, refl)),
      )

  -- a core in which nothing is linked leaves
  removed_same : (s : CoreRow T W) (i opened : ℕ) (c : Core T W) → IsCoreAt s.cores i c → IsLawfulCore c → linked_in c ≡ 0
      → SameStand (HasEntry s) (HasEntry (record s { cores = remove s.cores i; opened = opened }))
  removed_same s i opened c at lawful none =
      let old = s.cores in
      let inside = at.0 in
      let fewer = length-remove old i inside in
      let on : (o : EntryId) (e : Entry T) (k : ℕ) (d : Core T W) → IsCoreAt old k d → IsThere d o e → (j : ℕ) × (f : Core T W) × IsCoreAt (remove old i) j f × IsThere f o e = λ o e k d x there.
      dite (ℕ_discrete k i)
      (λ same. let A : ℕ → Type 0 = λ n. IsCoreAt old n d in
      let P : Core T W → Type 0 = λ n. IsThere n o e in
      absurd (unlinked c lawful none o e (subst P (one_at old i d c (subst A same x) at) there)))
      (λ ne. let within = x.0 in elim (nat_le_or_lt i k) [
        | inl y ↦
            let from : i ≤ k - 1 = omega arith in
            let next : k - 1 + 1 ≡ k = omega arith in
            let P : ℕ → Type 0 = λ n. get_or old n d ≡ d in
            (k - 1, d, (omega arith, get_or-remove_above old i d (k - 1) from inside ∙ subst P (sym next) x.1), there)
        | inr y ↦ (k, d, (omega arith, get_or-remove_below old i d k y inside ∙ x.1), there)
      ]) in
      let back : (o : EntryId) (e : Entry T) (k : ℕ) (d : Core T W) → IsCoreAt (remove old i) k d → IsThere d o e → HasEntry s o e = λ o e k d x there.
      ⊎_elim
      (λ (y : (k < i) × IsCoreAt old k d). (k, d, y.1, there))
      (λ (y : (i ≤ k) × IsCoreAt old (k + 1) d). (k + 1, d, y.1, there))
      (removed_at old i k d inside x) in (
        (λ o e z. (e, on o e z.0 z.1 z.2 z.3, refl)),
        (λ o e z. (e, back o e z.0 z.1 z.2 z.3, refl)),
      )

  -- so in a store with the same notes
  stand_for : (s t : StoreState T W) → SameStand (HasEntry s.cores) (HasEntry t.cores) → t.notes ≡ s.notes → SameStand (StandsFor s) (StandsFor t)
  stand_for s t all same =
      let P : Book → Type 0 = λ n. SameStand (StandsFor s) (StandsFor (stored t.cores n)) in
      subst P (sym same) (same_for s t.cores all)

  pub stays : (s t : StoreState T W) → t.cores ≡ s.cores → t.notes ≡ s.notes → SameStand (StandsFor s) (StandsFor t)
  stays s t cores notes =
      let P : CoreRow T W → Type 0 = λ k. SameStand (HasEntry s.cores) (HasEntry k) in
      stand_for s t (subst P (sym cores) (all_same s.cores)) notes

  pub takes_same : (s t : StoreState T W) (c : Core T W) → IsLawfulCore c → TakesIn s.cores c t.cores → t.notes ≡ s.notes → SameStand (StandsFor s) (StandsFor t)
  takes_same s t c lawful takes notes = stand_for s t (snoc_same s.cores t.cores c lawful takes.may.0 takes.cores) notes

  pub opens_same : (s t : StoreState T W) → OnlyOpens s t → SameStand (StandsFor s) (StandsFor t)
  opens_same s t opens =
      let P : CoreRow T W → Type 0 = λ k. SameStand (HasEntry s.cores) (HasEntry k) in
      stand_for s t (subst P (sym opens.0.1) (all_same s.cores)) opens.1

  pub gives_same : (s t : StoreState T W) (c : Core T W) → IsLawfulCore c → GivesDrained s.cores c t.cores → t.notes ≡ s.notes → SameStand (StandsFor s) (StandsFor t)
  gives_same s t c lawful gives notes =
      let i = gives.place in
      let P : CoreRow T W → Type 0 = λ k. SameStand (HasEntry s.cores) (HasEntry k) in
      stand_for s t (subst P (sym gives.rest) (removed_same s.cores i (opened_without s.cores.opened i) c gives.drained.0 lawful gives.drained.2.0)) notes

  -- which core is open
  pub still : (s : StoreState T W) → OnlyOpens s s
  still s = ((s.cores.opened, refl), refl)

  pub opens_only : (s t : StoreState T W) (o : Bool) (place : ℕ) → (o ≡ true → (place < length s.cores.cores) × (t.cores ≡ record s.cores { opened = place }))
      → (o ≡ false → (length s.cores.cores ≤ place) × (t.cores ≡ s.cores)) → t.notes ≡ s.notes → OnlyOpens s t
  opens_only s t true place opens refused notes = ((place, (opens refl).1), notes)
  opens_only s t false place opens refused notes = ((s.cores.opened, (refused refl).1), notes)

  -- free slots
  pub clear_as : (k s : CoreRow T W) → k ≡ s → HasClearAt k k.opened → HasClearAt s s.opened
  clear_as k s same is = let P : CoreRow T W → Type 0 = λ r. HasClearAt r r.opened in subst P same is

  pub clear_room : (s : CoreRow T W) → HasClearAt s s.opened → HasOpenRoom s
  clear_room s is = let some = is.2 in (is.0, is.1, omega (arith, some))

  pub is_clear : (s : CoreRow T W) (i k n : ℕ) (b : Core T W) → IsCoreAt s.cores k b → n ≡ clear_slots b → k ≡ i → 0 < n → HasClearAt s i
  is_clear s i k n b at same e some =
      let P : ℕ → Type 0 = λ j. HasClearAt s j in
      subst P e (b, at, omega (arith, same, some))

  pub not_clear : (s : CoreRow T W) (i k n : ℕ) (b : Core T W) → IsCoreAt s.cores k b → n ≡ clear_slots b → k ≡ i → n ≤ 0 → ¬ HasClearAt s i
  not_clear s i k n b at same e none x =
      let P : ℕ → Type 0 = λ j. HasClearAt s j in
      let y = subst P (sym e) x in
      let C : Core T W → ℕ = λ d. clear_slots d in
      let both = ap C (one_at s.cores k b y.0 at y.1) in
      let some = y.2 in
      omega (arith, none, same, both, some)

  pub roomier_there : (s : CoreRow T W) (any : Bool) (found : Room) (i n : ℕ) (b : Core T W) → IsCoreAt s.cores i b → n ≡ clear_slots b → MayOpen any b → found.free ≤ n
      → IsRoomier s any found i (record { place = i; free = n })
  roomier_there s any found i n b at same may le = record {
    one = inr (b, at, sym same, may);
    before = le;
    here = λ c x may. let C : Core T W → ℕ = λ d. clear_slots d in let both = ap C (one_at s.cores i b c at x) in omega (arith, both, same);
  }

  pub roomier_shut : (s : CoreRow T W) (any : Bool) (found : Room) (i : ℕ) (b : Core T W) → IsCoreAt s.cores i b → ¬ MayOpen any b → IsRoomier s any found i found
  roomier_shut s any found i b at shut = record {
    one = inl refl;
    before = omega arith;
    here = λ c x may. let P : Core T W → Type 0 = λ d. MayOpen any d in absurd (shut (subst P (sym (one_at s.cores i b c at x)) may));
  }

  pub roomiest_first : (s : CoreRow T W) (any : Bool) → IsRoomiest s 0 any (record { place = 0; free = 0 })
  roomiest_first s any = record { some = λ has. absurd (omega (arith, has)); most = λ i c below at may. absurd (omega (arith, below)) }

  pub roomiest_next : (s : CoreRow T W) (n : ℕ) (any : Bool) (r q : Room) → IsRoomiest s n any r → IsRoomier s any r n q → IsRoomiest s (n + 1) any q
  roomiest_next s n any r q all next = record {
    some = λ has.
        ⊎_elim
        (λ (e : q ≡ r). let P : Room → Type 0 = λ k. 0 < k.free → IsRoomAt s any k in subst P (sym e) all.some has)
        (λ (y : IsRoomAt s any q). y)
        next.one;
    most = λ i c below at may.
        ⊎_elim
        (λ (e : i ≡ n). let P : ℕ → Type 0 = λ k. IsCoreAt s.cores k c in next.here c (subst P e at) may)
        (λ (ne : i ≢ n). let le = all.most i c (omega (arith, below, ne)) at may in let grows = next.before in omega (arith, le, grows))
        (cases_eq i n);
  }

  pub none_to_open : (k s : CoreRow T W) (any : Bool) (r : Room) → k ≡ s → IsRoomiest k (length k.cores) any r → r.free ≡ 0 → HasNoneToOpen any s
  none_to_open k s any r same most none =
      let P : CoreRow T W → Type 0 = λ t. HasNoneToOpen any t in
      subst P same (λ i c at may. let le = most.most i c at.0 at may in omega (arith, le, none))

  pub opens_clear : (s t : StoreState T W) (k : CoreRow T W) (o any : Bool) (r : Room)
      → (o ≡ true → (r.place < length s.cores.cores) × (t.cores ≡ record s.cores { opened = r.place }))
      → k ≡ s.cores → IsRoomiest k (length k.cores) any r → 0 < r.free → o ≡ true → HasClearAt t.cores t.cores.opened
  opens_clear s t k o any r opens same most some is =
      let P : CoreRow T W → Type 0 = λ x. HasClearAt x x.opened in
      let Q : CoreRow T W → Type 0 = λ x. HasClearAt x r.place in
      let here = most.some some in
      let free = here.2 in
      subst P (sym (opens is).1) (subst Q same (here.0, here.1, omega (arith, free, some)))

  pub opens_may : (s t : StoreState T W) (k : CoreRow T W) (o any : Bool) (r : Room)
      → (o ≡ true → (r.place < length s.cores.cores) × (t.cores ≡ record s.cores { opened = r.place }))
      → k ≡ s.cores → IsRoomiest k (length k.cores) any r → 0 < r.free → o ≡ true → OpensOne any t.cores
  opens_may s t k o any r opens same most some is =
      let P : CoreRow T W → Type 0 = λ x. OpensOne any x in
      let Q : CoreRow T W → Type 0 = λ x. OpensOne any (record x { opened = r.place }) in
      let here = most.some some in
      subst P (sym (opens is).1) (subst Q same (here.0, here.1, here.3))

  pub store_is : (s t : StoreState T W) → t.cores ≡ s.cores → t.notes ≡ s.notes → t ≡ s
  store_is s t cores notes =
      let C : CoreRow T W → StoreState T W = λ k. stored k t.notes in
      let N : Book → StoreState T W = λ n. stored s.cores n in
      ap C cores ∙ ap N notes

  pub opens_or_stays : (o : Bool) (s t : StoreState T W) (any : Bool) → (o ≡ true → OpensOne any t.cores) → (o ≡ false → t ≡ s) → (t ≡ s) ⊎ OpensOne any t.cores
  opens_or_stays true s t any may kept = inr (may refl)
  opens_or_stays false s t any may kept = inl (kept refl)

  pub opened_notes : (s t : StoreState T W) (k : CoreRow T W) (o any : Bool) (r : Room) (z y : Sizing)
      → (o ≡ false → (length s.cores.cores ≤ r.place) × (t.cores ≡ s.cores))
      → k ≡ s.cores → IsRoomiest k (length k.cores) any r → 0 < r.free → y ≡ with_work z → NotesWorkIf (o ≡ true) z y
  opened_notes s t k true any r z y refused same most some noted = inl (refl, noted)
  opened_notes s t k false any r z y refused same most some noted =
      let Q : CoreRow T W → Type 0 = λ x. IsRoomAt x any r in
      let here = subst Q same (most.some some) in
      let inside = here.1.0 in
      let past = (refused refl).0 in
      absurd (omega (arith, inside, past))

  pub notes_elsewhere : (s : CoreRow T W) (o : Bool) (z y : Sizing) → ¬ HasClearAt s s.opened → NotesWorkIf (o ≡ true) z y → NotesWorkIf (FoundElsewhere o s) z y
  notes_elsewhere s o z y full notes =
      ⊎_elim
      (λ (w : (o ≡ true) × (y ≡ with_work z)). inl ((w.0, full), w.1))
      (λ (w : (¬ (o ≡ true)) × (y ≡ z)). inr ((λ x. w.0 x.0), w.1))
      notes

  pub opens_found : (s t : StoreState T W) (k : CoreRow T W) (o any : Bool) (r : Room)
      → (o ≡ false → (length s.cores.cores ≤ r.place) × (t.cores ≡ s.cores))
      → k ≡ s.cores → IsRoomiest k (length k.cores) any r → 0 < r.free → o ≡ false → HasNoneToOpen any s.cores
  opens_found s t k o any r refused same most some is =
      let Q : CoreRow T W → Type 0 = λ x. IsRoomAt x any r in
      let here = subst Q same (most.some some) in
      let inside = here.1.0 in
      let past = (refused is).0 in
      absurd (omega (arith, inside, past))

  -- the core that was open is open
  pub same_open : (s t : CoreRow T W) → t ≡ s → StaysOpen s t
  same_open s t same = let P : CoreRow T W → Type 0 = λ k. StaysOpen s k in subst P (sym same) (λ c at. at)

  pub opens_as : (b d : Bool) (s t : CoreRow T W) → b ≡ d → OpensIf d s t → OpensIf b s t
  opens_as b d s t same is = let P : Bool → Type 0 = λ k. OpensIf k s t in subst P (sym same) is

  pub stays_open : (s m t : CoreRow T W) (c : Core T W) (o : Bool) (place : ℕ) → place ≡ s.opened → m.cores ≡ s.cores ++ c ∷ []
      → (o ≡ true → (place < length m.cores) × (t ≡ record m { opened = place }))
      → (o ≡ false → (length m.cores ≤ place) × (t ≡ m)) → StaysOpen s t
  stays_open s m t c true place same comes opens refused d at =
      let P : CoreRow T W → Type 0 = λ x. IsCoreAt x.cores x.opened d in
      let L : List (Core T W) → Type 0 = λ l. IsCoreAt l place d in
      let N : ℕ → Type 0 = λ n. IsCoreAt s.cores n d in
      let was : IsCoreAt s.cores place d = subst N (sym same) at in
      let long = snoc_long s.cores c in
      let inside = was.0 in
      let there : IsCoreAt (s.cores ++ c ∷ []) place d = (omega (arith, long, inside), snoc_before s.cores c d place inside ∙ was.1) in
      subst P (sym (opens refl).1) (subst L (sym comes) there)
  stays_open s m t c false place same comes opens refused d at =
      let N : List (Core T W) → ℕ = λ l. length l in
      let long : length m.cores ≡ suc (length s.cores) = ap N comes ∙ snoc_long s.cores c in
      let inside = at.0 in
      let past = (refused refl).0 in
      absurd (omega (arith, long, past, inside, same))

  pub opens_wanted : {X Y : Type 0} (r : Result X Y) (b : Bool) (s t : CoreRow T W) → (b ≡ false → HasClearAt s s.opened) → OnOk r (OpensIf b s t) → OnOk r (OpensWanted s t)
  opens_wanted (Ok x) b s t clear is = (b, is, clear)
  opens_wanted (Err e) b s t clear is = is

  gives_place : (s : CoreRow T W) (i : ℕ) (d : Core T W) → i < length s.cores → i ≢ s.opened → IsCoreAt s.cores s.opened d
      → IsCoreAt (remove s.cores i) (opened_without s.opened i) d
  gives_place s i d inside ne at =
      let o = s.opened in
      let fewer = length-remove s.cores i inside in
      let P : Bool → Type 0 = λ b. IsCoreAt (remove s.cores i) (if b then o - 1 else o) d in
      let within = at.0 in
      elim (nat_le_or_lt i o) [
        | inl y ↦
            let less : i < o = omega (arith, y, ne) in
            let next : o - 1 + 1 ≡ o = omega (arith, less) in
            let N : ℕ → Type 0 = λ n. get_or s.cores n d ≡ d in
            let there : IsCoreAt (remove s.cores i) (o - 1) d = (omega (arith, fewer, within, less), get_or-remove_above s.cores i d (o - 1) (omega (arith, less)) inside ∙ subst N (sym next) at.1) in
            subst P (sym (lt-ltb i o less)) there
        | inr y ↦
            let there : IsCoreAt (remove s.cores i) o d = (omega (arith, fewer, inside, y), get_or-remove_below s.cores i d o y inside ∙ at.1) in
            subst P (sym (le-ltb i o (omega (arith, y)))) there
      ]

  pub gives_open : (s t : CoreRow T W) (c : Core T W) → GivesDrained s c t → StaysOpen s t
  gives_open s t c gives =
      let P : CoreRow T W → Type 0 = λ k. StaysOpen s k in
      subst P (sym gives.rest) (λ d at. gives_place s gives.place d gives.drained.0.0 gives.drained.1 at)

  -- no other core has the number of one that went
  pub gives_gone : (s t : CoreRow T W) (c : Core T W) → AreCores s → GivesDrained s c t → HasNo t.cores c.shard
  gives_gone s t c law gives i d at same =
      let P : CoreRow T W → Type 0 = λ k. IsCoreAt k.cores i d in
      ⊎_elim
      (λ (y : (i < gives.place) × IsCoreAt s.cores i d).
      let less = y.0 in
      let e : i ≡ gives.place = law.apart i gives.place d c y.1 gives.drained.0 same in absurd (omega (arith, less, e)))
      (λ (y : (gives.place ≤ i) × IsCoreAt s.cores (i + 1) d).
      let more = y.0 in
      let e : i + 1 ≡ gives.place = law.apart (i + 1) gives.place d c y.1 gives.drained.0 same in absurd (omega (arith, more, e)))
      (removed_at s.cores gives.place i d gives.drained.0.0 (subst P gives.rest at))

  -- which cores there were
  pub was_beside : (s t : CoreRow T W) (c : Core T W) → GivesDrained s c t → WasBeside s c
  was_beside s t c gives = (gives.place, gives.drained.1, gives.drained.0)

  pub all_were : (s t : CoreRow T W) → t ≡ s → AllWere s t
  all_were s t same = let P : CoreRow T W → Type 0 = λ k. AllWere s k in subst P (sym same) (λ i c at. (i, at))

  pub gives_were : (s t : CoreRow T W) (c : Core T W) → GivesDrained s c t → AllWere s t
  gives_were s t c gives =
      let P : CoreRow T W → Type 0 = λ k. AllWere s k in
      let i = gives.place in
      subst P (sym gives.rest) (λ k d x.
      ⊎_elim
      (λ (y : (k < i) × IsCoreAt s.cores k d). (k, y.1))
      (λ (y : (i ≤ k) × IsCoreAt s.cores (k + 1) d). (k + 1, y.1))
      (removed_at s.cores i k d gives.drained.0.0 x))

  pub gives_tick : (s t : CoreRow T W) (c : Core T W) → GivesDrained s c t → KeepsTick s t
  gives_tick s t c gives = (ap (λ k. k.next) gives.rest, ap (λ k. k.noted) gives.rest)

  -- which entry a core names that is nearly drained
  none_least : (c : Core T W) (k : Option Key) → TellsLeast c k → None ≡ entry_told k → NoneLinked (machine c)
  none_least c None t e = t
  none_least c (Some k) t e = absurd (some_not_none k.entry (sym e))

  linked_least : (c : Core T W) (k : Option Key) (p : EntryId) → NoneLinked (machine c) → TellsLeast c k → Some p ≡ entry_told k → ⊥
  linked_least c None p none t e = some_not_none p e
  linked_least c (Some k) p none t e = some_not_none t.0.1.0 (sym t.0.1.1.1 ∙ none k.entry.index)

  none_first : (s : StoreState T W) (i : ℕ) → TellsFirstIn s i None → (c : Core T W) → IsCoreAt s.cores.cores i c → NoneLinked (machine c)
  none_first s i tells c at =
      ⊎_elim
      (λ (y : length s.cores.cores ≤ i). let inside = at.0 in absurd (omega (arith, y, inside)))
      (λ (y : (d : Core T W) × IsCoreAt s.cores.cores i d × ((k : Option Key) × TellsLeast d k × (None ≡ entry_told k))).
      let P : Core T W → Type 0 = λ d. NoneLinked (machine d) in
      subst P (one_at s.cores.cores i y.0 c y.1 at) (none_least y.0 y.2.0 y.2.1 y.2.2))
      tells

  pub tells_straggler : (s : StoreState T W) (i : ℕ) (r : Option EntryId) → ((c : Core T W) × IsNearlyDrained s.cores i c) → TellsFirstIn s i r → TellsStraggler s i r
  tells_straggler s i None is tells = λ c near. none_first s i tells c near.0
  tells_straggler s i (Some u) is tells = (is, tells)

  -- how many slots there are
  abbrev pub slots_below : CoreRow T W → ℕ → ℕ
  slots_below s i = min (sum_by (λ c. length c.slots.rows) (take i s.cores)) (2 ^ 64 - 1)

  -- how many entries are linked
  abbrev pub linked_below : CoreRow T W → ℕ → ℕ
  linked_below s i = min (sum_by (λ c. linked_in c) (take i s.cores)) (2 ^ 64 - 1)

  pub one_size : (z : Sizing) (s : CoreRow T W) (n m : ℕ) → IsNextSize z s n → IsNextSize z s m → n ≡ m
  one_size z s n m x y =
      let same = one_power (min (linked_of s * 2) CAPACITY_LIMIT) x.0 y.0 x.1 y.1 in
      x.2 ∙ ap (λ p. min (max p z.least) CAPACITY_LIMIT) same ∙ sym y.2

  pub slots_there : (s : CoreRow T W) (i k : ℕ) (c : Core T W) → IsCoreAt s.cores i c → k ≡ length c.slots.rows → k ≡ slots_at s i
  slots_there s i k c at size =
      let F : Core T W → ℕ = λ d. length d.slots.rows in
      size ∙ sym (get_or-map F s.cores i c 0 at.0 ∙ ap F at.1)

  -- whether the open core is too large
  pub not_large : (z : Sizing) (s : CoreRow T W) (c : Core T W) (n : ℕ) → IsCoreAt s.cores s.opened c → IsNextSize z s n → length c.slots.rows / 4 < n → ¬ IsTooLarge z s
  not_large z s c n at next more x =
      let P : Core T W → Type 0 = λ d. length d.slots.rows / 4 < n in
      let here = subst P (one_at s.cores s.opened c x.0 at x.2) more in
      let same = one_size z s n x.1 next x.5 in
      let few = x.6 in
      omega (arith, here, same, few)

  pub needed_next : (z : Sizing) (s : CoreRow T W) (c : Core T W) (n : ℕ) → ¬ IsWorn c → z.kept ≤ 0 → IsNextSize z s n → WillDo n c → ¬ IsOpenHalfFree s → ¬ IsNeedless z s c
  needed_next z s c n fresh none next will full x =
      ⊎_elim fresh
      (λ (y : IsSpare z s c).
      ⊎_elim
      (λ (w : (0 < z.kept) × (z.kept ≤ slots_in s - length c.slots.rows)). let some = w.0 in omega (arith, some, none))
      (λ (w : (z.kept ≡ 0) × (IsOpenHalfFree s ⊎ ((m : ℕ) × IsNextSize z s m × (¬ WillDo m c)))).
      ⊎_elim full
      (λ (v : (m : ℕ) × IsNextSize z s m × (¬ WillDo m c)).
      let P : ℕ → Type 0 = λ k. WillDo k c in
      v.2 (subst P (one_size z s n v.0 next v.1) will))
      w.1)
      y)
      x

  pub needless_next : (z : Sizing) (s : CoreRow T W) (n : ℕ) → NoneNeedless z s n → ((c : Core T W) → ¬ IsNeedlessAt z s n c) → NoneNeedless z s (n + 1)
  needless_next z s n all here i c below =
      ⊎_elim
      (λ (e : i ≡ n). let P : ℕ → Type 0 = λ k. ¬ IsNeedlessAt z s k c in subst P (sym e) (here c))
      (λ (ne : i ≢ n). all i c (omega (arith, below, ne)))
      (cases_eq i n)

  pub needed_at : (z : Sizing) (s : CoreRow T W) (i : ℕ) (b : Core T W) → IsCoreAt s.cores i b → (IsFoldable b → ¬ IsNeedless z s b) → (c : Core T W) → ¬ IsNeedlessAt z s i c
  needed_at z s i b at needed c x =
      let P : Core T W → Type 0 = λ d. IsFoldable d → ¬ IsNeedless z s d in
      subst P (one_at s.cores i b c at x.0.0) needed x.0.2 x.1

  pub none_has : (z : Sizing) (s : CoreRow T W) → NoneNeedless z s (length s.cores) → ¬ HasNeedless z s
  none_has z s none x = none x.0 x.1 x.2.0.0.0 x.2

  -- an entry that is to be moved is there
  pub straggler_there : (s : StoreState T W) → HasStraggler s → ¬ NoStraggler s (length s.cores.cores)
  straggler_there s x none =
      let i = x.1.0 in
      let near = x.1.1.0 in
      let first = x.1.1.1 in
      let P : Core T W → Type 0 = λ d. NoneLinked (machine d) in
      let idle = none i near.1.0.0 near.0 near.1 in
      let here = subst P (one_at s.cores.cores i near.0 first.0 near.1.0 first.2) idle in
      linked_least first.0 first.3.0 first.1 here first.3.1 first.3.2

  -- what is to be done
  pub half_free : (s : CoreRow T W) (o n k : ℕ) (c : Core T W) → IsCoreAt s.cores o c → o ≡ s.opened → n ≡ clear_slots c → k ≡ length c.slots.rows → k / 2 ≤ n → IsOpenHalfFree s
  half_free s o n k c at here free slots le =
      let P : ℕ → Type 0 = λ i. IsCoreAt s.cores i c in
      (c, subst P here at, omega (arith, free, slots, le))

  pub too_large : (z : Sizing) (s : CoreRow T W) (o n k : ℕ) (c : Core T W) → IsCoreAt s.cores o c → o ≡ s.opened → IsSmall c → z.kept ≡ 0 → k ≡ length c.slots.rows → IsNextSize z s n → n ≤ k / 4 → IsTooLarge z s
  too_large z s o n k c at here small none slots next le =
      let P : ℕ → Type 0 = λ i. IsCoreAt s.cores i c in
      (c, n, subst P here at, small, none, next, omega (arith, slots, le))

  pub large_enough : (z : Sizing) (s : CoreRow T W) (o n k : ℕ) (c : Core T W) → IsCoreAt s.cores o c → o ≡ s.opened → k ≡ length c.slots.rows → IsNextSize z s n → k / 4 < n → ¬ IsTooLarge z s
  large_enough z s o n k c at here slots next less =
      let P : ℕ → Type 0 = λ i. IsCoreAt s.cores i c in
      not_large z s c n (subst P here at) next (omega (arith, slots, less))

  pub small_open : (s : CoreRow T W) (o : ℕ) (c : Core T W) → IsCoreAt s.cores o c → o ≡ s.opened → IsSmall c → MayShrink s
  small_open s o c at here small =
      let P : ℕ → Type 0 = λ i. IsCoreAt s.cores i c in
      inr (c, subst P here at, small)

  pub needless_other : (z : Sizing) (s : CoreRow T W) (c : Core T W) (n : ℕ) → z.kept ≡ 0 → IsNextSize z s n → ¬ WillDo n c → IsNeedless z s c
  needless_other z s c n none next other = inr (inr (none, inr (n, next, other)))

  pub busy_needless : (z : Sizing) (s : StoreState T W) (k : CoreRow T W) → k ≡ s.cores → HasNeedless z k → ¬ HasNoWork z s
  busy_needless z s k same has x =
      let P : CoreRow T W → Type 0 = λ r. HasNeedless z r in
      none_has z s.cores x.2 (subst P same has)

  pub no_work : (z : Sizing) (s : StoreState T W) (k : CoreRow T W) → k ≡ s.cores → z.has_work ≡ false → NoStraggler s (length s.cores.cores) → NoneNeedless z k (length k.cores) → HasNoWork z s
  no_work z s k same idle none needed =
      let P : CoreRow T W → Type 0 = λ r. NoneNeedless z r (length r.cores) in
      (idle, none, subst P same needed)

  pub looks_work : (z y : Sizing) (s : StoreState T W) (k : CoreRow T W) → k ≡ s.cores → IsToShrink z k → y ≡ with_work z → LooksAfter z s y
  looks_work z y s k same is noted = let P : CoreRow T W → Type 0 = λ r. IsToShrink z r in inl (subst P same is, noted)

  pub looks_on : (z y : Sizing) (s : StoreState T W) (k : CoreRow T W) → k ≡ s.cores → ¬ IsToShrink z k → EndsQuiet z s y → LooksAfter z s y
  looks_on z y s k same not ends = let P : CoreRow T W → Type 0 = λ r. ¬ IsToShrink z r in inr (subst P same not, ends)

  pub way_is : (k s : CoreRow T W) (w v : Sweep) (cancels : ℕ) → k ≡ s → v ≡ way_for w cancels k → v ≡ way_for w cancels s
  way_is k s w v cancels same is = let P : CoreRow T W → Type 0 = λ r. v ≡ way_for w cancels r in subst P same is

  -- the next slots are swept
  pub goes_behind : (s : CoreRow T W) (w v : Sweep) (next told : Option ℕ) (n k : ℕ) → next ≡ told → n ≡ length s.cores → k ≡ slots_at s w.place
      → WayGoesOn w next n v → TakesOff w next k v → GoesOnBehind w told s v
  goes_behind s w v next told n k same many size goes off =
      let P : Option ℕ → Type 0 = λ o. WayGoesOn w o n v in
      let Q : ℕ → Type 0 = λ j. WayGoesOn w told j v in
      let R : Option ℕ → Type 0 = λ o. TakesOff w o k v in
      let S : ℕ → Type 0 = λ j. TakesOff w told j v in
      (subst Q many (subst P same goes), subst S size (subst R same off))

  pub sweeps_next : (shared : Bool) (s t : StoreState T W) (w v : Sweep) (r : Option Swept) (next : Option ℕ) (n k : ℕ)
      → MatchOption r ((length s.cores.cores ≤ w.place) × (t.cores ≡ s.cores))
      (λ swept. OnCoreAt w.place (SweepsFrom shared w.slot (w.slot + 256) swept) s.cores t.cores)
      → MatchOption r (next ≡ None) (λ swept. next ≡ swept.next) → t.notes ≡ s.notes → n ≡ length s.cores.cores → k ≡ slots_at s.cores w.place
      → WayGoesOn w next n v → TakesOff w next k v → SweepsNext shared 256 w s v t
  sweeps_next shared s t w v None next n k did told notes many size goes off =
      (notes, inl ((λ c at. let inside = at.0 in let past = did.0 in absurd (omega (arith, inside, past))), did.1, goes_behind s.cores w v next None n k told many size goes off))
  sweeps_next shared s t w v (Some swept) next n k did told notes many size goes off =
      (notes, inr (swept, did, goes_behind s.cores w v next swept.next n k told many size goes off))

  pub comes_same : (s m t : StoreState T W) (c : Core T W) → IsLawfulCore c → TakesIn s.cores c m.cores → m.notes ≡ s.notes → OnlyOpens m t → SameStand (StandsFor s) (StandsFor t)
  comes_same s m t c lawful takes notes opens = then_stand (StandsFor s) (StandsFor m) (StandsFor t) (takes_same s m c lawful takes notes) (opens_same m t opens)
