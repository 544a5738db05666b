-- How a poll of the plain queue ends, by what its search found.
use Rattle.std.proofs.Common.{◌≡◌, ◌≢◌, ℕ, ◌<◌, ◌≤◌, max, leb, suc, false, List, [], ◌∷◌, Some, length, get_or, take, drop, sym, ◌∙◌, ap, refl, arith}
use Rattle.std.specs.List.{All, remove, slice_get}
use Rattle.std.proofs.lemmas.List.Elements.{All-head, All-tail, All-take, All-drop, All-append}
use Rattle.std.proofs.lemmas.List.Edits.{length-remove}
use Rattle.std.proofs.lemmas.Bool.{lt-leb}
use Rattle.std.proofs.lemmas.Option.{slice_get-get_or}
use Rattle.dq_ticks.specs.declared.TheConstants.{LAST_TICK}
use Rattle.dq_core.specs.declared.plain.Pending.{Pending}
use Rattle.dq_core.specs.Plain.{plain, IsPlain, NoneSooner, due_entries}
use Rattle.dq_core.specs.Soonest.{IsSoonest}

-- where no deadline is before t, nothing is due before t
pub none_due : {T : Type 0} (es : List (Pending T)) (n t : ℕ) → NoneSooner es t → n < t → due_entries es n ≡ []
none_due [] n t none later = refl
none_due (e ∷ es) n t none later =
    let here : t ≤ e.deadline = All-head (λ x. t ≤ x.deadline) e es none in
    let after : leb e.deadline n ≡ false = lt-leb e.deadline n (omega arith) in
    rw after (none_due es n t (All-tail (λ x. t ≤ x.deadline) e es none) later)

not_empty : {T : Type 0} (es : List (Pending T)) (i : ℕ) → i < length es → es ≢ []
not_empty es i inside none = let n = ap length none in omega arith

-- a poll that finds nothing due
pub turn_waiting : {T : Type 0} (capacity noted tick m i t : ℕ) (es : List (Pending T)) → m ≡ max noted tick → IsSoonest es i t → m < t
    → (es ≢ []) × (due_entries es (max noted tick) ≡ []) × (plain capacity m m es ≡ plain capacity (max noted tick) (max noted tick) es)
turn_waiting capacity noted tick m i t es is s later =
    (not_empty es i s.inside, none_due es (max noted tick) t s.least (rw (← is) later), ap (λ k. plain capacity k k es) is)

-- what holds of each entry holds where one left
All-remove : {T : Type 0} (P : Pending T → Type 0) (es : List (Pending T)) (i : ℕ) → All P es → All P (remove es i)
All-remove P es i all = All-append P (take i es) (drop (suc i) es) (All-take P i es all) (All-drop P (suc i) es all)

-- the queue stays in good order where the entry e of least deadline leaves it
pub plain_left : {T : Type 0} (capacity before noted tick m i t : ℕ) (es : List (Pending T)) (e : Pending T) → IsPlain (plain capacity before noted es) → m ≡ max noted tick → tick ≤ LAST_TICK → IsSoonest es i t → t ≤ m → e ≡ get_or es i e → IsPlain (plain capacity e.deadline m (remove es i))
plain_left capacity before noted tick m i t es e q is bound s due read =
    let at : e.deadline ≡ t = ap (λ x. x.deadline) read ∙ s.deadline e in
    record {
      capacity = q.capacity;
      room = let a = q.room in let b = length-remove es i s.inside in omega arith;
      tick = rw at due;
      noted = let a = q.noted in omega arith;
      none_before = rw at (All-remove (λ x. t ≤ x.deadline) es i s.least);
      none_beyond = All-remove (λ x. x.deadline ≤ LAST_TICK) es i q.none_beyond;
    }

-- a poll that takes out the entry e
pub turn_out : {T : Type 0} (capacity noted tick m i t : ℕ) (es : List (Pending T)) (e : Pending T) → m ≡ max noted tick → IsSoonest es i t → t ≤ m → e ≡ get_or es i e
    → (j : ℕ) × (slice_get es j ≡ Some e) × NoneSooner es e.deadline × (e.deadline ≤ max noted tick) × (plain capacity e.deadline m (remove es i) ≡ plain capacity e.deadline (max noted tick) (remove es j))
turn_out capacity noted tick m i t es e is s due read =
    let at : e.deadline ≡ t = ap (λ x. x.deadline) read ∙ s.deadline e in
    (i, slice_get-get_or es i e s.inside ∙ ap Some (sym read), rw at s.least, rw (at, ← is) due, ap (λ k. plain capacity e.deadline k (remove es i)) is)
