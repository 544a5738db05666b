-- The live names stay distinct and in order.
use Rattle.std.proofs.Common.{◌≡◌, ℕ, ◌+◌, ◌<◌, ◌⊎◌, inl, inr, Bool, true, false, cond, not, ◌&&◌, ◌||◌, List, [], ◌∷◌, ◌++◌, length, refl, ap, sym, ◌∙◌, arith}
use Rattle.std.specs.Prelude.{◌==◌, nat_lt, nat_le, max, filter, bytes_eq, Option, Some, None, Result, Ok, Err, IfOk, IfSome}
use Rattle.std.specs.Ordering.{nat_cmp, is_lt, ordering_reverse}
use Rattle.std.specs.declared.cmp.Ordering.{Ordering}
use Rattle.std.specs.declared.cmp.Ordering.TheVariants.{Less, Equal, Greater}
use Rattle.std.specs.Cmp.Lexicographic.{slice_cmp, nat_list_cmp_total, nat_list_eq_equiv, texts_ties}
use Rattle.std.proofs.lemmas.Bool.{lt-ltb, le-ltb, eq-eqb, ltb-true, eqb-true, or_cases, and_parts, cases_order}
use Rattle.dq_replay.specs.declared.session.Lease.{Lease}
use Rattle.dq_replay.specs.declared.command.Command.{Command}
use Rattle.dq_replay.specs.declared.command.Command.TheVariants.{Insert, Reset, Extend, Cancel, Remove, Deadline, Live, Clear, Tick}
use Rattle.dq_replay.specs.declared.fault.FaultKind.{FaultKind}
use Rattle.dq_replay.specs.declared.line.TheConstants.{LINE_LIMIT, LAST_LINE}
use Rattle.dq_replay.specs.Text.{tokens_of}
use Rattle.dq_replay.specs.Script.{State, Outcome, comes_before, with_lease, has_name, deadline_of, without, moved, insert_in, reset_by, extend_by, cancel_by, remove_by, deadline_by, tick_in, step, header_does, command_does, limit_of, command_of, line_does, outcome_from, after_answer, ended_by}
use Rattle.dq_replay.proofs.Whole.{after_two}
use Rattle.dq_replay.specs.Order.{ComesBeforeAll, IsInOrder, HasDistinctNames, IsOrdered, behind_answer, after_lines}

-- an earlier deadline, or the same one and a lesser name
Before : Lease → Lease → Type 0
Before a b = (a.deadline < b.deadline) ⊎ ((a.deadline ≡ b.deadline) × (slice_cmp nat_cmp a.name b.name ≡ Less))

less : (o : Ordering) → is_lt o ≡ true → o ≡ Less
less Less is = refl
less Equal is = cc
less Greater is = cc

is_before : (a b : Lease) → comes_before a b ≡ true → Before a b
unfolding Before
is_before a b before = elim (or_cases (nat_lt a.deadline b.deadline) ((a.deadline == b.deadline) && is_lt (slice_cmp nat_cmp a.name b.name)) before) [
  | inl earlier ↦ inl (ltb-true a.deadline b.deadline earlier)
  | inr lesser ↦
      let parts = and_parts (a.deadline == b.deadline) (is_lt (slice_cmp nat_cmp a.name b.name)) lesser in
      inr (eqb-true a.deadline b.deadline parts.0, less (slice_cmp nat_cmp a.name b.name) parts.1)
]

before_is : (a b : Lease) → Before a b → comes_before a b ≡ true
unfolding Before
before_is a b (inl earlier) = rw (lt-ltb a.deadline b.deadline earlier) refl
before_is a b (inr (same, lesser)) = rw (le-ltb a.deadline b.deadline (omega arith), eq-eqb a.deadline b.deadline same, lesser) refl

before_then : (a b c : Lease) → Before a b → Before b c → Before a c
unfolding Before
before_then a b c (inl p) (inl q) = inl (omega arith)
before_then a b c (inl p) (inr q) = let e = q.0 in inl (omega arith)
before_then a b c (inr p) (inl q) = let e = p.0 in inl (omega arith)
before_then a b c (inr p) (inr q) = inr (p.0 ∙ q.0, nat_list_cmp_total.trans a.name b.name c.name p.1 q.1)

before_all : (a b : Lease) (xs : List Lease) → comes_before a b ≡ true → ComesBeforeAll b xs → ComesBeforeAll a xs
before_all a b [] before all = tt
before_all a b (x ∷ xs) before (first, rest) = (before_is a x (before_then a b x (is_before a b before) (is_before b x first)), before_all a b xs before rest)

-- of two names one comes first
other_name : (a b : Lease) (o : Ordering) → slice_cmp nat_cmp a.name b.name ≡ o → a.deadline ≡ b.deadline → comes_before a b ≡ false → bytes_eq a.name b.name ≡ false → comes_before b a ≡ true
unfolding Before
other_name a b Less is same no_order other = let yes : comes_before a b ≡ true = before_is a b (inr (same, is)) in cc
other_name a b Equal is same no_order other = let yes : bytes_eq a.name b.name ≡ true = rw (texts_ties a.name b.name, is) refl in cc
other_name a b Greater is same no_order other =
    before_is b a (inr (sym same, nat_list_cmp_total.antisymm b.name a.name ∙ ap ordering_reverse is))

not_before : (a b : Lease) → comes_before a b ≡ false → bytes_eq a.name b.name ≡ false → comes_before b a ≡ true
unfolding Before
not_before a b no_order other = elim (cases_order a.deadline b.deadline) [
  | inl same ↦ other_name a b (slice_cmp nat_cmp a.name b.name) refl same no_order other
  | inr (inl earlier) ↦ let yes : comes_before a b ≡ true = before_is a b (inl earlier) in cc
  | inr (inr later) ↦ before_is b a (inl later)
]

-- an entry that comes behind x goes behind x
all_with : (x e : Lease) (xs : List Lease) → comes_before x e ≡ true → ComesBeforeAll x xs → ComesBeforeAll x (with_lease e xs)
all_with x e [] before all = (before, tt)
all_with x e (y ∷ ys) before (first, rest) = elim (comes_before e y) as (λ t. ComesBeforeAll x (cond t (e ∷ y ∷ ys) (y ∷ with_lease e ys))) [
  | true ↦ (before, (first, rest))
  | false ↦ (first, all_with x e ys before rest)
]

live_parts : (name : List ℕ) (x : Lease) (xs : List Lease) → has_name name (x ∷ xs) ≡ false → (bytes_eq x.name name ≡ false) × (has_name name xs ≡ false)
live_parts name x xs none_live = or_none (bytes_eq x.name name) (has_name name xs) none_live
  where
    or_none : (a b : Bool) → (a || b) ≡ false → (a ≡ false) × (b ≡ false)
    or_none true b is = cc
    or_none false b is = (refl, is)

other_way : (a b : List ℕ) → bytes_eq a b ≡ false → bytes_eq b a ≡ false
other_way a b is = nat_list_eq_equiv.symm b a ∙ is

in_order_by : (e x : Lease) (xs : List Lease) (t : Bool) → comes_before e x ≡ t → bytes_eq e.name x.name ≡ false → ComesBeforeAll x xs → IsInOrder xs → IsInOrder (with_lease e xs)
    → IsInOrder (cond t (e ∷ x ∷ xs) (x ∷ with_lease e xs))
in_order_by e x xs true before other first rest later = ((before, before_all e x xs before first), (first, rest))
in_order_by e x xs false behind other first rest later = (all_with x e xs (not_before e x behind other) first, later)

in_order_with : (e : Lease) (xs : List Lease) → has_name e.name xs ≡ false → IsInOrder xs → IsInOrder (with_lease e xs)
in_order_with e [] none_live ordered = (tt, tt)
in_order_with e (x ∷ xs) none_live (first, rest) =
    let parts = live_parts e.name x xs none_live in
    in_order_by e x xs (comes_before e x) refl (other_way x.name e.name parts.0) first rest (in_order_with e xs parts.1 rest)

not_live_with : (name : List ℕ) (e : Lease) (xs : List Lease) → bytes_eq e.name name ≡ false → has_name name xs ≡ false → has_name name (with_lease e xs) ≡ false
not_live_with name e [] other none_live = rw other refl
not_live_with name e (x ∷ xs) other none_live = elim (comes_before e x) as (λ t. has_name name (cond t (e ∷ x ∷ xs) (x ∷ with_lease e xs)) ≡ false) [
  | true ↦ rw other none_live
  | false ↦ let parts = live_parts name x xs none_live in rw parts.0 (not_live_with name e xs other parts.1)
]

distinct_with : (e : Lease) (xs : List Lease) → has_name e.name xs ≡ false → HasDistinctNames xs → HasDistinctNames (with_lease e xs)
distinct_with e [] none_live distinct = (refl, tt)
distinct_with e (x ∷ xs) none_live (first, rest) = elim (comes_before e x) as (λ t. HasDistinctNames (cond t (e ∷ x ∷ xs) (x ∷ with_lease e xs))) [
  | true ↦ (none_live, (first, rest))
  | false ↦
      let parts = live_parts e.name x xs none_live in
      (not_live_with x.name e xs (other_way x.name e.name parts.0) first, distinct_with e xs parts.1 rest)
]

-- what is left of names in order is in order
all_filter : (p : Lease → Bool) (e : Lease) (xs : List Lease) → ComesBeforeAll e xs → ComesBeforeAll e (filter p xs)
all_filter p e [] all = tt
all_filter p e (x ∷ xs) (first, rest) = elim (p x) as (λ t. ComesBeforeAll e (cond t (x ∷ filter p xs) (filter p xs))) [
  | true ↦ (first, all_filter p e xs rest)
  | false ↦ all_filter p e xs rest
]

pub in_order_filter : (p : Lease → Bool) (xs : List Lease) → IsInOrder xs → IsInOrder (filter p xs)
in_order_filter p [] ordered = tt
in_order_filter p (x ∷ xs) (first, rest) = elim (p x) as (λ t. IsInOrder (cond t (x ∷ filter p xs) (filter p xs))) [
  | true ↦ (all_filter p x xs first, in_order_filter p xs rest)
  | false ↦ in_order_filter p xs rest
]

not_live_filter : (name : List ℕ) (p : Lease → Bool) (xs : List Lease) → has_name name xs ≡ false → has_name name (filter p xs) ≡ false
not_live_filter name p [] none_live = refl
not_live_filter name p (x ∷ xs) none_live =
    let parts = live_parts name x xs none_live in
    elim (p x) as (λ t. has_name name (cond t (x ∷ filter p xs) (filter p xs)) ≡ false) [
      | true ↦ rw parts.0 (not_live_filter name p xs parts.1)
      | false ↦ not_live_filter name p xs parts.1
    ]

distinct_filter : (p : Lease → Bool) (xs : List Lease) → HasDistinctNames xs → HasDistinctNames (filter p xs)
distinct_filter p [] distinct = tt
distinct_filter p (x ∷ xs) (first, rest) = elim (p x) as (λ t. HasDistinctNames (cond t (x ∷ filter p xs) (filter p xs))) [
  | true ↦ (not_live_filter x.name p xs first, distinct_filter p xs rest)
  | false ↦ distinct_filter p xs rest
]

-- one of two results, each of which keeps the order
either_ordered : (t : Bool) (a b : State × List ℕ) → IsOrdered a.0 → IsOrdered b.0 → IsOrdered (cond t a b).0
either_ordered true a b p q = p
either_ordered false a b p q = q

new_ordered : (t : Bool) (s : State) (e : Lease) (taken far full done : List ℕ) (is_far is_full : Bool) → has_name e.name s.live ≡ t → IsOrdered s
    → IsOrdered (cond {A = State × List ℕ} t (s, taken) (cond is_far (s, far) (cond is_full (s, full) (record s { live = with_lease e s.live }, done)))).0
new_ordered true s e taken far full done is_far is_full live ordered = ordered
new_ordered false s e taken far full done is_far is_full none_live ordered =
    either_ordered is_far (s, far) (cond is_full (s, full) (record s { live = with_lease e s.live }, done)) ordered
    (either_ordered is_full (s, full) (record s { live = with_lease e s.live }, done) ordered (in_order_with e s.live none_live ordered.0, distinct_with e s.live none_live ordered.1))

insert_ordered : (s : State) (name : List ℕ) (when : ℕ) → IsOrdered s → IsOrdered (insert_in s name when).0
insert_ordered s name when ordered =
    new_ordered (has_name name s.live) s (record { name = name; deadline = max when s.noted }) _ _ _ _ (nat_lt s.limit when) (nat_le s.capacity (length s.live)) refl ordered

tick_ordered : (s : State) (to : ℕ) → IsOrdered s → IsOrdered (tick_in s to).0
tick_ordered s to ordered = either_ordered (nat_lt s.limit to) _ _ ordered
    (in_order_filter (λ e. nat_lt (max s.noted to) e.deadline) s.live ordered.0, distinct_filter (λ e. nat_lt (max s.noted to) e.deadline) s.live ordered.1)

none_without : (name : List ℕ) (xs : List Lease) → has_name name (without name xs) ≡ false
none_without name [] = refl
none_without name (x ∷ xs) = by (bytes_eq x.name name) refl (none_without name xs)
  where
    by : (t : Bool) → bytes_eq x.name name ≡ t → has_name name (without name xs) ≡ false → has_name name (cond (not t) (x ∷ without name xs) (without name xs)) ≡ false
    by true is rest = rest
    by false is rest = rw is rest

without_ordered : (s : State) (name : List ℕ) → IsOrdered s → IsOrdered (record s { live = without name s.live })
without_ordered s name ordered =
    (in_order_filter (λ e. not (bytes_eq e.name name)) s.live ordered.0, distinct_filter (λ e. not (bytes_eq e.name name)) s.live ordered.1)

moved_ordered : (s : State) (name : List ℕ) (deadline : ℕ) → IsOrdered s → IsOrdered (record s { live = moved name deadline s.live })
moved_ordered s name deadline ordered =
    let others = without_ordered s name ordered in (
      in_order_with (record { name = name; deadline = deadline }) (without name s.live) (none_without name s.live) others.0,
      distinct_with (record { name = name; deadline = deadline }) (without name s.live) (none_without name s.live) others.1,
    )

reset_ordered : (s : State) (name : List ℕ) (when : ℕ) (o : Option ℕ) → IsOrdered s → IsOrdered (reset_by s name when o).0
reset_ordered s name when None ordered = ordered
reset_ordered s name when (Some deadline) ordered = either_ordered (nat_lt s.limit when) _ _ ordered (moved_ordered s name (max when s.noted) ordered)

extend_ordered : (s : State) (name : List ℕ) (when : ℕ) (o : Option ℕ) → IsOrdered s → IsOrdered (extend_by s name when o).0
extend_ordered s name when None ordered = ordered
extend_ordered s name when (Some deadline) ordered = either_ordered (nat_lt s.limit when) _ _ ordered (moved_ordered s name (max when deadline) ordered)

cancel_ordered : (s : State) (name : List ℕ) (o : Option ℕ) → IsOrdered s → IsOrdered (cancel_by s name o).0
cancel_ordered s name None ordered = ordered
cancel_ordered s name (Some deadline) ordered = without_ordered s name ordered

remove_ordered : (s : State) (name : List ℕ) (o : Option ℕ) → IsOrdered s → IsOrdered (remove_by s name o).0
remove_ordered s name None ordered = ordered
remove_ordered s name (Some deadline) ordered = without_ordered s name ordered

deadline_ordered : (s : State) (name : List ℕ) (o : Option ℕ) → IsOrdered s → IsOrdered (deadline_by s name o).0
deadline_ordered s name None ordered = ordered
deadline_ordered s name (Some deadline) ordered = ordered

step_ordered : (s : State) (command : Command) → IsOrdered s → IsOrdered (step s command).0
step_ordered s (Insert name when) ordered = insert_ordered s name when ordered
step_ordered s (Reset name when) ordered = reset_ordered s name when (deadline_of name s.live) ordered
step_ordered s (Extend name when) ordered = extend_ordered s name when (deadline_of name s.live) ordered
step_ordered s (Cancel name) ordered = cancel_ordered s name (deadline_of name s.live) ordered
step_ordered s (Remove name) ordered = remove_ordered s name (deadline_of name s.live) ordered
step_ordered s (Deadline name) ordered = deadline_ordered s name (deadline_of name s.live) ordered
step_ordered s Live ordered = ordered
step_ordered s Clear ordered = (tt, tt)
step_ordered s (Tick to) ordered = tick_ordered s to ordered

header_ordered : (s : State) (limit : Option ℕ) → IsOrdered s → IfOk (header_does s limit) (λ done. IsOrdered done.0)
header_ordered s None ordered = tt
header_ordered s (Some limit) ordered = ordered

command_ordered : (s : State) (command : Result Command FaultKind) → IsOrdered s → IfOk (command_does s command) (λ done. IsOrdered done.0)
command_ordered s (Ok command) ordered = step_ordered s command ordered
command_ordered s (Err kind) ordered = tt

either_result : (t : Bool) (a b : Result (State × List ℕ) FaultKind) → IfOk a (λ done. IsOrdered done.0) → IfOk b (λ done. IsOrdered done.0) → IfOk (cond t a b) (λ done. IsOrdered done.0)
either_result true a b p q = p
either_result false a b p q = q

line_ordered : (number : ℕ) (s : State) (text : List ℕ) → IsOrdered s → IfOk (line_does number s text) (λ done. IsOrdered done.0)
line_ordered number s text ordered = either_result (nat_lt LAST_LINE number) _ _ tt (either_result (nat_lt LINE_LIMIT (length text)) _ _ tt
    (either_result (number == 1) _ _ (header_ordered s (limit_of text) ordered) (command_ordered s (command_of (tokens_of text)) ordered)))

behind_ordered : (answer : List ℕ) (done : Option (State × List ℕ)) → IfSome done (λ after. IsOrdered after.0) → IfSome (behind_answer answer done) (λ after. IsOrdered after.0)
behind_ordered answer None ordered = tt
behind_ordered answer (Some done) ordered = ordered

after_by : (does : Result (State × List ℕ) FaultKind) (next : State → Option (State × List ℕ)) → IfOk does (λ done. IsOrdered done.0)
    → ((s : State) → IsOrdered s → IfSome (next s) (λ after. IsOrdered after.0))
    → IfSome (elim does [ Ok done ↦ behind_answer done.1 (next done.0) | Err kind ↦ None ]) (λ after. IsOrdered after.0)
after_by (Ok done) next kept later = behind_ordered done.1 (next done.0) (later done.0 kept)
after_by (Err kind) next kept later = tt

pub after_ordered : (number : ℕ) (s : State) (lines : List (List ℕ)) → IsOrdered s → IfSome (after_lines number s lines) (λ after. IsOrdered after.0)
unfolding after_lines
after_ordered number s [] ordered = ordered
after_ordered number s (text ∷ more) ordered =
    after_by (line_does number s text) (λ new. after_lines (number + 1) new more) (line_ordered number s text ordered) (λ new kept. after_ordered (number + 1) new more kept)

-- behind whole lines without a fault stand their answers, and then the outcome of what follows
behind_two : (a : List ℕ) (done : Option (State × List ℕ)) (next : State → Outcome) (all : Outcome) → IfSome done (λ after. all ≡ after_answer after.1 (next after.0))
    → IfSome (behind_answer a done) (λ after. after_answer a all ≡ after_answer after.1 (next after.0))
behind_two a None next all is = tt
behind_two a (Some done) next all is = ap (after_answer a) is ∙ after_two a done.1 (next done.0)

outcome_by : (number : ℕ) (text : List ℕ) (does : Result (State × List ℕ) FaultKind) (rest : State → Option (State × List ℕ)) (later next : State → Outcome)
    → ((s : State) → IfSome (rest s) (λ after. later s ≡ after_answer after.1 (next after.0)))
    → IfSome (elim does [ Ok done ↦ behind_answer done.1 (rest done.0) | Err kind ↦ None ])
    (λ after. elim does [ Ok done ↦ after_answer done.1 (later done.0) | Err kind ↦ ended_by number (Some kind) ] ≡ after_answer after.1 (next after.0))
outcome_by number text (Ok done) rest later next is = behind_two done.1 (rest done.0) next (later done.0) (is done.0)
outcome_by number text (Err kind) rest later next is = tt

outcome_to : (number last : ℕ) (s : State) (lines : List (List ℕ)) (next : List ℕ) (more : List (List ℕ)) → number + length lines ≡ last
    → IfSome (after_lines number s lines) (λ after. outcome_from number s (lines ++ next ∷ more) ≡ after_answer after.1 (outcome_from last after.0 (next ∷ more)))
unfolding after_lines outcome_from
outcome_to number last s [] next more is = let same : number ≡ last = omega arith in rw same refl
outcome_to number last s (text ∷ []) next more is =
    outcome_by number text (line_does number s text) (λ new. after_lines (number + 1) new []) (λ new. outcome_from (number + 1) new (next ∷ more)) (λ new. outcome_from last new (next ∷ more))
    (λ new. outcome_to (number + 1) last new [] next more (omega arith))
outcome_to number last s (text ∷ second ∷ lines) next more is =
    outcome_by number text (line_does number s text) (λ new. after_lines (number + 1) new (second ∷ lines)) (λ new. outcome_from (number + 1) new ((second ∷ lines) ++ next ∷ more)) (λ new. outcome_from last new (next ∷ more))
    (λ new. outcome_to (number + 1) last new (second ∷ lines) next more (omega arith))

pub outcome_after : (number : ℕ) (s : State) (lines : List (List ℕ)) (next : List ℕ) (more : List (List ℕ))
    → IfSome (after_lines number s lines) (λ after. outcome_from number s (lines ++ next ∷ more) ≡ after_answer after.1 (outcome_from (number + length lines) after.0 (next ∷ more)))
outcome_after number s lines next more = outcome_to number (number + length lines) s lines next more refl
