-- What the shard law and an answer say of the true words.
use Rattle.std.proofs.Common.{true, ◌≡◌, ℕ, zero, suc, ◌+◌, ◌<◌, ◌≤◌, List, [], ◌∷◌, length, get_or, set, sym, refl, ap, ◌∙◌, subst, ⊎_elim, length-set, get_or-set_same, arith}
use Rattle.atomic_table.specs.Table.{State}
use mathlib.Core.Option.{some}
use lib.ListN.{get_elem?}
use Rattle.dq_ticks.specs.declared.keys.Key.{Key}
use Rattle.dq_ticks.specs.declared.words.Parts.{Parts}
use Rattle.dq_ticks.specs.Word.{word, stamp_of, mark_of, field_of, mark_number, mark_by, packed, parts_of}
use Rattle.dq_core.specs.Words.{never, word_at, expired}
use Rattle.dq_core.specs.Slots.{Row}
use Rattle.dq_core.specs.declared.outcomes.Expired.{Expired}
use Rattle.dq_core.specs.declared.outcomes.Turn.TheVariants.{Out}
use Rattle.dq_core.specs.Core.{Core, table_of, machine}
use Rattle.dq_core.specs.Calls.{IsTurn, TurnRow, noting}
use Rattle.dq_core.specs.Machine.{Machine, RunOf, IsOnTheWay, table_at}
use Rattle.dq_words.specs.declared.views.View.{View}
use Rattle.dq_words.specs.Word.{parts_row}
use Rattle.dq_words.specs.Files.{file, IsIn, Among}
use Rattle.dq_words.specs.Rule.{Ruled, Had, HadAt}
use Rattle.dq_words.specs.Endings.{StampsEndOnce, EndsAreInForce}
use Rattle.dq_words.specs.Seats.{Sat}
use Rattle.dq_shards.specs.Shard.{ShardView, IsShard, keeper_of}
use Rattle.dq_shards.specs.Endings.{OutsAreInForce, PieceOutsAreInForce, IsOutInForce, InsertsAreGiven, ExpiresInForce, IsGivenOnce}
use Rattle.dq_shards.specs.Endings.{InEveryTable, EveryEntryEndsOnce, InsertedEntriesEndOnce, endings_of}

-- words and parts

mark_number_by : (m : ℕ) → m < 4 → mark_number (mark_by m) ≡ m
mark_number_by zero h = refl
mark_number_by (suc zero) h = refl
mark_number_by (suc (suc zero)) h = refl
mark_number_by (suc (suc (suc zero))) h = refl
mark_number_by (suc (suc (suc (suc m)))) h = absurd (omega arith)

packed_parts : (n : ℕ) → packed (parts_of n) ≡ n
packed_parts n =
    let mark = mark_number_by (mark_of n) (omega arith) in
    let whole : packed (parts_of n) ≡ word (stamp_of n) (mark_of n) (field_of n) =
    ap (λ m. word (stamp_of n) m (field_of n)) mark in
    omega arith

row_at : (xs : List ℕ) (i : ℕ) → word_at (parts_row xs) i ≡ parts_of (get_or xs i 0)
row_at [] i = refl
row_at (x ∷ xs) zero = refl
row_at (x ∷ xs) (suc i) = row_at xs i

length_row : (xs : List ℕ) → length (parts_row xs) ≡ length xs
length_row [] = refl
length_row (x ∷ xs) = ap suc (length_row xs)

-- the seen word behind what is known of it
seen_word : (known old : List Parts) (seen : List ℕ) (i : ℕ) (p : Parts)
    → known ≡ parts_row seen → known ≡ set old i p → i < length old → get_or seen i 0 ≡ packed p
seen_word known old seen i p is new inside =
    let at : word_at known i ≡ p = rw new (get_or-set_same old i p never inside) in
    let here : parts_of (get_or seen i 0) ≡ p = sym (row_at seen i) ∙ ap (λ ws. word_at ws i) (sym is) ∙ at in
    sym (packed_parts (get_or seen i 0)) ∙ ap packed here

length_table : {T : Type 0} (rows : List (Row T)) (known : List Parts) → length (table_of rows known) ≤ length known
length_table [] known = omega arith
length_table (r ∷ rows) [] = omega arith
length_table (r ∷ rows) (w ∷ known) = omega (arith, length_table rows known)

-- a slot that has had an expired word was ended so
had_expired : (n s d i : ℕ) (views : List View) → n ≡ word s 2 d → d ≤ 4398046511103
    → Had n i views → IsIn (file i s views).ends (2, d)
had_expired n s d i views is small = ⊎_elim
    (λ (never_used : n ≡ 0). absurd (omega arith))
    (λ (had : (t : ℕ) × HadAt n t (file i t views)). let t = had.0 in ⊎_elim
    (λ (living : (e : ℕ) × (n ≡ word t 0 e) × (e ≤ 4398046511103) × Among (file i t views) e).
    let now = living.1 in let low = living.2 in absurd (omega arith))
    (⊎_elim
    (λ (cancelled : (e : ℕ) × (n ≡ word t 1 0) × IsIn (file i t views).cancels e).
    let now = cancelled.1 in absurd (omega arith))
    (λ (ended : (m : ℕ) × (e : ℕ) × (n ≡ word t m e) × (1 < m) × (m < 4) × (e ≤ 4398046511103) × IsIn (file i t views).ends (m, e)).
    let now = ended.2 in let more = ended.3 in let less = ended.4 in let low = ended.5 in
    let same_stamp : t ≡ s = omega arith in
    let same_mark : ended.0 ≡ 2 = omega arith in
    let same_deadline : ended.1 ≡ d = omega arith in
    subst (λ (x : ℕ × ℕ × ℕ). IsIn (file i x.0 views).ends (x.1, x.2)) (λ q. (same_stamp q, same_mark q, same_deadline q)) ended.6))
    had.1)

-- what the keeper saw, where it has the first view
module _ (w : View) (t : State ℕ View) (r : Ruled (length w.seen) t) (at : get_elem? t.views 0 ≡ some w) where
  pub out_in_force : EndsAreInForce → (k : Key) (d : ℕ) → k.entry.index < length w.seen
      → get_or w.seen k.entry.index 0 ≡ word k.stamp 2 d → d ≤ 4398046511103 → ExpiresInForce k d t
  out_in_force in_force k d inside seen small =
      let had = (r.kept.sees 0 w at).had k.entry.index inside in
      let ended = had_expired _ k.stamp d k.entry.index t.views seen small had in
      (ended, (in_force _ t r k.entry.index k.stamp).0 (2, d) ended)

  pub given_once : StampsEndOnce → (k : Key) (d : ℕ) → k.entry.index < length w.seen
      → get_or w.seen k.entry.index 0 ≡ word k.stamp 0 d → 0 < k.stamp → IsGivenOnce k t
  given_once once k d inside seen positive =
      let below = (r.kept.sees 0 w at).below k.entry.index inside in
      once _ t r k.entry.index k.stamp inside positive (omega (arith, below, seen))

-- an entry that comes out, of a run to that turn and its row of words
out_of : (T : Type 0) → EndsAreInForce → (b : Core T Sat) (new : ShardView T) (x : Expired T) → IsShard new
    → (m : Machine T) × RunOf (IsOnTheWay true) b.slots.last_stamp (machine b) m
    × IsTurn b.shard b.slots.last_stamp m (Out x) (machine new.core) new.core.wheel.filing
    → TurnRow true b.known (Out x) new.core.known → IsOutInForce new x
out_of T in_force b new x law run row =
    let m = run.0 in
    let step = run.2.0.0 in
    let held = run.2.0.1 in
    let i = x.key.entry.index in
    let table : length (machine new.core).table ≡ length m.table =
    ap (λ n. length n.table) step.7 ∙ length-set m.table i _ in
    let known : length new.core.known ≡ length (keeper_of new).seen =
    ap length law.known ∙ length_row (keeper_of new).seen in
    let size : length new.core.known ≡ length row.0 =
    ap length row.3 ∙ length-set row.0 i (expired x.key.stamp x.deadline) in
    let inside = held.0 in
    let few = length_table new.core.slots.rows new.core.known in
    let seen = seen_word _ row.0 (keeper_of new).seen i (expired x.key.stamp x.deadline) law.known row.3 (omega arith) in
    let noted : new.core.noted ≡ m.noted = ap (λ n. n.noted) step.7 in
    let at_noted : x.deadline ≤ new.core.noted = omega (arith, noted, step.5) in
    let last = law.core.noted_bound in
    record {
      expires = λ t r at. out_in_force (keeper_of new) t r at in_force x.key x.deadline (omega arith) seen (omega arith);
      noted = at_noted;
    }

pub outs : (T : Type 0) → EndsAreInForce → OutsAreInForce T
outs T in_force old new tick x law polled =
    let answered = polled.0.2 in out_of T in_force (noting old.core tick) new x law answered.run answered.row

pub piece_outs : (T : Type 0) → EndsAreInForce → PieceOutsAreInForce T
piece_outs T in_force old new tick most x law polled =
    let answered = polled.0.2 in out_of T in_force (noting old.core tick) new x law answered.run answered.row

pub given : (T : Type 0) → StampsEndOnce → InsertsAreGiven T
given T once old new value when k before law inserted =
    let done = inserted.0 in
    let i = k.entry.index in
    let m = machine old.core in
    let few = length_table old.core.slots.rows old.core.known in
    let inside = done.step.0 in
    let known : length new.core.known ≡ length (keeper_of new).seen =
    ap length law.known ∙ length_row (keeper_of new).seen in
    let size : length new.core.known ≡ length old.core.known = ap length done.known ∙ length-set old.core.known i _ in
    let seen = seen_word _ old.core.known (keeper_of new).seen i _ law.known done.known (omega arith) in
    let stamp : k.stamp ≡ (table_at m i).stamp + 1 =
    sym done.stamp ∙ (ap (λ n. (table_at n i).stamp) done.step.3 ∙ ap (λ r. r.stamp) (get_or-set_same m.table i _ _ inside)) in
    λ t r at. given_once (keeper_of new) t r at once k _ (omega arith) seen (omega arith)

-- what an insert began, at a later view of its keeper
pub inserted_ends : (T : Type 0) → ((w : View) → EveryEntryEndsOnce w) → InsertedEntriesEndOnce T
inserted_ends T once old new value when k inserted w stay =
    let born = inserted.0.born in
    let begun = stay k.entry.index k.stamp _ inserted.2 in
    let P : ℕ → Type 0 = λ b. InEveryTable w (λ t. endings_of w k.entry.index b t ≡ 1) in
    subst P (sym born) (once w k.entry.index k.stamp _ begun)
