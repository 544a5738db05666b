-- What a row of words says of its counts.
use Rattle.std.proofs.Common.{◌≡◌, ◌≢◌, ℕ, ◌*◌, ◌<◌, ◌≤◌, List, length, Option, None, Some, MatchOption, arith, ap, sym, ◌∙◌}
use Rattle.std.specs.List.{sum_by}
use Rattle.std.proofs.lemmas.List.Sums.{sum_by-le}
use Rattle.std.proofs.lemmas.List.Elements.{All-from_get_or}
use Rattle.dq_ticks.specs.declared.words.Parts.{Parts}
use Rattle.dq_ticks.specs.declared.TheConstants.{CAPACITY_LIMIT, LAST_STAMP, LAST_TICK}
use Rattle.dq_ticks.specs.declared.keys.Key.{Key}
use Rattle.dq_core.specs.Words.{Counts, never, live, word_at}
use Rattle.dq_core.specs.WordRows.{IsWordRow, IsCallable}

-- a row of words has begun too few to overflow
pub few_begun : (known : List Parts) (counts : Counts) → IsWordRow known counts → counts.begins ≤ CAPACITY_LIMIT * LAST_STAMP
few_begun known counts h =
    let bound : sum_by (λ w. w.stamp) known ≤ length known * LAST_STAMP =
    sum_by-le (λ w. w.stamp) LAST_STAMP known (All-from_get_or (λ w. w.stamp ≤ LAST_STAMP) known never h.bounds) in
    let few = h.capacity in
    let begun = h.begun in
    omega (arith, bound)

-- the word that a key names is found live or not at its stamp: so is the key's call
pub live_by_key : (ws : List Parts) (k : Key) (i s : ℕ) (o : Option ℕ) → i ≡ k.entry.index → s ≡ k.stamp → i < length ws → 0 < s →
    s ≤ LAST_STAMP → MatchOption o ((d : ℕ) → word_at ws i ≢ live s d) (λ d. (word_at ws i ≡ live s d) × (d ≤ LAST_TICK)) →
    MatchOption o (¬ IsCallable ws k) (λ d. IsCallable ws k × (d ≡ (word_at ws k.entry.index).field) × (k.stamp ≤ LAST_STAMP) × (d ≤ LAST_TICK))
live_by_key ws k i s None at stamp inside used last none =
    λ callable. none (word_at ws k.entry.index).field (rw (at, stamp) callable.2)
live_by_key ws k i s (Some d) at stamp inside used last found =
    let is : word_at ws k.entry.index ≡ live k.stamp d = rw (at, stamp) at found.0 in
    let field : (word_at ws k.entry.index).field ≡ d = ap (λ w. w.field) is in
    ((rw at at inside, rw stamp at used, is ∙ sym (ap (live k.stamp) field)), sym field, rw stamp at last, found.1)
