-- The numbers of an audit.
use Rattle.std.proofs.Common.{◌≡◌, ℕ, zero, suc, ◌+◌, ◌*◌, ◌<◌, ◌≤◌, List, [], ◌∷◌, Option, Result, Ok, Err, IfOk, length, get_or, sym, ap, ◌∙◌, arith}
use mathlib.Core.Option.{some, some-injective, some-ne-none}
use lib.ListN.{get_elem?}
use Rattle.dq_ticks.specs.Word.{stamp_of}
use Rattle.dq_core.specs.declared.outcomes.Tally.{Tally}
use Rattle.dq_core.specs.Core.{Core}
use Rattle.dq_core.specs.Readers.{IsTally, with_words}
use Rattle.dq_words.specs.declared.views.View.{View}
use Rattle.dq_words.specs.Counts.{begins_in, expiries_in, removals_in, below, most_begins}
use Rattle.dq_words.specs.Files.{keeper_writes}
use Rattle.dq_words.specs.KeeperCalls.{Accounts, AccountsFor, Returns}
use Rattle.dq_words.specs.Keeping.{Stood, counts_of}
use Rattle.dq_words.specs.Seats.{Sat}
use Rattle.dq_shards.specs.declared.parking.parked.Parked.{Parked}
use Rattle.dq_shards.specs.declared.audit.Totals.{Totals}
use Rattle.dq_shards.specs.declared.audit.HandlesOut.{HandlesOut}
use Rattle.dq_shards.specs.Shard.{ShardView}
use Rattle.dq_shards.specs.Changes.{with_keeper, OnNumbered}
use Rattle.dq_shards.specs.Audits.{IsTotals, AddUp, FewInserted, IsSum, AreSums, AreTotalsOf, ShardAudits, OnePerShard, QueueAudits}

first_writes : (vs : List View) (w : View) → get_elem? vs 0 ≡ some w → keeper_writes vs ≡ w.writes
first_writes [] w at = absurd (some-ne-none w (sym at))
first_writes (v ∷ vs) w at = ap (λ (x : View). x.writes) (some-injective v w at)

-- the stamps of k words are few
few_stamps : (words : List ℕ) (k : ℕ) → ((i : ℕ) → i < k → get_or words i 0 < 18446744073709551616) → below stamp_of words k ≤ k * 1048575
few_stamps words zero wide = omega arith
few_stamps words (suc k) wide =
    let here = wide k (omega arith) in
    let rest = few_stamps words k (λ i inside. wide i (omega (arith, inside))) in
    omega (arith, here, rest)

few_begun : (w : View) → Stood w → begins_in w.writes ≤ most_begins
few_begun w stood =
    let r = stood.1.tallied in
    let own = ap begins_in (first_writes stood.0.views w stood.2) in
    let stamps = few_stamps stood.0.words (length w.seen) r.wide in
    omega (arith, own, stamps, r.bounded, r.few)

totals : (w : View) (t : Totals) → AccountsFor w t.cancelled → begins_in w.writes ≡ t.inserted
    → expiries_in w.writes ≡ t.expired → removals_in w.writes ≡ t.removed → AddUp t → IsTotals w t
totals w t accounts inserted expired removed sum = record {
  inserted = inserted;
  expired = expired;
  removed = removed;
  others = λ s r at.
      let told = accounts s r at in
      (told.0, told.1, λ none. omega (arith, told.2 none, inserted, expired, removed, sum));
}

-- a shard's queue before and after its callers were heard of, and the poller
module _ {T : Type 0} (b n : Core T Sat) (p : Option (Parked ℕ)) where
  abbrev pub over : Core T Sat → ShardView T
  over k = record { core = k; parked = p }

  same_shard : n ≡ with_words b n.words → over n ≡ with_keeper (over b) n.words
  same_shard same = ap over same

  pub audited : (tally : Tally) (c : ℕ) (t : Totals) → IsTally b tally → Returns b.words (Ok c) n.words
      → n ≡ with_words b n.words → n.counts ≡ counts_of n.words.view.writes → Accounts n.words c → AreTotalsOf tally c t
      → ShardAudits (over b) (Ok t) (over n)
  audited tally c t tallied returned same counts accounts sums =
      let writes = n.words.view.writes in
      let kept : n.counts ≡ b.counts = ap (λ k. k.counts) same in
      let begun : begins_in writes ≡ t.inserted = ap (λ k. k.begins) (sym counts ∙ kept) ∙ (tallied.begins ∙ sym sums.inserted) in
      let expired : expiries_in writes ≡ t.expired = ap (λ k. k.expiries) (sym counts ∙ kept) ∙ (tallied.expiries ∙ sym sums.expired) in
      let removed : removals_in writes ≡ t.removed = ap (λ k. k.removals) (sym counts ∙ kept) ∙ (tallied.removals ∙ sym sums.removed) in
      let cancelled = sums.cancelled_is in
      let few = few_begun n.words.view accounts.0 in
      let told : AccountsFor n.words.view t.cancelled = rw cancelled accounts.1 in
      let back : Returns b.words (Ok t.cancelled) n.words = rw cancelled returned in
      ((back, totals n.words.view t told begun expired removed sums.sum, sums.sum, omega (arith, few, begun)), same_shard same)

  pub refused : (out : ℕ) (e : HandlesOut) → e ≡ record { out = out } → Returns b.words (Err out) n.words
      → n ≡ with_words b n.words → ShardAudits (over b) (Err e) (over n)
  refused out e is returned same = rw is (returned, same_shard same)

pub few_told : {T : Type 0} (old new : ShardView T) (r : Result Totals HandlesOut) → ShardAudits old r new → IfOk r (λ t. FewInserted t)
few_told old new (Ok t) told = told.0.3
few_told old new (Err e) told = tt

-- the totals of n shards
abbrev pub SumsOf : (T : Type 0) → ℕ → Totals → Type 0
SumsOf T n t =
    (t.inserted ≤ n * most_begins) × AddUp t
    × ((parts : List Totals) × (length parts ≡ n)
    × OnePerShard T parts × AreSums parts t)

-- what a state's audit answers adds up, and is few
pub adds_up : (T : Type 0) (n : ℕ) (p : Totals) → OnNumbered {T = T} n ShardAudits (Ok p) → AddUp p × FewInserted p
adds_up T n p audit = let told = audit.4.1.0 in (told.2, told.3)

-- one shard more
pub one_more : (T : Type 0) (n : ℕ) (t p s : Totals) → SumsOf T n t → OnNumbered {T = T} n ShardAudits (Ok p)
    → IsSum t p s → SumsOf T (n + 1) s
one_more T n t p s before audit sum =
    let part = adds_up T n p audit in
    let parts = before.2 in
    let here : OnNumbered {T = T} (length parts.0) ShardAudits (Ok p) = rw parts.1 audit in
    let sums = parts.3 in (
      omega (arith, before.0, part.1, sum.inserted),
      omega (arith, before.1, part.0, sum.inserted, sum.expired, sum.removed, sum.cancelled, sum.live),
      (
        p ∷ parts.0,
        omega (arith, parts.1),
        (here, parts.2),
        record {
          inserted = omega (arith, sum.inserted, sums.inserted);
          expired = omega (arith, sum.expired, sums.expired);
          removed = omega (arith, sum.removed, sums.removed);
          cancelled = omega (arith, sum.cancelled, sums.cancelled);
          live = omega (arith, sum.live, sums.live);
        },
      ),
    )

-- the first shard that refuses
pub first_refused : (T : Type 0) (n shards : ℕ) (t : Totals) (e : HandlesOut) → SumsOf T n t → n < shards
    → OnNumbered {T = T} n ShardAudits (Err e) → QueueAudits T shards (Err e)
first_refused T n shards t e before inside refused =
    let parts = before.2 in
    let here : OnNumbered {T = T} (length parts.0) ShardAudits (Err e) = rw parts.1 refused in
    (parts.0, omega (arith, parts.1, inside), parts.2, here)
