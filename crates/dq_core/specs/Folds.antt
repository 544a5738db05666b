-- An empty queue without its wheel and its slots: its words, its ticks and its counts.
use Rattle.std.specs.Prelude.{◌≡◌, ℕ, ◌+◌, ◌<◌, ◌≤◌, max, Bool, not, nat_lt, List, [], ◌∷◌, map}
use Rattle.std.specs.Prelude.{length, None}
use Rattle.std.specs.List.{sum_by}
use Rattle.dq_ticks.specs.declared.words.Parts.{Parts}
use Rattle.dq_ticks.specs.declared.words.Mark.TheVariants.{ExpiredMark}
use Rattle.dq_ticks.specs.declared.TheConstants.{CAPACITY_LIMIT, LAST_TICK, LAST_STAMP}
use Rattle.dq_wheel.specs.State.{Filing, fresh_filing}
use Rattle.dq_wheel.specs.Moves.{passed}
use Rattle.dq_core.specs.declared.outcomes.Tally.{Tally}
use Rattle.dq_core.specs.Words.{Counts, word_at, IsOver}
use Rattle.dq_core.specs.Slots.{Row, row_at}
use Rattle.dq_core.specs.Core.{Core}
use Rattle.dq_core.specs.Deferring.{waiting_in}
use Rattle.dq_core.specs.AtTheCall.{linked_in}
use Rattle.dq_core.specs.Machine.{TableRow, Machine, Note, Pass, Run}

-- a folded queue: its number, the greatest tick noted, its wheel's tick and moves, the last stamp,
-- and of its words what is known, the keeper's own writes, and the words themselves
pub record FoldedCore (W : Type 0) : Type 0 where
  pub shard : ℕ
  pub noted : ℕ
  pub tick : ℕ
  pub moved : ℕ
  pub last_stamp : ℕ
  pub known : List Parts
  pub counts : Counts
  pub words : W

-- under no word an entry is linked, and no stamp is beyond the last one
abbrev pub AreOver : ℕ → List Parts → Type 0
AreOver last known =
    (i : ℕ) → i < length known → IsOver (word_at known i) × ((word_at known i).stamp ≤ last)

-- there is a slot for each word, at the word's stamp, and it holds nothing
abbrev pub AreVacant : {T : Type 0} → List (Row T) → List Parts → Type 0
AreVacant rows known =
    (length rows ≡ length known)
    × ((i : ℕ) → i < length known →
    row_at rows i ≡ record { stamp = (word_at known i).stamp; held = None })

-- the slot of a word has no stamp left
abbrev pub is_worn_word : ℕ → Parts → Bool
is_worn_word last w = not (nat_lt w.stamp last)

-- nothing is linked in a queue, and no freed value waits for its drop
abbrev pub IsFoldable : {T W : Type 0} → Core T W → Type 0
IsFoldable c = (linked_in c ≡ 0) × (waiting_in c.deferred ≡ 0)

-- a wheel that came to a tick with nothing in it, and counts its moves on from that many
abbrev pub resting : ℕ → ℕ → ℕ → Filing
resting capacity tick moved = record (passed (fresh_filing capacity) tick) { moved = moved }

-- the machine that a folded queue is: nothing is linked, and each slot is at its word's stamp
abbrev pub folded_machine : {T W : Type 0} → FoldedCore W → Machine T
folded_machine {T} f =
    record {
      tick = f.tick;
      noted = f.noted;
      table =
          map (λ (w : Parts). let row : TableRow T = record { stamp = w.stamp; entry = None } in row)
          f.known;
    }

-- a folded queue that noted a tick and went there
abbrev pub at_tick : {W : Type 0} → FoldedCore W → ℕ → FoldedCore W
at_tick f t = record f { noted = t; tick = t }

-- a machine notes a tick, and passes to the greatest one that it noted
abbrev pub ComesTo : {T : Type 0} → ℕ → Machine T → ℕ → Machine T → Type 0
ComesTo last m tick n = Run last m (Note tick ∷ (Pass (max m.noted tick) ∷ [])) n

-- where a folded queue notes a tick and goes there, its machine does
abbrev pub FoldsComeToTicks : Type 0 → Type 0 → Type 0
FoldsComeToTicks T W =
    (f : FoldedCore W) (t : ℕ) → f.tick ≤ f.noted →
    ComesTo {T = T} f.last_stamp (folded_machine f) t (folded_machine (at_tick f (max f.noted t)))

-- what a folded queue counted; each entry ended as expired, as removed or as cancelled
pub record IsFoldedTally {W : Type 0} (f : FoldedCore W) (t : Tally) : Type 0 where
  pub begins : f.counts.begins ≡ t.inserted
  pub expiries : f.counts.expiries ≡ t.expired
  pub removals : f.counts.removals ≡ t.removed
  pub linked : t.linked ≡ 0
  pub sum : t.inserted ≡ t.expired + t.removed + t.cancelled
  pub moves : t.moves ≡ f.moved

-- the law of a folded queue
pub record IsFolded (tick noted last : ℕ) (known : List Parts) (counts : Counts) : Type 0 where
  pub some : 0 < length known
  pub few : length known ≤ CAPACITY_LIMIT
  pub used : 0 < last
  pub bound : last ≤ LAST_STAMP
  pub behind : tick ≤ noted
  pub noted_bound : noted ≤ LAST_TICK
  pub over : AreOver last known
  pub expired :
      (i : ℕ) → i < length known → (word_at known i).mark ≡ ExpiredMark →
      (word_at known i).field ≤ noted
  -- no more entries were begun than stamps were given, and no more ended than were begun
  pub stamps : counts.begins ≤ sum_by (λ w. w.stamp) known
  pub balance : counts.expiries + counts.removals ≤ counts.begins
