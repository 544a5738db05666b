-- How the entries of a shard end.
use Rattle.std.specs.Prelude.{◌≡◌, ℕ, ◌+◌, ◌≤◌, Ok, length, slice_index}
use Rattle.atomic_table.specs.Table.{State}
use mathlib.Core.Option.{some}
use lib.ListN.{get_elem?}
use Rattle.dq_ticks.specs.declared.keys.Key.{Key}
use Rattle.dq_ticks.specs.Word.{stamp_of}
use Rattle.dq_core.specs.declared.outcomes.Expired.{Expired}
use Rattle.dq_core.specs.declared.outcomes.Turn.TheVariants.{Out}
use Rattle.dq_core.specs.declared.outcomes.Piece.TheVariants.{Answer}
use Rattle.dq_words.specs.declared.views.View.{View}
use Rattle.dq_words.specs.declared.views.Write.TheVariants.{Begin}
use Rattle.dq_words.specs.Files.{File, file, IsIn, IsDeadline}
use Rattle.dq_words.specs.Rule.{Ruled}
use Rattle.dq_words.specs.Endings.{lives_at, fates_at, over_life, WritesStay}
use Rattle.dq_shards.specs.Shard.{ShardView, IsShard, keeper_of}
use Rattle.dq_shards.specs.Changes.{ShardInserts, ShardPolls, ShardPollsSome}

-- It holds whatever the table of the words is, where it meets the rule and the keeper has this
-- view. The true table of that moment is one of them.
abbrev pub InEveryTable : View → (State ℕ View → Type 0) → Type 0
InEveryTable w Holds =
    (t : State ℕ View) → Ruled (length w.seen) t → get_elem? t.views 0 ≡ some w → Holds t

-- all that was written and called of a key's slot at the key's stamp
abbrev pub file_of : Key → State ℕ View → File
file_of k t = file k.entry.index k.stamp t.views

-- 1 where the word of a key's slot is live at the key's stamp
abbrev pub live_at : Key → State ℕ View → ℕ
live_at k t = lives_at (slice_index t.words k.entry.index) k.stamp

-- The keeper ended the key's stamp as expired at this deadline, which was in force: the greatest of
-- the deadline that the stamp was given with and of all extends that were accepted at it.
abbrev pub ExpiresInForce : Key → ℕ → State ℕ View → Type 0
ExpiresInForce k deadline t =
    IsIn (file_of k t).ends (2, deadline) × IsDeadline (file_of k t) deadline

-- an entry that came out expired at its deadline in force, which is not after the noted tick
pub record IsOutInForce {T : Type 0} (s : ShardView T) (x : Expired T) : Type 0 where
  pub expires : InEveryTable (keeper_of s) (ExpiresInForce x.key x.deadline)
  pub noted : x.deadline ≤ s.core.noted

-- whatever a poll gives out is so
abbrev pub OutsAreInForce : Type 0 → Type 0
OutsAreInForce T =
    (old new : ShardView T) (tick : ℕ) (x : Expired T)
    → IsShard new → ShardPolls old tick (Ok (Out x)) new → IsOutInForce new x

-- whatever a poll in pieces gives out is so
abbrev pub PieceOutsAreInForce : Type 0 → Type 0
PieceOutsAreInForce T =
    (old new : ShardView T) (tick most : ℕ) (x : Expired T)
    → IsShard new → ShardPollsSome old tick most (Ok (Answer (Out x))) new → IsOutInForce new x

-- Of an entry that the keeper began at the slot i with the stamp b: how often it ended as expired,
-- as removed or by an accepted cancel, over all stamps that its resets gave it, or is live.
abbrev pub endings_of : View → ℕ → ℕ → State ℕ View → ℕ
endings_of w i b t =
    over_life (λ s. fates_at i s t) i b w.writes (stamp_of (slice_index t.words i))

-- each entry that a keeper ever began ended once, or is live
abbrev pub EveryEntryEndsOnce : View → Type 0
EveryEntryEndsOnce w =
    (i b base : ℕ) → IsIn w.writes (Begin i b base)
    → InEveryTable w (λ t. endings_of w i b t ≡ 1)

-- A key's stamp was given once, and it was ended once by the keeper, or cancelled once by a caller,
-- or its word is live.
abbrev pub IsGivenOnce : Key → State ℕ View → Type 0
IsGivenOnce k t =
    (length (file_of k t).bases ≡ 1)
    × (length (file_of k t).ends + length (file_of k t).cancels + live_at k t ≡ 1)

-- whatever key an insert answers is so
abbrev pub InsertsAreGiven : Type 0 → Type 0
InsertsAreGiven T =
    (old new : ShardView T) (value : T) (when : ℕ) (k : Key)
    → IsShard old → IsShard new → ShardInserts old value when (Ok k) new
    → InEveryTable (keeper_of new) (IsGivenOnce k)

-- Of whatever key an insert answers: the entry that was begun there, over all stamps that its
-- resets give it, ended once or is live, at each later view of that keeper.
abbrev pub InsertedEntriesEndOnce : Type 0 → Type 0
InsertedEntriesEndOnce T =
    (old new : ShardView T) (value : T) (when : ℕ) (k : Key)
    → ShardInserts old value when (Ok k) new → (w : View) → WritesStay (keeper_of new) w
    → InEveryTable w (λ t. endings_of w k.entry.index k.entry.born t ≡ 1)
