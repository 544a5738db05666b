-- How a handle is made, and why it is refused.
use Rattle.std.specs.Prelude.{◌≡◌, ℕ, ◌+◌, ◌<◌, List, [], ◌∷◌, Result, Ok, Err, length}
use Rattle.dq_core.specs.declared.errors.CoreError.TheVariants.{NoMemory}
use Rattle.dq_words.specs.declared.keeper.WordsError.{WordsError}
use Rattle.dq_shards.specs.declared.errors.QueueError.{QueueError}
use Rattle.dq_shards.specs.declared.errors.QueueError.TheVariants.{Core, Unknown, TooManyHandles}
use Rattle.dq_words.specs.Seats.{Sat}
use Rattle.dq_shards.specs.Changes.{OnNumbered, ShardIssues}
use Rattle.dq_shards.specs.Handles.{HandleCallers}
use Rattle.dq_shards.specs.Refusals.{issued_all, no_room}

-- it holds of each of a list, which are numbered from n on
abbrev pub AllFrom : {X : Type 0} → (ℕ → X → Type 0) → ℕ → List X → Type 0
AllFrom P n [] = Unit {0}
AllFrom P n (x ∷ xs) = P n x × AllFrom P (n + 1) xs

-- the caller is issued by the state of that number
abbrev pub IssuedBy : (T : Type 0) → ℕ → Sat → Type 0
IssuedBy T number v = OnNumbered {T = T} number ShardIssues (Ok v)

-- A handle has a caller of each shard, the n-th issued by the state of number n. It is refused
-- where the state of a shard refuses to issue one, or where memory is refused.
abbrev pub QueueHandles : (T : Type 0) → ℕ → Result HandleCallers QueueError → Type 0
QueueHandles T shards (Ok vs) = (length vs ≡ shards) × AllFrom (IssuedBy T) 0 vs
QueueHandles T shards (Err (TooManyHandles limit)) =
    (shard : ℕ) × (shard < shards)
    × OnNumbered {T = T} shard ShardIssues (Err (issued_all limit))
QueueHandles T shards (Err (Core e)) = e ≡ NoMemory
QueueHandles T shards (Err Unknown) = ⊥

-- why a handle is refused, by why a caller is
abbrev pub IsHandleRefused : WordsError → QueueError → Type 0
IsHandleRefused r (TooManyHandles limit) = r ≡ issued_all limit
IsHandleRefused r (Core e) = (r ≡ no_room) × (e ≡ NoMemory)
IsHandleRefused r Unknown = ⊥
