-- What C's structs stand for.
use Rattle.std.specs.Prelude.{◌≡◌, ℕ}
use Rattle.dq_core.specs.declared.outcomes.Expired.{Expired}
use Rattle.dq_core.specs.declared.outcomes.Removed.{Removed}
use Rattle.dq_core.specs.declared.outcomes.Tally.{Tally}
use Rattle.dq_ticks.specs.Keys.{KeyName}
use Rattle.dq_c.specs.declared.keys.DqKey.{DqKey}
use Rattle.dq_c.specs.declared.keys.DqExpired.{DqExpired}
use Rattle.dq_c.specs.declared.keys.DqRemoved.{DqRemoved}
use Rattle.dq_c.specs.declared.keys.DqTally.{DqTally}

-- the key that C has
abbrev pub named : DqKey → KeyName
named k =
    record { entry = record { shard = k.shard; index = k.index; born = k.born }; stamp = k.stamp }

-- the entry that came out
abbrev pub IsOutOf : DqExpired → Expired ℕ → Type 0
IsOutOf out x =
    (named out.key ≡ x.key) × (out.deadline ≡ x.deadline) × (out.noted ≡ x.noted)
    × (out.value ≡ x.value)

-- the entry that was removed
abbrev pub IsRemovedOf : DqRemoved → Removed ℕ → Type 0
IsRemovedOf out x =
    (named out.key ≡ x.key) × (out.deadline ≡ x.deadline) × (out.value ≡ x.value)

-- the same numbers
abbrev pub IsTallyOf : DqTally → Tally → Type 0
IsTallyOf out t =
    (out.inserted ≡ t.inserted) × (out.expired ≡ t.expired) × (out.removed ≡ t.removed)
    × (out.cancelled ≡ t.cancelled) × (out.linked ≡ t.linked) × (out.moves ≡ t.moves)
