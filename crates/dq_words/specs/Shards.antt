-- What a shard of a row is made of.
use Rattle.std.specs.Prelude.{◌≡◌, ℕ, replicate}
use Rattle.dq_wheel.specs.State.{fresh_filing}
use Rattle.dq_core.specs.declared.errors.CoreConfig.{CoreConfig}
use Rattle.dq_core.specs.Core.{Core}
use Rattle.dq_core.specs.Slots.{unused}
use Rattle.dq_core.specs.Words.{AreFresh}
use Rattle.dq_words.specs.AtTheCall.{KnowsNothing}
use Rattle.dq_words.specs.Seats.{Sat}

-- a queue of so many slots, of which none was ever used, under that number and at that tick: of its
-- words nothing is known yet
pub record IsFreshQueue {T : Type 0} (number capacity last tick : ℕ) (q : Core T Sat) : Type 0 where
  pub shard : q.shard ≡ number
  pub noted : q.noted ≡ tick
  pub filing : q.wheel.filing ≡ record (fresh_filing capacity) { tick = tick }
  pub slots : q.slots ≡ record { last_stamp = last; rows = replicate capacity unused }
  pub fresh : AreFresh q.known q.counts
  pub words : KnowsNothing q.words

module _ {T S : Type 0} where
  -- what becomes of such a queue where it is made a shard
  abbrev pub IsNewShard : (Core T Sat → S → Type 0) → ℕ → CoreConfig → S → Type 0
  IsNewShard gives number config s =
      (q : Core T Sat) × IsFreshQueue number config.capacity config.last_stamp 0 q × gives q s
