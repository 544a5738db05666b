-- Claims of the words of a shard's cores, in the directory of a queue.
use Rattle.std.specs.Prelude.{◌≡◌, ◌⊎◌, ℕ, ◌<◌, List, length, slice_index_or}
use Rattle.boxcar.specs.Slot.{Named}
use Rattle.dq_core.specs.Core.{Core}
use Rattle.dq_words.specs.Claims.{Claimed, IsOf}
use Rattle.dq_growing.specs.Cores.{IsCoreAt, EachOf}
use Rattle.dq_growing.specs.declared.cores.TakeError.{TakeError}
use Rattle.dq_growing.specs.declared.cores.TakeError.TheVariants.{NoMemory, UsedNumber}
use Rattle.dq_growing.specs.Store.{StoreState, TakeRefusedFor}
use Rattle.dq_words.specs.OpenCalls.{Open}
use Rattle.dq_words.specs.Seats.{Sat}
use Rattle.dq_queue.specs.Words.{PromiseView}

-- the claim at a place of a row
abbrev pub IsClaimAt : List (Claimed Open) → ℕ → Claimed Open → Type 0
IsClaimAt claims j k = (j < length claims) × (slice_index_or claims j k ≡ k)

-- each is of that directory
abbrev pub AreClaimsOf : List Named → List (Claimed Open) → Type 0
AreClaimsOf rows claims = (j : ℕ) (k : Claimed Open) → IsClaimAt claims j k → IsOf rows k

-- one of them has that number
abbrev pub HasClaim : List (Claimed Open) → ℕ → Type 0
HasClaim claims number =
    (j : ℕ) × (k : Claimed Open) × IsClaimAt claims j k × (k.number ≡ number)

-- each that has the number of this claim is of its words
abbrev pub AgreeWith : List (Claimed Open) → Claimed Open → Type 0
AgreeWith claims c =
    (j : ℕ) (k : Claimed Open) → IsClaimAt claims j k → k.number ≡ c.number → k.thing ≡ c.thing

module _ {T : Type 0} where
  -- the claim says that the core's words stand under the core's number
  abbrev pub ClaimsWords : Claimed Open → Core T Sat → Type 0
  ClaimsWords k c = (k.number ≡ c.shard) × (k.thing.table ≡ c.words.table)

  -- why a core of a number doesn't come in as a new one: memory for its claim is refused; a claim has
  -- its number; or, where none has, as the store refuses it
  abbrev pub RefusedAsNew :
      List (Claimed Open) → ℕ → StoreState T Sat → Core T Sat → TakeError → Type 0
  RefusedAsNew claims number s c e =
      (e ≡ NoMemory) ⊎ (((e ≡ UsedNumber) × HasClaim claims number)
      ⊎ ((¬ HasClaim claims number) × TakeRefusedFor s c e))

  -- one of the claims says so
  abbrev pub IsClaimed : List (Claimed Open) → Core T Sat → Type 0
  IsClaimed claims c = (j : ℕ) × (k : Claimed Open) × IsClaimAt claims j k × ClaimsWords k c

  -- the words of each core are claimed
  abbrev pub AreClaimed : List (Core T Sat) → List (Claimed Open) → Type 0
  AreClaimed cores claims = (i : ℕ) (c : Core T Sat) → IsCoreAt cores i c → IsClaimed claims c

  -- each core of a store after a call was there before it, with its number and its words
  abbrev pub BringsNoCore : StoreState T Sat → StoreState T Sat → Type 0
  BringsNoCore s t =
      (i : ℕ) (c : Core T Sat) → IsCoreAt t.cores.cores i c →
      (j : ℕ) × (b : Core T Sat) × IsCoreAt s.cores.cores j b × (c.shard ≡ b.shard)
      × (c.words.table ≡ b.words.table)

  -- each core of the promise's number has the words that the call was made on
  abbrev pub IsOfItsWords : StoreState T Sat → PromiseView → Type 0
  IsOfItsWords s p =
      EachOf s.cores p.claim.number (λ c. c.words.table ≡ p.receipt.table)
