-- What a call by open words tells. Its receipt is the seat that its load made, and has no bytes: whoever has it knows
-- what the word of these words was, between two steps of the keeper and all others.
use Rattle.std.specs.Prelude.{◌≡◌, ℕ, ◌<◌, ◌≤◌, List, [], ◌∷◌, slice_index, length}
use Rattle.std.specs.Prelude.{Option, Some, None}
use mathlib.Core.Option.{some}
use lib.ListN.{get_elem?}
use Rattle.atomic_table.specs.Seated.{TableId}
use Rattle.atomic_table.specs.Table.{State, Step}
use Rattle.dq_core.specs.declared.words.Look.{Look}
use Rattle.dq_core.specs.declared.words.CallError.{CallError}
use Rattle.dq_core.specs.declared.words.CallError.TheVariants.{TooFar, Unknown, Ended}
use Rattle.dq_ticks.specs.declared.TheConstants.{LAST_TICK}
use Rattle.dq_ticks.specs.Keys.{KeyName}
use Rattle.dq_words.specs.declared.views.View.{View}
use Rattle.dq_words.specs.declared.views.Call.TheVariants.{Extend, Cancel}
use Rattle.dq_words.specs.declared.views.StepKind.{StepKind}
use Rattle.dq_words.specs.declared.views.StepKind.TheVariants.{CallerLoad, ExtendMax, CancelMax}
use Rattle.dq_words.specs.AtTheCall.{SeesCancelled, SeesEntry, SeesLive, word_seen}
use Rattle.dq_words.specs.CallerCalls.{Refuses, tried}
use Rattle.dq_words.specs.Places.{PlaceMe, placed}
use Rattle.dq_words.specs.Plays.{CallerLoads, Knowing, SeatGoesOn, Told, cancel_made, extend_made}
use Rattle.dq_words.specs.Rule.{Ruled, passer}
use Rattle.dq_words.specs.Seats.{Sat}

-- open words: their table, and for how many slots they are
pub record Open : Type 0 where
  pub table : TableId
  pub rows : ℕ

-- the key's slot is one of so many, and the key has a stamp
abbrev pub HasSlot : ℕ → KeyName → Type 0
HasSlot rows k = (k.entry.index < rows) × (0 < k.stamp)

-- There was a moment at which the rule held, a seat knew exactly this, and the slot i had the word that the seat then
-- sees.
abbrev pub SawPresent : View → ℕ → Type 0
SawPresent v i =
    (t : State ℕ View) × (j : ℕ) × Ruled (length v.seen) t × (get_elem? t.views j ≡ some v)
    × (slice_index t.words i ≡ slice_index v.seen i)

-- The receipt is a seat of these words. Behind its last step there was a moment at which the rule held, the seat knew
-- exactly this, and the key's slot had the word that it saw.
abbrev pub IsReceipt : Open → KeyName → Sat → Type 0
IsReceipt o k r =
    (r.table ≡ o.table) × (length r.view.seen ≡ o.rows) × SawPresent r.view k.entry.index

-- An extend was accepted: it is the receipt's one call, by one load and one step, and the word was then live at the
-- deadline d.
abbrev pub ShowsExtend : Open → KeyName → ℕ → ℕ → Sat → Type 0
ShowsExtend o k when d r =
    IsReceipt o k r × SeesLive r k d × (r.view.steps ≡ ExtendMax ∷ CallerLoad ∷ [])
    × (r.view.calls ≡ Extend k.entry.index k.stamp when ∷ [])

-- A cancel was accepted, which gave up the deadline d: the same, and the word was then cancelled.
abbrev pub ShowsCancel : Open → KeyName → ℕ → Sat → Type 0
ShowsCancel o k d r =
    IsReceipt o k r × SeesCancelled r k × (r.view.steps ≡ CancelMax ∷ CallerLoad ∷ [])
    × (r.view.calls ≡ Cancel k.entry.index k.stamp d ∷ [])

-- A look's load saw the key's entry, and shows this of it.
abbrev pub ShowsLook : Open → KeyName → Look → Sat → Type 0
ShowsLook o k how r =
    IsReceipt o k r × SeesEntry r k how × (r.view.steps ≡ CallerLoad ∷ []) × (r.view.calls ≡ [])

-- The word that the receipt saw refuses the key so. By these steps the seat changed nothing.
abbrev pub ShowsRefusal : Open → KeyName → List StepKind → CallError → Sat → Type 0
ShowsRefusal o k made e r =
    IsReceipt o k r × Refuses (word_seen r k) k.stamp e × (r.view.steps ≡ made) × (r.view.calls ≡ [])

-- a key is refused with no step where no slot has it, and else by the word that the receipt saw
abbrev pub RefusedBy : Open → KeyName → List StepKind → CallError → Option Sat → Type 0
RefusedBy o k made e None = ¬ HasSlot o.rows k × (e ≡ Unknown)
RefusedBy o k made e (Some r) = HasSlot o.rows k × ShowsRefusal o k made e r

-- a cancel is refused by the key
abbrev pub OpenRefused : Open → KeyName → CallError → Option Sat → Type 0
OpenRefused o k e r = RefusedBy o k (tried e []) e r

-- an extend is refused first by its deadline, which lies beyond the last tick, and then by the key
abbrev pub OpenExtendRefused : Open → KeyName → ℕ → CallError → Option Sat → Type 0
OpenExtendRefused o k when (TooFar limit) r =
    (limit ≡ LAST_TICK) × (LAST_TICK < when) × (r ≡ None)
OpenExtendRefused o k when e r = (when ≤ LAST_TICK) × OpenRefused o k e r

-- a look is refused by the key, and not by a word that has ended, which it shows
abbrev pub OpenLookRefused : Open → KeyName → CallError → Option Sat → Type 0
OpenLookRefused o k (Ended how) r = ⊥
OpenLookRefused o k e r = RefusedBy o k (CallerLoad ∷ []) e r

-- the load that made a passer's seat at words of so many slots, and found n in the slot i
abbrev pub PasserLoads : ℕ → View → ℕ → ℕ → Type 0
PasserLoads rows w i n =
    CallerLoads (passer rows) w i n × SeatGoesOn (passer rows) w × SawPresent w i

abbrev pub passer_loaded : Step ℕ → PlaceMe → ℕ → PlaceMe → Type 0
passer_loaded st m n m' =
    (m'.0 ≡ placed m'.0.view) × PasserLoads (length m.0.view.seen) m'.0.view st.word n

-- a passer's extend, which also tells of the moment
abbrev pub passer_extended : Told
passer_extended st m n m' = Knowing extend_made st m n m' × SawPresent m'.0 st.word

-- a passer's cancel, which also tells of the moment
abbrev pub passer_cancelled : Told
passer_cancelled st m n m' = Knowing cancel_made st m n m' × SawPresent m'.0 st.word
