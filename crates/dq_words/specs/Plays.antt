-- No public clause cites this module.
-- What each step tells.
use Rattle.std.specs.Prelude.{◌≡◌, ◌≢◌, ◌⊎◌, ℕ, ◌+◌, ◌<◌, ◌≤◌, max, List, [], ◌∷◌, length}
use Rattle.std.specs.Prelude.{slice_index, slice_set, true, false}
use Rattle.atomic_table.specs.Seated.{TableId}
use Rattle.atomic_table.specs.Table.{Me, Step}
use Rattle.dq_words.specs.declared.views.View.{View}
use Rattle.dq_words.specs.declared.views.StepKind.{StepKind}
use Rattle.dq_words.specs.declared.views.StepKind.TheVariants.{KeeperLoad, BeginStore}
use Rattle.dq_words.specs.declared.views.StepKind.TheVariants.{SettleExchange, RenewExchange}
use Rattle.dq_words.specs.declared.views.StepKind.TheVariants.{FinishExchange, FailedExchange}
use Rattle.dq_words.specs.declared.views.StepKind.TheVariants.{CallerLoad}
use Rattle.dq_words.specs.declared.views.StepKind.TheVariants.{ExtendMax, CancelMax, GiveBackAdd}
use Rattle.dq_words.specs.declared.views.StepKind.TheVariants.{ReturnLoad}
use Rattle.dq_words.specs.declared.views.Call.{Call}
use Rattle.dq_words.specs.declared.views.Call.TheVariants.{Extend, Cancel}
use Rattle.dq_words.specs.declared.views.Write.{Write}
use Rattle.dq_words.specs.declared.views.Write.TheVariants.{Begin, Expired, Renewed, Removed}
use Rattle.dq_ticks.specs.Word.{stamp_of, mark_of, field_of}
use Rattle.dq_words.specs.Word.{LearnedWord}
use Rattle.dq_words.specs.Files.{IsIn, extends_at, cancels_at}
use Rattle.dq_words.specs.Rule.{new_view}
use Rattle.dq_words.specs.Keeping.{Knew}
use Rattle.dq_words.specs.Counts.{most_begins, gone_by, cancels_by, cancels_in, begins_in}
use Rattle.dq_words.specs.Counts.{expiries_in, removals_in, withdrawn}

-- The deadline d of the slot i at the stamp s covers a caller's own accepted calls: no extend of it
-- there is later, and it cancelled nothing there.
abbrev pub Covers : List Call → ℕ → ℕ → ℕ → Type 0
Covers calls i s d =
    ((x : ℕ) → IsIn (extends_at i s calls) x → x ≤ d) × (cancels_at i s calls ≡ [])

-- no call of the slot i was accepted at a stamp beyond s
abbrev pub NoneBeyond : List Call → ℕ → ℕ → Type 0
NoneBeyond calls i s =
    (t : ℕ) → s < t → (extends_at i t calls ≡ []) × (cancels_at i t calls ≡ [])

-- What the word n of the slot i shows of a caller's own accepted calls: unless it is cancelled, its
-- field covers them, and none has a later stamp.
abbrev pub Fair : List Call → ℕ → ℕ → Type 0
Fair calls i n =
    (mark_of n ≢ 1 → Covers calls i (stamp_of n) (field_of n)) × NoneBeyond calls i (stamp_of n)

-- the view after a step of a kind that leaves the word n in the slot i
abbrev pub stepping : View → ℕ → ℕ → StepKind → View
stepping v i n kind = record v { seen = slice_set v.seen i n; steps = kind ∷ v.steps }

-- the view of a caller that records an accepted call
abbrev pub with_call : View → Call → View
with_call v c = record v { calls = c ∷ v.calls }

-- the view of the keeper that records a write
abbrev pub with_write : View → Write → View
with_write v x = record v { writes = x ∷ v.writes }

-- the view of a caller whose step of the word k was accepted as an extend and left the word n
abbrev pub extending : View → ℕ → ℕ → ℕ → View
extending v i k n =
    with_call (stepping v i n ExtendMax) (Extend i (stamp_of k) (field_of k))

-- the view of a caller whose step of the word k was accepted as a cancel, gave up the deadline d
-- and left the word n
abbrev pub cancelling : View → ℕ → ℕ → ℕ → ℕ → View
cancelling v i k d n = with_call (stepping v i n CancelMax) (Cancel i (stamp_of k) d)

-- the view of the keeper that stored the word k
abbrev pub beginning : View → ℕ → ℕ → View
beginning v i k =
    record (with_write (stepping v i k BeginStore) (Begin i (stamp_of k) (field_of k))) {
      reaped = v.reaped + withdrawn (slice_index v.seen i);
    }

-- the view of the keeper that exchanged the live word `old` for the expired word `new`
abbrev pub settling : View → ℕ → ℕ → ℕ → View
settling v i old new =
    with_write (stepping v i new SettleExchange) (Expired i (stamp_of old) (field_of old))

-- the same, for a live word of the next stamp
abbrev pub renewing : View → ℕ → ℕ → ℕ → View
renewing v i old new =
    with_write (stepping v i new RenewExchange)
    (Renewed i (stamp_of old) (field_of old) (field_of new))

-- the same, for the removed word
abbrev pub finishing : View → ℕ → ℕ → ℕ → View
finishing v i old new =
    with_write (stepping v i new FinishExchange) (Removed i (stamp_of old) (field_of old))

-- a caller that is given back
abbrev pub giving_back : View → View
giving_back v = record v { steps = GiveBackAdd ∷ v.steps; gone = true }

-- the keeper that read the return word
abbrev pub loading_return : View → ℕ → View
loading_return v n = record v { steps = ReturnLoad ∷ v.steps; returns = n }

-- the keeper with one caller more, and that caller
abbrev pub issuing : View → View
issuing v = record v { issued = v.issued + 1 }

abbrev pub newcomer : View → View
newcomer v = new_view false (length v.seen)

-- The seat at one table fits the table in hand, which has `rows` slots and the return word behind
-- them.
pub record FitsTable (sits hand : TableId) (key rows : ℕ) (v : View) : Type 0 where
  pub same : sits ≡ hand
  pub keyed : key ≡ rows
  pub words : hand.words ≡ rows + 1
  pub row : length v.seen ≡ rows

-- Behind a step from v the rule held with what the seat then knew. The seat has the row and the
-- role that it had, and a keeper has issued as many callers.
pub record SeatGoesOn (v w : View) : Type 0 where
  pub knew : Knew w
  pub row : length w.seen ≡ length v.seen
  pub role : w.keeps ≡ v.keeps
  pub issued : v.keeps ≡ true → w.issued ≡ v.issued

-- a seat of the table: its view, and no slots of its own
abbrev pub WordMe : Type 0
WordMe = Me ℕ View

-- what a step tells
abbrev pub Told : Type 1
Told = Step ℕ → WordMe → ℕ → WordMe → Type 0

-- the same, and that the seat goes on behind it
abbrev pub Knowing : Told → Told
Knowing then st m n m' = then st m n m' × SeatGoesOn m.0 m'.0

-- a caller's load that found n
abbrev pub CallerLoads : View → View → ℕ → ℕ → Type 0
CallerLoads v w i n =
    (w ≡ stepping v i n CallerLoad) × (slice_index v.seen i ≤ n) × Fair v.calls i n

abbrev pub caller_loaded : Told
caller_loaded st m n m' = CallerLoads m.0 m'.0 st.word n

-- the keeper's load that found n
abbrev pub KeeperLoads : View → View → ℕ → ℕ → Type 0
KeeperLoads v w i n = (w ≡ stepping v i n KeeperLoad) × LearnedWord (slice_index v.seen i) n

abbrev pub keeper_loaded : Told
keeper_loaded st m n m' = KeeperLoads m.0 m'.0 st.word n

-- the word n is live at the stamp of the word k
abbrev pub LiveFor : ℕ → ℕ → Type 0
LiveFor k n = (stamp_of n ≡ stamp_of k) × (mark_of n ≡ 0)

-- A step of the word k that missed, as it found no live word of its stamp: it counts as a load.
abbrev pub MissedStep : View → View → ℕ → ℕ → ℕ → Type 0
MissedStep v w i k n =
    (stamp_of n ≡ stamp_of k → mark_of n ≢ 0) × (w ≡ stepping v i n CallerLoad)

-- The fetch_max of the word k, live, that found n, which agrees with the caller's calls before. It
-- was accepted where it found a live word of its stamp.
abbrev pub ExtendStep : View → View → ℕ → ℕ → ℕ → Type 0
ExtendStep v w i k n =
    (slice_index v.seen i ≤ n) × Fair v.calls i n
    × ((LiveFor k n × (w ≡ extending v i k (max n k))) ⊎ MissedStep v w i k n)

abbrev pub extend_made : Told
extend_made st m n m' = ExtendStep m.0 m'.0 st.word st.first n

-- The same for the word k, cancelled.
abbrev pub CancelStep : View → View → ℕ → ℕ → ℕ → Type 0
CancelStep v w i k n =
    (slice_index v.seen i ≤ n) × Fair v.calls i n
    × ((LiveFor k n × (w ≡ cancelling v i k (field_of n) k) × (cancels_in w.calls ≤ most_begins))
    ⊎ MissedStep v w i k n)

abbrev pub cancel_made : Told
cancel_made st m n m' = CancelStep m.0 m'.0 st.word st.first n

-- the keeper's store of the word k
abbrev pub BeginStep : View → View → ℕ → ℕ → Type 0
BeginStep v w i k = w ≡ beginning v i k

abbrev pub begin_made : Told
begin_made st m n m' = BeginStep m.0 m'.0 st.word st.first

-- an exchange of the keeper that failed, as it found n
abbrev pub KeeperMisses : View → View → ℕ → ℕ → Type 0
KeeperMisses v w i n = (w ≡ stepping v i n FailedExchange) × LearnedWord (slice_index v.seen i) n

-- A compare-exchange of the keeper that found n. A failed one only sees a word.
abbrev pub ExchangeStep : (View → ℕ → ℕ → ℕ → View) → View → View → ℕ → ℕ → ℕ → ℕ → Type 0
ExchangeStep f v w i old new n =
    LearnedWord (slice_index v.seen i) n
    × ((n ≡ old → w ≡ f v i old new) × (n ≢ old → w ≡ stepping v i n FailedExchange))

abbrev pub exchange_made : (View → ℕ → ℕ → ℕ → View) → Told
exchange_made f st m n m' = ExchangeStep f m.0 m'.0 st.word st.first st.second n

-- a caller that gave itself back
abbrev pub give_back_made : Told
give_back_made st m n m' = m'.0 ≡ giving_back m.0

-- The keeper's load of the return word that found n: no more callers are gone than were issued, and
-- their cancels and its own ends are no more than its begins.
abbrev pub ReturnLoads : View → View → ℕ → Type 0
ReturnLoads v w n =
    (w ≡ loading_return v n) × (gone_by n ≤ v.issued)
    × ((expiries_in v.writes + removals_in v.writes) + cancels_by n ≤ begins_in v.writes)

abbrev pub return_loaded : Told
return_loaded st m n m' = ReturnLoads m.0 m'.0 n
