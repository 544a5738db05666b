-- What the keeper's calls do, and what they tell of its callers.
use Rattle.std.specs.Prelude.{◌≡◌, ◌⊎◌, ℕ, zero, suc, ◌+◌, ◌-◌, ◌<◌, ◌≤◌, List, ◌∷◌}
use Rattle.std.specs.Prelude.{length, slice_index, slice_set, Option, Some, None, Result, Ok, Err}
use Rattle.atomic_table.specs.Table.{State}
use mathlib.Core.Option.{some}
use lib.ListN.{get_elem?}
use Rattle.dq_core.specs.Words.{Counts, AreFresh, word_at}
use Rattle.dq_core.specs.declared.words.Look.{Look}
use Rattle.dq_core.specs.declared.words.Look.TheVariants.{StillLive, LookCancelled, LookExpired}
use Rattle.dq_core.specs.declared.words.Look.TheVariants.{LookRemoved}
use Rattle.dq_core.specs.declared.words.Settled.{Settled}
use Rattle.dq_core.specs.declared.words.Settled.TheVariants.{SettledExpired, Later}
use Rattle.dq_core.specs.declared.words.Settled.TheVariants.{SettledCancelled}
use Rattle.dq_ticks.specs.Word.{word, packed}
use Rattle.dq_ticks.specs.declared.TheConstants.{CAPACITY_LIMIT, LAST_TICK}
use Rattle.dq_ticks.specs.declared.words.Parts.{Parts}
use Rattle.dq_words.specs.declared.views.View.{View}
use Rattle.dq_words.specs.declared.views.StepKind.{StepKind}
use Rattle.dq_words.specs.declared.views.StepKind.TheVariants.{KeeperLoad, FailedExchange}
use Rattle.dq_words.specs.declared.views.Write.TheVariants.{Begin}
use Rattle.dq_words.specs.declared.keeper.WordsError.{WordsError}
use Rattle.dq_words.specs.declared.keeper.WordsError.TheVariants.{BadConfig, NoMemory}
use Rattle.dq_words.specs.declared.keeper.WordsError.TheVariants.{TooManyHandles}
use Rattle.dq_words.specs.declared.keeper.TheConstants.{HANDLE_LIMIT}
use Rattle.dq_words.specs.Counts.{gone_by, cancels_by, begins_in, expiries_in, removals_in, total}
use Rattle.dq_words.specs.Counts.{goes, made_cancels, own_cancels, withdrawn, NoPasserCancelled}
use Rattle.dq_words.specs.Counts.{lives, below}
use Rattle.dq_words.specs.Files.{IsIn}
use Rattle.dq_words.specs.Keeping.{NoneLive, Stood, counts_of}
use Rattle.dq_words.specs.Plays.{beginning, settling, renewing, finishing, issuing, newcomer}
use Rattle.dq_words.specs.Plays.{loading_return, KeeperLoads, KeeperMisses}
use Rattle.dq_words.specs.Rule.{Ruled, first_keeper}
use Rattle.dq_words.specs.Seats.{Sat}
use Rattle.dq_words.specs.Word.{LearnedWord, parts_row}

-- the words that the keeper knows, as parts
abbrev pub known_of : Sat → List Parts
known_of k = parts_row k.view.seen

-- the word of the slot i that it knows
abbrev pub known_word : Sat → ℕ → Parts
known_word k i = word_at (known_of k) i

-- how often it has begun a word, and ended one as expired or removed
abbrev pub counts_by : Sat → Counts
counts_by k = counts_of k.view.writes

-- it has begun an entry at the slot i, under the stamp s and with the deadline d
abbrev pub HasBegun : Sat → ℕ → ℕ → ℕ → Type 0
HasBegun k i s d = IsIn k.view.writes (Begin i s d)

-- a begin stores the live word of the stamp s
abbrev pub KeeperBegins : View → ℕ → ℕ → ℕ → View → Type 0
KeeperBegins v i s when w = w ≡ beginning v i (word s 0 when)

-- a look is one load
abbrev pub KeeperLooks : View → ℕ → Parts → View → Type 0
KeeperLooks v i p w = KeeperLoads v w i (packed p)

-- A settle is one exchange: it ends the word that is live at `at`, or shows a later deadline or the
-- cancellation.
abbrev pub KeeperSettles : View → ℕ → ℕ → ℕ → Settled → View → Type 0
KeeperSettles v i s at SettledExpired w =
    LearnedWord (slice_index v.seen i) (word s 0 at)
    × (w ≡ settling v i (word s 0 at) (word s 2 at))
KeeperSettles v i s at (Later d) w = (at < d) × (d ≤ LAST_TICK) × KeeperMisses v w i (word s 0 d)
KeeperSettles v i s at SettledCancelled w = KeeperMisses v w i (word s 1 0)

-- n exchanges that failed in front of the steps
abbrev pub failed_on : ℕ → List StepKind → List StepKind
failed_on zero steps = steps
failed_on (suc n) steps = FailedExchange ∷ failed_on n steps

-- the view after one load of the slot i, and n exchanges that failed, which saw the word x last
abbrev pub after_failures : View → ℕ → ℕ → ℕ → View
after_failures v i x n =
    record v { seen = slice_set v.seen i x; steps = failed_on n (KeeperLoad ∷ v.steps) }

-- the word was found cancelled by one load, or by the last of n exchanges after it
abbrev pub FindsCancelled : View → ℕ → ℕ → View → Type 0
FindsCancelled v i s w =
    LearnedWord (slice_index v.seen i) (word s 1 0)
    × ((n : ℕ) × (w ≡ after_failures v i (word s 1 0) n))

-- A renew loads once, and tries until an exchange of the live word succeeds: n that fail, and then
-- that one. It stops at a cancelled word.
abbrev pub KeeperRenews : View → ℕ → ℕ → ℕ → Option ℕ → View → Type 0
KeeperRenews v i s when (Some d) w =
    (d ≤ LAST_TICK) × LearnedWord (slice_index v.seen i) (word s 0 d)
    × ((n : ℕ)
    × (w ≡ renewing (after_failures v i (word s 0 d) n) i (word s 0 d) (word (s + 1) 0 when)))
KeeperRenews v i s when None w = FindsCancelled v i s w

-- A finish does the same with the removed word.
abbrev pub KeeperFinishes : View → ℕ → ℕ → Option ℕ → View → Type 0
KeeperFinishes v i s (Some d) w =
    (d ≤ LAST_TICK) × LearnedWord (slice_index v.seen i) (word s 0 d)
    × ((n : ℕ) × (w ≡ finishing (after_failures v i (word s 0 d) n) i (word s 0 d) (word s 3 d)))
KeeperFinishes v i s None w = FindsCancelled v i s w

-- A finish by a tick stops at a live word with a later deadline too, which it sees by its load, or by
-- the last of n exchanges after it.
abbrev pub KeeperFinishesBy : View → ℕ → ℕ → ℕ → Look → View → Type 0
KeeperFinishesBy v i s tick (LookRemoved d) w = (d ≤ tick) × KeeperFinishes v i s (Some d) w
KeeperFinishesBy v i s tick (StillLive d) w =
    (tick < d) × (d ≤ LAST_TICK) × LearnedWord (slice_index v.seen i) (word s 0 d)
    × ((n : ℕ) × (w ≡ after_failures v i (word s 0 d) n))
KeeperFinishesBy v i s tick LookCancelled w = FindsCancelled v i s w
KeeperFinishesBy v i s tick (LookExpired d) w = ⊥

-- of what was begun nothing more expired, and nothing more was begun
abbrev pub OnlyRemoves : Counts → Counts → Type 0
OnlyRemoves a b = (b.begins ≡ a.begins) × (b.expiries ≡ a.expiries) × (a.removals ≤ b.removals)

-- a keeper is made exactly within the limits, but where memory is refused
abbrev pub KeeperIsMade : ℕ → Result Sat WordsError → Type 0
KeeperIsMade capacity (Ok k) =
    (0 < capacity) × (capacity ≤ CAPACITY_LIMIT) × (k.view ≡ first_keeper capacity)
    × AreFresh (parts_row k.view.seen) (counts_of k.view.writes)
KeeperIsMade capacity (Err e) =
    ((e ≡ BadConfig) × ¬ ((0 < capacity) × (capacity ≤ CAPACITY_LIMIT)))
    ⊎ ((e ≡ NoMemory) × (0 < capacity) × (capacity ≤ CAPACITY_LIMIT))

-- An issue gives a newcomer at the keeper's own table. It is refused exactly past the limit, but
-- where memory is refused.
abbrev pub Issues : Sat → Result Sat WordsError → Sat → Type 0
Issues v (Ok c) w =
    (c.view ≡ newcomer v.view) × (c.table ≡ v.table)
    × (w.view ≡ issuing v.view) × (w.table ≡ v.table) × (v.view.issued < HANDLE_LIMIT)
Issues v (Err e) w =
    (w ≡ v) × (((e ≡ TooManyHandles HANDLE_LIMIT) × (v.view.issued ≡ HANDLE_LIMIT))
    ⊎ ((e ≡ NoMemory) × (v.view.issued < HANDLE_LIMIT)))

-- one load of the return word, which is then seen
abbrev pub ReturnIsLoaded : Sat → Sat → Type 0
ReturnIsLoaded v w = (w.table ≡ v.table) × (w.view ≡ loading_return v.view w.view.returns)

-- the callers that the return word does not show as gone
abbrev pub Tells : Sat → ℕ → Sat → Type 0
Tells v out w =
    ReturnIsLoaded v w × (gone_by w.view.returns ≤ w.view.issued)
    × (out ≡ w.view.issued - gone_by w.view.returns)

-- the cancels that the return word shows, where it shows all callers as gone
abbrev pub Returns : Sat → Result ℕ ℕ → Sat → Type 0
Returns v (Ok c) w =
    ReturnIsLoaded v w × (gone_by w.view.returns ≡ w.view.issued) × (c ≡ cancels_by w.view.returns)
Returns v (Err out) w =
    ReturnIsLoaded v w × (gone_by w.view.returns < w.view.issued)
    × (out ≡ w.view.issued - gone_by w.view.returns)

-- Whatever the words are, where the rule holds of them and the keeper has this view: all callers
-- that it issued are gone, with that many cancels in their lists. What was begun and has not ended
-- is then live by the words, as long as no passer cancelled.
abbrev pub AccountsFor : View → ℕ → Type 0
AccountsFor w c =
    (t : State ℕ View) → Ruled (length w.seen) t → get_elem? t.views 0 ≡ some w
    → (total goes t.views ≡ w.issued) × (total own_cancels t.views ≡ c)
    × (NoPasserCancelled t.views → begins_in w.writes
    ≡ expiries_in w.writes + removals_in w.writes + c + below lives t.words (length w.seen))

-- Whatever the words are, where the rule holds of them and the keeper has this view, and whoever is
-- out: the accepted cancels of all callers and passers are as many as the cancelled words that the
-- keeper overwrote, and those that are cancelled still. What was begun was ended by the keeper, is
-- one of those, or is live.
abbrev pub AccountsAnyhow : View → Type 0
AccountsAnyhow w =
    (t : State ℕ View) → Ruled (length w.seen) t → get_elem? t.views 0 ≡ some w
    → (total made_cancels t.views ≡ w.reaped + below withdrawn t.words (length w.seen))
    × (begins_in w.writes
    ≡ expiries_in w.writes + removals_in w.writes
    + (w.reaped + below withdrawn t.words (length w.seen)) + below lives t.words (length w.seen))

-- Once the keeper saw no word live, its own view tells how many cancels of callers and passers were
-- accepted, whoever is out.
abbrev pub CountsCancels : View → Type 0
CountsCancels w =
    NoneLive w → (t : State ℕ View) → Ruled (length w.seen) t → get_elem? t.views 0 ≡ some w
    → (total made_cancels t.views ≡ w.reaped + below withdrawn w.seen (length w.seen))
    × (begins_in w.writes
    ≡ expiries_in w.writes + removals_in w.writes
    + (w.reaped + below withdrawn w.seen (length w.seen)))

-- what was ended by the keeper and cancelled by c accepted cancels is no more than what was begun
abbrev pub EndsFit : Counts → ℕ → Type 0
EndsFit n c = n.expiries + n.removals + c ≤ n.begins

-- There was such a moment, and at each all is accounted for.
abbrev pub Accounts : Sat → ℕ → Type 0
Accounts k c = Stood k.view × AccountsFor k.view c
