-- Numbers of writes and calls.
use Rattle.std.specs.Prelude.{ℕ, zero, suc, ◌≡◌, ◌+◌, ◌*◌, ◌/◌, ◌%◌, ◌==◌, ◌&&◌, not, if◌then◌else◌}
use Rattle.std.specs.Prelude.{List, [], ◌∷◌}
use Rattle.std.specs.Prelude.{slice_index}
use Rattle.dq_words.specs.declared.views.View.{View}
use Rattle.dq_ticks.specs.Word.{stamp_of, mark_of}
use Rattle.dq_ticks.specs.declared.TheConstants.{CAPACITY_LIMIT, LAST_STAMP}
use Rattle.dq_words.specs.declared.seated.TheConstants.{ONE_CANCEL}
use Rattle.dq_words.specs.declared.views.Call.{Call}
use Rattle.dq_words.specs.declared.views.Call.TheVariants.{Extend, Cancel}
use Rattle.dq_words.specs.declared.views.Write.{Write}
use Rattle.dq_words.specs.declared.views.Write.TheVariants.{Begin, Expired, Renewed, Removed}

-- the most entries that a table begins: as many slots as may be, of all stamps each
abbrev pub most_begins : ℕ
most_begins = CAPACITY_LIMIT * LAST_STAMP

-- the callers that a return word shows as gone, and their cancels
abbrev pub gone_by : ℕ → ℕ
gone_by word = word % ONE_CANCEL

abbrev pub cancels_by : ℕ → ℕ
cancels_by word = word / ONE_CANCEL

-- how often the writes begin an entry
abbrev pub begins_in : List Write → ℕ
begins_in [] = 0
begins_in (Begin i s b ∷ ws) = begins_in ws + 1
begins_in (Expired i s d ∷ ws) = begins_in ws
begins_in (Renewed i s d b ∷ ws) = begins_in ws
begins_in (Removed i s d ∷ ws) = begins_in ws

-- how often they end one as expired
abbrev pub expiries_in : List Write → ℕ
expiries_in [] = 0
expiries_in (Begin i s b ∷ ws) = expiries_in ws
expiries_in (Expired i s d ∷ ws) = expiries_in ws + 1
expiries_in (Renewed i s d b ∷ ws) = expiries_in ws
expiries_in (Removed i s d ∷ ws) = expiries_in ws

-- how often they end one as removed
abbrev pub removals_in : List Write → ℕ
removals_in [] = 0
removals_in (Begin i s b ∷ ws) = removals_in ws
removals_in (Expired i s d ∷ ws) = removals_in ws
removals_in (Renewed i s d b ∷ ws) = removals_in ws
removals_in (Removed i s d ∷ ws) = removals_in ws + 1

-- how many of the accepted calls are cancels
abbrev pub cancels_in : List Call → ℕ
cancels_in [] = 0
cancels_in (Extend i s w ∷ cs) = cancels_in cs
cancels_in (Cancel i s d ∷ cs) = cancels_in cs + 1

-- f of each view, added up
abbrev pub total : (View → ℕ) → List View → ℕ
total f [] = 0
total f (v ∷ vs) = f v + total f vs

-- 1 for a passer: a seat that a load made, for one call, and that the keeper never issued
abbrev pub passes_of : View → ℕ
passes_of v = if v.passes then 1 else 0

-- 1 for a caller that was given back
abbrev pub goes : View → ℕ
goes v = if v.passes then 0 else (if v.gone then 1 else 0)

-- the cancels of a caller that was given back
abbrev pub gone_cancels : View → ℕ
gone_cancels v = if v.passes then 0 else (if v.gone then cancels_in v.calls else 0)

-- the cancels of a caller, given back or not
abbrev pub own_cancels : View → ℕ
own_cancels v = if v.passes then 0 else cancels_in v.calls

-- the cancels of a passer
abbrev pub passed_cancels : View → ℕ
passed_cancels v = if v.passes then cancels_in v.calls else 0

-- the cancels of a seat, a caller's or a passer's
abbrev pub made_cancels : View → ℕ
made_cancels v = cancels_in v.calls

-- 1 where the word is live at a stamp above 0
abbrev pub lives : ℕ → ℕ
lives n = if (mark_of n == 0) && not (stamp_of n == 0) then 1 else 0

-- no passer cancelled anything, as where nobody opened the words
abbrev pub NoPasserCancelled : List View → Type 0
NoPasserCancelled vs = total passed_cancels vs ≡ 0

-- 1 where the word is cancelled
abbrev pub withdrawn : ℕ → ℕ
withdrawn n = if mark_of n == 1 then 1 else 0

-- f of each of the first k words, added up
abbrev pub below : (ℕ → ℕ) → List ℕ → ℕ → ℕ
below f words zero = 0
below f words (suc k) = f (slice_index words k) + below f words k

-- how many callers the keeper issued: its view is the first
abbrev pub issued_in : List View → ℕ
issued_in [] = 0
issued_in (v ∷ vs) = v.issued

-- the return word that the keeper saw last
abbrev pub returns_in : List View → ℕ
returns_in [] = 0
returns_in (v ∷ vs) = v.returns

-- how many cancelled words the keeper overwrote by a begin
abbrev pub reaped_in : List View → ℕ
reaped_in [] = 0
reaped_in (v ∷ vs) = v.reaped

-- how many stamps the writes give the slot i
abbrev pub given_in : ℕ → List Write → ℕ
given_in i [] = 0
given_in i (Begin j s b ∷ ws) = (if i == j then 1 else 0) + given_in i ws
given_in i (Expired j s d ∷ ws) = given_in i ws
given_in i (Renewed j s d b ∷ ws) = (if i == j then 1 else 0) + given_in i ws
given_in i (Removed j s d ∷ ws) = given_in i ws

-- each write gives its slot the next stamp, or ends the last that was given
abbrev pub InOrder : List Write → Type 0
InOrder [] = Unit {0}
InOrder (Begin i s b ∷ ws) = (s ≡ given_in i ws + 1) × InOrder ws
InOrder (Expired i s d ∷ ws) = (s ≡ given_in i ws) × InOrder ws
InOrder (Renewed i s d b ∷ ws) = (s ≡ given_in i ws) × InOrder ws
InOrder (Removed i s d ∷ ws) = (s ≡ given_in i ws) × InOrder ws
