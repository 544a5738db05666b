-- The code and the numbers of each answer.
use Rattle.std.specs.Prelude.{ℕ}
use Rattle.dq_core.specs.declared.errors.CoreError.{CoreError}
use Rattle.dq_core.specs.declared.errors.CoreError.TheVariants.{TooFar, Full, Missing, WasCancelled}
use Rattle.dq_core.specs.declared.errors.CoreError.TheVariants.{Worn, TickTooLarge, BadConfig}
use Rattle.dq_core.specs.declared.errors.CoreError.TheVariants.{NoMemory}
use Rattle.dq_core.specs.declared.errors.ReapError.{ReapError}
use Rattle.dq_core.specs.declared.errors.ReapError.TheVariants.{Missing as NoneToReap, Live}
use Rattle.dq_core.specs.declared.words.CallError.{CallError}
use Rattle.dq_core.specs.declared.words.CallError.TheVariants.{TooFar as TooFarOff, Unknown, Stale}
use Rattle.dq_core.specs.declared.words.CallError.TheVariants.{Ended}
use Rattle.dq_core.specs.declared.words.Look.{Look}
use Rattle.dq_core.specs.declared.words.Look.TheVariants.{StillLive, LookCancelled, LookExpired}
use Rattle.dq_core.specs.declared.words.Look.TheVariants.{LookRemoved}
use Rattle.dq_words.specs.declared.keeper.WordsError.{WordsError}
use Rattle.dq_words.specs.declared.keeper.WordsError.TheVariants.{BadConfig as NoSize}
use Rattle.dq_words.specs.declared.keeper.WordsError.TheVariants.{NoMemory as NoRoom}
use Rattle.dq_words.specs.declared.keeper.WordsError.TheVariants.{TooManyHandles}
use Rattle.dq_c.specs.declared.answers.DqAnswer.{DqAnswer}
use Rattle.dq_c.specs.declared.answers.TheConstants.{DQ_OK, DQ_EMPTY, DQ_HELD, DQ_TOO_FAR, DQ_FULL}
use Rattle.dq_c.specs.declared.answers.TheConstants.{DQ_MISSING, DQ_WAS_CANCELLED, DQ_WORN}
use Rattle.dq_c.specs.declared.answers.TheConstants.{DQ_TICK_TOO_LARGE, DQ_BAD_CONFIG, DQ_NO_MEMORY}
use Rattle.dq_c.specs.declared.answers.TheConstants.{DQ_UNKNOWN, DQ_STALE, DQ_ENDED}
use Rattle.dq_c.specs.declared.answers.TheConstants.{DQ_TOO_MANY_CALLERS, DQ_LIVE, DQ_CANCELLED}
use Rattle.dq_c.specs.declared.answers.TheConstants.{DQ_EXPIRED, DQ_REMOVED, DQ_NO_PLACE}
use Rattle.dq_c.specs.declared.answers.TheConstants.{DQ_STILL_LIVE}

-- a code with its two numbers
abbrev pub two_numbers : ℕ → ℕ → ℕ → DqAnswer
two_numbers code first second = record { code = code; first = first; second = second }

-- a code with one number
abbrev pub with_number : ℕ → ℕ → DqAnswer
with_number code first = two_numbers code first 0

-- a code that carries no number
abbrev pub no_numbers : ℕ → DqAnswer
no_numbers code = two_numbers code 0 0

-- done, with nothing to tell
abbrev pub done : DqAnswer
done = no_numbers DQ_OK

-- done, with a number to tell
abbrev pub tells : ℕ → DqAnswer
tells number = with_number DQ_OK number

-- the handle holds nothing
abbrev pub empty : DqAnswer
empty = no_numbers DQ_EMPTY

-- the handle holds something already
abbrev pub held : DqAnswer
held = no_numbers DQ_HELD

-- the row has no place to write to
abbrev pub no_place : DqAnswer
no_place = no_numbers DQ_NO_PLACE

-- why the owner's call is refused
abbrev pub core_answer : CoreError → DqAnswer
core_answer (TooFar limit) = with_number DQ_TOO_FAR limit
core_answer (Full linked worn) = two_numbers DQ_FULL linked worn
core_answer Missing = no_numbers DQ_MISSING
core_answer WasCancelled = no_numbers DQ_WAS_CANCELLED
core_answer Worn = no_numbers DQ_WORN
core_answer (TickTooLarge limit) = with_number DQ_TICK_TOO_LARGE limit
core_answer BadConfig = no_numbers DQ_BAD_CONFIG
core_answer NoMemory = no_numbers DQ_NO_MEMORY

-- why no entry is reaped
abbrev pub reap_answer : ReapError → DqAnswer
reap_answer NoneToReap = no_numbers DQ_MISSING
reap_answer Live = no_numbers DQ_STILL_LIVE

-- why no caller is issued
abbrev pub words_answer : WordsError → DqAnswer
words_answer NoSize = no_numbers DQ_BAD_CONFIG
words_answer NoRoom = no_numbers DQ_NO_MEMORY
words_answer (TooManyHandles limit) = with_number DQ_TOO_MANY_CALLERS limit

-- how an entry stands, under a code: as what, and at which deadline
abbrev pub look_answer : ℕ → Look → DqAnswer
look_answer code (StillLive d) = two_numbers code DQ_LIVE d
look_answer code LookCancelled = two_numbers code DQ_CANCELLED 0
look_answer code (LookExpired d) = two_numbers code DQ_EXPIRED d
look_answer code (LookRemoved d) = two_numbers code DQ_REMOVED d

-- why a call by key is refused
abbrev pub call_answer : CallError → DqAnswer
call_answer (TooFarOff limit) = with_number DQ_TOO_FAR limit
call_answer Unknown = no_numbers DQ_UNKNOWN
call_answer (Stale seen) = with_number DQ_STALE seen
call_answer (Ended how) = look_answer DQ_ENDED how
