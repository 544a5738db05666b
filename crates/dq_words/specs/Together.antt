-- What two seats of one table know together.
use Rattle.std.specs.Prelude.{ℕ}
use Rattle.dq_words.specs.declared.views.View.{View}
use Rattle.dq_words.specs.Files.{IsIn, ends_at, cancels_at}
use Rattle.dq_words.specs.Places.{StoodWith}
use Rattle.dq_words.specs.Plays.{Covers}
use Rattle.dq_words.specs.Seats.{Sat}

-- Each end that the keeper wrote is at no deadline before one that an accepted extend of the caller
-- asked for at that stamp, and the caller cancelled nothing there.
abbrev pub EndsCover : View → View → Type 0
EndsCover v u =
    (i s : ℕ) (e : ℕ × ℕ) → IsIn (ends_at i s v.writes) e → Covers u.calls i s e.1

-- both at one moment of the rule
abbrev pub IsBeside : Sat → Sat → Type 0
IsBeside k c = EndsCover k.view c.view × StoodWith k.view c.view.calls

-- What an accepted cancel of v gave up covers the calls of u at that stamp: no accepted extend of u
-- asked there for a later deadline, and u cancelled nothing there.
abbrev pub CancelsCover : View → View → Type 0
CancelsCover v u =
    (i s d : ℕ) → IsIn (cancels_at i s v.calls) d → Covers u.calls i s d
