-- What a caller's calls answer.
use Rattle.std.specs.Prelude.{◌≡◌, ◌≢◌, ◌⊎◌, ℕ, ◌<◌, ◌≤◌, false, List, ◌∷◌, length, slice_index}
use Rattle.std.specs.Prelude.{slice_set, Result, Ok, Err}
use Rattle.dq_ticks.specs.declared.TheConstants.{LAST_TICK}
use Rattle.dq_ticks.specs.Keys.{KeyName}
use Rattle.dq_ticks.specs.Word.{word, stamp_of, mark_of, parts_of}
use Rattle.dq_core.specs.declared.words.Look.{Look}
use Rattle.dq_core.specs.declared.words.CallError.{CallError}
use Rattle.dq_core.specs.declared.words.CallError.TheVariants.{TooFar, Unknown, Stale, Ended}
use Rattle.dq_core.specs.Words.{look_by}
use Rattle.dq_words.specs.declared.views.View.{View}
use Rattle.dq_words.specs.declared.views.Call.TheVariants.{Extend, Cancel}
use Rattle.dq_words.specs.declared.views.StepKind.{StepKind}
use Rattle.dq_words.specs.declared.views.StepKind.TheVariants.{CallerLoad, ExtendMax, CancelMax}
use Rattle.dq_words.specs.Counts.{most_begins, cancels_in}
use Rattle.dq_words.specs.Plays.{Covers, NoneBeyond, Fair}

-- the view of a caller that is out
abbrev pub IsCaller : View → Type 0
IsCaller v = (v.keeps ≡ false) × (v.gone ≡ false) × (cancels_in v.calls ≤ most_begins)

-- what the mark and the field of a word show
abbrev pub look_of : ℕ → Look
look_of n = look_by (parts_of n).mark (parts_of n).field

-- the word of the slot i that is seen
abbrev pub seen_at : View → ℕ → ℕ
seen_at v i = slice_index v.seen i

-- A call whose view went from v to w read the word of the slot i, which is then seen. It lowered no
-- seen word, and changed nothing else but the steps and the calls.
pub record Reads (v w : View) (i : ℕ) : Type 0 where
  pub inside : i < length v.seen
  pub counted : length v.steps < length w.steps
  pub rises : seen_at v i ≤ seen_at w i
  pub only :
      w ≡ record v { seen = slice_set v.seen i (seen_at w i); steps = w.steps; calls = w.calls }

-- a key that no slot has
abbrev pub IsForged : View → KeyName → Type 0
IsForged v k = (length v.seen ≤ k.entry.index) ⊎ (k.stamp ≡ 0)

-- the word n refuses a key of the stamp s
abbrev pub Refuses : ℕ → ℕ → CallError → Type 0
Refuses n s (TooFar limit) = ⊥
Refuses n s Unknown = stamp_of n < s
Refuses n s (Stale seen) = (seen ≡ stamp_of n) × (s < seen)
Refuses n s (Ended how) = (stamp_of n ≡ s) × (mark_of n ≢ 0) × (how ≡ look_of n)

-- The word of the key's slot refused it, by the steps `made`. It is then seen, and agrees with the
-- caller's own accepted calls.
pub record WordRefuses
    (v : View) (k : KeyName) (e : CallError) (made : List StepKind) (w : View) : Type 0 where
  pub named : ¬ IsForged v k
  pub reads : Reads v w k.entry.index
  pub steps : w.steps ≡ made
  pub shows : Refuses (seen_at w k.entry.index) k.stamp e
  pub fair : Fair w.calls k.entry.index (seen_at w k.entry.index)
  pub calls : w.calls ≡ v.calls

-- A call of a key was refused: at once and with no step where no slot has the key, else by the
-- word.
abbrev pub IsRefused : View → KeyName → CallError → List StepKind → View → Type 0
IsRefused v k e made w = (IsForged v k × (e ≡ Unknown) × (w ≡ v)) ⊎ WordRefuses v k e made w

-- The steps of an extend or a cancel that the word refused: the load, and where that showed no
-- lower stamp than the key's the step that failed, which counts as a load.
abbrev pub tried : CallError → List StepKind → List StepKind
tried (TooFar limit) steps = steps
tried Unknown steps = CallerLoad ∷ steps
tried (Stale seen) steps = CallerLoad ∷ CallerLoad ∷ steps
tried (Ended how) steps = CallerLoad ∷ CallerLoad ∷ steps

-- A call of a key was accepted at the deadline d, in agreement with the caller's calls before.
abbrev pub IsAccepted : View → KeyName → ℕ → Type 0
IsAccepted v k d =
    Covers v.calls k.entry.index k.stamp d × NoneBeyond v.calls k.entry.index k.stamp

-- An extend to `when` was accepted by one load and one step: the word is then live at d, not before
-- the deadline asked for, and the call is recorded.
pub record ExtendAccepted (v : View) (k : KeyName) (when d : ℕ) (w : View) : Type 0 where
  pub in_range : when ≤ LAST_TICK
  pub stamped : 0 < k.stamp
  pub reads : Reads v w k.entry.index
  pub steps : w.steps ≡ ExtendMax ∷ CallerLoad ∷ v.steps
  pub now : seen_at w k.entry.index ≡ word k.stamp 0 d
  pub asked : when ≤ d
  pub small : d ≤ LAST_TICK
  pub agrees : IsAccepted v k d
  pub calls : w.calls ≡ Extend k.entry.index k.stamp when ∷ v.calls

-- An extend is refused as too far exactly beyond the last tick, and then by the key.
abbrev pub CallerExtends : View → KeyName → ℕ → Result ℕ CallError → View → Type 0
CallerExtends v k when (Ok d) w = ExtendAccepted v k when d w
CallerExtends v k when (Err (TooFar limit)) w =
    (LAST_TICK < when) × (limit ≡ LAST_TICK) × (w ≡ v)
CallerExtends v k when (Err e) w = (when ≤ LAST_TICK) × IsRefused v k e (tried e v.steps) w

-- A cancel was accepted by one load and one step: the word is then cancelled, d is the deadline
-- that it gave up, of which the live word is not below the one seen before, and the call is
-- recorded.
pub record CancelAccepted (v : View) (k : KeyName) (d : ℕ) (w : View) : Type 0 where
  pub stamped : 0 < k.stamp
  pub reads : Reads v w k.entry.index
  pub steps : w.steps ≡ CancelMax ∷ CallerLoad ∷ v.steps
  pub now : seen_at w k.entry.index ≡ word k.stamp 1 0
  pub gave_up : seen_at v k.entry.index ≤ word k.stamp 0 d
  pub small : d ≤ LAST_TICK
  pub agrees : IsAccepted v k d
  pub calls : w.calls ≡ Cancel k.entry.index k.stamp d ∷ v.calls

-- A cancel is refused by the key.
abbrev pub CallerCancels : View → KeyName → Result ℕ CallError → View → Type 0
CallerCancels v k (Ok d) w = CancelAccepted v k d w
CallerCancels v k (Err e) w = IsRefused v k e (tried e v.steps) w

-- A look was answered by one load: it tells what the word that is then seen shows, and that word
-- agrees with the caller's own accepted calls.
pub record LookAnswered (v : View) (k : KeyName) (how : Look) (w : View) : Type 0 where
  pub stamped : 0 < k.stamp
  pub reads : Reads v w k.entry.index
  pub steps : w.steps ≡ CallerLoad ∷ v.steps
  pub stamp : stamp_of (seen_at w k.entry.index) ≡ k.stamp
  pub answer : how ≡ look_of (seen_at w k.entry.index)
  pub fair : Fair w.calls k.entry.index (seen_at w k.entry.index)
  pub calls : w.calls ≡ v.calls

-- A look is refused by the key, and not where the word has ended. Where the word refuses it, it
-- made that load too.
abbrev pub CallerLooks : View → KeyName → Result Look CallError → View → Type 0
CallerLooks v k (Ok how) w = LookAnswered v k how w
CallerLooks v k (Err (Ended how)) w = ⊥
CallerLooks v k (Err e) w = IsRefused v k e (CallerLoad ∷ v.steps) w
