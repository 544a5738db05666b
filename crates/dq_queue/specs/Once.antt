-- What a call enters, once.
use Rattle.std.specs.Prelude.{◌≡◌, List, ◌∷◌, ◌++◌, Option, true, false}
use Rattle.dq_queue.specs.declared.journal.views.Entry.{Entry}
use Rattle.dq_queue.specs.declared.journal.views.View.{View}
use Rattle.dq_queue.specs.History.{entry, entries_by, Continues}

module _ {E : Type 0} where
  -- the witness under the lock, with no caller's number
  abbrev pub IsUnderLock : View E → Type 0
  IsUnderLock v = (v.keeps ≡ true) × (v.holds ≡ false)

  -- a caller's witness, with its number
  abbrev pub IsWithNumber : View E → Type 0
  IsWithNumber v = (v.keeps ≡ false) × (v.holds ≡ true)

  -- The history under the lock went on from what the caller had seen, and has one entry more, which
  -- is the caller's. Of the caller's number it has that one and those that it had entered before,
  -- and no other.
  abbrev pub EntersOnce : View E → View E → Option E → View E → Type 0
  EntersOnce h v x w =
      (between : List (Entry E)) × (h.log ≡ between ++ v.log)
      × (w.log ≡ entry v.number x ∷ h.log) × (w.mine ≡ entry v.number x ∷ v.mine)
      × (entries_by w.number w.log ≡ w.mine) × (w.number ≡ v.number)

  -- The caller has seen all of the history under the lock, which went on from what it had seen, and
  -- has of its number just the entries that it had entered.
  abbrev pub IsTold : View E → View E → View E → Type 0
  IsTold h v w =
      Continues w.log v.log × (w.log ≡ h.log) × (w.mine ≡ v.mine)
      × (entries_by w.number w.log ≡ w.mine) × (w.number ≡ v.number)
