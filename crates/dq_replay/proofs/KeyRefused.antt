-- What no call by the key of a live name refuses.
use Rattle.std.proofs.Common.{ℕ, ◌≤◌, inl, inr, List, ap, arith}
use Rattle.dq_ticks.specs.Keys.{KeyName}
use Rattle.dq_ticks.specs.declared.TheConstants.{LAST_TICK}
use Rattle.dq_core.specs.declared.words.CallError.{CallError}
use Rattle.dq_core.specs.declared.words.CallError.TheVariants.{TooFar, Unknown, Stale, Ended}
use Rattle.dq_core.specs.WordRows.{CallRefused}
use Rattle.dq_core.specs.Core.{Core, IsLawfulCore}
use Rattle.dq_core.specs.KeyCalls.{KeyRefused, ExtendingRefused}
use Rattle.dq_replay.specs.Leases.{live_lease}
use Rattle.dq_replay.specs.LeasesState.{IsSomeKey}
use Rattle.dq_replay.proofs.Refused.{inside_rows, word_live, word_stamp, stamp_some}

pub call_live : {W : Type 0} (b : Core (List ℕ) W) (k : KeyName) (e : CallError) → IsLawfulCore b → IsSomeKey b k → CallRefused b.known k e → ⊥
call_live b k Unknown law (name, d, live) (inl past) =
    let inside = inside_rows b law k.entry.index (live_lease k.entry.born name d) live.0 in
    let same = law.as_known in
    absurd (omega (arith, inside, past, same))
call_live b k Unknown law (name, d, live) (inr (inl zero_stamp)) = let some = stamp_some b k name d law live in absurd (omega (arith, zero_stamp, some))
call_live b k Unknown law (name, d, live) (inr (inr less)) = let same = word_stamp b k name d law live in absurd (omega (arith, less, same))
call_live b k (Stale seen) law (name, d, live) (inside, some, seen_is, less) = let same = word_stamp b k name d law live in absurd (omega (arith, seen_is, less, same))
call_live b k (Ended how) law (name, d, live) (inside, some, same, ended, how_is) = ended (word_live b k name d law live).0
call_live b k (TooFar limit) law live r = r

key_called : {W : Type 0} (b : Core (List ℕ) W) (k : KeyName) (e : CallError) → IsLawfulCore b → IsSomeKey b k → KeyRefused b k e → ⊥
key_called b k Unknown law (name, d, live) (inl away) = away (ap (λ z. z.entry.shard) live.1)
key_called b k Unknown law live (inr refused) = call_live b k Unknown law live refused
key_called b k (Stale seen) law live r = call_live b k (Stale seen) law live r.1
key_called b k (Ended how) law live r = call_live b k (Ended how) law live r.1
key_called b k (TooFar limit) law live r = r.1

pub extend_live : {W : Type 0} (b : Core (List ℕ) W) (k : KeyName) (when : ℕ) (e : CallError) → IsLawfulCore b → when ≤ LAST_TICK → IsSomeKey b k → ExtendingRefused b k when e → ⊥
extend_live b k when Unknown law far live r = key_called b k Unknown law live r.1
extend_live b k when (Stale seen) law far live r = key_called b k (Stale seen) law live r.1
extend_live b k when (Ended how) law far live r = key_called b k (Ended how) law live r.1
extend_live b k when (TooFar limit) law far live r = let beyond = r.1 in absurd (omega (arith, beyond, far))

pub cancel_live : {W : Type 0} (b : Core (List ℕ) W) (k : KeyName) (e : CallError) → IsLawfulCore b → IsSomeKey b k → KeyRefused b k e → ⊥
cancel_live b k e law live r = key_called b k e law live r
