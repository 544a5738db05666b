-- What a sweep and a poll leave of a queue of names.
use Rattle.std.proofs.Common.{◌≡◌, ℕ, ◌<◌, ◌≤◌, false, List, [], length, refl, ap, sym, ◌∙◌, subst, arith}
use Rattle.std.specs.Prelude.{max}
use Rattle.std.specs.List.{count_by}
use Rattle.dq_core.specs.declared.outcomes.Expired.{Expired}
use Rattle.dq_core.specs.Slots.{is_held}
use Rattle.dq_core.specs.Machine.{Machine, due}
use Rattle.dq_core.specs.Core.{Core, machine, IsLawfulCore}
use Rattle.dq_core.specs.Calls.{SameCore, IsPolled, noting}
use Rattle.dq_core.specs.declared.outcomes.Turn.TheVariants.{Out, Waiting, Idle}
use Rattle.dq_core.specs.Sweeps.{Sweeps}
use Rattle.dq_replay.specs.Leases.{live_of}
use Rattle.dq_replay.specs.LeasesState.{KeepsLive, IsRoomy, IsLeaseOut, IsResting}
use Rattle.dq_replay.proofs.Runs.{kept_same, kept_then, kept_way, kept_sweep, count_live, none_due}
use Rattle.dq_replay.proofs.KeyCalls.{same_queue}

pub swept_roomy : {W : Type 0} (b c : Core (List ℕ) W) (n : ℕ) → IsLawfulCore c → SameCore b c → Sweeps false b n c → length (live_of (machine b).table) < length b.slots.rows → IsRoomy b c
swept_roomy b c n law same s few =
    let way = kept_sweep b.shard b.slots.last_stamp (machine b) (machine c) s.reaped.2.run in
    let live : length (live_of (machine c).table) ≡ count_by is_held c.slots.rows = count_live c.slots.rows c.known law.as_known (λ i e is. s.none i e is) in
    let kept : length (live_of (machine c).table) ≡ length (live_of (machine b).table) = ap length way.0.live in
    let rows = same.2 in
    record { same = same_queue b c same; kept = way.0; tick = way.1; noted = s.reaped.2.out.noted; room = omega (arith, live, kept, few, rows) }

-- a poll to a tick that isn't before the noted one

noting_kept : {W : Type 0} (b : Core (List ℕ) W) (now : ℕ) → KeepsLive b.shard (machine b) (machine (noting b now))
noting_kept b now = kept_same b.shard (machine b) (machine (noting b now)) refl

-- an entry came out
pub out_gone : {W : Type 0} (b c : Core (List ℕ) W) (now : ℕ) (x : Expired (List ℕ)) → SameCore b c → b.noted ≤ now → IsPolled false b now (Out x) c → IsLeaseOut b now (record { name = x.value; deadline = x.deadline }) c
out_gone b c now x same later polled =
    let answered = polled.2 in
    let m = answered.run.0 in
    let out = answered.run.2 in
    let step = out.0.0 in
    let noted : c.noted ≡ now = let told = polled.3 in omega (arith, told, later) in
    let kept : m.noted ≡ c.noted = ap (λ n. n.noted) (sym step.7) in
    let due : x.deadline ≤ m.noted = step.5 in
    record {
      same = same_queue b c same;
      way = (
        m,
        x.key.entry.index,
        x.key.entry.born,
        kept_then b.shard (machine b) (machine (noting b now)) m (noting_kept b now) (kept_way b.shard b.slots.last_stamp (machine (noting b now)) m answered.run.1),
        out.0.1.1,
        step.7,
      );
      due = omega (arith, noted, kept, due);
      noted = noted;
    }

resting : {W : Type 0} (b c : Core (List ℕ) W) (now : ℕ) (m : Machine (List ℕ)) → SameCore b c → b.noted ≤ now → c.noted ≡ max b.noted now → KeepsLive b.shard (machine b) m → machine c ≡ m → (machine c).tick ≡ (machine c).noted
    → due (machine c) (machine c).noted ≡ [] → IsResting b now c
resting b c now m same later told kept is tick none =
    let noted : c.noted ≡ now = omega (arith, told, later) in
    record {
      same = same_queue b c same;
      kept = subst (λ z. KeepsLive b.shard (machine b) z) (sym is) kept;
      none_due = none_due now (machine c).table (subst (λ t. due (machine c) t ≡ []) noted none);
      tick = tick ∙ noted;
      noted = noted;
    }

pub waiting_resting : {W : Type 0} (b c : Core (List ℕ) W) (now next : ℕ) → SameCore b c → b.noted ≤ now → IsPolled false b now (Waiting next) c → IsResting b now c
waiting_resting b c now next same later polled =
    let run = polled.2.run in
    resting b c now run.0 same later polled.3 (kept_then b.shard (machine b) (machine (noting b now)) run.0 (noting_kept b now) (kept_way b.shard b.slots.last_stamp (machine (noting b now)) run.0 run.1))
    run.2.0 run.2.1 run.2.2

pub idle_resting : {W : Type 0} (b c : Core (List ℕ) W) (now : ℕ) → SameCore b c → b.noted ≤ now → IsPolled false b now Idle c → IsResting b now c
idle_resting b c now same later polled =
    let run = polled.2.run in
    resting b c now run.0 same later polled.3 (kept_then b.shard (machine b) (machine (noting b now)) run.0 (noting_kept b now) (kept_way b.shard b.slots.last_stamp (machine (noting b now)) run.0 run.1))
    run.2.0 run.2.1 run.2.2
