-- What the calls of a queue do to the slot of a live name.
use Rattle.std.proofs.Common.{◌≡◌, ℕ, ◌+◌, false, List, refl, ap, sym, ◌∙◌, subst}
use Rattle.std.specs.Prelude.{Option, Some, None, max}
use Rattle.dq_ticks.specs.Keys.{KeyName}
use Rattle.dq_core.specs.declared.outcomes.Removed.{Removed}
use Rattle.dq_core.specs.Words.{word_at}
use Rattle.dq_core.specs.Machine.{Machine, table_at, put, Has, Step, Reset, Extend, Cancel, Remove}
use Rattle.dq_core.specs.Machine.{Entry}
use Rattle.dq_core.specs.Core.{Core, machine, IsLawfulCore}
use Rattle.dq_core.specs.Calls.{SameCore, IsInserted, IsReset, IsRemoved, IsFoundLive}
use Rattle.dq_replay.specs.Leases.{live_lease, key_at}
use Rattle.dq_replay.specs.LeasesState.{IsLiveKey, IsSameQueue, IsNewLease, IsResetTo, IsExtendedTo, IsEndedLease, IsToldOf}
use Rattle.dq_replay.proofs.LiveSlots.{put_here}
use Rattle.dq_replay.proofs.Runs.{alone}
use Rattle.dq_replay.proofs.Refused.{word_live}

pub same_queue : {W : Type 0} (b c : Core (List ℕ) W) → SameCore b c → IsSameQueue b c
same_queue b c s = record { shard = s.0; last = s.1; rows = s.2 }

some_entry : (a b : Entry (List ℕ)) → ◌≡◌ {A = Option (Entry (List ℕ))} (Some a) (Some b) → a ≡ b
some_entry a b q = cc

some_number : (a b : ℕ) → ◌≡◌ {A = Option ℕ} (Some a) (Some b) → a ≡ b
some_number a b q = cc

-- the entry of a live name
entry_is : {W : Type 0} (b : Core (List ℕ) W) (k : KeyName) (name : List ℕ) (d : ℕ) (e : Entry (List ℕ)) → IsLiveKey b k name d → Has (machine b) k.entry.index e → e ≡ live_lease k.entry.born name d
entry_is b k name d e live has = some_entry e (live_lease k.entry.born name d) (sym has.1 ∙ live.0)

-- the key of an entry of the queue
key_path : (k : KeyName) (shard : ℕ) (m : Machine (List ℕ)) (i born : ℕ) → k.entry.shard ≡ shard → k.entry.index ≡ i → k.entry.born ≡ born → k.stamp ≡ (table_at m i).stamp → k ≡ key_at shard m i born
key_path k shard m i born p q r s = λ j. record { entry = record { shard = p j; index = q j; born = r j }; stamp = s j }

pub inserted_new : {W : Type 0} (b c : Core (List ℕ) W) (name : List ℕ) (when : ℕ) (k : KeyName) → SameCore b c → IsInserted b name when k c → IsNewLease b name when k c
inserted_new b c name when k same ins =
    let step = ins.step in
    let s : ℕ = (table_at (machine b) k.entry.index).stamp + 1 in
    let d : ℕ = max when (machine b).tick in
    let stamp : (table_at (machine c) k.entry.index).stamp ≡ s = ap (λ m. (table_at m k.entry.index).stamp) step.3 ∙ ap (λ x. x.stamp) (put_here (machine b) k.entry.index s (Some (live_lease s name d)) step.0) in
    let born : s ≡ k.entry.born = sym stamp ∙ (ins.stamp ∙ sym ins.born) in
    record {
      free = step.1;
      changed = record { same = same_queue b c same; inside = step.0; machine_is = step.3 ∙ ap (λ z. put (machine b) k.entry.index s (Some (live_lease z name d))) born };
      key = key_path k b.shard (machine c) k.entry.index k.entry.born ins.shard refl refl (sym ins.stamp);
    }

pub reset_changed : {W : Type 0} (b c : Core (List ℕ) W) (k new : KeyName) (when : ℕ) (name : List ℕ) (d : ℕ) → SameCore b c → IsReset false b k.entry when new c → IsLiveKey b k name d → IsResetTo b k when new c name
reset_changed b c k new when name d same r live =
    let here : r.run.0 ≡ machine b = alone b.slots.last_stamp (machine b) r.run.0 r.run.1 in
    let step = subst (λ m. Step b.slots.last_stamp m (Reset k.entry.index k.entry.born when) (machine c)) here r.run.2 in
    let is : step.0 ≡ live_lease k.entry.born name d = entry_is b k name d step.0 live step.2 in
    let s : ℕ = (table_at (machine b) k.entry.index).stamp + 1 in (
      record { same = same_queue b c same; inside = step.2.0; machine_is = step.6 ∙ ap (λ e. put (machine b) k.entry.index s (Some (live_lease e.born e.value (max when (machine b).tick)))) is },
      key_path new b.shard (machine c) k.entry.index k.entry.born (ap (λ e. e.shard) r.key ∙ ap (λ z. z.entry.shard) live.1) (ap (λ e. e.index) r.key) (ap (λ e. e.born) r.key) (sym r.stamp),
    )

pub extend_changed : {W : Type 0} (b c : Core (List ℕ) W) (k : KeyName) (when result : ℕ) (name : List ℕ) (d : ℕ) → IsLawfulCore b → SameCore b c → result ≡ max when (word_at b.known k.entry.index).field
    → Step b.slots.last_stamp (machine b) (Extend k.entry.index k.stamp when) (machine c) → IsLiveKey b k name d → IsExtendedTo b k when result c name d
extend_changed b c k when result name d law same told step live =
    let is : step.0 ≡ live_lease k.entry.born name d = entry_is b k name d step.0 live step.2 in
    let dues : step.1 ≡ d = some_number step.1 d (sym step.4 ∙ ap (λ e. e.due) is) in
    let field : (word_at b.known k.entry.index).field ≡ d = (word_live b k name d law live).1 in
    let result_is : result ≡ max when d = told ∙ ap (max when) field in
    let stamp : k.stamp ≡ (table_at (machine b) k.entry.index).stamp = sym step.3 in (
      result_is,
      record {
        same = same_queue b c same;
        inside = step.2.0;
        machine_is = step.5 ∙ (λ j. put (machine b) k.entry.index (stamp j) (Some (live_lease (is j).born (is j).value ((ap (max when) dues ∙ sym result_is) j))));
      },
    )

pub cancel_changed : {W : Type 0} (b c : Core (List ℕ) W) (k : KeyName) (result : ℕ) (name : List ℕ) (d : ℕ) → IsLawfulCore b → SameCore b c → result ≡ (word_at b.known k.entry.index).field
    → Step b.slots.last_stamp (machine b) (Cancel k.entry.index k.stamp) (machine c) → IsLiveKey b k name d → IsEndedLease b k result c name d
cancel_changed b c k result name d law same told step live =
    let is : step.0 ≡ live_lease k.entry.born name d = entry_is b k name d step.0 live step.2 in
    let stamp : k.stamp ≡ (table_at (machine b) k.entry.index).stamp = sym step.3 in
    record {
      told = told ∙ (word_live b k name d law live).1;
      left = Some (record { born = k.entry.born; value = name; due = None });
      none_live = refl;
      changed = record {
        same = same_queue b c same;
        inside = step.2.0;
        machine_is = step.5 ∙ (λ j. put (machine b) k.entry.index (stamp j) (Some (record { born = (is j).born; value = (is j).value; due = None })));
      };
    }

pub remove_changed : {W : Type 0} (b c : Core (List ℕ) W) (k : KeyName) (x : Removed (List ℕ)) (name : List ℕ) (d : ℕ) → SameCore b c → IsRemoved false b k.entry x c → IsLiveKey b k name d → IsEndedLease b k x.deadline c name d
remove_changed b c k x name d same r live =
    let here : r.run.0 ≡ machine b = alone b.slots.last_stamp (machine b) r.run.0 r.run.1 in
    let step = subst (λ m. Step b.slots.last_stamp m (Remove k.entry.index k.entry.born) (machine c)) here r.run.2 in
    let has : Has (machine b) k.entry.index (record { born = k.entry.born; value = x.value; due = Some x.deadline }) = subst (λ m. Has m k.entry.index (record { born = k.entry.born; value = x.value; due = Some x.deadline })) here r.run.3 in
    let is = entry_is b k name d (record { born = k.entry.born; value = x.value; due = Some x.deadline }) live has in
    record {
      told = some_number x.deadline d (ap (λ e. e.due) is);
      left = None;
      none_live = refl;
      changed = record { same = same_queue b c same; inside = has.0; machine_is = step.5 };
    }

pub deadline_told : {W : Type 0} (b c : Core (List ℕ) W) (k : KeyName) (result : ℕ) (name : List ℕ) (d : ℕ) → SameCore b c → IsFoundLive false b k.entry result c → IsLiveKey b k name d → IsToldOf b k result c name d
deadline_told b c k result name d same f live =
    let here : machine c ≡ machine b = alone b.slots.last_stamp (machine b) (machine c) f.looked.callers in
    let has : Has (machine b) k.entry.index f.entry.0 = subst (λ m. Has m k.entry.index f.entry.0) here f.entry.1 in
    let is : f.entry.0 ≡ live_lease k.entry.born name d = entry_is b k name d f.entry.0 live has in
    (some_number result d (sym f.entry.3 ∙ ap (λ e. e.due) is), here, same_queue b c same)
