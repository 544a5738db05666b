-- No public clause cites this module.
-- How the map of a cache goes with its timers, and what the two show.
use Rattle.std.specs.Prelude.{◌≡◌, ℕ, ◌≤◌, Bool, true, List, [], Option, Some, None}
use Rattle.std.specs.Prelude.{map, cond, slice_get, min, filter, nat_lt}
use Rattle.std.specs.List.{IsDistinct, All}
use Rattle.std.specs.Option.{option_map}
use Rattle.std.specs.Map.{lookup, keys_of}
use Rattle.dq_ticks.specs.declared.TheConstants.{LAST_TICK}
use Rattle.dq_ticks.specs.Keys.{KeyName}
use Rattle.dq_core.specs.Machine.{Entry, TableRow}
use Rattle.dq_apps.specs.declared.kept.Kept.{Kept}
use Rattle.dq_apps.specs.declared.kept.Timer.{Timer}
use Rattle.dq_apps.specs.Cache.{Item, CacheSlot, Cache}
use Rattle.dq_apps.specs.TimerTable.{TimerTable, timer_at, IsRunning}

module _ {K V : Type 0} where
  -- what a timer's key shows, with the deadline of the timer and what the map has there
  abbrev pub item_of : K → Option ℕ → Option (Kept V) → Option (Item K V)
  item_of key None kept = None
  item_of key (Some d) None = None
  item_of key (Some d) (Some s) =
      Some (record { key = key; value = s.value; deadline = d })

  -- what a slot's timer shows
  abbrev pub item_at : (K → K → Bool) → List (K × Kept V) → Option (Entry K) → Option (Item K V)
  item_at eq es None = None
  item_at eq es (Some e) = item_of e.value e.due (lookup (eq e.value) es)

  -- a slot with a timer shows the timer's key and deadline, and the value that the map has there
  abbrev pub shown_slot : (K → K → Bool) → List (K × Kept V) → TableRow K → CacheSlot K V
  shown_slot eq es s = record { stamp = s.stamp; item = item_at eq es s.entry }

  -- what all slots show
  abbrev pub shown_slots : (K → K → Bool) → List (K × Kept V) → List (TableRow K)
      → List (CacheSlot K V)
  shown_slots eq es slots = map (shown_slot eq es) slots

  -- what a map, timers and a moment show
  abbrev pub cache_of : (K → K → Bool) → List (K × Kept V) → TimerTable K → ℕ → Cache K V
  cache_of eq es t moment =
      record { last_stamp = t.last_stamp; moment = moment; slots = shown_slots eq es t.slots }

  -- each key of the map has its timer, and each timer its key in the map
  pub record IsTied (eq : K → K → Bool) (es : List (K × Kept V)) (slots : List (TableRow K))
      : Type 0 where
    pub distinct : IsDistinct eq (keys_of es)
    pub forth :
        (q : K) (s : Kept V) → lookup (eq q) es ≡ Some s
        → (copy : K) × IsRunning slots s.key copy s.deadline × (eq q copy ≡ true)
    pub back :
        (i : ℕ) (e : Entry K) → (timer_at slots i).entry ≡ Some e
        → (s : Kept V) × (lookup (eq e.value) es ≡ Some s) × (s.key.entry.index ≡ i)

  -- the map goes with the timers, and no tick beyond the moment was noted
  pub record IsStock (eq : K → K → Bool) (es : List (K × Kept V)) (t : TimerTable K) (moment : ℕ)
      : Type 0 where
    pub tied : IsTied eq es t.slots
    pub noted : t.noted ≤ moment
    pub bound : moment ≤ LAST_TICK

  -- a map that has w at a key, and at each other key what it had
  abbrev pub IsWritten : (K → K → Bool) → List (K × Kept V) → K → Option (Kept V)
      → List (K × Kept V) → Type 0
  IsWritten eq es key w fs =
      ((q : K) → lookup (eq q) fs ≡ cond (eq key q) w (lookup (eq q) es))
      × IsDistinct eq (keys_of fs)

  -- a map that has another deadline and timer at a key, with its value
  abbrev pub IsRenewedKey : (K → K → Bool) → List (K × Kept V) → K → ℕ → KeyName
      → List (K × Kept V) → Type 0
  IsRenewedKey eq es key deadline k fs =
      (s : Kept V) → lookup (eq key) es ≡ Some s
      → IsWritten eq es key (Some (record { value = s.value; deadline = deadline; key = k })) fs

  -- a map that has a value, a deadline and a timer at a key
  abbrev pub IsReplacedAt : (K → K → Bool) → List (K × Kept V) → K → V → ℕ → KeyName
      → List (K × Kept V) → Type 0
  IsReplacedAt eq es key value deadline k fs =
      IsWritten eq es key (Some (record { value = value; deadline = deadline; key = k })) fs

  -- what a map has that is seen at m, each key with its value
  abbrev pub pairs_seen : ℕ → List (K × Kept V) → List (K × V)
  pairs_seen m es = map (λ e. (e.0, e.1.value)) (filter (λ e. nat_lt m e.1.deadline) es)

-- the value of what was looked up
abbrev pub HadValue : {V : Type 0} → Option (Kept V) → V → Type 0
HadValue {V} o v = option_map (λ (s : Kept V). s.value) o ≡ Some v

-- the timer of what was looked up
abbrev pub TellsTimer : {V : Type 0} → Option (Kept V) → Option Timer → Type 0
TellsTimer o None = o ≡ None
TellsTimer {V} o (Some t) =
    (s : Kept V) × (o ≡ Some s) × (s.deadline ≡ t.deadline) × (s.key ≡ t.key)

-- the least deadline of what a map has, none exactly where it has nothing
abbrev pub TellsFirstDeadline : {K V : Type 0} → List (K × Kept V) → Option ℕ → Type 0
TellsFirstDeadline es None = es ≡ []
TellsFirstDeadline {K} {V} es (Some d) =
    ((i : ℕ) × (k : K) × (s : Kept V) × (slice_get es i ≡ Some (k, s)) × (s.deadline ≡ d))
    × All (λ e. d ≤ e.1.deadline) es

-- the lesser of two deadlines, where there is one before
abbrev pub lesser_of : Option ℕ → ℕ → ℕ
lesser_of None d = d
lesser_of (Some e) d = min d e
