-- No public clause cites this module.
-- How the timers of a map's keys move to fresh timers, one after the other.
use Rattle.std.specs.Prelude.{Result, Ok, Err, ◌≡◌, ℕ, ◌+◌, ◌<◌, ◌≤◌, Bool, true, false, cond, List}
use Rattle.std.specs.Prelude.{Some, None, length, ◌⊎◌}
use Rattle.std.specs.List.{IsDistinct, count_by}
use Rattle.std.specs.Option.{option_map}
use Rattle.std.specs.Map.{lookup, keys_of}
use Rattle.dq_ticks.specs.Keys.{KeyName}
use Rattle.dq_ticks.specs.declared.TheConstants.{LAST_TICK}
use Rattle.dq_core.specs.declared.errors.CoreError.{CoreError}
use Rattle.dq_core.specs.declared.errors.CoreError.TheVariants.{NoMemory}
use Rattle.dq_core.specs.Machine.{Entry, TableRow}
use Rattle.dq_apps.specs.declared.kept.Kept.{Kept}
use Rattle.dq_apps.specs.TimerTable.{TimerTable, timer_at, IsRunning, is_set, Starts, fresh_timers}
use Rattle.dq_apps.specs.Tied.{IsWritten}

-- timers of as many slots and stamps are made, or memory is refused
abbrev pub MakesAnew : {K : Type 0} → TimerTable K → Result (TimerTable K) CoreError → Type 0
MakesAnew t (Ok u) = (0 < t.last_stamp) × (u ≡ fresh_timers (length t.slots) t.last_stamp)
MakesAnew t (Err e) = e ≡ NoMemory

-- some timer has the key
abbrev pub HasKey : {K : Type 0} → List (TableRow K) → K → Type 0
HasKey {K} slots key =
    (i : ℕ) × (e : Entry K) × ((timer_at slots i).entry ≡ Some e) × (e.value ≡ key)

-- a slot that was used once where it has a timer, and else never
abbrev pub IsOnce : {K : Type 0} → TableRow K → Type 0
IsOnce s = s.stamp ≡ cond (is_set s) 1 0

-- one was left and has moved, or none was left
abbrev pub IsOneLess : {K : Type 0} → Bool → List (TableRow K) → List (TableRow K) → Type 0
IsOneLess true old rest = count_by is_set rest + 1 ≡ count_by is_set old
IsOneLess false old rest = (i : ℕ) → (timer_at rest i).entry ≡ None

-- what the map says of a key but for its timer
abbrev pub said : {V : Type 0} → Kept V → V × ℕ
said s = (s.value, s.deadline)

module _ {K V : Type 0} where
  -- each key of the map has its timer among the fresh ones, or one is left among the old ones
  pub record AreMoving (eq : K → K → Bool) (es : List (K × Kept V)) (old : List (TableRow K))
      (fresh : TimerTable K) : Type 0 where
    pub distinct : IsDistinct eq (keys_of es)
    pub deadlines : (q : K) (s : Kept V) → lookup (eq q) es ≡ Some s → s.deadline ≤ LAST_TICK
    pub forth :
        (q : K) (s : Kept V) → lookup (eq q) es ≡ Some s
        → ((copy : K) × IsRunning fresh.slots s.key copy s.deadline × (eq q copy ≡ true))
        ⊎ ((copy : K) × HasKey old copy × (eq q copy ≡ true))
    pub back :
        (i : ℕ) (e : Entry K) → (timer_at fresh.slots i).entry ≡ Some e
        → (s : Kept V) × (lookup (eq e.value) es ≡ Some s) × (s.key.entry.index ≡ i)
    pub due :
        (i : ℕ) (e : Entry K) → (timer_at old i).entry ≡ Some e
        → (d : ℕ) × (e.due ≡ Some d) × (d ≤ LAST_TICK)
    pub there :
        (i : ℕ) (e : Entry K) → (timer_at old i).entry ≡ Some e
        → (s : Kept V) × (lookup (eq e.value) es ≡ Some s)
    pub apart :
        (i j : ℕ) (e x : Entry K) → (timer_at old i).entry ≡ Some e
        → (timer_at fresh.slots j).entry ≡ Some x → eq e.value x.value ≡ false
    pub once :
        (i j : ℕ) (e x : Entry K) → (timer_at old i).entry ≡ Some e
        → (timer_at old j).entry ≡ Some x → eq e.value x.value ≡ true → i ≡ j
    pub few : count_by is_set old + count_by is_set fresh.slots ≤ length fresh.slots
    pub stamps : (i : ℕ) → IsOnce (timer_at fresh.slots i)
    pub used : 0 < fresh.last_stamp
    pub noted : fresh.noted ≡ 0

  -- a map that says the same of each key but for its timer
  abbrev pub SaysTheSame : (K → K → Bool) → List (K × Kept V) → List (K × Kept V) → Type 0
  SaysTheSame eq es fs =
      (q : K) → option_map said (lookup (eq q) fs) ≡ option_map said (lookup (eq q) es)

  -- some timers moved: the map says the same, and as many have the same keys
  pub record HaveMoved (eq : K → K → Bool) (es : List (K × Kept V)) (old : List (TableRow K))
      (fresh : TimerTable K) (fs : List (K × Kept V)) (rest : List (TableRow K))
      (next : TimerTable K) : Type 0 where
    pub moving : AreMoving eq fs rest next
    pub same : SaysTheSame eq es fs
    pub last : next.last_stamp ≡ fresh.last_stamp
    pub size : length next.slots ≡ length fresh.slots
    pub count :
        count_by is_set rest + count_by is_set next.slots
        ≡ count_by is_set old + count_by is_set fresh.slots
    pub stay :
        (key : K) → HasKey old key ⊎ HasKey fresh.slots key
        → HasKey rest key ⊎ HasKey next.slots key
    pub came :
        (key : K) → HasKey rest key ⊎ HasKey next.slots key
        → HasKey old key ⊎ HasKey fresh.slots key

  -- the timer of a key that is there is set, at its deadline
  abbrev pub StartsAt : (K → K → Bool) → List (K × Kept V) → TimerTable K → K
      → List (K × Kept V) → TimerTable K → Type 0
  StartsAt eq es t key fs u =
      (s : Kept V) → lookup (eq key) es ≡ Some s
      → (k : KeyName) × Starts t key s.deadline k u
      × IsWritten eq es key (Some (record { value = s.value; deadline = s.deadline; key = k })) fs
