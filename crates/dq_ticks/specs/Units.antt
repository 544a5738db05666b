-- The units of ticks, words and keys. A tick is one millisecond.
use Rattle.std.specs.Prelude.{ℕ}

-- one more than the last tick: 2 ^ 42, some 139 years
abbrev pub tick_limit : ℕ
tick_limit = 4398046511104

-- the ticks that a slot of the top level spans: 64 ^ 5, some 12 days
abbrev pub top_span : ℕ
top_span = 1073741824

-- the ticks that the whole top level spans: 64 ^ 6, some 2 years
abbrev pub lap : ℕ
lap = 68719476736

-- what one stamp adds to a word: 2 ^ 44
abbrev pub stamp_unit : ℕ
stamp_unit = 17592186044416

-- what one mark adds to a word, and one more than the last field: 2 ^ 42
abbrev pub mark_unit : ℕ
mark_unit = 4398046511104

-- one more than the last stamp: 2 ^ 20
abbrev pub stamp_count : ℕ
stamp_count = 1048576

-- what one of the upper half adds to a number of two halves: 2 ^ 32
abbrev pub half_unit : ℕ
half_unit = 4294967296

-- one more than the last index of a core: 2 ^ 16
abbrev pub index_count : ℕ
index_count = 65536

-- one more than the last place of a shard in its queue: 2 ^ 8
abbrev pub shard_count : ℕ
shard_count = 256

-- the nanoseconds of a tick
abbrev pub tick_nanos : ℕ
tick_nanos = 1000000
