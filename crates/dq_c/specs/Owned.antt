-- What a pointer owns that is empty or leads into the heap.
use base.Fml.{Fml, ftrue}
use denote.RattleType.{RattleType}
use denote.RawPtr.{Ptr}
use Rattle.std.specs.Prelude.{Option, Some, None}
use Rattle.std.specs.Box.Ownership.{box_owns}
use Rattle.std.specs.Global.{Global}
use Rattle.std_heap.specs.contracts.GlobalAllocator.TheImpl.{ghosts}

-- nothing where there is no value, and else the value at p and the right to free its block
abbrev pub heap_owns : (R : RattleType) → Global → Ptr → Option R.Denot → Fml
heap_owns R alloc p None = ftrue
heap_owns R alloc p (Some x) = box_owns (ghosts.dealloc_token alloc) R p x
