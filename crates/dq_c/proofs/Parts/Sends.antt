-- A part may go to another thread where what lies behind its pointer may.
use mir.Raw.{raw}
use base.Shift.{Keyless}
use denote.RawPtr.{Ptr}
use denote.Struct.Struct.{exits_of}
use denote.Struct.Field.{rows}
use denote.Param.{layout}
use denote.Param.Send.{IsSend, AllSend, owning_send, struct_send, sendable}
use Rattle.std.proofs.Crossing as heap
use Rattle.std.specs.Global.{Global}
use Rattle.std.specs.Prelude.{Option, Some, None}
use Rattle.std_alloc.proofs.SendSync.{quiet, lies}
use Rattle.std_heap.proofs.Global.TheSendSync as handle
use Rattle.dq_c.specs.Owned.{heap_owns}
use Rattle.dq_c.proofs.Parts.{Part, R, W, parts, shape, tuple, owning}

module _ (K : Part) (crosses : IsSend (R K)) where
  keyless : (a : Global) (p : Ptr) (o : Option (R K).Denot) → Keyless (heap_owns (R K) a p o)
  keyless a p None = tt
  keyless a p (Some x) = (lies (R K) crosses p x, heap.frees.frees a (raw (layout (R K))) p)

  pub sends : IsSend (W K)
  sends =
      let all : AllSend (rows (parts K)) = (search sendable, (handle.the_field_send, tt)) in
      owning_send (owning K) all (λ d. keyless (K.alloc d) (K.ptr d) (K.value d))
      (λ k. quiet (tuple K) (exits_of k (rows (parts K))) ((struct_send (shape K) all).leaving k))
