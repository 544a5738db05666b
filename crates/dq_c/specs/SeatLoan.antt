-- A part whose seat was lent.
use Rattle.std.specs.Prelude.{Some}
use Rattle.dq_c.specs.declared.handle.caller.Seat.{Seat}
use Rattle.dq_c.specs.declared.handle.caller.CallerPart.{CallerPart}

-- the part after its seat was changed to w
abbrev pub with_seat : CallerPart → Seat → CallerPart
with_seat p w = record { ptr = p.ptr; alloc = p.alloc; value = Some w }
