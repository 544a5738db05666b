-- A part whose queue was lent.
use Rattle.std.specs.Prelude.{Some}
use Rattle.dq_c.specs.declared.handle.queue.Queue.{Queue}
use Rattle.dq_c.specs.declared.handle.queue.QueuePart.{QueuePart}

-- the part after its queue was changed to w
abbrev pub with_queue : QueuePart → Queue → QueuePart
with_queue p w = record { ptr = p.ptr; alloc = p.alloc; value = Some w }
