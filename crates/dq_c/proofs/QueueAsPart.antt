-- A queue's part, for the walks of `Parts`.
use mathlib.Core.Path.{refl}
use Rattle.dq_c.specs.declared.handle.queue.QueuePart.{QueuePart}
use Rattle.dq_c.specs.contracts.handle.queue.Queue.{the_row}
use Rattle.dq_c.specs.contracts.handle.queue.QueuePart.{the_type}
use Rattle.dq_c.proofs.handle.queue.Queue.TheLaws.{the_row_laws}
use Rattle.dq_c.proofs.Parts.{Part}

abbrev pub K : Part
K = record {
  behind = the_row;
  laws = the_row_laws;
  name = the_type.name;
  D = QueuePart;
  ptr = λ d. d.ptr;
  alloc = λ d. d.alloc;
  value = λ d. d.value;
  made = λ p a o. record { ptr = p; alloc = a; value = o };
  is_made = λ p a o. refl;
  coded = the_type.coded;
}
