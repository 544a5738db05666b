-- A seat's part, for the walks of `Parts`.
use mathlib.Core.Path.{refl}
use Rattle.dq_c.specs.declared.handle.caller.CallerPart.{CallerPart}
use Rattle.dq_c.specs.contracts.handle.caller.Seat.{the_row}
use Rattle.dq_c.specs.contracts.handle.caller.CallerPart.{the_type}
use Rattle.dq_c.proofs.handle.caller.Seat.TheLaws.{the_row_laws}
use Rattle.dq_c.proofs.Parts.{Part}

abbrev pub K : Part
K = record {
  behind = the_row;
  laws = the_row_laws;
  name = the_type.name;
  D = CallerPart;
  ptr = λ d. d.ptr;
  alloc = λ d. d.alloc;
  value = λ d. d.value;
  made = λ p a o. record { ptr = p; alloc = a; value = o };
  is_made = λ p a o. refl;
  coded = the_type.coded;
}
