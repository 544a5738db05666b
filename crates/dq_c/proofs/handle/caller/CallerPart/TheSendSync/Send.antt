-- A part may go to another thread, as the seat that it owns may.
use denote.Param.Send.{IsSend}
use Rattle.dq_c.proofs.Parts.Sends.{sends}
use Rattle.dq_c.proofs.SeatAsPart.{K}
use Rattle.dq_c.proofs.handle.caller.Seat.TheSendSync.{the_send}
use Rattle.dq_c.specs.contracts.handle.caller.CallerPart.{the_row}

pub send : IsSend the_row
send = sends K the_send
