-- A part may go to another thread, as the queue that it owns may.
use denote.Param.Send.{IsSend}
use Rattle.dq_c.proofs.Parts.Sends.{sends}
use Rattle.dq_c.proofs.QueueAsPart.{K}
use Rattle.dq_c.proofs.handle.queue.Queue.TheSendSync.{the_send}
use Rattle.dq_c.specs.contracts.handle.queue.QueuePart.{the_row}

pub send : IsSend the_row
send = sends K the_send
