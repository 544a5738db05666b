use Rattle.dq_queue.proofs.JournalSteps.{begins}
use Rattle.dq_queue.proofs.journal.witness.Witness.new.Goals as goal

pub of_words-requires : goal.of_words-requires
of_words-requires g c = begins 0
