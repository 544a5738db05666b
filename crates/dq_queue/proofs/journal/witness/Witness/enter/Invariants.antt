use Rattle.std.specs.Prelude.{Some}
use Rattle.dq_queue.proofs.journal.witness.Witness.enter.Given as goal

-- what was passed is said
abbrev pub ghosts-enter_said : goal.ghosts-enter_said
ghosts-enter_said g a = record { said = Some a.what.now }
