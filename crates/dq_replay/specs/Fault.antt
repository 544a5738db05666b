-- The texts of faults.
use Rattle.std.specs.Prelude.{ℕ, List, [], ◌∷◌, ◌++◌, codes, decimal}
use Rattle.dq_replay.specs.declared.fault.FaultKind.{FaultKind}
use Rattle.dq_replay.specs.declared.fault.FaultKind.TheVariants.{TooManyLines, LineTooLong}
use Rattle.dq_replay.specs.declared.fault.FaultKind.TheVariants.{UnfinishedLine, BadHeader}
use Rattle.dq_replay.specs.declared.fault.FaultKind.TheVariants.{UnknownCommand, BadShape, BadName}
use Rattle.dq_replay.specs.declared.fault.FaultKind.TheVariants.{BadNumber}
use Rattle.dq_replay.specs.declared.fault.ReplayFault.{ReplayFault}
use Rattle.dq_replay.specs.declared.fault.ReplayFault.TheVariants.{BadConfig, NoMemory, Script}
use Rattle.dq_replay.specs.declared.fault.ReplayFault.TheVariants.{Read, Write}

abbrev pub kind_text : FaultKind → List ℕ
kind_text TooManyLines = codes "too many lines"
kind_text LineTooLong = codes "line too long"
kind_text UnfinishedLine = codes "unfinished line"
kind_text BadHeader = codes "bad header"
kind_text UnknownCommand = codes "unknown command"
kind_text BadShape = codes "wrong number of words"
kind_text BadName = codes "bad name"
kind_text BadNumber = codes "bad number"

abbrev pub fault_text : ReplayFault → List ℕ
fault_text BadConfig = codes "bad capacity"
fault_text NoMemory = codes "out of memory"
fault_text (Script line kind) = codes "line " ++ decimal line ++ codes ": " ++ kind_text kind
fault_text Read = codes "read fault"
fault_text Write = codes "write fault"

-- what the program tells
abbrev pub report_line : ReplayFault → List ℕ
report_line fault = codes "delay-replay: " ++ fault_text fault ++ 10 ∷ []

-- the status that the program ends with
abbrev pub status_of : ReplayFault → ℕ
status_of (Script line kind) = 1
status_of BadConfig = 2
status_of Read = 3
status_of Write = 3
status_of NoMemory = 4
