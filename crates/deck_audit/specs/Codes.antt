-- The exit status of the program that audits.
use Rattle.std.specs.Prelude.{ℕ}
use Rattle.deck_audit.specs.declared.status.AuditStatus.{AuditStatus}
use Rattle.deck_audit.specs.declared.status.AuditStatus.TheVariants.{Yes, No, NoReport, DeckRefused, ReadFault, WriteFault, Limit, NoMemory, Usage}

abbrev pub code_of : AuditStatus → ℕ
code_of Yes = 0
code_of NoReport = 1
code_of (DeckRefused line why) = 1
code_of ReadFault = 2
code_of WriteFault = 3
code_of (Limit which) = 4
code_of NoMemory = 5
code_of Usage = 6
code_of (No line why) = 7
