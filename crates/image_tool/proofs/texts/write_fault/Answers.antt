use Rattle.std.proofs.KnownBytes.{Appends-nil}
use Rattle.image_tool.proofs.texts.write_fault.Goals as goal

pub returns-in-FileFault-clause-bytes : goal.returns-in-FileFault-clause-bytes
returns-in-FileFault-clause-bytes g c = rw c.in-FileFault.is (Appends-nil _)

pub returns-in-NoMemory-clause-bytes : goal.returns-in-NoMemory-clause-bytes
returns-in-NoMemory-clause-bytes g c = rw c.in-NoMemory.is (Appends-nil _)
