use Rattle.subsystem_laws.proofs.WholeUnpairs.{unpaired_so}
use Rattle.subsystem_laws.proofs.whole.whole_unpaired_is_what_happens.Goals as goal

pub returns : goal.returns
returns c = unpaired_so
