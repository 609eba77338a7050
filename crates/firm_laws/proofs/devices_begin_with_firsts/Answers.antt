-- devices_begin_with_firsts
use Rattle.firm_laws.proofs.DrivenWrites.{opened_begins}
use Rattle.firm_laws.proofs.devices_begin_with_firsts.Goals as goal

pub returns : goal.returns
returns c = λ firsts deck n m there. opened_begins firsts n deck m there
