use Rattle.device_laws.proofs.WholeParts.{start_fault_same, start_same, start_order}
use Rattle.device_laws.proofs.runs.start_is_step.Goals as goal

pub returns : goal.returns
returns c = record { fault = start_fault_same; starts = start_same; order = start_order }
