use Rattle.ckd_types.specs.declared.geometry.Geometry.TheVariants.{D3390}
use Rattle.path_workers.proofs.Ready.{opened_ready}
use Rattle.path_trials.proofs.runs.device.Goals as goal

pub returns-in-Ok-clause-ready : goal.returns-in-Ok-clause-ready
returns-in-Ok-clause-ready c = opened_ready c.in-Ok.device c.in_ok-number.number D3390 1 c.args.plans c.in-Ok.ensures.device
