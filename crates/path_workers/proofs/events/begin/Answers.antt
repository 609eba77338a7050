use Rattle.device_core.specs.State.{device_of}
use Rattle.path_workers.proofs.Visiting.{free_path}
use Rattle.path_workers.proofs.events.begin.Goals as goal

pub start-requires : goal.start-requires
start-requires g c = record { idle = free_path (device_of c.args.device.now) c.args.path c.requires.free }
