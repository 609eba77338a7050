use Rattle.std.proofs.Common.{refl}
use Rattle.path_trials.proofs.Spares.{all_spare}
use Rattle.path_trials.proofs.runs.run.Goals as goal

pub run_paths-requires-clause-spare : goal.run_paths-requires-clause-spare
run_paths-requires-clause-spare g c =
    λ κs outlives k order within. all_spare (λ v. refl) c.args.devices.items c.args.orders.items c.requires.small c.requires.new k order within
