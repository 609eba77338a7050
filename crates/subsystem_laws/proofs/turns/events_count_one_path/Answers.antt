use Rattle.device_defs.specs.Contents.{contents}
use Rattle.device_defs.specs.Start.{start}
use Rattle.subsystem_laws.proofs.turning.Counts.{
  background_acts,
  command_counts,
  loss_acts,
  others_set,
  own_second_acts,
  same_counts,
  second_counts,
  start_counts,
}
use Rattle.subsystem_laws.proofs.turns.events_count_one_path.Goals as goal

pub returns : goal.returns
returns c = record {
  starts = λ d path least most idle. others_set d (start d path) path least most (start_counts d path idle);
  command = λ d e u z a path least most runs r. others_set d e path least most (command_counts contents d path runs r);
  second = λ d e u z a path least most runs r. others_set d e path least most (second_counts contents d path runs r);
  own = λ d e u z a h half own r. same_counts d e (own_second_acts contents d h half own r);
  background = λ d e u z a r. same_counts d e (background_acts contents d r);
  lose = λ d e u z a loss r. same_counts d e (loss_acts contents d loss r);
}
