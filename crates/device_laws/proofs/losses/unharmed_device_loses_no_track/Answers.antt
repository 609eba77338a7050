use Rattle.device_defs.specs.Contents.{contents}
use Rattle.device_laws.proofs.LossLaws.{
  unharmed_counts,
  new_unharmed,
  started_unharmed,
  command_unharmed,
  second_unharmed,
  background_unharmed,
  loss_unharmed,
  reset_unharmed,
  power_unharmed,
  held_unharmed,
  joined_unharmed,
  replaced_unharmed,
}
use Rattle.device_laws.proofs.TrackMarks.{device_is_faithful}
use Rattle.device_laws.proofs.losses.unharmed_device_loses_no_track.Goals as goal

pub returns : goal.returns
returns g c = record {
  counts = λ d un nothing. unharmed_counts d.store un nothing;
  made = λ d on n. new_unharmed d on n;
  starts = λ d path un. started_unharmed d path un;
  command = λ d e u z a good none chains lt un r. command_unharmed contents device_is_faithful d lt un good none chains r;
  second = λ d e u z a good lt un r. second_unharmed contents device_is_faithful d lt un good r;
  background = λ d e u z a good lt un r. background_unharmed contents device_is_faithful d lt un good r;
  lose = λ d e u z a loss good lt un r. loss_unharmed contents device_is_faithful d lt un loss good r;
  reset = λ d e u z a path lt un r. reset_unharmed contents device_is_faithful d lt un path r;
  power = λ d e u z a lt un r. power_unharmed contents device_is_faithful d lt un r;
  held = λ d un. held_unharmed d un;
  paired = λ d un. joined_unharmed d un;
  replaced = λ d side un down. replaced_unharmed d un side down;
}
