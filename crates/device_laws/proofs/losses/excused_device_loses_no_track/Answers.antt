use Rattle.device_defs.specs.Contents.{contents}
use Rattle.device_laws.proofs.FramesLaws.{
  excused_tracks,
  new_uncached,
  started_uncached,
  command_uncached,
  second_uncached,
  background_uncached,
  loss_uncached,
  reset_uncached,
  power_uncached,
  held_uncached,
  joined_uncached,
  replaced_uncached,
}
use Rattle.device_laws.proofs.TrackMarks.{device_is_faithful}
use Rattle.device_laws.proofs.losses.excused_device_loses_no_track.Goals as goal

pub returns : goal.returns
returns g c = record {
  excused = λ d unharmed un may. excused_tracks d.store unharmed un may;
  made = λ d on n. new_uncached d on n;
  starts = λ d path un. started_uncached d path un;
  command = λ d e u z a good none chains lt un r. command_uncached contents device_is_faithful d lt un good none chains r;
  second = λ d e u z a good lt un r. second_uncached contents device_is_faithful d lt un good r;
  background = λ d e u z a good none lt un r. background_uncached contents device_is_faithful d lt un good none r;
  lose = λ d e u z a loss good lt un r. loss_uncached contents device_is_faithful d lt un loss good r;
  reset = λ d e u z a path good lt un r. reset_uncached contents device_is_faithful d lt un path good r;
  power = λ d e u z a lt un r. power_uncached contents device_is_faithful d lt un r;
  held = λ d un. held_uncached d un;
  paired = λ d un. joined_uncached d un;
  replaced = λ d side un down. replaced_uncached d un side down;
}
