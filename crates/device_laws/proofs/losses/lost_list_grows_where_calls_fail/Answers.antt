use Rattle.device_defs.specs.Contents.{contents}
use Rattle.device_laws.proofs.LossLaws.{command_loses, background_loses, second_loses}
use Rattle.device_laws.proofs.TrackMarks.{device_is_faithful}
use Rattle.device_laws.proofs.losses.lost_list_grows_where_calls_fail.Goals as goal

pub returns : goal.returns
returns g c = record {
  command = λ d e u z a good none chains lt r same. command_loses contents device_is_faithful d good lt none chains r same;
  background = λ d e u z a good lt r same. background_loses contents device_is_faithful d good lt r same;
  second = λ d e u z a good tried lt r same. second_loses contents device_is_faithful d good lt tried r same;
}
