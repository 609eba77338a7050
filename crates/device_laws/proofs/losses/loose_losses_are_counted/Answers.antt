use Rattle.device_defs.specs.Contents.{contents}
use Rattle.device_laws.proofs.LossLaws.{
  counted_excuse,
  started_counted,
  command_counted,
  second_counted,
  background_counted,
  loss_counted,
  reset_counted,
  power_counted,
}
use Rattle.device_laws.proofs.losses.loose_losses_are_counted.Goals as goal

pub returns : goal.returns
returns g c = record {
  journal = λ d all. counted_excuse d all;
  starts = λ d path all. started_counted d path all;
  command = λ d e u z a all r. command_counted contents d all r;
  second = λ d e u z a all r. second_counted contents d all r;
  background = λ d e u z a all r. background_counted contents d all r;
  lose = λ d e u z a loss all lt r. loss_counted contents d all loss lt r;
  reset = λ d e u z a path all r. reset_counted contents d all path r;
  power = λ d e u z a all lt r. power_counted contents d all lt r;
}
