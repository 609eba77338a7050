use Rattle.plain_device.proofs.Wholes.{whole_command}
use Rattle.plain_device.proofs.law.is_whole_behind_a_command.Goals as goal

pub returns : goal.returns
returns c f d path s word same bytes is = whole_command f d path s word same bytes is
