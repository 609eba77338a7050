use Rattle.std.proofs.Common.{true}
use Rattle.device_defs.specs.Contents.{by_plain}
use Rattle.device_laws.proofs.HeldBased.{command_told, second_told, background_told, loss_told, power_told}
use Rattle.device_laws.proofs.keeping.run_tells_waiting.Goals as goal

pub returns : goal.returns
returns c = record {
  command = λ d t number. command_told by_plain true d t number;
  second = λ d t number. second_told by_plain true d t number;
  background = λ d t number. background_told by_plain true d t number;
  lose = λ d loss t number. loss_told by_plain true d t number loss;
  power = λ d t number. power_told by_plain true d t number;
}
