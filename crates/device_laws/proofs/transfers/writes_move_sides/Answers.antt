use Rattle.device_defs.specs.Contents.{contents, by_plain}
use Rattle.device_laws.proofs.QuietParts.{second_moves}
use Rattle.device_laws.proofs.counted.WriteCounts.{first_moves}
use Rattle.device_laws.proofs.transfers.writes_move_sides.Goals as goal

pub returns : goal.returns
returns c = record {
  first = λ s t r. first_moves contents s t r;
  second = λ s h. second_moves contents s h;
  run = λ s h. second_moves by_plain s h;
}
