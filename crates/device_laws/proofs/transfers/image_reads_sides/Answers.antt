use Rattle.device_defs.specs.Contents.{contents, by_plain}
use Rattle.device_laws.proofs.ReadMoves.{image_hit, image_missed}
use Rattle.device_laws.proofs.transfers.image_reads_sides.Goals as goal

pub returns : goal.returns
returns c = record {
  hit = λ s u t f e is. image_hit contents s u t f e is;
  missed = λ s u t e. image_missed contents s u t e;
  run = λ s u t e. image_missed by_plain s u t e;
}
