use Rattle.device_defs.specs.Contents.{contents}
use Rattle.device_laws.proofs.BackMoves.{copy_moves, stage_moves, saved_moves}
use Rattle.device_laws.proofs.transfers.work_moves_sides.Goals as goal

pub returns : goal.returns
returns c = record {
  copied = λ s t side. copy_moves contents s t side;
  staged = λ s t. stage_moves contents s t;
  saved = λ s t i d fault. saved_moves contents s t i d fault;
}
