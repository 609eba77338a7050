use Rattle.device_defs.specs.Contents.{contents, by_plain}
use Rattle.device_defs.specs.Cutting.{half_cut}
use Rattle.device_defs.specs.Events.{losing}
use Rattle.device_defs.specs.Owed.{hear, noted_end}
use Rattle.device_laws.proofs.QuietParts.{losing_quiet, hear_quiet, ended_quiet, cut_quiet, quiet_makes}
use Rattle.device_laws.proofs.transfers.losses_move_nothing.Goals as goal

pub returns : goal.returns
returns c = record {
  lost = λ s loss. quiet_makes contents s (losing contents s loss) (losing_quiet contents s loss);
  heard = λ s n. quiet_makes contents s (hear contents n s) (hear_quiet contents n s);
  told = λ s before. quiet_makes contents s (noted_end contents before s) (ended_quiet contents before s);
  cut = λ s half. quiet_makes contents s (half_cut contents s half) (cut_quiet contents s half);
  run = λ s loss. quiet_makes by_plain s (losing by_plain s loss) (losing_quiet by_plain s loss);
}
