use Rattle.device_defs.specs.declared.answers.Choice.TheVariants.{Provisional, Fast}
use Rattle.device_defs.specs.Contents.{contents}
use Rattle.device_defs.specs.Editing.{write_by}
use Rattle.device_laws.proofs.QuietParts.{cache_quiet, cache_makes}
use Rattle.device_laws.proofs.transfers.cache_writes_move_nothing.Goals as goal

pub returns : goal.returns
returns c = record {
  provisional = λ s u first t i e. cache_makes contents s (write_by contents u first t i e s Provisional) (cache_quiet contents u first t i e s Provisional tt);
  fast = λ s u first t i e slot. cache_makes contents s (write_by contents u first t i e s (Fast slot)) (cache_quiet contents u first t i e s (Fast slot) tt);
}
