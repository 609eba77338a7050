-- A running channel program.
use Rattle.std.specs.Prelude.{List, Option}
use Rattle.ckd_types.specs.declared.channel.Ccw.{Ccw}
use Rattle.ckd_types.specs.Fixed.{Fixed}
use Rattle.ckd_chain.specs.declared.mark.Mark.{Mark}
use Rattle.ckd_chain.specs.declared.mark.Stage.{Stage}
use Rattle.ckd_rules.specs.declared.ending.Ending.{Ending}

-- its words and its device; where it is, and where it was before the command that is at hand or ended last; how far the command
-- at hand is, once it has begun; and how it will end, once that is known
pub record ChainState : Type 0 where
  pub ccws : List Ccw
  pub fixed : Fixed
  pub at : Mark
  pub before : Mark
  pub stage : Option Stage
  pub held : Option Ending
