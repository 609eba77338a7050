-- A deck, as its lines say it.
use Rattle.std.specs.Prelude.{ℕ, List, []}
use Rattle.deck_plan.specs.declared.event.EventLine.{EventLine}
use Rattle.deck_text.specs.declared.line.DeviceLine.{DeviceLine}
use Rattle.deck_text.specs.declared.line.FaultLine.{FaultLine}
use Rattle.deck_text.specs.declared.line.PlannedProgram.{PlannedProgram}

-- the numbers of CACHE and STORE, and the other lines of each kind in their order: a program stands for
-- its PROGRAM line, its CCW lines and its END
pub record DeckLines : Type 0 where
  pub frames : ℕ
  pub slots : ℕ
  pub devices : List DeviceLine
  pub faults : List FaultLine
  pub programs : List PlannedProgram
  pub events : List EventLine

abbrev pub no_lines : DeckLines
no_lines = record { frames = 0; slots = 0; devices = []; faults = []; programs = []; events = [] }
