-- The deck of a seed and a count of programs.
use Rattle.std.specs.Prelude.{ℕ, ◌+◌, ◌-◌, ◌%◌, ◌==◌, List, [], ◌∷◌, ◌++◌, if◌then◌else◌}
use Rattle.ckd_types.specs.declared.geometry.Geometry.TheVariants.{D3390}
use Rattle.deck_plan.specs.declared.event.EventLine.{EventLine}
use Rattle.deck_plan.specs.declared.event.EventLine.TheVariants.{Start, Run, Back, Settle, Pair}
use Rattle.deck_text.specs.declared.line.DeviceLine.{DeviceLine}
use Rattle.deck_text.specs.declared.line.PlannedProgram.{PlannedProgram}
use Rattle.deck_text.specs.DeckLines.{DeckLines}
use Rattle.deck_gen.specs.declared.choice.Choice.{Choice}
use Rattle.deck_gen.specs.Choices.{choices}
use Rattle.deck_gen.specs.Programs.{program_of}

abbrev pub device_line : ℕ → DeviceLine
device_line number = record { number = number; geometry = D3390; cylinders = 2 }

-- the programs, counted from 1, go round the four paths
abbrev pub path_of : ℕ → ℕ
path_of i = 1 + (i - 1) % 4

-- program i, and those from program i on
abbrev pub planned : ℕ → Choice → PlannedProgram
planned i c = record { path = path_of i; device = c.device; program = program_of c.kind c.track c.last }

abbrev pub programs_from : ℕ → List Choice → List PlannedProgram
programs_from i [] = []
programs_from i (c ∷ cs) = planned i c ∷ programs_from (i + 1) cs

-- program i is started and run, and behind each third one comes a step of the background
abbrev pub lines_of : ℕ → Choice → List EventLine
lines_of i c = Start (path_of i) c.device ∷ Run c.device ∷ (if i % 3 == 0 then Back c.device ∷ [] else [])

abbrev pub events_from : ℕ → List Choice → List EventLine
events_from i [] = []
events_from i (c ∷ cs) = lines_of i c ++ events_from (i + 1) cs

-- the deck for these choices: devices 0 and 1 are a pair first, and the work in the background is done at last
abbrev pub deck_of : List Choice → DeckLines
deck_of cs = record {
  frames = 64;
  slots = 16;
  devices = device_line 0 ∷ device_line 1 ∷ device_line 2 ∷ [];
  faults = [];
  programs = programs_from 1 cs;
  events = (Pair 0 1 ∷ Settle 0 ∷ []) ++ events_from 1 cs ++ (Settle 0 ∷ Settle 2 ∷ []);
}

abbrev pub deck_of_seed : ℕ → ℕ → DeckLines
deck_of_seed seed count = deck_of (choices count seed)
