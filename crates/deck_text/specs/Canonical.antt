-- The canonical text of a deck: its lines without those that were skipped.
use Rattle.std.specs.Prelude.{ℕ, List, [], ◌∷◌, ◌++◌, codes, decimal, Bool, if◌then◌else◌}
use Rattle.std.specs.List.{flat_map}
use Rattle.hex.specs.Hex.{encode_upper}
use Rattle.ckd_types.specs.declared.channel.Ccw.{Ccw}
use Rattle.ckd_types.specs.declared.geometry.Geometry.{Geometry}
use Rattle.ckd_types.specs.declared.geometry.Geometry.TheVariants.{D3390, D3380}
use Rattle.ckd_types.specs.declared.paths.Side.{Side}
use Rattle.ckd_types.specs.declared.paths.Side.TheVariants.{A, B}
use Rattle.deck_plan.specs.declared.event.EventLine.{EventLine}
use Rattle.deck_plan.specs.declared.event.EventLine.TheVariants.{Start, Step, Run, Back, Settle, Reset, FailCache, FailStore, FailVolume, RepairCache}
use Rattle.deck_plan.specs.declared.event.EventLine.TheVariants.{RepairStore, Replace, Pair, Unpair, Suspend, Resume, Power}
use Rattle.deck_text.specs.declared.line.DeviceLine.{DeviceLine}
use Rattle.deck_text.specs.declared.line.FaultLine.{FaultLine}
use Rattle.deck_text.specs.declared.line.PlannedProgram.{PlannedProgram}
use Rattle.deck_text.specs.DeckLines.{DeckLines}

-- DECK, CACHE and STORE
unfoldable pub head_text : ℕ → ℕ → List ℕ
head_text frames slots = codes "DECK 1\nCACHE " ++ (decimal frames ++ (codes "\nSTORE " ++ (decimal slots ++ codes "\n")))

abbrev pub geometry_number : Geometry → ℕ
geometry_number D3390 = 3390
geometry_number D3380 = 3380

unfoldable pub device_text : DeviceLine → List ℕ
device_text d =
    codes "DEVICE " ++ (decimal d.number ++ (codes " " ++ (decimal (geometry_number d.geometry) ++ (codes " " ++ (decimal d.cylinders ++ codes "\n")))))

unfoldable pub call_text : Bool → List ℕ
call_text write = if write then codes " WRITE " else codes " READ "

unfoldable pub fault_text : FaultLine → List ℕ
fault_text f = codes "FAULT " ++ (decimal f.device ++ (call_text f.write ++ (decimal f.call ++ codes "\n")))

unfoldable pub program_text : ℕ → ℕ → List ℕ
program_text path device = codes "PROGRAM " ++ (decimal path ++ (codes " " ++ (decimal device ++ codes "\n")))

-- a space and the bytes in one word, where there are any
abbrev pub bytes_text : List ℕ → List ℕ
bytes_text [] = []
bytes_text (b ∷ bytes) = 32 ∷ encode_upper (b ∷ bytes)

unfoldable pub word_text : Ccw → List ℕ
word_text c = codes "CCW " ++ (encode_upper (c.command ∷ []) ++ (codes " " ++ (encode_upper (c.flags ∷ []) ++ (codes " " ++ decimal c.count))))

unfoldable pub line_end : List ℕ
line_end = codes "\n"

abbrev pub ccw_text : Ccw → List ℕ
ccw_text c = word_text c ++ (bytes_text c.given ++ line_end)

unfoldable pub end_text : List ℕ
end_text = codes "END\n"

abbrev pub planned_text : PlannedProgram → List ℕ
planned_text p = program_text p.path p.device ++ (flat_map ccw_text p.program ++ end_text)

unfoldable pub events_text : List ℕ
events_text = codes "EVENTS\n"

unfoldable pub side_text : Side → List ℕ
side_text A = codes " A\n"
side_text B = codes " B\n"

-- a line that ends with one number, with two, and with a number and a side
unfoldable pub with_one : List ℕ → ℕ → List ℕ
with_one text a = text ++ (decimal a ++ codes "\n")

unfoldable pub with_two : List ℕ → ℕ → ℕ → List ℕ
with_two text a b = text ++ (decimal a ++ (codes " " ++ (decimal b ++ codes "\n")))

unfoldable pub with_side : List ℕ → ℕ → Side → List ℕ
with_side text a side = text ++ (decimal a ++ side_text side)

unfoldable pub event_text : EventLine → List ℕ
event_text (Start path device) = with_two (codes "START ") path device
event_text (Step device) = with_one (codes "STEP ") device
event_text (Run device) = with_one (codes "RUN ") device
event_text (Back device) = with_one (codes "BACK ") device
event_text (Settle device) = with_one (codes "SETTLE ") device
event_text (Reset path device) = with_two (codes "RESET ") path device
event_text FailCache = codes "FAIL CACHE\n"
event_text FailStore = codes "FAIL STORE\n"
event_text (FailVolume device side) = with_side (codes "FAIL VOLUME ") device side
event_text RepairCache = codes "REPAIR CACHE\n"
event_text RepairStore = codes "REPAIR STORE\n"
event_text (Replace device side) = with_side (codes "REPLACE ") device side
event_text (Pair first second) = with_two (codes "PAIR ") first second
event_text (Unpair device) = with_one (codes "UNPAIR ") device
event_text (Suspend device) = with_one (codes "SUSPEND ") device
event_text (Resume device) = with_one (codes "RESUME ") device
event_text Power = codes "POWER\n"

abbrev pub from_events : DeckLines → List ℕ
from_events d = events_text ++ flat_map event_text d.events

abbrev pub from_programs : DeckLines → List ℕ
from_programs d = flat_map planned_text d.programs ++ from_events d

abbrev pub from_faults : DeckLines → List ℕ
from_faults d = flat_map fault_text d.faults ++ from_programs d

abbrev pub from_devices : DeckLines → List ℕ
from_devices d = flat_map device_text d.devices ++ from_faults d

abbrev pub canonical : DeckLines → List ℕ
canonical d = head_text d.frames d.slots ++ from_devices d
