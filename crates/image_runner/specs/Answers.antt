-- What the top call answers, and what it then has written.
use Rattle.std.specs.Prelude.{◌≡◌, ◌⊎◌, ◌<◌, ◌≤◌, ⊤, ℕ, false, List, length, Option, Some, None, Result, Ok, Err}
use Rattle.std.specs.Io.KnownBytes.{Appends, Consumes, IsAtEnd}
use Rattle.ckd_outside.specs.Causes.{Rose}
use Rattle.ckd_outside.specs.Texts.{AppendsFront}
use Rattle.deck_run.specs.Opening.{numbers_in}
use Rattle.deck_text.specs.declared.line.DeckFault.{DeckFault}
use Rattle.deck_text.specs.declared.line.DeckFault.TheVariants as decks
use Rattle.deck_text.specs.declared.line.DeviceLine.{DeviceLine}
use Rattle.deck_text.specs.DeckLines.{DeckLines}
use Rattle.deck_text.specs.Parse.{parsed}
use Rattle.deck_text.specs.Texts.{limit_text, refused_text}
use Rattle.device_outside.specs.Lists.{is_in}
use Rattle.run_report.specs.Report.{report_on}
use Rattle.subsystem_defs.specs.Decks.{Firsts}
use Rattle.image_runner.specs.declared.mounting.MountFault.{MountFault}
use Rattle.image_runner.specs.declared.mounting.MountFault.TheVariants as faults
use Rattle.image_runner.specs.declared.mounting.Refusal.{Refusal}
use Rattle.image_runner.specs.declared.status.RunStatus.{RunStatus}
use Rattle.image_runner.specs.declared.status.RunStatus.TheVariants.{
  Reported,
  DeckRefused,
  ReadFault,
  WriteFault,
  Limit,
  NoMemory,
  Usage,
  Refused,
  FlushFault,
}
use Rattle.image_runner.specs.Racks.{Holding, IsMountFault, firsts_by}
use Rattle.image_runner.specs.Texts.{refusal_text, usage_text}

-- the exit status of the program
abbrev pub code_of_fault : MountFault → ℕ
code_of_fault faults.Device = 7
code_of_fault (faults.Other image device) = 7
code_of_fault (faults.Bad fault) = 8
code_of_fault faults.File = 9
code_of_fault faults.NoMemory = 5

abbrev pub code_of : RunStatus → ℕ
code_of Reported = 0
code_of (DeckRefused line why) = 1
code_of ReadFault = 2
code_of WriteFault = 3
code_of (Limit which) = 4
code_of NoMemory = 5
code_of Usage = 6
code_of (Refused refusal) = code_of_fault refusal.fault
code_of FlushFault = 9

-- a text is the report of the run on the volumes that the words name, where the rack tells what these hold
abbrev pub IsReport : Option Holding → List (List ℕ) → DeckLines → List ℕ → Type 0
IsReport None words deck text = ⊤
IsReport (Some holding) words deck text = text ≡ report_on (firsts_by holding words) deck

pub record IsFaultOfLine (deck : DeckLines) (r : Refusal) : Type 0 where
  pub line : DeviceLine
  pub number : line.number ≡ r.device
  pub fault : IsMountFault line r.fault

-- the deck has no such device; or it has, and the image isn't taken
abbrev pub IsRefused : DeckLines → Refusal → Type 0
IsRefused deck r = ((r.fault ≡ faults.Device) × (is_in r.device (numbers_in deck.devices) ≡ false)) ⊎ IsFaultOfLine deck r

-- the report of a run was written, or a front of it
abbrev pub WritesReport : RunStatus → Option (List ℕ) → Option (List ℕ) → List ℕ → Type 0
WritesReport Reported held holds report = Appends held holds report
WritesReport FlushFault held holds report = Appends held holds report
WritesReport WriteFault held holds report = AppendsFront held holds report
WritesReport _ held holds report = ⊥

pub record Reports (holding : Option Holding) (words : List (List ℕ)) (deck : Result DeckLines DeckFault) (held holds : Option (List ℕ)) : Type 0 where
  pub lines : DeckLines
  pub read : deck ≡ Ok lines
  pub report : List ℕ
  pub is : IsReport holding words lines report
  pub written : Appends held holds report

pub record Refuses (deck : Result DeckLines DeckFault) (r : Refusal) (held holds : Option (List ℕ)) : Type 0 where
  pub lines : DeckLines
  pub read : deck ≡ Ok lines
  pub why : IsRefused lines r
  pub written : Appends held holds (refusal_text r)

-- of what was to be written a front was taken
pub record ReportsFront (holding : Option Holding) (words : List (List ℕ)) (deck : DeckLines) (held holds : Option (List ℕ)) : Type 0 where
  pub report : List ℕ
  pub is : IsReport holding words deck report
  pub front : AppendsFront held holds report

pub record RefusesFront (deck : DeckLines) (held holds : Option (List ℕ)) : Type 0 where
  pub refusal : Refusal
  pub why : IsRefused deck refusal
  pub front : AppendsFront held holds (refusal_text refusal)

abbrev pub FrontOf : Option Holding → List (List ℕ) → Result DeckLines DeckFault → Option (List ℕ) → Option (List ℕ) → Type 0
FrontOf holding words (Ok deck) held holds = ReportsFront holding words deck held holds ⊎ RefusesFront deck held holds
FrontOf holding words (Err (decks.Refused line why)) held holds = AppendsFront held holds (refused_text line why)
FrontOf holding words (Err (decks.Limit which)) held holds = AppendsFront held holds (limit_text which)
FrontOf holding words (Err decks.NoMemory) held holds = ⊥

-- what an answer says of the deck that was read, of the rack, and of the sink
abbrev pub TellsDeck : RunStatus → Option Holding → List (List ℕ) → Result DeckLines DeckFault → Option (List ℕ) → Option (List ℕ) → Type 0
TellsDeck Reported holding words deck held holds = Reports holding words deck held holds
TellsDeck FlushFault holding words deck held holds = Reports holding words deck held holds
TellsDeck (Refused r) holding words deck held holds = Refuses deck r held holds
TellsDeck (DeckRefused line why) holding words deck held holds = (deck ≡ Err (decks.Refused line why)) × Appends held holds (refused_text line why)
TellsDeck (Limit which) holding words deck held holds = (deck ≡ Err (decks.Limit which)) × Appends held holds (limit_text which)
TellsDeck WriteFault holding words deck held holds = FrontOf holding words deck held holds
TellsDeck NoMemory holding words deck held holds = holds ≡ held
TellsDeck ReadFault holding words deck held holds = ⊥
TellsDeck Usage holding words deck held holds = ⊥

-- the source gave this text: all of it, or its first 16,777,217 bytes
pub record Reads (before after : Option (List ℕ)) (text : List ℕ) : Type 0 where
  pub read : Consumes before after text
  pub bound : length text ≤ 16777217
  pub whole : length text < 16777217 → IsAtEnd after

pub record TellsText (status : RunStatus) (holding : Option Holding) (words : List (List ℕ)) (before after held holds : Option (List ℕ)) : Type 0 where
  pub text : List ℕ
  pub reads : Reads before after text
  pub told : TellsDeck status holding words (parsed text) held holds

abbrev pub TellsRead : RunStatus → Option Holding → List (List ℕ) → Option (List ℕ) → Option (List ℕ) → Option (List ℕ) → Option (List ℕ) → Type 0
TellsRead ReadFault holding words before after held holds = holds ≡ held
TellsRead NoMemory holding words before after held holds = holds ≡ held
TellsRead status holding words before after held holds = TellsText status holding words before after held holds

-- what an answer says of the words that name images, of the rack, of the source and of the sink
abbrev pub Tells : RunStatus → Option Holding → Option (List (List ℕ)) → Option (List ℕ) → Option (List ℕ) → Option (List ℕ) → Option (List ℕ) → Type 0
Tells status holding None before after held holds =
    (after ≡ before) × (((status ≡ Usage) × Appends held holds usage_text) ⊎ ((status ≡ WriteFault) × AppendsFront held holds usage_text))
Tells status holding (Some words) before after held holds = TellsRead status holding words before after held holds

-- a failed write is told only where a write failed, by the sink's count of faults before and after
abbrev pub WriteFaultHasCause : RunStatus → ℕ → ℕ → Type 0
WriteFaultHasCause status before after = status ≡ WriteFault → Rose before after
