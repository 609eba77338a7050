-- What the top call answers, and what it then has written.
use Rattle.std.specs.Prelude.{◌≡◌, ◌⊎◌, ◌<◌, ◌≤◌, ℕ, Bool, true, false, List, [], ◌∷◌, length, codes, Option, Some, None, Result, Ok, Err, All, if◌then◌else◌}
use Rattle.std.specs.Str.{bytes_eq}
use Rattle.std.specs.Io.KnownBytes.{Consumes, IsAtEnd, Appends}
use Rattle.ckd_outside.specs.Texts.{AppendsFront}
use Rattle.deck_gen.specs.Generated.{deck_of_seed}
use Rattle.deck_text.specs.DeckLines.{DeckLines}
use Rattle.deck_text.specs.declared.line.DeckFault.{DeckFault}
use Rattle.deck_text.specs.declared.line.DeckFault.TheVariants as faults
use Rattle.deck_text.specs.Canonical.{canonical}
use Rattle.deck_text.specs.Parse.{parsed}
use Rattle.deck_text.specs.Texts.{limit_text, refused_text}
use Rattle.deck_top.specs.declared.task.Task.{Task}
use Rattle.deck_top.specs.declared.task.Task.TheVariants.{Run, Check, Generate}
use Rattle.deck_top.specs.declared.top.Status.{Status}
use Rattle.deck_top.specs.declared.top.Status.TheVariants.{Reported, DeckRefused, ReadFault, WriteFault, Limit, NoMemory, Usage}
use Rattle.deck_top.specs.Bays.{BayView, HandsOut}
use Rattle.deck_top.specs.Handed.{TakesBack, TakesBackOn}
use Rattle.device_outside.specs.Bay.{Bay}
use Rattle.device_outside.specs.declared.bay.Spoiled.{Spoiled}
use Rattle.device_outside.specs.Volume.{VolumeView}
use Rattle.move_laws.specs.Chosen.{EndsFastWrites}
use Rattle.move_laws.specs.Exactly.{MovesExactly}
use Rattle.promise_laws.specs.Kept.{KeepWrites, KeepWritesOn}
use Rattle.promise_laws.specs.Origins.{HaveOrigins}
use Rattle.report_text.specs.Numbers.{number_in}
use Rattle.report_text.specs.Summary.{summary_text}
use Rattle.run_report.specs.Report.{report_of, report_on}
use Rattle.run_report.specs.Shown.{DeckRunsPlainly, DeckRunsPlainlyOn}
use Rattle.run_report.specs.Summed.{summary_of}
use Rattle.subsystem_defs.specs.Decks.{AreWhole, Firsts, run_of, run_on}
use Rattle.subsystem_defs.specs.Promised.{IsPromised, IsPromisedOn}
use Rattle.ckd_outside.specs.Causes.{Rose}

-- the exit status of the program
abbrev pub code_of : Status → ℕ
code_of Reported = 0
code_of (DeckRefused line why) = 1
code_of ReadFault = 2
code_of WriteFault = 3
code_of (Limit which) = 4
code_of NoMemory = 5
code_of Usage = 6

abbrev pub task_by : List ℕ → Option Task
task_by word = if bytes_eq word (codes "run") then Some Run else if bytes_eq word (codes "check") then Some Check else None

-- a seed of 64 bits, and 1 to 512 programs
abbrev pub generate_by : Option ℕ → Option ℕ → Option Task
generate_by (Some seed) (Some count) = Some (Generate seed count)
generate_by (Some seed) None = None
generate_by None count = None

abbrev pub generate_of : List ℕ → List ℕ → List ℕ → Option Task
generate_of word seed count =
    if bytes_eq word (codes "generate") then generate_by (number_in 0 18446744073709551615 seed) (number_in 1 512 count) else None

-- one word alone names a task, or three
unfoldable pub task_of : List (List ℕ) → Option Task
task_of [] = None
task_of (word ∷ []) = task_by word
task_of (word ∷ seed ∷ []) = None
task_of (word ∷ seed ∷ count ∷ []) = generate_of word seed count
task_of (word ∷ seed ∷ count ∷ other ∷ words) = None

abbrev pub IsServed : Task → Type 0
IsServed (Generate seed count) = count ≤ 512
IsServed _ = Unit {0}

-- in a run the bay makes volumes
abbrev pub is_run : Option Task → Bool
is_run None = false
is_run (Some Check) = false
is_run (Some Run) = true
is_run (Some (Generate seed count)) = true

unfoldable pub usage_text : List ℕ
usage_text = codes "usage: run, check, generate SEED COUNT\n"

-- what a task writes for a deck on volumes that hold these tracks first: the report of its run, its canonical text, or the summary of its run
abbrev pub output_on : Firsts → Task → DeckLines → List ℕ
output_on firsts Run d = report_on firsts d
output_on firsts Check d = canonical d
output_on firsts (Generate seed count) d = summary_text (summary_of (run_on firsts d))

-- on empty ones
abbrev pub output_of : Task → DeckLines → List ℕ
output_of Run d = report_of d
output_of Check d = canonical d
output_of (Generate seed count) d = summary_text (summary_of (run_of d))

-- what is written
abbrev pub text_of : Task → Result DeckLines DeckFault → List ℕ
text_of task (Ok d) = output_of task d
text_of task (Err (faults.Refused line why)) = refused_text line why
text_of task (Err (faults.Limit which)) = limit_text which
text_of task (Err faults.NoMemory) = []

-- The report and the summary of a run are those of the defined run on what the bay's volumes hold, where that is told, and else whatever its devices
-- made of what they read

abbrev pub IsOutputOn : {V : Type 0} → BayView V → Task → DeckLines → List ℕ → Type 0
IsOutputOn bay task d text = (firsts : Firsts) → HandsOut bay firsts → text ≡ output_on firsts task d

-- of a bay of empty volumes, where no track was spoiled
abbrev pub IsOutput : List Spoiled → Task → DeckLines → List ℕ → Type 0
IsOutput spoiled task d text = spoiled ≡ [] → text ≡ output_of task d

-- The report shows each device's history, which is one of a plain device that began with these tracks; each equipment check is explained, and none comes
-- where the command chose its write to be fast or provisional; and while each failure is repaired before the next one comes nothing is missed. Each event
-- brings into a journal only what an event of its kind may bring, a new volume at the UNPAIR alone that gives it back; and what each track is without data
-- of cache fast write was made, of what its volume held first or of a new one, by the writes since then that were acknowledged, and by those of commands
-- that were cut in their midst. The reads and writes of volumes that each event shows are exactly those of the rules: of a command those of its looks and
-- its write, where a hit reads none and a fast or provisional write writes none
pub record RunsAsPromisedOn (firsts : Firsts) (d : DeckLines) : Type 0 where
  pub shown : DeckRunsPlainlyOn firsts d
  pub promised : IsPromisedOn firsts d
  pub fast : All EndsFastWrites (run_on firsts d).events
  pub origins : All HaveOrigins (run_on firsts d).events
  pub kept : All (KeepWritesOn firsts) (run_on firsts d).events
  pub transfers : All MovesExactly (run_on firsts d).events

-- on empty volumes
pub record RunsAsPromised (d : DeckLines) : Type 0 where
  pub shown : DeckRunsPlainly d
  pub promised : IsPromised d
  pub fast : All EndsFastWrites (run_of d).events
  pub origins : All HaveOrigins (run_of d).events
  pub kept : All KeepWrites (run_of d).events
  pub transfers : All MovesExactly (run_of d).events

-- the run of a deck, of which all is so that is promised, whatever the volumes held first, and whose volumes go back to the bay
pub record RanOn {V : Type 0} (view : V → VolumeView (List ℕ)) (old new : BayView V) (d : DeckLines) : Type 0 where
  pub promised : (firsts : Firsts) → AreWhole firsts → RunsAsPromisedOn firsts d
  pub volumes : TakesBackOn view d old new

-- on empty ones
pub record Ran (old new : Bay) (d : DeckLines) : Type 0 where
  pub promised : RunsAsPromised d
  pub volumes : TakesBack d old new

-- the source gave this text: all of it, or its first 16,777,217 bytes
pub record Reads (before after : Option (List ℕ)) (text : List ℕ) : Type 0 where
  pub read : Consumes before after text
  pub bound : length text ≤ 16777217
  pub whole : length text < 16777217 → IsAtEnd after

-- a text was written, with this status, or a front of it
abbrev pub IsWritten : Status → Status → List ℕ → Option (List ℕ) → Option (List ℕ) → Type 0
IsWritten status done text held holds = ((status ≡ done) × Appends held holds text) ⊎ ((status ≡ WriteFault) × AppendsFront held holds text)

-- what the answer to words that name no task says: the program's usage
abbrev pub TellsUsageBy : List ℕ → Status → Option (List ℕ) → Option (List ℕ) → Option (List ℕ) → Option (List ℕ) → Type 0
TellsUsageBy usage status before after held holds = (after ≡ before) × IsWritten status Usage usage held holds

abbrev pub TellsUsage : Status → Option (List ℕ) → Option (List ℕ) → Option (List ℕ) → Option (List ℕ) → Type 0
TellsUsage status before after held holds = TellsUsageBy usage_text status before after held holds

-- What an answer says, by which texts are the output of a task for a deck, and what is so of a deck that ran

-- what is written of a deck at a fault
abbrev pub FrontBy : (Task → DeckLines → List ℕ → Type 0) → Result DeckLines DeckFault → Task → Option (List ℕ) → Option (List ℕ) → Type 0
FrontBy Output (Err fault) task held holds = AppendsFront held holds (text_of task (Err fault))
FrontBy Output (Ok d) Check held holds = AppendsFront held holds (canonical d)
FrontBy Output (Ok d) task held holds = (text : List ℕ) × Output task d text × AppendsFront held holds text

module _ (Output : Task → DeckLines → List ℕ → Type 0) (HasRun : DeckLines → Type 0) where
  -- what is done for a deck: its canonical text, or the report or the summary of its run
  abbrev pub IsDoneBy : Task → DeckLines → Option (List ℕ) → Option (List ℕ) → Type 0
  IsDoneBy Check d held holds = Appends held holds (canonical d)
  IsDoneBy task d held holds = (text : List ℕ) × Output task d text × Appends held holds text × HasRun d

  -- what an answer says of the deck that was read, and of what the sink holds
  abbrev pub TellsDeckBy : Status → Task → Result DeckLines DeckFault → Option (List ℕ) → Option (List ℕ) → Type 0
  TellsDeckBy Reported task deck held holds = (d : DeckLines) × (deck ≡ Ok d) × IsDoneBy task d held holds
  TellsDeckBy (DeckRefused line why) task deck held holds = (deck ≡ Err (faults.Refused line why)) × Appends held holds (refused_text line why)
  TellsDeckBy (Limit which) task deck held holds = (deck ≡ Err (faults.Limit which)) × Appends held holds (limit_text which)
  TellsDeckBy WriteFault task deck held holds = FrontBy Output deck task held holds
  TellsDeckBy NoMemory task deck held holds = holds ≡ held
  TellsDeckBy ReadFault task deck held holds = ⊥
  TellsDeckBy Usage task deck held holds = ⊥

  -- what an answer to a task says of the source that its deck is read from, and of the sink
  abbrev pub TellsReadBy : Status → Task → Option (List ℕ) → Option (List ℕ) → Option (List ℕ) → Option (List ℕ) → Type 0
  TellsReadBy ReadFault task before after held holds = holds ≡ held
  TellsReadBy NoMemory task before after held holds = holds ≡ held
  TellsReadBy status task before after held holds = (text : List ℕ) × Reads before after text × TellsDeckBy status task (parsed text) held holds

  -- a deck that is generated is read from nowhere
  abbrev pub TellsTaskBy : Status → Task → Option (List ℕ) → Option (List ℕ) → Option (List ℕ) → Option (List ℕ) → Type 0
  TellsTaskBy status (Generate seed count) before after held holds =
      (after ≡ before) × TellsDeckBy status (Generate seed count) (Ok (deck_of_seed seed count)) held holds
  TellsTaskBy status task before after held holds = TellsReadBy status task before after held holds

  -- what an answer says of the words, of the source and of the sink
  abbrev pub TellsBy : Status → Option Task → Option (List ℕ) → Option (List ℕ) → Option (List ℕ) → Option (List ℕ) → Type 0
  TellsBy status None before after held holds = TellsUsage status before after held holds
  TellsBy status (Some task) before after held holds = TellsTaskBy status task before after held holds

-- of a bay, too
module _ {V : Type 0} (view : V → VolumeView (List ℕ)) (old new : BayView V) where
  abbrev pub TellsDeckOn : Status → Task → Result DeckLines DeckFault → Option (List ℕ) → Option (List ℕ) → Type 0
  TellsDeckOn status task deck held holds = TellsDeckBy (IsOutputOn old) (RanOn view old new) status task deck held holds

  abbrev pub TellsReadOn : Status → Task → Option (List ℕ) → Option (List ℕ) → Option (List ℕ) → Option (List ℕ) → Type 0
  TellsReadOn status task before after held holds = TellsReadBy (IsOutputOn old) (RanOn view old new) status task before after held holds

  abbrev pub TellsTaskOn : Status → Task → Option (List ℕ) → Option (List ℕ) → Option (List ℕ) → Option (List ℕ) → Type 0
  TellsTaskOn status task before after held holds = TellsTaskBy (IsOutputOn old) (RanOn view old new) status task before after held holds

  abbrev pub TellsOn : Status → Option Task → Option (List ℕ) → Option (List ℕ) → Option (List ℕ) → Option (List ℕ) → Type 0
  TellsOn status task before after held holds = TellsBy (IsOutputOn old) (RanOn view old new) status task before after held holds

-- of a bay of empty volumes in memory
abbrev pub FrontOf : Result DeckLines DeckFault → Task → List Spoiled → Option (List ℕ) → Option (List ℕ) → Type 0
FrontOf deck task spoiled held holds = FrontBy (IsOutput spoiled) deck task held holds

abbrev pub Tells : Status → Option Task → Bay → Bay → Option (List ℕ) → Option (List ℕ) → Option (List ℕ) → Option (List ℕ) → Type 0
Tells status task old new before after held holds = TellsBy (IsOutput old.spoiled) (Ran old new) status task before after held holds

-- a failed write is told only where a write failed, by the sink's count of faults before and after
abbrev pub WriteFaultHasCause : Status → ℕ → ℕ → Type 0
WriteFaultHasCause status before after = status ≡ WriteFault → Rose before after
