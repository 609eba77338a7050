-- What is written for a deck, and what an answer says of it.
use Rattle.std.specs.Prelude.{◌≡◌, ◌⊎◌, ℕ, List, [], Option, Result, Ok, Err}
use Rattle.std.specs.Io.KnownBytes.{Appends}
use Rattle.ckd_outside.specs.Texts.{AppendsFront}
use Rattle.deck_text.specs.declared.line.DeckFault.{DeckFault}
use Rattle.deck_text.specs.declared.line.DeckFault.TheVariants as faults
use Rattle.deck_text.specs.DeckLines.{DeckLines}
use Rattle.deck_text.specs.Parse.{parsed}
use Rattle.deck_text.specs.Texts as texts
use Rattle.line_drive.specs.declared.stage.Stopped.TheVariants as stopped
use Rattle.point_copy.specs.CopyRun.{IsPlainVolumeAt}
use Rattle.volume_file.specs.File.{ImageVolume, IsWhole, file_of}
use Rattle.volume_save.specs.DeckTexts.{Reads}
use Rattle.copy_tool.specs.declared.task.Task.{Task}
use Rattle.copy_tool.specs.declared.task.Task.TheVariants.{Copy, Mirror}
use Rattle.copy_tool.specs.declared.unmade.Unmade.{Unmade}
use Rattle.copy_tool.specs.declared.top.CopyStatus.{CopyStatus}
use Rattle.copy_tool.specs.declared.top.CopyStatus.TheVariants.{
  Done,
  DeckRefused,
  ReadFault,
  WriteFault,
  Limit,
  NoMemory,
  NotMade,
}
use Rattle.copy_tool.specs.Copying.{Made, copying_of, not_made}
use Rattle.copy_tool.specs.Mirroring.{mirroring_of}
use Rattle.copy_tool.specs.Texts.{unmade_text}

abbrev pub made_for : DeckLines → Task → Made
made_for deck (Copy d n) = copying_of deck d n
made_for deck (Mirror d n) = mirroring_of deck d n

-- a copy is the plain volume after the first n lines
abbrev pub IsPlainFor : DeckLines → Task → ImageVolume → Type 0
IsPlainFor deck (Copy d n) v = IsPlainVolumeAt deck n d v
IsPlainFor deck (Mirror d n) v = Unit {0}

abbrev pub status_of : Made → CopyStatus
status_of (Ok v) = Done
status_of (Err (stopped.Ended why)) = NotMade why
status_of (Err stopped.NoMemory) = NoMemory

abbrev pub made_text : Task → Made → List ℕ
made_text task (Ok v) = file_of v
made_text task (Err (stopped.Ended why)) = unmade_text task why
made_text task (Err stopped.NoMemory) = []

-- how a task ends, and what it writes, where memory and the outside hold
abbrev pub status_for : DeckLines → Task → CopyStatus
status_for deck task = status_of (made_for deck task)

abbrev pub text_for : DeckLines → Task → List ℕ
text_for deck task = made_text task (made_for deck task)

-- Answers

-- a text was written, or at a fault a front of it
abbrev pub IsWritten : CopyStatus → CopyStatus → Option (List ℕ) → Option (List ℕ) → List ℕ → Type 0
IsWritten status wanted held holds text = ((status ≡ wanted) × Appends held holds text) ⊎ ((status ≡ WriteFault) × AppendsFront held holds text)

abbrev pub FrontOf : Result DeckLines DeckFault → Task → Option (List ℕ) → Option (List ℕ) → Type 0
FrontOf (Ok deck) task held holds = AppendsFront held holds (text_for deck task)
FrontOf (Err (faults.Refused line why)) task held holds = AppendsFront held holds (texts.refused_text line why)
FrontOf (Err (faults.Limit which)) task held holds = AppendsFront held holds (texts.limit_text which)
FrontOf (Err faults.NoMemory) task held holds = ⊥

-- the file is that of the volume that is asked for of the deck
pub record WritesFile (deck : Result DeckLines DeckFault) (task : Task) (held holds : Option (List ℕ)) : Type 0 where
  pub lines : DeckLines
  pub read : deck ≡ Ok lines
  pub volume : ImageVolume
  pub made : made_for lines task ≡ Ok volume
  pub plain : IsPlainFor lines task volume
  pub whole : IsWhole volume
  pub written : Appends held holds (file_of volume)

-- no file is made, for this reason, which was written
pub record Refuses (deck : Result DeckLines DeckFault) (task : Task) (why : Unmade) (held holds : Option (List ℕ)) : Type 0 where
  pub lines : DeckLines
  pub read : deck ≡ Ok lines
  pub why_is : made_for lines task ≡ not_made why
  pub written : Appends held holds (unmade_text task why)

-- what an answer says of the deck that was read, and of the sink
abbrev pub TellsDeck : CopyStatus → Task → Result DeckLines DeckFault → Option (List ℕ) → Option (List ℕ) → Type 0
TellsDeck Done task deck held holds = WritesFile deck task held holds
TellsDeck (DeckRefused line why) task deck held holds = (deck ≡ Err (faults.Refused line why)) × Appends held holds (texts.refused_text line why)
TellsDeck (Limit which) task deck held holds = (deck ≡ Err (faults.Limit which)) × Appends held holds (texts.limit_text which)
TellsDeck (NotMade why) task deck held holds = Refuses deck task why held holds
TellsDeck WriteFault task deck held holds = FrontOf deck task held holds
TellsDeck NoMemory task deck held holds = holds ≡ held
TellsDeck _ task deck held holds = ⊥

pub record TellsRead (status : CopyStatus) (task : Task) (before after held holds : Option (List ℕ)) : Type 0 where
  pub text : List ℕ
  pub reads : Reads before after text
  pub told : TellsDeck status task (parsed text) held holds

-- what an answer to a task says of the source and of the sink
abbrev pub TellsTask : CopyStatus → Task → Option (List ℕ) → Option (List ℕ) → Option (List ℕ) → Option (List ℕ) → Type 0
TellsTask ReadFault task before after held holds = holds ≡ held
TellsTask NoMemory task before after held holds = holds ≡ held
TellsTask status task before after held holds = TellsRead status task before after held holds
