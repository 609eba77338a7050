-- What the top call answers, and what it then has written.
use Rattle.std.specs.Prelude.{◌≡◌, ◌⊎◌, ℕ, List, [], ◌∷◌, codes, Option, Some, None, if◌then◌else◌}
use Rattle.std.specs.Str.{bytes_eq}
use Rattle.std.specs.Io.KnownBytes.{Appends}
use Rattle.ckd_outside.specs.Texts.{AppendsFront}
use Rattle.report_text.specs.Numbers.{number_in}
use Rattle.volume_file.specs.declared.fault.LoadFault.{LoadFault}
use Rattle.volume_file.specs.declared.fault.LoadFault.TheVariants as faults
use Rattle.volume_file.specs.File.{ImageVolume}
use Rattle.volume_file.specs.Loading.{loading}
use Rattle.volume_file.specs.Answers.{IsRefused}
use Rattle.volume_texts.specs.Faults.{head_text, refused_text, track_text, trailing_text}
use Rattle.volume_texts.specs.Given.{IsFile}
use Rattle.volume_texts.specs.List.{list_text}
use Rattle.volume_tool.specs.declared.task.Task.{Task}
use Rattle.volume_tool.specs.declared.task.Task.TheVariants as tasks
use Rattle.volume_tool.specs.declared.top.VolumeStatus.{VolumeStatus}
use Rattle.volume_tool.specs.declared.top.VolumeStatus.TheVariants.{
  Done,
  DeckRefused,
  ReadFault,
  WriteFault,
  Limit,
  NoMemory,
  Usage,
  Device,
  Lent,
  Half,
  Lost,
  Fault,
  BadHead,
  BadTrack,
  Trailing,
}
use Rattle.volume_tool.specs.Save.{TellsSave}
use Rattle.volume_tool.specs.Written.{IsWritten}
use Rattle.ckd_outside.specs.Causes.{Rose}

-- the exit status of the program
abbrev pub code_of : VolumeStatus → ℕ
code_of Done = 0
code_of (DeckRefused line why) = 1
code_of ReadFault = 2
code_of WriteFault = 3
code_of (Limit which) = 4
code_of NoMemory = 5
code_of Usage = 6
code_of Device = 7
code_of Lent = 7
code_of Half = 7
code_of (Lost t) = 7
code_of (Fault side) = 7
code_of (BadHead offset) = 8
code_of (BadTrack track offset) = 8
code_of (Trailing offset) = 8

abbrev pub task_by : List ℕ → Option Task
task_by word = if bytes_eq word (codes "list") then Some tasks.List else None

abbrev pub save_by : Option ℕ → Option Task
save_by (Some n) = Some (tasks.Save n)
save_by None = None

-- a device's number has 32 bits here
abbrev pub save_of : List ℕ → List ℕ → Option Task
save_of word number = if bytes_eq word (codes "save") then save_by (number_in 0 4294967295 number) else None

-- one word names a task, or two
unfoldable pub task_of : List (List ℕ) → Option Task
task_of [] = None
task_of (word ∷ []) = task_by word
task_of (word ∷ number ∷ []) = save_of word number
task_of (word ∷ number ∷ other ∷ words) = None

unfoldable pub usage_text : List ℕ
usage_text = codes "usage: save D, list\n"

-- the answer to a file that couldn't be loaded
abbrev pub TellsFault : VolumeStatus → LoadFault → Option (List ℕ) → Option (List ℕ) → Type 0
TellsFault status (faults.BadHead offset) held holds = IsWritten status (BadHead offset) held holds (head_text offset)
TellsFault status (faults.BadTrack track offset) held holds = IsWritten status (BadTrack track offset) held holds (track_text track offset)
TellsFault status (faults.Trailing offset) held holds = IsWritten status (Trailing offset) held holds (trailing_text offset)
TellsFault status faults.ReadFault held holds = (status ≡ ReadFault) × (holds ≡ held)
TellsFault status faults.NoMemory held holds = (status ≡ NoMemory) × (holds ≡ held)

-- what an answer to `list` says of the source and of the sink
abbrev pub TellsList : VolumeStatus → Option (List ℕ) → Option (List ℕ) → Option (List ℕ) → Option (List ℕ) → Type 0
TellsList Done before after held holds = (v : ImageVolume) × IsFile before after v × Appends held holds (list_text v)
TellsList (BadHead offset) before after held holds = IsRefused loading before (faults.BadHead offset) × Appends held holds (head_text offset)
TellsList (BadTrack track offset) before after held holds =
    IsRefused loading before (faults.BadTrack track offset) × Appends held holds (track_text track offset)
TellsList (Trailing offset) before after held holds = IsRefused loading before (faults.Trailing offset) × Appends held holds (trailing_text offset)
TellsList WriteFault before after held holds =
    ((v : ImageVolume) × IsFile before after v × AppendsFront held holds (list_text v))
    ⊎ ((fault : LoadFault) × IsRefused loading before fault × AppendsFront held holds (refused_text fault))
TellsList ReadFault before after held holds = holds ≡ held
TellsList NoMemory before after held holds = holds ≡ held
TellsList _ before after held holds = ⊥

-- what an answer says of the words, of the source and of the sink
abbrev pub Tells : VolumeStatus → Option Task → Option (List ℕ) → Option (List ℕ) → Option (List ℕ) → Option (List ℕ) → Type 0
Tells status None before after held holds = (after ≡ before) × IsWritten status Usage held holds usage_text
Tells status (Some tasks.List) before after held holds = TellsList status before after held holds
Tells status (Some (tasks.Save n)) before after held holds = TellsSave status n before after held holds

-- a failed write is told only where a write failed, by the sink's count of faults before and after
abbrev pub WriteFaultHasCause : VolumeStatus → ℕ → ℕ → Type 0
WriteFaultHasCause status before after = status ≡ WriteFault → Rose before after
