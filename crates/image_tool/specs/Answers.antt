-- What the top call answers, and what it then has written.
use Rattle.std.specs.Prelude.{◌≡◌, ◌≤◌, ℕ, List, [], ◌∷◌, codes, ⊤, Option, Some, None, Ok, if◌then◌else◌}
use Rattle.std.specs.Str.{bytes_eq}
use Rattle.ckd_types.specs.declared.geometry.Geometry.{Geometry}
use Rattle.ckd_types.specs.declared.geometry.Geometry.TheVariants.{D3390, D3380}
use Rattle.disk_image.specs.Opening.{opening}
use Rattle.disk_image.specs.Volume.{Holds, IsDiskVolume, layout_of}
use Rattle.report_text.specs.Numbers.{number_in}
use Rattle.volume_file.specs.File.{ImageVolume, IsWhole, file_of}
use Rattle.image_tool.specs.declared.task.Task.{Task}
use Rattle.image_tool.specs.declared.task.Task.TheVariants as tasks
use Rattle.image_tool.specs.declared.status.ImageStatus.{ImageStatus}
use Rattle.image_tool.specs.declared.status.ImageStatus.TheVariants.{
  Done,
  ReadFault,
  WriteFault,
  NoMemory,
  Usage,
  HasBytes,
  Other,
  BadImage,
  BadTracks,
  BadVolume,
  FileFault,
}
use Rattle.image_tool.specs.Reading.{Checks, ShowsFile, ShowsList, checking}
use Rattle.image_tool.specs.Storing.{TellsFrom, TellsNew}
use Rattle.image_tool.specs.Written.{IsWritten, Outside}
use Rattle.ckd_outside.specs.Causes.{Rose}

-- the exit status of the program
abbrev pub code_of : ImageStatus → ℕ
code_of Done = 0
code_of ReadFault = 2
code_of WriteFault = 3
code_of NoMemory = 5
code_of Usage = 6
code_of HasBytes = 7
code_of (Other image volume) = 7
code_of (BadImage fault) = 8
code_of BadTracks = 8
code_of (BadVolume fault) = 8
code_of FileFault = 9

unfoldable pub task_by : List ℕ → Option Task
task_by word =
    if bytes_eq word (codes "check") then Some tasks.Check
    else if bytes_eq word (codes "list") then Some tasks.List
    else if bytes_eq word (codes "to-volume") then Some tasks.ToVolume
    else if bytes_eq word (codes "from-volume") then Some tasks.FromVolume
    else None

abbrev pub model_by : List ℕ → Option Geometry
model_by word = if bytes_eq word (codes "3390") then Some D3390 else if bytes_eq word (codes "3380") then Some D3380 else None

abbrev pub new_of : Option Geometry → Option ℕ → Option Task
new_of None n = None
new_of (Some g) None = None
new_of (Some g) (Some n) = Some (tasks.New g n)

unfoldable pub new_by : List ℕ → List ℕ → List ℕ → Option Task
new_by word model cylinders = if bytes_eq word (codes "new") then new_of (model_by model) (number_in 1 4369 cylinders) else None

-- a word and a file name a task, or a word, a model, a number and a file
unfoldable pub task_of : List (List ℕ) → Option Task
task_of [] = None
task_of (word ∷ []) = None
task_of (word ∷ file ∷ []) = task_by word
task_of (word ∷ model ∷ file ∷ []) = None
task_of (word ∷ model ∷ cylinders ∷ file ∷ []) = new_by word model cylinders
task_of (word ∷ model ∷ cylinders ∷ file ∷ other ∷ words) = None

-- a new image has no more cylinders than a device may have
abbrev pub IsSmall : Task → Type 0
IsSmall (tasks.New g cylinders) = cylinders ≤ 4369
IsSmall task = ⊤

unfoldable pub usage_text : List ℕ
usage_text = codes "usage: new 3390|3380 C FILE, check FILE, list FILE, to-volume FILE, from-volume FILE\n"

-- nothing was read from the source, and the file is as it was
abbrev pub IsUntouched : Outside → Outside → Type 0
IsUntouched old new = (new.left ≡ old.left) × (new.file ≡ old.file)

-- what an answer says of the words, of source, sink and file
abbrev pub Tells : ImageStatus → Option Task → Outside → Outside → Type 0
Tells status None old new = IsUntouched old new × IsWritten status Usage old.held new.held usage_text
Tells status (Some (tasks.New g cylinders)) old new = (new.left ≡ old.left) × TellsNew status g cylinders old.file new.file old.held new.held
Tells status (Some tasks.Check) old new = IsUntouched old new × Checks status old.file old.held new.held
Tells status (Some tasks.List) old new = IsUntouched old new × ShowsList status old.file old.held new.held
Tells status (Some tasks.ToVolume) old new = IsUntouched old new × ShowsFile status old.file old.held new.held
Tells status (Some tasks.FromVolume) old new = TellsFrom status old new

-- what a task needs of source and file to be done
abbrev pub Suits : Task → Option (List ℕ) → Option (List ℕ) → Type 0
Suits (tasks.New g cylinders) left file = file ≡ Some []
Suits tasks.Check left file = (all : List ℕ) × (file ≡ Some all) × (checking all ≡ Ok [])
Suits tasks.List left file = (all : List ℕ) × (file ≡ Some all) × ((v : ImageVolume) × IsDiskVolume v × Holds v all)
Suits tasks.ToVolume left file = (all : List ℕ) × (file ≡ Some all) × ((v : ImageVolume) × IsWhole v × Holds v all)
Suits tasks.FromVolume left file =
    (v : ImageVolume) × IsWhole v × (left ≡ Some (file_of v)) × ((all : List ℕ) × (file ≡ Some all) × (opening all ≡ Ok (layout_of v)))

-- a failed write is told only where a write failed, by the sink's count of faults before and after
abbrev pub WriteFaultHasCause : ImageStatus → ℕ → ℕ → Type 0
WriteFaultHasCause status before after = status ≡ WriteFault → Rose before after

-- and a failed call of the file only where one failed
abbrev pub ToldFaultHasCause : ImageStatus → ℕ → ℕ → Type 0
ToldFaultHasCause status before after = status ≡ FileFault → Rose before after
