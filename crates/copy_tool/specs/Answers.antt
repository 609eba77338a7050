-- What the top call answers, and what it then has written.
use Rattle.std.specs.Prelude.{◌≡◌, ℕ, List, [], ◌∷◌, codes, Option, Some, None, if◌then◌else◌}
use Rattle.std.specs.Str.{bytes_eq}
use Rattle.report_text.specs.Numbers.{number_in}
use Rattle.copy_tool.specs.declared.task.Task.{Task}
use Rattle.copy_tool.specs.declared.task.Task.TheVariants.{Copy, Mirror}
use Rattle.copy_tool.specs.declared.top.CopyStatus.{CopyStatus}
use Rattle.copy_tool.specs.declared.top.CopyStatus.TheVariants.{
  Done,
  DeckRefused,
  ReadFault,
  WriteFault,
  Limit,
  NoMemory,
  Usage,
  NotMade,
}
use Rattle.copy_tool.specs.Making.{IsWritten, TellsTask}

-- the exit status of the program
abbrev pub code_of : CopyStatus → ℕ
code_of Done = 0
code_of (DeckRefused line why) = 1
code_of ReadFault = 2
code_of WriteFault = 3
code_of (Limit which) = 4
code_of NoMemory = 5
code_of Usage = 6
code_of (NotMade why) = 7

-- numbers have 32 bits here
abbrev pub number_of : List ℕ → Option ℕ
number_of word = number_in 0 4294967295 word

abbrev pub task_with : List ℕ → ℕ → ℕ → Option Task
task_with word d n = if bytes_eq word (codes "copy") then Some (Copy d n) else if bytes_eq word (codes "mirror") then Some (Mirror d n) else None

abbrev pub task_by : List ℕ → Option ℕ → Option ℕ → Option Task
task_by word None n = None
task_by word (Some d) None = None
task_by word (Some d) (Some n) = task_with word d n

-- a word and two numbers name a task
unfoldable pub task_of : List (List ℕ) → Option Task
task_of [] = None
task_of (word ∷ []) = None
task_of (word ∷ d ∷ []) = None
task_of (word ∷ d ∷ n ∷ []) = task_by word (number_of d) (number_of n)
task_of (word ∷ d ∷ n ∷ other ∷ words) = None

unfoldable pub usage_text : List ℕ
usage_text = codes "usage: copy D N, mirror D N\n"

-- what an answer says of the words, of the source and of the sink. Words that name no task are wrong
abbrev pub Tells : CopyStatus → Option Task → Option (List ℕ) → Option (List ℕ) → Option (List ℕ) → Option (List ℕ) → Type 0
Tells status (Some task) before after held holds = TellsTask status task before after held holds
Tells status None before after held holds = (after ≡ before) × IsWritten status Usage held holds usage_text
