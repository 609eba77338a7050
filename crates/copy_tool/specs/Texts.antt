-- What is written where no file is made.
use Rattle.std.specs.Prelude.{ℕ, List, ◌++◌, codes, decimal, Option, Some, None}
use Rattle.ckd_types.specs.declared.paths.Side.{Side}
use Rattle.ckd_types.specs.declared.paths.Side.TheVariants.{A, B}
use Rattle.copy_tool.specs.declared.task.Task.{Task}
use Rattle.copy_tool.specs.declared.task.Task.TheVariants.{Copy, Mirror}
use Rattle.copy_tool.specs.declared.unmade.Unmade.{Unmade}
use Rattle.copy_tool.specs.declared.unmade.Unmade.TheVariants.{Device, Events, Lent, Half, Loose, Gone, Lost, Fault, Lends}

abbrev pub front_text : Task → List ℕ
front_text (Copy d n) = codes "not copied: "
front_text (Mirror d n) = codes "not mirrored: "

abbrev pub fault_word : Side → List ℕ
fault_word A = codes "fault A"
fault_word B = codes "fault B"

abbrev pub word_of : Unmade → List ℕ
word_of Device = codes "device"
word_of Events = codes "events"
word_of Lent = codes "lent"
word_of Half = codes "half"
word_of (Loose t) = codes "loose"
word_of Gone = codes "gone"
word_of (Lost t) = codes "lost"
word_of (Fault side) = fault_word side
word_of Lends = codes "lends"

-- the track that a reason names
abbrev pub track_of : Unmade → Option ℕ
track_of (Loose t) = Some t
track_of (Lost t) = Some t
track_of _ = None

unfoldable pub word_text : List ℕ → List ℕ → List ℕ
word_text front word = front ++ (word ++ codes "\n")

unfoldable pub track_text : List ℕ → List ℕ → ℕ → List ℕ
track_text front word t = front ++ (word ++ (codes " " ++ (decimal t ++ codes "\n")))

abbrev pub refusal_text : List ℕ → List ℕ → Option ℕ → List ℕ
refusal_text front word (Some t) = track_text front word t
refusal_text front word None = word_text front word

abbrev pub unmade_text : Task → Unmade → List ℕ
unmade_text task why = refusal_text (front_text task) (word_of why) (track_of why)
