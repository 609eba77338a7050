-- A volume's file is listed where nothing fails.
use Rattle.std.proofs.Common.{◌≡◌, ◌⊎◌, inl, inr, ℕ, List, Option, Some, None, refl}
use Rattle.std.proofs.lemmas.Option.{none-some}
use Rattle.volume_file.specs.declared.fault.LoadFault.TheVariants as faults
use Rattle.volume_file.specs.File.{ImageVolume, IsWhole, file_of}
use Rattle.volume_file.proofs.ReadSo.{not_refused}
use Rattle.volume_tool.specs.declared.task.Task.{Task}
use Rattle.volume_tool.specs.declared.task.Task.TheVariants as tasks
use Rattle.volume_tool.specs.declared.top.VolumeStatus.{VolumeStatus}
use Rattle.volume_tool.specs.declared.top.VolumeStatus.TheVariants.{
  Done,
  DeckRefused,
  ReadFault,
  WriteFault,
  Limit,
  NoMemory,
  Usage,
  Device,
  Lent,
  Half,
  Lost,
  Fault,
  BadHead,
  BadTrack,
  Trailing,
}
use Rattle.volume_tool.specs.Answers.{Tells, TellsList}

listed : (status : VolumeStatus) (before after held holds : Option (List ℕ)) (v : ImageVolume) → IsWhole v → before ≡ Some (file_of v)
    → TellsList status before after held holds
    → (status ≡ ReadFault → ⊥) → (status ≡ WriteFault → ⊥) → (status ≡ Done) ⊎ (status ≡ NoMemory)
listed Done before after held holds v w is told nr nw = inl refl
listed NoMemory before after held holds v w is told nr nw = inr refl
listed ReadFault before after held holds v w is told nr nw = absurd (nr refl)
listed WriteFault before after held holds v w is told nr nw = absurd (nw refl)
listed Usage before after held holds v w is told nr nw = absurd told
listed (DeckRefused line why) before after held holds v w is told nr nw = absurd told
listed (Limit which) before after held holds v w is told nr nw = absurd told
listed Device before after held holds v w is told nr nw = absurd told
listed Lent before after held holds v w is told nr nw = absurd told
listed Half before after held holds v w is told nr nw = absurd told
listed (Lost t) before after held holds v w is told nr nw = absurd told
listed (Fault side) before after held holds v w is told nr nw = absurd told
listed (BadHead offset) before after held holds v w is told nr nw = absurd (not_refused v before (faults.BadHead offset) w is told.0)
listed (BadTrack track offset) before after held holds v w is told nr nw = absurd (not_refused v before (faults.BadTrack track offset) w is told.0)
listed (Trailing offset) before after held holds v w is told nr nw = absurd (not_refused v before (faults.Trailing offset) w is told.0)

pub complete : (status : VolumeStatus) (task : Option Task) (before after held holds : Option (List ℕ)) (v : ImageVolume) → IsWhole v
    → before ≡ Some (file_of v)
    → task ≡ Some tasks.List → Tells status task before after held holds → (status ≡ ReadFault → ⊥) → (status ≡ WriteFault → ⊥)
    → (status ≡ Done) ⊎ (status ≡ NoMemory)
complete status None before after held holds v w is named told nr nw = absurd (none-some tasks.List named)
complete status (Some (tasks.Save n)) before after held holds v w is named told nr nw = absurd (cc)
complete status (Some tasks.List) before after held holds v w is named told nr nw = listed status before after held holds v w is told nr nw
