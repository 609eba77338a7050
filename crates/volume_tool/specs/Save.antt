-- What `save` writes for a deck, and what its answer says.
use Rattle.std.specs.Prelude.{
  ◌≡◌,
  ℕ,
  true,
  false,
  List,
  [],
  ◌++◌,
  codes,
  decimal,
  Option,
  Result,
  Ok,
  Err,
  if◌then◌else◌,
}
use Rattle.std.specs.Io.KnownBytes.{Appends}
use Rattle.ckd_types.specs.declared.paths.Side.{Side}
use Rattle.ckd_types.specs.declared.paths.Side.TheVariants as sides
use Rattle.ckd_outside.specs.Texts.{AppendsFront}
use Rattle.deck_text.specs.declared.line.DeckFault.{DeckFault}
use Rattle.deck_text.specs.declared.line.DeckFault.TheVariants as faults
use Rattle.deck_text.specs.DeckLines.{DeckLines}
use Rattle.deck_text.specs.Parse.{parsed}
use Rattle.deck_text.specs.Texts as texts
use Rattle.subsystem_defs.specs.Decks.{run_of}
use Rattle.volume_file.specs.File.{ImageVolume, file_of}
use Rattle.volume_save.specs.declared.unsaved.Unsaved.{Unsaved}
use Rattle.volume_save.specs.declared.unsaved.Unsaved.TheVariants as whys
use Rattle.volume_save.specs.Devices.{is_declared}
use Rattle.volume_save.specs.DeckTexts.{Reads}
use Rattle.volume_save.specs.Saving.{saving_of, HasReason, IsSaved}
use Rattle.volume_tool.specs.declared.top.VolumeStatus.{VolumeStatus}
use Rattle.volume_tool.specs.declared.top.VolumeStatus.TheVariants.{
  Done,
  DeckRefused,
  ReadFault,
  WriteFault,
  Limit,
  NoMemory,
  Device,
  Lent,
  Half,
  Lost,
  Fault,
}
use Rattle.volume_tool.specs.Written.{IsWritten}

-- Texts

unfoldable pub device_text : List ℕ
device_text = codes "not saved: device\n"

unfoldable pub lent_text : List ℕ
lent_text = codes "not saved: lent\n"

unfoldable pub half_text : List ℕ
half_text = codes "not saved: half\n"

unfoldable pub lost_text : ℕ → List ℕ
lost_text t = codes "not saved: lost " ++ (decimal t ++ codes "\n")

abbrev pub side_text : Side → List ℕ
side_text sides.A = codes "A"
side_text sides.B = codes "B"

unfoldable pub side_fault_text : Side → List ℕ
side_fault_text side = codes "not saved: fault " ++ (side_text side ++ codes "\n")

-- what is written where nothing is saved
abbrev pub unsaved_text : Unsaved → List ℕ
unsaved_text whys.Lent = lent_text
unsaved_text whys.Half = half_text
unsaved_text (whys.Lost t) = lost_text t
unsaved_text (whys.Fault side) = side_fault_text side
unsaved_text whys.NoMemory = []

abbrev pub saved_text : Result ImageVolume Unsaved → List ℕ
saved_text (Ok v) = file_of v
saved_text (Err why) = unsaved_text why

abbrev pub status_of : Result ImageVolume Unsaved → VolumeStatus
status_of (Ok v) = Done
status_of (Err whys.Lent) = Lent
status_of (Err whys.Half) = Half
status_of (Err (whys.Lost t)) = Lost t
status_of (Err (whys.Fault side)) = Fault side
status_of (Err whys.NoMemory) = NoMemory

-- how `save` of this device ends, and what it writes, where memory and the outside hold
abbrev pub status_for : DeckLines → ℕ → VolumeStatus
status_for d n = if is_declared d n then status_of (saving_of d n) else Device

abbrev pub text_for : DeckLines → ℕ → List ℕ
text_for d n = if is_declared d n then saved_text (saving_of d n) else device_text

-- Answers

-- the device of the deck isn't saved, for this reason
pub record IsUnsaved (deck : Result DeckLines DeckFault) (n : ℕ) (why : Unsaved) : Type 0 where
  pub lines : DeckLines
  pub read : deck ≡ Ok lines
  pub declared : is_declared lines n ≡ true
  pub why_is : saving_of lines n ≡ Err why
  pub reason : HasReason (run_of lines).behind n why

abbrev pub FrontOf : Result DeckLines DeckFault → ℕ → Option (List ℕ) → Option (List ℕ) → Type 0
FrontOf (Ok d) n held holds = AppendsFront held holds (text_for d n)
FrontOf (Err (faults.Refused line why)) n held holds = AppendsFront held holds (texts.refused_text line why)
FrontOf (Err (faults.Limit which)) n held holds = AppendsFront held holds (texts.limit_text which)
FrontOf (Err faults.NoMemory) n held holds = ⊥

-- the file is that of the plain volume of the deck's device after its run
pub record WritesFile (deck : Result DeckLines DeckFault) (n : ℕ) (held holds : Option (List ℕ)) : Type 0 where
  pub lines : DeckLines
  pub read : deck ≡ Ok lines
  pub declared : is_declared lines n ≡ true
  pub volume : ImageVolume
  pub saved : IsSaved lines n volume
  pub written : Appends held holds (file_of volume)

-- what an answer to one of these reasons says of the sink
abbrev pub TellsWhy : VolumeStatus → Unsaved → Option (List ℕ) → Option (List ℕ) → Type 0
TellsWhy status whys.NoMemory held holds = (status ≡ NoMemory) × (holds ≡ held)
TellsWhy status why held holds = IsWritten status (status_of (Err why)) held holds (unsaved_text why)

-- what an answer says of the deck that was read, and of the sink
abbrev pub TellsDeck : VolumeStatus → ℕ → Result DeckLines DeckFault → Option (List ℕ) → Option (List ℕ) → Type 0
TellsDeck Done n deck held holds = WritesFile deck n held holds
TellsDeck (DeckRefused line why) n deck held holds = (deck ≡ Err (faults.Refused line why)) × Appends held holds (texts.refused_text line why)
TellsDeck (Limit which) n deck held holds = (deck ≡ Err (faults.Limit which)) × Appends held holds (texts.limit_text which)
TellsDeck Device n deck held holds = (d : DeckLines) × (deck ≡ Ok d) × (is_declared d n ≡ false) × Appends held holds device_text
TellsDeck Lent n deck held holds = IsUnsaved deck n whys.Lent × Appends held holds lent_text
TellsDeck Half n deck held holds = IsUnsaved deck n whys.Half × Appends held holds half_text
TellsDeck (Lost t) n deck held holds = IsUnsaved deck n (whys.Lost t) × Appends held holds (lost_text t)
TellsDeck (Fault side) n deck held holds = IsUnsaved deck n (whys.Fault side) × Appends held holds (side_fault_text side)
TellsDeck WriteFault n deck held holds = FrontOf deck n held holds
TellsDeck NoMemory n deck held holds = holds ≡ held
TellsDeck _ n deck held holds = ⊥

pub record TellsRead (status : VolumeStatus) (n : ℕ) (before after held holds : Option (List ℕ)) : Type 0 where
  pub text : List ℕ
  pub reads : Reads before after text
  pub told : TellsDeck status n (parsed text) held holds

-- what an answer to `save` says of the source and of the sink
abbrev pub TellsSave : VolumeStatus → ℕ → Option (List ℕ) → Option (List ℕ) → Option (List ℕ) → Option (List ℕ) → Type 0
TellsSave ReadFault n before after held holds = holds ≡ held
TellsSave NoMemory n before after held holds = holds ≡ held
TellsSave status n before after held holds = TellsRead status n before after held holds
