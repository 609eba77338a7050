-- What a call that reads a file answers.
use Rattle.std.specs.Prelude.{◌≡◌, ◌≤◌, ◌<◌, ◌+◌, ◌*◌, ℕ, List, length, ⊤, Option, Some, None, Result, Ok, Err}
use Rattle.std.specs.Io.KnownBytes.{Consumes, IsAtEnd}
use Rattle.ckd_types.specs.declared.geometry.Geometry.{Geometry}
use Rattle.ckd_outside.specs.Causes.{Rose}
use Rattle.volume_file.specs.declared.fault.LoadFault.{LoadFault}
use Rattle.volume_file.specs.declared.fault.LoadFault.TheVariants.{ReadFault, NoMemory}

-- how far a file was read: its head, how many tracks, and where the next one stands
pub record Progress : Type 0 where
  pub geometry : Geometry
  pub cylinders : ℕ
  pub next : ℕ
  pub offset : ℕ

-- a track takes at most 58,819 bytes
pub record IsProgress (p : Progress) : Type 0 where
  pub least : 1 ≤ p.cylinders
  pub most : p.cylinders ≤ 64
  pub next : p.next ≤ p.cylinders * 15
  pub offset : p.offset ≤ 12 + p.next * 58819

-- a field of so many bytes was read, or what there was of it at the end
pub record IsField (before after : Option (List ℕ)) (size : ℕ) (field : List ℕ) : Type 0 where
  pub read : Consumes before after field
  pub bound : length field ≤ size
  pub end : length field < size → IsAtEnd after

-- what is left in a source, where it tells that, is this text
abbrev pub IsText : Option (List ℕ) → List ℕ → Type 0
IsText None text = ⊤
IsText (Some left) text = left ≡ text

-- reading what is left in a source ends with this fault
pub record IsRefused {B : Type 0} (read : List ℕ → Result B LoadFault) (before : Option (List ℕ)) (fault : LoadFault) : Type 0 where
  pub text : List ℕ
  pub left : IsText before text
  pub refused : read text ≡ Err fault

-- what a fault that is answered says of a source
abbrev pub TellsFault : {B : Type 0} → (List ℕ → Result B LoadFault) → Option (List ℕ) → LoadFault → Type 0
TellsFault read before ReadFault = ⊤
TellsFault read before NoMemory = ⊤
TellsFault read before fault = IsRefused read before fault

-- the bytes that were taken spell what is answered, or reading what is left in a source ends with a fault
abbrev pub Tells : {A B : Type 0} → (List ℕ → Result B LoadFault) → (A → List ℕ) → Option (List ℕ) → Option (List ℕ) → Result A LoadFault → Type 0
Tells read spelled before after (Ok x) = Consumes before after (spelled x)
Tells read spelled before after (Err fault) = TellsFault read before fault

-- a read fault is answered only where the count of faults rose, and at any other answer the count is as it was
abbrev pub IsCaused : {A : Type 0} → ℕ → ℕ → Result A LoadFault → Type 0
IsCaused before now (Err ReadFault) = Rose before now
IsCaused before now (Err fault) = now ≡ before
IsCaused before now (Ok x) = now ≡ before

-- this is answered, unless a read fails or memory runs out
abbrev pub Gives : {A : Type 0} → Result A LoadFault → Result A LoadFault → Type 0
Gives (Err ReadFault) wanted = ⊤
Gives (Err NoMemory) wanted = ⊤
Gives result wanted = result ≡ wanted
