-- What one answer says of a text that it writes.
use Rattle.std.specs.Prelude.{◌≡◌, ◌≢◌, ◌⊎◌, ℕ, List, Option}
use Rattle.std.specs.Io.KnownBytes.{Appends}
use Rattle.ckd_outside.specs.Texts.{AppendsFront}
use Rattle.image_tool.specs.declared.status.ImageStatus.{ImageStatus}
use Rattle.image_tool.specs.declared.status.ImageStatus.TheVariants.{FileFault, ReadFault, WriteFault}

-- a text was written, or at a fault a front of it
abbrev pub IsWritten : ImageStatus → ImageStatus → Option (List ℕ) → Option (List ℕ) → List ℕ → Type 0
IsWritten status wanted held holds text = ((status ≡ wanted) × Appends held holds text) ⊎ ((status ≡ WriteFault) × AppendsFront held holds text)

-- no fault of the source or of the file is answered
abbrev pub IsOfSink : ImageStatus → Type 0
IsOfSink status = (status ≢ ReadFault) × (status ≢ FileFault)

-- what a source has left, a sink holds and a file holds, each where it tells that
pub record Outside : Type 0 where
  pub left : Option (List ℕ)
  pub held : Option (List ℕ)
  pub file : Option (List ℕ)
