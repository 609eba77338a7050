-- What is so of a choice: by whether the write may be provisional, and whether the track has a patch.
use Rattle.std.specs.Prelude.{◌≡◌, ℕ, Bool, true, false, List, Option, Some, None, if◌then◌else◌}
use Rattle.ckd_types.specs.declared.record.Edit.{Edit}
use Rattle.track_image.specs.Image.{Image}
use Rattle.device_outside.specs.Interaction.{Interaction, Tell}
use Rattle.device_outside.specs.Keeper.{BeforeEdit}
use Rattle.device_defs.specs.declared.answers.Choice.{Choice}
use Rattle.device_defs.specs.declared.answers.Choice.TheVariants.{Provisional, Fast, Through}
use Rattle.device_defs.specs.declared.answers.Took.{Took}
use Rattle.device_defs.specs.declared.usage.Usage.{Usage}
use Rattle.device_defs.specs.Contents.{contents}
use Rattle.device_defs.specs.Editing.{written, unchosen}
use Rattle.device_store.specs.Looks.{StoreOf}

-- a slot is new, or that of a patch
abbrev pub FitsSlot : Bool → Option ℕ → Type 0
FitsSlot patched (Some slot) = patched ≡ false
FitsSlot patched None = patched ≡ true

abbrev pub Fits : Bool → Bool → Choice → Type 0
Fits provisional patched Provisional = provisional ≡ true
Fits provisional patched (Fast slot) = FitsSlot patched slot
Fits provisional patched Through = Unit {0}

-- the keeper is told the track before the edit
abbrev pub told_before : StoreOf → Usage → ℕ → ℕ → Image → Edit → Choice → Interaction (List ℕ) Image StoreOf (Option Took)
told_before s u first t old e choice =
    Tell (BeforeEdit s.device t old) (λ ok. if ok then written contents s u first t old e choice else unchosen contents s t choice)
