-- What copy is made of a device of a deck, as it is after the first event lines; or why none is made.
use Rattle.std.specs.Prelude.{◌≡◌, ℕ, nat_le, length, Option, Some, None, Result, Ok, Err, if◌then◌else◌}
use Rattle.deck_text.specs.DeckLines.{DeckLines}
use Rattle.deck_run.specs.Fronts.{front_of}
use Rattle.line_drive.specs.declared.stage.Stopped.{Stopped}
use Rattle.line_drive.specs.declared.stage.Stopped.TheVariants as stopped
use Rattle.line_drive.specs.Driven.{Step, Goes, Ends}
use Rattle.point_copy.specs.declared.given.BeginFault.{BeginFault}
use Rattle.point_copy.specs.declared.given.BeginFault.TheVariants as faults
use Rattle.point_copy.specs.declared.given.Early.{Early}
use Rattle.point_copy.specs.declared.given.Early.TheVariants as earlies
use Rattle.point_copy.specs.Copying.{begin_fault}
use Rattle.point_copy.specs.CopyRun.{Copying, copy_run}
use Rattle.subsystem_defs.specs.Subsystem.{Mounted, mounted_in}
use Rattle.volume_file.specs.File.{ImageVolume}
use Rattle.volume_save.specs.Devices.{is_declared}
use Rattle.volume_save.specs.Saving.{volume_with}
use Rattle.copy_tool.specs.declared.unmade.Unmade.{Unmade}
use Rattle.copy_tool.specs.declared.unmade.Unmade.TheVariants.{Device, Events, Lent, Half, Loose, Gone, Lost, Fault}

-- a volume, or why there is none; or memory was lacking, which no copy of a run ends with, and no mirror
abbrev pub Made : Type 0
Made = Result ImageVolume (Stopped Unmade)

abbrev pub not_made : Unmade → Made
not_made why = Err (stopped.Ended why)

abbrev pub not_begun : BeginFault → Stopped Unmade
not_begun (faults.Lent of) = stopped.Ended Lent
not_begun faults.Half = stopped.Ended Half
not_begun (faults.Loose t) = stopped.Ended (Loose t)
not_begun faults.NoMemory = stopped.NoMemory

abbrev pub early_why : Early → Unmade
early_why earlies.Gone = Gone
early_why (earlies.Lost t) = Lost t
early_why (earlies.Fault side) = Fault side

abbrev pub stopped_by : Stopped Early → Stopped Unmade
stopped_by stopped.NoMemory = stopped.NoMemory
stopped_by (stopped.Ended e) = stopped.Ended (early_why e)

-- the volume of the images that were given
abbrev pub volume_of : Mounted → Step Copying Early → Made
volume_of m (Goes c) = Ok (volume_with m.device.store.geometry m.device.store.cylinders c.images)
volume_of m (Ends e) = not_made (early_why e)

abbrev pub unless_refused : Option BeginFault → Made → Made
unless_refused (Some fault) copied = Err (not_begun fault)
unless_refused None copied = copied

-- a device that isn't there has no copy either
abbrev pub copying_at : DeckLines → ℕ → ℕ → Option Mounted → Made
copying_at deck d n (Some m) = unless_refused (begin_fault m.device.store) (volume_of m (copy_run deck n d))
copying_at deck d n None = not_made Device

-- by what a session over the run of the first n lines refuses or gives, while the other lines are done
unfoldable pub copying : DeckLines → ℕ → ℕ → Made
copying deck d n = copying_at deck d n (mounted_in (front_of deck n).behind.mounted d)

abbrev pub copying_of : DeckLines → ℕ → ℕ → Made
copying_of deck d n =
    if is_declared deck d then if nat_le n (length deck.events) then copying deck d n else not_made Events else not_made Device

-- this is answered, unless memory runs out
abbrev pub Gives : {A E : Type 0} → Result A (Stopped E) → Result A (Stopped E) → Type 0
Gives (Err stopped.NoMemory) wanted = Unit {0}
Gives result wanted = result ≡ wanted
