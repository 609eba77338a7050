-- How a volume that is being saved goes on by one track.
use Rattle.std.specs.Prelude.{◌≡◌, ◌-◌, ℕ, false, List, ◌++◌, take, slice_set, Some, is_some, Result, Ok, Err}
use Rattle.track_image.specs.Image.{Image}
use Rattle.device_outside.specs.declared.volume.Volume.{Ghosts}
use Rattle.device_defs.specs.Peek.{Track}
use Rattle.subsystem_laws.specs.Looking.{is_writing}
use Rattle.subsystem_core.specs.declared.subsystem.Subsystem.{Subsystem}
use Rattle.subsystem_defs.specs.Looks.{looked}
use Rattle.subsystem_defs.specs.Subsystem as runs
use Rattle.subsystem_defs.specs.Subsystem.{Mounted, mounted_in}
use Rattle.deck_run.specs.Standing.{StandsAs}
use Rattle.volume_file.specs.File.{ImageVolume}
use Rattle.volume_save.specs.declared.unsaved.Unsaved.{Unsaved}
use Rattle.volume_save.specs.declared.unsaved.Unsaved.TheVariants.{NoMemory}
use Rattle.volume_save.specs.Saving.{and_then, behind_looks, image_found, images_from, saving}

-- a device of the volume's model and size has this number in a run, and its tracks may be looked at
pub record FitsRun (run : runs.Subsystem) (d : ℕ) (v : ImageVolume) : Type 0 where
  pub mounted : Mounted
  pub there : mounted_in run.mounted d ≡ Some mounted
  pub home : is_some mounted.device.store.lent ≡ false
  pub calm : is_writing mounted.device.store.half ≡ false
  pub geometry : mounted.device.store.geometry ≡ v.geometry
  pub cylinders : mounted.device.store.cylinders ≡ v.cylinders

module _ {V : Type 0} {G : Ghosts V} where
  -- the track that the look found is in the volume
  pub record GoesOnWith (run : runs.Subsystem) (d t : ℕ) (old : ImageVolume) (sub : Subsystem V G) (new : ImageVolume) : Type 0 where
    pub image : Image
    pub found : (looked run d t).found ≡ Track image
    pub set : new ≡ record old { images = slice_set old.images t image }
    pub stands : StandsAs sub (looked run d t).behind
    pub fits : FitsRun (looked run d t).behind d new

  -- or the look found none
  abbrev pub GoesOn : runs.Subsystem → ℕ → ℕ → ImageVolume → Subsystem V G → ImageVolume → Result (Unit {0}) Unsaved → Type 0
  GoesOn run d t old sub new (Ok x) = GoesOnWith run d t old sub new
  GoesOn run d t old sub new (Err NoMemory) = Unit {0}
  GoesOn run d t old sub new (Err why) = image_found t (looked run d t).found ≡ Err why

  -- with the tracks before t in the volume, what the looks at the rest find is what is saved
  pub record LooksLeft (run : runs.Subsystem) (d t count : ℕ) (sub : Subsystem V G) (v : ImageVolume) : Type 0 where
    pub now : runs.Subsystem
    pub is : behind_looks t run d ≡ now
    pub stands : StandsAs sub now
    pub fits : FitsRun now d v
    pub rest : saving run d
        ≡ and_then (images_from (count - t) now d t) (λ (images : List Image). Ok (record v { images = take t v.images ++ images }))
