-- What volume is saved of a device after a run, by looks at its tracks in rising order, or why none is.
use Rattle.std.specs.Prelude.{
  ◌≡◌,
  ◌<◌,
  ◌⊎◌,
  ℕ,
  zero,
  suc,
  ◌+◌,
  true,
  List,
  [],
  ◌∷◌,
  map,
  Option,
  Some,
  None,
  is_some,
  Result,
  Ok,
  Err,
  if◌then◌else◌,
}
use Rattle.ckd_types.specs.declared.geometry.Geometry.{Geometry}
use Rattle.ckd_types.specs.declared.record.Track.{Track}
use Rattle.ckd_types.specs.declared.paths.Side.{Side}
use Rattle.deck_text.specs.DeckLines.{DeckLines}
use Rattle.plain_defs.specs.History.{plain_of}
use Rattle.track_image.specs.Image.{Image}
use Rattle.device_defs.specs.Marks.{MarksDevice}
use Rattle.device_defs.specs.Peek as peeks
use Rattle.device_defs.specs.Peek.{Peeked}
use Rattle.device_defs.specs.Store.{Store, tracks_of, is_lost, half_is}
use Rattle.subsystem_laws.specs.Looking.{is_writing, HasFailed, IsNowhere}
use Rattle.subsystem_defs.specs.Decks.{Firsts, empty_firsts, run_on}
use Rattle.subsystem_defs.specs.Looks.{Looked, looked}
use Rattle.subsystem_defs.specs.Promised.{first_of}
use Rattle.subsystem_defs.specs.Subsystem.{Mounted, Subsystem, mounted_in}
use Rattle.volume_file.specs.File.{ImageVolume, IsWhole}
use Rattle.volume_save.specs.declared.unsaved.Unsaved.{Unsaved}
use Rattle.volume_save.specs.declared.unsaved.Unsaved.TheVariants.{Lent, Half, Lost, Fault, NoMemory}

abbrev pub and_then : {A B E : Type 0} → Result A E → (A → Result B E) → Result B E
and_then (Ok x) f = f x
and_then (Err e) f = Err e

-- why no track of a device is looked at
abbrev pub refusal : {F P H : Type 0} → Store F P H → Option Unsaved
refusal s = if is_some s.lent then Some Lent else if is_writing s.half then Some Half else None

-- what a look at track t found; in a run no side's bytes are bad
abbrev pub image_found : ℕ → Peeked → Result Image Unsaved
image_found t (peeks.Track image) = Ok image
image_found t peeks.Lost = Err (Lost t)
image_found t (peeks.Fault side) = Err (Fault side)
image_found t (peeks.BadBytes side) = Err (Fault side)

-- the images of so many tracks from track t on: each look is at what the one before left
unfoldable pub images_from : ℕ → Subsystem → ℕ → ℕ → Result (List Image) Unsaved
images_from zero s d t = Ok []
images_from (suc n) s d t =
    and_then (image_found t (looked s d t).found)
    (λ image. and_then (images_from n (looked s d t).behind d (t + 1)) (λ images. Ok (image ∷ images)))

abbrev pub volume_with : Geometry → ℕ → List Image → ImageVolume
volume_with g cylinders images = record { geometry = g; cylinders = cylinders; images = images }

abbrev pub tracks_saved : Subsystem → ℕ → Mounted → Result ImageVolume Unsaved
tracks_saved s d m =
    and_then (images_from (tracks_of m.device.store) s d 0)
    (λ images. Ok (volume_with m.device.store.geometry m.device.store.cylinders images))

abbrev pub unless_refused : Option Unsaved → Result ImageVolume Unsaved → Result ImageVolume Unsaved
unless_refused (Some why) saved = Err why
unless_refused None saved = saved

-- a device that isn't there has no volume either
abbrev pub saving_at : Subsystem → ℕ → Option Mounted → Result ImageVolume Unsaved
saving_at s d (Some m) = unless_refused (refusal m.device.store) (tracks_saved s d m)
saving_at s d None = Err Lent

-- of the device of this number
unfoldable pub saving : Subsystem → ℕ → Result ImageVolume Unsaved
saving s d = saving_at s d (mounted_in s.mounted d)

-- after the run of a deck, on volumes that held these tracks first
abbrev pub saving_on : Firsts → DeckLines → ℕ → Result ImageVolume Unsaved
saving_on firsts deck d = saving (run_on firsts deck).behind d

-- on empty ones
abbrev pub saving_of : DeckLines → ℕ → Result ImageVolume Unsaved
saving_of deck d = saving_on empty_firsts deck d

-- this is answered, unless memory runs out
abbrev pub Gives : {A : Type 0} → Result A Unsaved → Result A Unsaved → Type 0
Gives (Err NoMemory) wanted = Unit {0}
Gives result wanted = result ≡ wanted

-- What is saved

-- the tracks of the plain device of a device's history, where the volume of its number held these first
abbrev pub plain_tracks : Firsts → MarksDevice → List Track
plain_tracks firsts d = (plain_of d.plans (first_of (firsts d.store.device) d) d.history).volume

-- its volume
abbrev pub plain_volume_on : Firsts → MarksDevice → ImageVolume
plain_volume_on firsts d =
    volume_with d.store.geometry d.store.cylinders (map (λ (x : Track). record { geometry = d.store.geometry; track = x }) (plain_tracks firsts d))

-- where it was empty
abbrev pub plain_volume : MarksDevice → ImageVolume
plain_volume d = plain_volume_on empty_firsts d

-- the looks after the run of a deck, on volumes that held these tracks first, found all tracks of its device, and they are the plain ones
pub record IsSavedOn (firsts : Firsts) (deck : DeckLines) (d : ℕ) (v : ImageVolume) : Type 0 where
  pub mounted : Mounted
  pub there : mounted_in (run_on firsts deck).behind.mounted d ≡ Some mounted
  pub found : saving_on firsts deck d ≡ Ok v
  pub plain : v ≡ plain_volume_on firsts mounted.device
  pub whole : IsWhole v

-- on empty ones
abbrev pub IsSaved : DeckLines → ℕ → ImageVolume → Type 0
IsSaved deck d v = IsSavedOn empty_firsts deck d v

-- Why nothing is saved

-- behind looks at the first n tracks
abbrev pub behind_looks : ℕ → Subsystem → ℕ → Subsystem
behind_looks zero s d = s
behind_looks (suc n) s d = (looked (behind_looks n s d) d n).behind

-- the device there
pub record HasDevice (s : Subsystem) (d : ℕ) (p : Mounted → Type 0) : Type 0 where
  pub mounted : Mounted
  pub there : mounted_in s.mounted d ≡ Some mounted
  pub is_so : p mounted

-- a read failed and no side gave the track, or in a half write of the background no side has it, and no modified frame
abbrev pub IsFault : ℕ → Side → Mounted → Type 0
IsFault t side m = HasFailed m t side ⊎ ((half_is m.device.store.half t ≡ true) × IsNowhere m.device.store t)

-- each refusal comes where this is so. Of a track, behind the looks at the tracks before it, all of which were found
abbrev pub HasReason : Subsystem → ℕ → Unsaved → Type 0
HasReason s d Lent = HasDevice s d (λ m. is_some m.device.store.lent ≡ true)
HasReason s d Half = HasDevice s d (λ m. is_writing m.device.store.half ≡ true)
HasReason s d (Lost t) = HasDevice (behind_looks t s d) d (λ m. is_lost m.device.store t ≡ true)
HasReason s d (Fault side) = (t : ℕ) × HasDevice (behind_looks t s d) d (IsFault t side)
HasReason s d NoMemory = Unit {0}
