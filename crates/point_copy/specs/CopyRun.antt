-- The copy of a device of a deck as it was after the first lines, while the other lines are done.
use Rattle.std.specs.Prelude.{◌≡◌, ℕ, zero, suc, List, [], ◌∷◌, ◌++◌, drop, map, Some}
use Rattle.deck_text.specs.DeckLines.{DeckLines}
use Rattle.track_image.specs.Image.{Image}
use Rattle.subsystem_defs.specs.Decks.{Firsts, empty_firsts}
use Rattle.subsystem_defs.specs.Lines.{Asked, asked_by}
use Rattle.subsystem_defs.specs.Subsystem.{Mounted, Subsystem, mounted_in}
use Rattle.deck_run.specs.Fronts.{front_on}
use Rattle.line_drive.specs.Driven.{Course, Step, Goes, Ends, driven, onward}
use Rattle.volume_file.specs.File.{ImageVolume}
use Rattle.volume_save.specs.Saving.{plain_volume_on}
use Rattle.point_copy.specs.declared.given.Early.{Early}
use Rattle.point_copy.specs.declared.given.Early.TheVariants.{Gone, Lost, Fault}
use Rattle.point_copy.specs.declared.given.Given.{Given}
use Rattle.point_copy.specs.declared.given.Given.TheVariants as gives
use Rattle.point_copy.specs.Copying.{CopyState, begun, copy_did, next_given}

-- a session over a run, and the images that it gave
pub record Copying : Type 0 where
  pub state : CopyState
  pub images : List Image

-- a look gives a track, or all were given; else the copy ends with it
abbrev pub gave : List Image → CopyState → Given → Step Copying Early
gave images c (gives.Track t i) = Goes (record { state = c; images = images ++ i ∷ [] })
gave images c gives.Finished = Goes (record { state = c; images = images })
gave images c (gives.Lost t) = Ends (Lost t)
gave images c (gives.Fault side) = Ends (Fault side)
gave images c (gives.BadBytes side) = Ends (Fault side)
gave images c (gives.Gone of) = Ends Gone

abbrev pub copy_look : Copying → Step Copying Early
copy_look c = gave c.images (next_given c.state).behind (next_given c.state).given

-- after each event one look
abbrev pub copy_course : Course Copying Early
copy_course = record { sub = λ c. c.state.run; did = λ c o. record c { state = copy_did c.state o }; behind = copy_look }

-- at the end as many looks as there are tracks of the largest device, and one. Those after the one that finds all given change nothing
abbrev pub most_looks : ℕ
most_looks = 961

unfoldable pub looks_on : ℕ → Copying → Step Copying Early
looks_on zero c = Goes c
looks_on (suc n) c = onward (copy_look c) (looks_on n)

abbrev pub copying_from : Subsystem → ℕ → Copying
copying_from run d = record { state = begun run d; images = [] }

-- of a device of a run, while these lines are done
abbrev pub copied : Subsystem → ℕ → List Asked → Step Copying Early
copied run d lines = onward (driven copy_course lines (copying_from run d)) (looks_on most_looks)

-- of a deck, as it was after the first n lines, on volumes that held these tracks first
abbrev pub copy_run_on : Firsts → DeckLines → ℕ → ℕ → Step Copying Early
copy_run_on firsts deck n d = copied (front_on firsts deck n).behind d (map asked_by (drop n deck.events))

-- on empty ones
abbrev pub copy_run : DeckLines → ℕ → ℕ → Step Copying Early
copy_run deck n d = copy_run_on empty_firsts deck n d

-- the plain volume of a device of a deck after the first n lines, on volumes that held these tracks first
pub record IsPlainVolumeOn (firsts : Firsts) (deck : DeckLines) (n d : ℕ) (v : ImageVolume) : Type 0 where
  pub mounted : Mounted
  pub there : mounted_in (front_on firsts deck n).behind.mounted d ≡ Some mounted
  pub plain : v ≡ plain_volume_on firsts mounted.device

-- on empty ones
abbrev pub IsPlainVolumeAt : DeckLines → ℕ → ℕ → ImageVolume → Type 0
IsPlainVolumeAt deck n d v = IsPlainVolumeOn empty_firsts deck n d v
