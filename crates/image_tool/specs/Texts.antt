-- What is written of an image.
use Rattle.std.specs.Prelude.{ℕ, List, [], ◌∷◌, ◌++◌, codes, decimal, Result, Ok, Err}
use Rattle.std.specs.List.{flat_map}
use Rattle.disk_image.specs.declared.fault.ImageFault.{ImageFault}
use Rattle.disk_image.specs.declared.fault.ImageFault.TheVariants as faults
use Rattle.disk_image.specs.declared.layout.Layout.{Layout}
use Rattle.disk_image.specs.declared.volume.TrackFault.{TrackFault}
use Rattle.volume_texts.specs.List.{model_text}
use Rattle.volume_file.specs.File.{ImageVolume}

unfoldable pub word_text : List ℕ → List ℕ
word_text word = codes "bad image " ++ (word ++ codes "\n")

unfoldable pub number_text : List ℕ → ℕ → List ℕ
number_text word n = codes "bad image " ++ (word ++ (codes " " ++ (decimal n ++ codes "\n")))

-- a bad track, by its number, and where in the file its first field is that is wrong or cut
unfoldable pub track_text : TrackFault → List ℕ
track_text f = codes "bad image track " ++ (decimal f.track ++ (codes " offset " ++ (decimal f.offset ++ codes "\n")))

-- what is written of a file that is refused
abbrev pub fault_text : ImageFault → List ℕ
fault_text (faults.BadHead offset) = number_text (codes "head offset") offset
fault_text (faults.BadLength size) = number_text (codes "length") size
fault_text faults.Compressed = word_text (codes "compressed")
fault_text faults.Parts = word_text (codes "parts")
fault_text (faults.BadTrack t offset) = track_text (record { track = t; offset = offset })
fault_text (faults.ManyCylinders n) = number_text (codes "cylinders") n
fault_text faults.FileFault = []
fault_text faults.NoMemory = []

unfoldable pub good_text : List ℕ
good_text = codes "image good\n"

-- a line for each bad track
abbrev pub found_text : List TrackFault → List ℕ
found_text [] = good_text
found_text (f ∷ found) = flat_map track_text (f ∷ found)

abbrev pub check_text : Result (List TrackFault) ImageFault → List ℕ
check_text (Ok found) = found_text found
check_text (Err fault) = fault_text fault

-- a volume is shown by a text of its own
abbrev pub shown_text : (ImageVolume → List ℕ) → Result ImageVolume ImageFault → List ℕ
shown_text text (Ok v) = text v
shown_text text (Err fault) = fault_text fault

-- an image isn't made of a file that has bytes
unfoldable pub bytes_text : List ℕ
bytes_text = codes "not made: bytes\n"

abbrev pub layout_text : Layout → List ℕ → List ℕ
layout_text l behind = model_text l.geometry ++ (codes " " ++ (decimal l.cylinders ++ behind))

-- the models and cylinders of an image and of another volume
unfoldable pub other_text : Layout → Layout → List ℕ
other_text image volume = codes "not stored: image " ++ layout_text image (codes ", volume " ++ layout_text volume (codes "\n"))
