-- The list of a volume: a line for each track.
use Rattle.std.specs.Prelude.{ℕ, ◌+◌, List, [], ◌∷◌, ◌++◌, length, codes, decimal}
use Rattle.std.specs.List.{flat_map}
use Rattle.ckd_types.specs.declared.geometry.Geometry.{Geometry}
use Rattle.ckd_types.specs.declared.geometry.Geometry.TheVariants.{D3390, D3380}
use Rattle.ckd_types.specs.Track.{track_bytes}
use Rattle.track_image.specs.Image.{Image}
use Rattle.volume_file.specs.File.{ImageVolume}
use Rattle.volume_texts.specs.declared.listing.Row.{Row}

-- a track's number, how many records it has, and how many bytes
abbrev pub row_of : ℕ → Image → Row
row_of t i = record { track = t; records = length i.track.records; bytes = length (track_bytes i.track) }

-- the rows of tracks that are numbered from t on
abbrev pub rows_from : ℕ → List Image → List Row
rows_from t [] = []
rows_from t (i ∷ images) = row_of t i ∷ rows_from (t + 1) images

abbrev pub model_text : Geometry → List ℕ
model_text D3390 = codes "3390"
model_text D3380 = codes "3380"

unfoldable pub volume_line : Geometry → ℕ → List ℕ
volume_line g cylinders = codes "VOLUME " ++ (model_text g ++ (codes " " ++ (decimal cylinders ++ codes "\n")))

unfoldable pub track_line : Row → List ℕ
track_line row =
    codes "TRACK "
    ++ (decimal row.track ++ (codes " RECORDS " ++ (decimal row.records ++ (codes " BYTES " ++ (decimal row.bytes ++ codes "\n")))))

unfoldable pub finish_line : List ℕ
finish_line = codes "FINISH\n"

abbrev pub rows_text : Geometry → ℕ → List Row → List ℕ
rows_text g cylinders rows = volume_line g cylinders ++ (flat_map track_line rows ++ finish_line)

abbrev pub list_text : ImageVolume → List ℕ
list_text v = rows_text v.geometry v.cylinders (rows_from 0 v.images)
