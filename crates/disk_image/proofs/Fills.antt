-- A room with zeros behind a track's bytes, and whether these come back.
use Rattle.std.proofs.Common.{◌≡◌, ℕ, ◌+◌, ◌-◌, ◌≤◌, ◌<◌, false, List, length, drop, replicate, refl, ap, ◌∙◌, arith}
use Rattle.std.proofs.lemmas.Bool.{le-leb, lt-leb}
use Rattle.std.proofs.lemmas.List.{drop-replicate}
use Rattle.disk_image.specs.File.{end_in, fits_room, is_at, padded}

pub zeros_behind : (zeros : List ℕ) (n : ℕ) → zeros ≡ replicate (length zeros) 0 → drop n zeros ≡ replicate (length zeros - n) 0
zeros_behind zeros n are = ap (drop n) are ∙ drop-replicate n (length zeros) 0

pub fits_by : (size : ℕ) (bytes : List ℕ) → length bytes ≤ size → fits_room size bytes ≡ is_at (end_in (padded size bytes)) (length bytes)
fits_by size bytes short = rw (le-leb _ _ short) refl

pub fits_not : (size : ℕ) (bytes : List ℕ) → size < length bytes → fits_room size bytes ≡ false
fits_not size bytes long = rw (lt-leb _ _ long) refl
