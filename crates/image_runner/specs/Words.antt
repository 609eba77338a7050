-- The words of a run on images, as ON 0=FILE 1=FILE.
use Rattle.std.specs.Prelude.{ℕ, ◌==◌, ◌&&◌, not, nat_lt, Bool, true, false, List, [], ◌∷◌, length, codes, Option, Some, None, is_some, if◌then◌else◌}
use Rattle.std.specs.List.{after_first, before_first, position_or_len}
use Rattle.std.specs.Str.{bytes_eq}
use Rattle.report_text.specs.Numbers.{number_in}

abbrev pub is_sign : ℕ → Bool
is_sign c = c == 61

abbrev pub has_sign : List ℕ → Bool
has_sign w = nat_lt (position_or_len is_sign w) (length w)

-- the device that a word names an image for, and the path behind the first =
unfoldable pub device_in : List ℕ → Option ℕ
device_in w = if has_sign w then number_in 0 15 (before_first is_sign w) else None

unfoldable pub path_in : List ℕ → Option (List ℕ)
path_in w = if has_sign w then Some (after_first is_sign w) else None

abbrev pub is_for : Option ℕ → ℕ → Bool
is_for (Some n) d = n == d
is_for None d = false

-- the path that the first of these words names for a device
unfoldable pub path_for : List (List ℕ) → ℕ → Option (List ℕ)
path_for [] d = None
path_for (w ∷ ws) d = if is_for (device_in w) d then path_in w else path_for ws d

abbrev pub is_new : List (List ℕ) → Option ℕ → Bool
is_new ws (Some d) = not (is_some (path_for ws d))
is_new ws None = false

-- each word names an image, and no two for one device
unfoldable pub are_mounts : List (List ℕ) → Bool
are_mounts [] = true
are_mounts (w ∷ ws) = is_new ws (device_in w) && are_mounts ws

-- the words that name images
unfoldable pub mounts_of : List (List ℕ) → Option (List (List ℕ))
mounts_of [] = None
mounts_of (w ∷ ws) = if bytes_eq w (codes "ON") && are_mounts ws then Some ws else None
