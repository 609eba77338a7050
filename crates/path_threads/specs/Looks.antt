-- What a worker knows of the pool without its lock.
use Rattle.std.specs.Prelude.{ℕ, ◌==◌, ◌&&◌, ◌%◌, Bool, false, Option, Some, None, if◌then◌else◌, slice_index_or, slice_set}
use Rattle.path_threads.specs.declared.shared.Looks as looks
use Rattle.path_threads.specs.declared.shared.Recent.{Recent}

abbrev pub is_recent : Option Recent → ℕ → ℕ → Bool
is_recent (Some r) track given = (r.track == track) && (r.given == given)
is_recent None track given = false

abbrev pub is_same : Option ℕ → ℕ → Bool
is_same (Some n) given = n == given
is_same None given = false

-- the track was touched last of its device, had a frame, and no frame was given since
abbrev pub has_frame : looks.Looks → ℕ → ℕ → ℕ → Bool
has_frame l d track given = is_recent (slice_index_or l.touched (d % 16) None) track given

-- a track that has no frame isn't noted
abbrev pub noted_touch : looks.Looks → ℕ → ℕ → ℕ → Bool → looks.Looks
noted_touch l d track given is_there =
    if is_there then record l { touched = slice_set l.touched (d % 16) (Some (record { track = track; given = given })) } else l

-- the device had no notice when so many frames were given
abbrev pub is_quiet : looks.Looks → ℕ → ℕ → Bool
is_quiet l d given = is_same (slice_index_or l.quiet (d % 16) None) given

abbrev pub noted_notice : looks.Looks → ℕ → ℕ → Bool → looks.Looks
noted_notice l d given none = if none then record l { quiet = slice_set l.quiet (d % 16) (Some given) } else l
