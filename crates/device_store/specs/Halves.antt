-- What is so of the track of an open half write.
use Rattle.std.specs.Prelude.{ℕ, Bool, true, not, List, Option, Some, None, nat_lt}
use Rattle.event_notes.specs.Loose.{is_loose_in}
use Rattle.device_store.specs.declared.half.HalfWrite.{HalfWrite}

-- it is one of the first n
abbrev pub half_below : ℕ → Option HalfWrite → Bool
half_below n None = true
half_below n (Some h) = nat_lt h.track n

-- it isn't loose
abbrev pub half_is_firm : List Bool → Option HalfWrite → Bool
half_is_firm loose None = true
half_is_firm loose (Some h) = not (is_loose_in loose h.track)
