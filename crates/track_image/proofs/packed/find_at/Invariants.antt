use Rattle.std.proofs.Common.{◌≡◌, ◌<◌, ℕ, false, get_or, drop}
use Rattle.ckd_types.specs.Track.{is_same_id}
use Rattle.track_image.specs.Reading.{count_at}
use Rattle.track_image.proofs.packed.find_at.Given as goal

abbrev pub invariant-loop-i : goal.invariant-loop-i
invariant-loop-i l = (k : ℕ) → k < l.i → is_same_id (count_at (drop (get_or l.places k 0) l.bytes)).id l.id ≡ false
