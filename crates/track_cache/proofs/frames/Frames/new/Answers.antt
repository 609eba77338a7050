use Rattle.std.proofs.Common.{false}
use Rattle.track_table.proofs.Places.{empty_places}
use Rattle.track_cache.proofs.frames.Frames.new.Goals as goal

pub invariant_of-result : goal.invariant_of-result
invariant_of-result c = λ t. rw (c.in_ok-new-2.ensures, c.in_ok-new.ensures) (empty_places 65535 t false)
