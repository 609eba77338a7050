use Rattle.std.proofs.Common.{◌≡◌, map}
use Rattle.std.specs.List.{range_with_len}
use Rattle.volume_file.specs.File.{empty_image}
use Rattle.remote_copy.proofs.link.empty_rooms.Given as goal

abbrev pub invariant-loop-n : goal.invariant-loop-n
invariant-loop-n l = l.rooms.items ≡ map (empty_image l.geometry) (range_with_len 0 l.n)
