use Rattle.std.proofs.Common.{◌≡◌, map, length}
use Rattle.std.specs.Prelude.{All}
use Rattle.std.specs.List.{range_with_len}
use Rattle.ckd_types.specs.Track.{empty_track}
use Rattle.track_image.specs.Image.{Image}
use Rattle.plain_device.specs.Volume.{tracks_of}
use Rattle.plain_device.proofs.volume.Images.empty.Given as goal

abbrev pub invariant-loop-n : goal.invariant-loop-n
invariant-loop-n l =
    (tracks_of l.images.items ≡ map empty_track (range_with_len 0 l.n))
    × (length l.images.items ≡ l.n)
    × All (λ (i : Image). i.geometry ≡ l.geometry) l.images.items
