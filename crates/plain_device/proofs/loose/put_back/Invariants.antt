use Rattle.std.proofs.Common.{◌≡◌, ◌<◌, length}
use Rattle.std.specs.Prelude.{All, vec_len}
use Rattle.plain_defs.specs.Loose.{restored}
use Rattle.plain_device.specs.declared.loose.LooseImage.{LooseImage}
use Rattle.plain_device.specs.Volume.{loose_of}
use Rattle.plain_device.proofs.loose.put_back.Given as goal

abbrev pub invariant-loop-l : goal.invariant-loop-l
invariant-loop-l l =
    (record l.volume { tracks = restored (loose_of l.loose.items) l.volume.tracks }
    ≡ record l.fn.volume { tracks = restored (loose_of l.fn.loose.items) l.fn.volume.tracks })
    × All (λ (i : LooseImage). (i.image.geometry ≡ l.volume.geometry) × (i.track < length l.volume.tracks))
    l.loose.items

abbrev pub decreases-loop-l : goal.decreases-loop-l
decreases-loop-l l = vec_len l.loose
