use Rattle.std.proofs.Common.{◌≡◌, ◌<◌, ℕ, take}
use Rattle.ckd_types.specs.Volume.{track_in}
use Rattle.volume_file.specs.File.{IsPlaced}
use Rattle.copy_tool.specs.Mirroring.{images_of}
use Rattle.copy_tool.proofs.far.link_volume.Given as goal

-- the images so far
abbrev pub invariant-loop-n : goal.invariant-loop-n
invariant-loop-n l = record {
  images : l.images.items ≡ images_of l.link.geometry (take l.n l.link.tracks);
  placed : (t : ℕ) → t < l.n → IsPlaced l.link.geometry t (record { geometry = l.link.geometry; track = track_in l.link.tracks t });
}
