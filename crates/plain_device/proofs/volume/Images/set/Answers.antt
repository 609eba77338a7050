use Rattle.std.proofs.Common.{◌≡◌, ℕ, List, ap, ◌∙◌}
use Rattle.std.specs.Prelude.{slice_set}
use Rattle.ckd_types.specs.declared.record.Track.{Track}
use Rattle.plain_device.specs.Volume.{ImageVolume, tracks_of}
use Rattle.plain_device.proofs.Tracks.{tracks_set}
use Rattle.plain_device.proofs.volume.Images.set.Goals as goal

pub returns : goal.returns
returns c =
    let index : c.from.result ≡ c.args.t = c.from.ensures ∙ c.get.ensures.value in
    ap (λ (l : List Track). record { geometry = c.self.inside.geometry; tracks = l })
    (tracks_set c.self.inside.images.items c.from.result c.args.image)
    ∙ ap (λ (n : ℕ). record {
      geometry = c.self.inside.geometry;
      tracks =
          slice_set (tracks_of c.self.inside.images.items) n c.args.image.track;
    }) index
    ∙ ap (λ (v : ImageVolume). record {
      geometry = v.geometry;
      tracks =
          slice_set v.tracks c.args.t c.args.image.track;
    }) c.self.view_is
