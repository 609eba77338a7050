use Rattle.std.proofs.Common.{◌≡◌, ℕ, List, length, ap, arith, ◌∙◌}
use Rattle.std.specs.Prelude.{slice_set}
use Rattle.ckd_types.specs.declared.record.Track.{Track}
use Rattle.ckd_types.specs.Edit.{apply_edit}
use Rattle.ckd_types.specs.Track.{empty_track}
use Rattle.ckd_types.specs.Volume.{track_in}
use Rattle.plain_device.specs.Volume.{ImageVolume, tracks_of}
use Rattle.plain_device.proofs.Tracks.{edited_tracks, tracks_length}
use Rattle.plain_device.proofs.volume.Images.edit.Goals as goal

pub returns-clause-done : goal.returns-clause-done
returns-clause-done c =
    let index : c.from.result ≡ c.args.t = c.from.ensures ∙ c.get.ensures.value in
    let many : length (tracks_of c.self.inside.images.items) ≡ length c.args.self.now.tracks =
    ap (λ (v : ImageVolume). length v.tracks) c.self.view_is in
    ap (λ (l : List Track). record { geometry = c.self.inside.geometry; tracks = l })
    (edited_tracks c.self.inside.images.items c.from.result c.edit_image.new.image c.index_mut.result.now _ c.args.edit
    (empty_track c.from.result)
    (omega (arith, index, many, tracks_length c.self.inside.images.items, c.requires.track)) c.index_mut.ensures.value
    c.in_ok-edit_image.ensures.done)
    ∙ ap (λ (n : ℕ). record {
      geometry = c.self.inside.geometry;
      tracks =
          slice_set (tracks_of c.self.inside.images.items) n
          (apply_edit c.args.edit (track_in (tracks_of c.self.inside.images.items) n));
    }) index
    ∙ ap (λ (v : ImageVolume). record {
      geometry = v.geometry;
      tracks =
          slice_set v.tracks c.args.t (apply_edit c.args.edit (track_in v.tracks c.args.t));
    }) c.self.view_is
