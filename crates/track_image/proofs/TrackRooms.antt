-- The bytes of a track that fits are held as that track.
use Rattle.std.proofs.Common.{◌≡◌, ◌≤◌, ℕ, List, length, sym, ap, subst, ◌∙◌}
use Rattle.ckd_types.specs.declared.geometry.Cchh.{Cchh}
use Rattle.ckd_types.specs.declared.geometry.Geometry.{Geometry}
use Rattle.ckd_types.specs.declared.record.Track.{Track}
use Rattle.ckd_types.specs.Geometry.{cchh_of}
use Rattle.ckd_types.specs.Track.{Fits, track_bytes}
use Rattle.track_image.specs.Packed.{most_bytes}
use Rattle.track_image.specs.Reading.{reading}
use Rattle.track_image.specs.TrackRoom.{IsHeld, track_read, read_or_empty}
use Rattle.track_image.proofs.Tracks.{reading_again}

pub track_is_read : (g : Geometry) (t : ℕ) (track : Track) (bytes : List ℕ) → Fits g track → track.home ≡ cchh_of t
    → bytes ≡ track_bytes track → track_read g t bytes ≡ track
track_is_read g t track bytes fits home spelled =
    ap (read_or_empty t)
    (ap (λ (h : Cchh). reading g h bytes) (sym home) ∙ ap (reading g track.home) spelled ∙ reading_again g track fits)

pub track_is_held : (g : Geometry) (t : ℕ) (track : Track) (bytes : List ℕ) (most : ℕ) → Fits g track
    → track.home ≡ cchh_of t → bytes ≡ track_bytes track → length bytes ≤ most_bytes → most_bytes ≤ most
    → IsHeld g t bytes most
track_is_held g t track bytes most fits home spelled short room =
    let read = sym (track_is_read g t track bytes fits home spelled) in
    record {
      fits = subst (Fits g) read fits;
      home = subst (λ (x : Track). x.home ≡ cchh_of t) read home;
      spelled = subst (λ (x : Track). bytes ≡ track_bytes x) read spelled;
      short = short;
      room = room;
    }
