-- A track is put into a volume.
use Rattle.std.proofs.Common.{◌≡◌, ◌≢◌, ◌<◌, ◌*◌, ℕ, List, length, set, ◌∙◌, arith}
use Rattle.std.proofs.lemmas.List.{get_or-set_same, get_or-set_other, length-set}
use Rattle.ckd_types.specs.declared.geometry.Geometry.{Geometry}
use Rattle.ckd_types.specs.declared.record.Track.{Track}
use Rattle.ckd_types.specs.Geometry.{cchh_of}
use Rattle.ckd_types.specs.Track.{Fits, empty_track}
use Rattle.ckd_types.specs.Volume.{IsVolume, track_in}
use Rattle.device_laws.proofs.EachTrack.{each_track}

pub put_here : (v : List Track) (t : ℕ) (x : Track) → t < length v → track_in (set v t x) t ≡ x
put_here v t x lt = get_or-set_same v t x (empty_track t) lt

pub put_elsewhere : (v : List Track) (t : ℕ) (x : Track) (q : ℕ) → q ≢ t → track_in (set v t x) q ≡ track_in v q
put_elsewhere v t x q ne = get_or-set_other v t q x (empty_track q) ne

pub put_volume : (g : Geometry) (cylinders : ℕ) (v : List Track) (t : ℕ) (x : Track) → IsVolume g cylinders v → t < cylinders * 15 →
    x.home ≡ cchh_of t → Fits g x → IsVolume g cylinders (set v t x)
put_volume g cylinders v t x is lt home fits = record {
  tracks = length-set v t x ∙ is.tracks;
  homes = each_track (λ q. q < cylinders * 15 → (track_in (set v t x) q).home ≡ cchh_of q) t (λ _. rw here home)
      (λ q ne below. rw (put_elsewhere v t x q ne) (is.homes q below));
  fits = each_track (λ q. q < cylinders * 15 → Fits g (track_in (set v t x) q)) t (λ _. rw here fits)
      (λ q ne below. rw (put_elsewhere v t x q ne) (is.fits q below));
}
  where
    here : track_in (set v t x) t ≡ x
    here = put_here v t x (let long = is.tracks in omega arith)
