-- A far volume in memory, and what a put makes of it.
use Rattle.std.specs.Prelude.{◌<◌, ℕ, List, Some, if◌then◌else◌, length, slice_index_or, slice_set}
use Rattle.ckd_types.specs.declared.geometry.Geometry.{Geometry}
use Rattle.ckd_types.specs.declared.record.Track.{Track}
use Rattle.ckd_types.specs.Volume.{empty_volume}
use Rattle.track_image.specs.Image.{Image}
use Rattle.device_outside.specs.Volume.{counted_if}
use Rattle.device_store.specs.Images.{IsImageOf}
use Rattle.remote_copy.specs.Linking.{LinkView, PutCalls, next_fails, one_put}

pub record FarVolume : Type 0 where
  pub geometry : Geometry
  pub tracks : List Track
  pub calls : PutCalls
  pub faults : ℕ

abbrev pub new_far : Geometry → ℕ → List ℕ → FarVolume
new_far g cylinders failing = record { geometry = g; tracks = empty_volume cylinders; calls = record { done = 0; failing = failing }; faults = 0 }

-- it tells all
abbrev pub link_view : FarVolume → LinkView
link_view f = record { geometry = f.geometry; tracks = length f.tracks; far = Some f.tracks; faults = f.faults; calls = Some f.calls }

-- a put that fails changes nothing but the counts
abbrev pub put_on : FarVolume → ℕ → Track → FarVolume
put_on f t x = record f {
  tracks = (if next_fails f.calls then f.tracks else slice_set f.tracks t x);
  calls = one_put f.calls;
  faults = counted_if (next_fails f.calls) f.faults;
}

-- each image is of its track
pub record AreFarImages (g : Geometry) (images : List Image) : Type 0 where
  pub all : (t : ℕ) (d : Image) → t < length images → IsImageOf g t (slice_index_or images t d)
