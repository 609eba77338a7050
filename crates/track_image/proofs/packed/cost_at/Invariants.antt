use Rattle.std.proofs.Common.{◌≡◌, ℕ, take, drop, sum_by}
use Rattle.ckd_types.specs.Geometry.{cost}
use Rattle.track_image.specs.Reading.{count_at}
use Rattle.track_image.proofs.packed.cost_at.Given as goal

abbrev pub invariant-loop-place : goal.invariant-loop-place
invariant-loop-place l = l.total ≡ sum_by (λ (place : ℕ). cost l.geometry (count_at (drop place l.bytes)).key
    (count_at (drop place l.bytes)).body) (take l.place-index l.places)
