use Rattle.std.proofs.Common.{◌≡◌, ◌+◌, take}
use Rattle.ckd_types.specs.Track.{cost_of}
use Rattle.nv_store.proofs.fit.units_to.Given as goal

abbrev pub invariant-loop-i : goal.invariant-loop-i
invariant-loop-i l = l.units ≡ cost_of l.image.geometry (take (l.i + 1) l.image.track.records)
