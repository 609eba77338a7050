use Rattle.std.proofs.Common.{◌≡◌, ◌-◌, ◌*◌, ◌++◌, [], length, replicate}
use Rattle.device_outside.specs.Disk.{empty_contents}
use Rattle.device_outside.proofs.tracks.empty_tracks.Given as goal

-- the tracks so far are empty ones, and the others have no bytes
abbrev pub invariant-loop-n : goal.invariant-loop-n
invariant-loop-n l = (l.tracks ≡ empty_contents l.n ++ replicate (l.cylinders * 15 - l.n) []) × (length l.tracks ≡ l.cylinders * 15)
