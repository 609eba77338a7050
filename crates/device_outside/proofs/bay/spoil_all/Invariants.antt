use Rattle.std.proofs.Common.{◌≡◌, drop, length}
use Rattle.device_outside.specs.Bay.{spoil_all}
use Rattle.device_outside.proofs.bay.spoil_all.Given as goal

abbrev pub invariant-loop-s : goal.invariant-loop-s
invariant-loop-s l = (spoil_all (drop l.s-index l.spoiled) l.d l.volume ≡ spoil_all l.spoiled l.d l.fn.volume) ×
    (length l.volume.tracks ≡ length l.fn.volume.tracks)
