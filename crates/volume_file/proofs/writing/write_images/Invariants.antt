use Rattle.std.proofs.Common.{◌≤◌, drop}
use Rattle.std.specs.List.{flat_map}
use Rattle.ckd_outside.proofs.Lines.{Put}
use Rattle.volume_file.specs.File.{track_part}
use Rattle.volume_file.proofs.writing.write_images.Given as goal

-- the tracks so far were put
abbrev pub invariant-loop-image : goal.invariant-loop-image
invariant-loop-image g l =
    Put (g.K.Sink.held l.fn.sink) l.fn.buffer (g.K.Sink.held l.sink) l.buffer (flat_map track_part l.images) (flat_map track_part (drop l.image-index l.images))
    × (g.K.Sink.faults l.fn.sink ≤ g.K.Sink.faults l.sink)
