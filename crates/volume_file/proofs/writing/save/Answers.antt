use Rattle.ckd_outside.proofs.Lines.{stops_longer, stops_then, moves_then, written_front, written_all}
use Rattle.volume_file.proofs.writing.save.Goals as goal

pub returns-in_err-write_head-clause-bytes : goal.returns-in_err-write_head-clause-bytes
returns-in_err-write_head-clause-bytes g c =
    written_front _ _ _ _ _ _ _ c.new-buffer.ensures c.from_residual.ensures.1 (stops_longer _ _ _ _ _ _ c.in_err-write_head.ensures.bytes)

pub returns-in_err-write_tracks-clause-bytes : goal.returns-in_err-write_tracks-clause-bytes
returns-in_err-write_tracks-clause-bytes g c =
    written_front _ _ _ _ _ _ _ c.new-buffer.ensures c.from_residual-in_err-write_tracks.ensures.1
    (stops_then _ _ _ _ _ _ _ _ c.in_ok-write_head.ensures.bytes c.in_err-write_tracks.ensures.bytes)

pub returns-clause-bytes : goal.returns-clause-bytes
returns-clause-bytes g c =
    written_all _ _ _ _ _ _ _ c.new-buffer.ensures (moves_then _ _ _ _ _ _ _ _ c.in_ok-write_head.ensures.bytes c.in_ok-write_tracks.ensures.bytes)
    c.flush.ensures.bytes
