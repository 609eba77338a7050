use Rattle.ckd_outside.proofs.Lines.{stops_longer, stops_then, moves_then, written_front, written_all}
use Rattle.volume_texts.proofs.listing.write_listing.Goals as goal

pub returns-in_err-put_volume-clause-bytes : goal.returns-in_err-put_volume-clause-bytes
returns-in_err-put_volume-clause-bytes g c =
    written_front _ _ _ _ _ _ _ c.new-buffer.ensures c.from_residual.ensures.1 (stops_longer _ _ _ _ _ _ c.in_err-put_volume.ensures.bytes)

pub returns-in_err-put_all-clause-bytes : goal.returns-in_err-put_all-clause-bytes
returns-in_err-put_all-clause-bytes g c =
    written_front _ _ _ _ _ _ _ c.new-buffer.ensures c.from_residual-in_err-put_all.ensures.1
    (stops_then _ _ _ _ _ _ _ _ c.in_ok-put_volume.ensures.bytes (stops_longer _ _ _ _ _ _ c.in_err-put_all.ensures.bytes))

pub returns-in_err-put_finish-clause-bytes : goal.returns-in_err-put_finish-clause-bytes
returns-in_err-put_finish-clause-bytes g c =
    written_front _ _ _ _ _ _ _ c.new-buffer.ensures c.from_residual-in_err-put_finish.ensures.1
    (stops_then _ _ _ _ _ _ _ _ c.in_ok-put_volume.ensures.bytes
    (stops_then _ _ _ _ _ _ _ _ c.in_ok-put_all.ensures.bytes c.in_err-put_finish.ensures.bytes))

pub returns-clause-bytes : goal.returns-clause-bytes
returns-clause-bytes g c =
    written_all _ _ _ _ _ _ _ c.new-buffer.ensures
    (moves_then _ _ _ _ _ _ _ _ c.in_ok-put_volume.ensures.bytes
    (moves_then _ _ _ _ _ _ _ _ c.in_ok-put_all.ensures.bytes c.in_ok-put_finish.ensures.bytes))
    c.flush.ensures.bytes
