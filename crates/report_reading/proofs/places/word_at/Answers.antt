use Rattle.report_reading.proofs.Found.{found_or}
use Rattle.report_reading.proofs.places.word_at.Goals as goal

pub returns : goal.returns
returns c = rw c.ok_or.ensures.value (found_or _ _ _ c.get.ensures)
