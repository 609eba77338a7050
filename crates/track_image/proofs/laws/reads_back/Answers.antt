use Rattle.track_image.proofs.Tracks.{reading_again}
use Rattle.track_image.proofs.laws.reads_back.Goals as goal

pub returns : goal.returns
returns c = reading_again
