use Rattle.track_image.proofs.Tracks.{same_track}
use Rattle.track_image.proofs.laws.same_bytes.Goals as goal

pub returns : goal.returns
returns c = same_track
