use Rattle.track_image.proofs.Tracks.{nothing_behind}
use Rattle.track_image.proofs.laws.no_prefix.Goals as goal

pub returns : goal.returns
returns c = nothing_behind
