use Rattle.disk_image.proofs.Fitting.{track_fits}
use Rattle.disk_image.proofs.laws.tracks_fit.Goals as goal

pub returns : goal.returns
returns c = track_fits
