use Rattle.nv_store.proofs.Fits.{fit_says}
use Rattle.nv_store.proofs.laws.fit_is_tested.Goals as goal

pub returns : goal.returns
returns c = fit_says
