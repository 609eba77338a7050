use Rattle.deck_audit.proofs.KeptPaths.{cut_keeps, cut_reset_keeps, power_keeps, reset_keeps, wait_keeps}
use Rattle.deck_audit.proofs.keeps.reset_is_kept.Goals as goal

pub returns-clause-idle : goal.returns-clause-idle
returns-clause-idle c r h k idle path more least most used = reset_keeps r h k idle path more least most used

pub returns-clause-waiting : goal.returns-clause-waiting
returns-clause-waiting c r h o k open_is path more least most unlike used = wait_keeps r h o k open_is path least most unlike more used

pub returns-clause-cut : goal.returns-clause-cut
returns-clause-cut c r h o more k open_is least most = cut_reset_keeps r h o k open_is more least most

pub returns-clause-power_cut : goal.returns-clause-power_cut
returns-clause-power_cut c r h o more k open_is = cut_keeps r h o k open_is more

pub returns-clause-power : goal.returns-clause-power
returns-clause-power c r h k idle = power_keeps r h k idle
