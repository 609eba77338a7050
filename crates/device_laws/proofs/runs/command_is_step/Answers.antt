use Rattle.std.proofs.Common.{◌*◌, refl}
use Rattle.device_laws.specs.Standing.{LooksAt}
use Rattle.device_laws.proofs.ChainFeeds.{chain_feeds, runs_looks}
use Rattle.device_laws.proofs.WholeCommand.{command_whole}
use Rattle.device_laws.proofs.WholeTwins.{whole_linked}
use Rattle.device_laws.proofs.runs.command_is_step.Goals as goal

pub returns : goal.returns
returns g c = λ v w d h others t u z e a i none runs r tells.
    let n = d.store.cylinders in
    let on = d.store.geometry in
    whole_linked others h t (λ ok x. x)
    (command_whole (n * 15) on (LooksAt n on) (chain_feeds n on) v w d h i refl refl none (λ chain q is needs. runs_looks n on chain q (runs chain is) needs))
    r tells
