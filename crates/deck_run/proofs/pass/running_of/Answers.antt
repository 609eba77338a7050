use Rattle.std.proofs.Common.{◌∙◌, ap}
use Rattle.std.specs.Prelude.{option_map}
use Rattle.device_core.specs.State.{device_of}
use Rattle.deck_run.specs.Recording.{program_from}
use Rattle.deck_run.proofs.Passed.{program_told}
use Rattle.deck_run.proofs.pass.running_of.Goals as goal

pub returns : goal.returns
returns g c =
    c.program_of.ensures ∙ ap (option_map program_from) c.running.ensures ∙ program_told (device_of c.args.device.now).history.running
