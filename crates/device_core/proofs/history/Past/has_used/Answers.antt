use Rattle.std.proofs.Common.{◌∙◌, ap}
use Rattle.device_core.specs.declared.history.KeptPath.{KeptPath}
use Rattle.device_core.proofs.history.Past.has_used.Goals as goal

pub returns : goal.returns
returns c =
    ap (λ (k : KeptPath). k.used) c.of_path.ensures.value ∙ (c.requires.paths c.args.path c.of_path.ensures.path.0 c.of_path.ensures.path.1).used_is
