use Rattle.std.proofs.Common.{◌∙◌, ap}
use Rattle.device_laws.specs.Whole.{WholeDevice}
use Rattle.path_workers.specs.Keeping.{are_fresh}
use Rattle.path_trials.proofs.runs.pair.Goals as goal

pub returns-clause-ready : goal.returns-clause-ready
returns-clause-ready c =
    let ready = c.in_ok-device.ensures.ready in
    let is = c.join_volume.ensures.device in
    record {
      idle = ap (λ (d : WholeDevice). d.history.running) is ∙ ready.idle;
      none = ap (λ (d : WholeDevice). d.history.waiting) is ∙ ready.none;
      journal = ap (λ (d : WholeDevice). are_fresh d.history.items) is ∙ ready.journal;
    }
