use Rattle.std.proofs.Common.{◌∙◌, arith}
use Rattle.device_core.proofs.Marked.{count_all}
use Rattle.device_core.proofs.device.Device.all_loose.Goals as goal

pub returns-clause-value : goal.returns-clause-value
returns-clause-value g c =
    let s = c.args.self.now.store in
    c.count.ensures.value ∙ count_all s.loose.loose 65535 (omega (arith, s.loose_of_each, s.most))
