use Rattle.std.proofs.Common.{◌∙◌, List, ap}
use Rattle.ckd_types.specs.declared.channel.Ccw.{Ccw}
use Rattle.plain_defs.specs.Program.{sense_begun}
use Rattle.device_store.specs.State.{state_of}
use Rattle.device_core.proofs.Starts.{device_started}
use Rattle.device_core.proofs.device.Device.start_next.Goals as goal

pub returns-clause-started : goal.returns-clause-started
returns-clause-started g c =
    device_started (state_of c.args.self.now.store) c.args.self.now.plans c.args.self.now.paths c.begin.new.self c.args.self.now.past
    c.reserve_items.new.self c.begin-2.new.self c.args.path c.in_ok-program.program c.new-fixed.result c.begin-chain.result
    (c.in_ok-program.ensures ∙ c.next_program.ensures.value)
    (c.begin.ensures ∙ ap (λ (l : List Ccw). sense_begun c.args.self.now.paths c.args.path l) c.ccws.ensures.value) c.reserve_items.ensures.history
    c.begin-2.ensures.history c.begin-2.ensures.chain c.begin-chain.ensures c.new-fixed.ensures
