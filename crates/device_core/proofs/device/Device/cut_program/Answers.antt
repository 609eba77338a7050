use Rattle.std.proofs.Common.{◌∙◌, None, refl, sym, ap}
use Rattle.std.specs.Prelude.{option_map}
use Rattle.plain_defs.specs.History.{cut_by}
use Rattle.plain_defs.specs.PlainState.{reset_path}
use Rattle.device_outside.specs.Interaction.{Done}
use Rattle.device_outside.proofs.Runs.{joined, ended}
use Rattle.device_defs.specs.Device.{all_reset}
use Rattle.device_store.specs.State.{state_of}
use Rattle.device_store.proofs.Moves.{from_equal}
use Rattle.device_core.specs.Kept.{chain_of, history_of, waiting_in}
use Rattle.device_core.specs.State.{device_of}
use Rattle.device_core.proofs.Pasts.{some_path}
use Rattle.device_core.proofs.Resetting.{behind_cut, cut_behind, device_with, reset_cut}
use Rattle.device_core.proofs.device.Device.cut_program.Goals as goal

pub returns-clause-run : goal.returns-clause-run
returns-clause-run g c =
    let d = device_of c.args.self.now in
    let it = some_path _ c.args.path c.requires.runs in
    λ p. from_equal (λ i. i) (sym (reset_cut d c.args.path it.0 it.1.0 it.1.1)) refl
    (joined (λ s _. Done (cut_behind d c.args.path s) tt) (c.cut_half.ensures.run p)
    (ended (behind_cut d c.args.path (state_of c.cut_half.new.self) it.0 c.half_count-more.result c.half_count-more.ensures.count it.1.0 it.1.1
    ∙ device_with (state_of c.cut_half.new.self) c.args.self.now.plans c.cut.new.paths
    (all_reset (reset_path c.args.self.now.paths c.args.path) (waiting_in c.args.self.now.past.kept)) c.cut.new.self
    (cut_by (history_of c.args.self.now.past) it.0 c.half_count-more.result) None (c.cut.ensures.history it.0 it.1.0)
    (ap (option_map chain_of) c.cut.ensures.over) c.cut.ensures.paths) refl))
