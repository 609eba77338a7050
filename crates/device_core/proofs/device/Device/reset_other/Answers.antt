use Rattle.std.proofs.Common.{◌∙◌, ◌++◌, ◌∷◌, [], refl, sym, ap}
use Rattle.std.specs.Prelude.{option_map}
use Rattle.plain_defs.specs.declared.journal.Item.TheVariants.{Reset}
use Rattle.plain_defs.specs.History.{History, put}
use Rattle.plain_defs.specs.PlainState.{reset_path}
use Rattle.device_outside.specs.Interaction.{Done}
use Rattle.device_store.specs.State.{state_of}
use Rattle.device_core.specs.Kept.{chain_of, history_of, open_of, waiting_in}
use Rattle.device_core.specs.State.{DefinedDevice, device_of}
use Rattle.device_core.proofs.Pasts.{other_path, some_open}
use Rattle.device_core.proofs.Resetting.{device_with, none_of, reset_done, reset_waits}
use Rattle.device_core.proofs.device.Device.reset_other.Goals as goal

pub note_reset-requires-clause-idle : goal.note_reset-requires-clause-idle
note_reset-requires-clause-idle g c = none_of c.args.self.now.past.running (sym c.is_running.ensures ∙ c.if-is_running.false)

pub returns-then-is_running-clause-done : goal.returns-then-is_running-clause-done
returns-then-is_running-clause-done g c =
    let it = some_open c.args.self.now.past.running (sym c.is_running.ensures ∙ c.if-is_running.true) in
    let waits : History = record (history_of c.args.self.now.past) { waiting = put c.args.path (waiting_in c.args.self.now.past.kept) } in
    reset_waits (device_of c.args.self.now) c.args.path it.0 it.1 (other_path _ it.0 c.args.path it.1 c.requires.other) c.requires.used
    ∙ ap (λ (z : DefinedDevice). Done z tt)
    (device_with (state_of c.args.self.now.store) c.args.self.now.plans c.args.self.now.paths c.args.self.now.paths c.note_waiting.new.self waits
    (option_map chain_of c.args.self.now.past.running) c.note_waiting.ensures.history (ap (option_map chain_of) c.note_waiting.ensures.running) refl)

pub returns-clause-done : goal.returns-clause-done
returns-clause-done g c =
    let idle = none_of c.args.self.now.past.running (sym c.is_running.ensures ∙ c.if-is_running.false) in
    let noted : History = record (history_of c.args.self.now.past) { items = c.args.self.now.past.items.items ++ Reset c.args.path ∷ [] } in
    reset_done (device_of c.args.self.now) c.args.path (ap (option_map open_of) idle) c.requires.used
    ∙ ap (λ (z : DefinedDevice). Done z tt)
    (device_with (state_of c.args.self.now.store) c.args.self.now.plans c.reset.new.self (reset_path c.args.self.now.paths c.args.path)
    c.note_reset.new.self noted (option_map chain_of c.args.self.now.past.running) c.note_reset.ensures.history
    (ap (option_map chain_of) (c.note_reset.ensures.running ∙ sym idle)) c.reset.ensures)
