use Rattle.std.proofs.Common.{◌∙◌, refl, sym, ap}
use Rattle.std.specs.Prelude.{option_map}
use Rattle.plain_defs.specs.History.{emptied}
use Rattle.device_store.specs.Looks.{StoreOf}
use Rattle.device_store.specs.State.{state_of}
use Rattle.device_core.specs.Kept.{chain_of, history_of}
use Rattle.device_core.specs.State.{device_by}
use Rattle.device_core.proofs.Away.{restore_comes_plain, restore_loses_none, restore_sound}
use Rattle.device_core.proofs.Commands.{same_device}
use Rattle.device_core.proofs.Resetting.{device_with}
use Rattle.device_core.proofs.device.Device.restore.Goals as goal

pub returns-clause-device : goal.returns-clause-device
returns-clause-device g c =
    let old = c.args.self.now in
    let q = c.note_fresh.new.self in
    ap (λ (s : StoreOf). device_by s old.paths old.plans q) c.restore.ensures.state
    ∙ sym (device_with _ old.plans old.paths old.paths q (emptied (history_of old.past)) (option_map chain_of old.past.running)
    (c.note_fresh.ensures.history ∙ ap emptied c.in-Ok.ensures.history)
    (ap (option_map chain_of) (c.note_fresh.ensures.running ∙ c.in-Ok.ensures.running)) refl)

pub returns-in-Err-clause-same : goal.returns-in-Err-clause-same
returns-in-Err-clause-same g c =
    let old = c.args.self.now in (
      sym (same_device (state_of old.store) old.paths old.plans old.past c.reserve_fresh.new.self c.in-Err.ensures.history
          (ap (option_map chain_of) c.in-Err.ensures.running)),
      refl,
    )

pub returns-clause-sound : goal.returns-clause-sound
returns-clause-sound g c tells = restore_sound c.args.self.now _ c.args.volume (returns-clause-device g c) c.restore.ensures.a c.restore.ensures.b tells

pub returns-clause-plain : goal.returns-clause-plain
returns-clause-plain g c tells = restore_comes_plain c.args.self.now _ c.args.volume (returns-clause-device g c) c.restore.ensures.a c.restore.ensures.b tells

pub returns-clause-excused : goal.returns-clause-excused
returns-clause-excused g c = restore_loses_none c.args.self.now _ (returns-clause-device g c)
