use Rattle.std.proofs.Common.{◌≡◌, ◌∙◌, Some, None, get_or, ap}
use Rattle.std.specs.Prelude.{slice_get, ◌==◌}
use Rattle.subsystem_core.specs.Devices.{numbers_of}
use Rattle.subsystem_core.proofs.Found.{number_there, number_nowhere}
use Rattle.subsystem_core.proofs.Numbers.{is_there, is_nowhere}
use Rattle.subsystem_core.proofs.subsystem.Subsystem.has_device.Goals as goal

pub returns-in-Some : goal.returns-in-Some
returns-in-Some g c =
    let ns = numbers_of c.args.self.now.devices.items in
    let look = c.in-Some.ensures.lookup in
    let there : slice_get ns (get_or c.args.self.now.places c.from.result 0) ≡ Some c.in-Some.device.now.store.number =
    rw (← c.deref.ensures.value) (number_there c.deref.result.now (get_or c.args.self.now.places c.from.result 0) c.in-Some.device.now look.3.0 look.1) in
    let at : slice_get ns (get_or c.args.self.now.places c.args.d 0) ≡ Some c.in-Some.device.now.store.number =
    rw (c.from.ensures, c.get.ensures.value) at there in
    c.eq.ensures ∙ ap (λ n. n == c.args.d) c.number.ensures
    ∙ is_there c.args.self.now.places ns c.args.d c.in-Some.device.now.store.number c.args.self.now.table at

pub returns-in-None : goal.returns-in-None
returns-in-None g c =
    let ns = numbers_of c.args.self.now.devices.items in
    let look = c.in-None.ensures.lookup in
    let there : slice_get ns (get_or c.args.self.now.places c.from.result 0) ≡ None =
    rw (← c.deref.ensures.value) (number_nowhere c.deref.result.now (get_or c.args.self.now.places c.from.result 0) look.3) in
    let at : slice_get ns (get_or c.args.self.now.places c.args.d 0) ≡ None = rw (c.from.ensures, c.get.ensures.value) at there in
    is_nowhere c.args.self.now.places ns c.args.d c.args.self.now.table at
