use Rattle.std.proofs.Common.{◌≡◌, ◌∙◌, Err, drop, sym, ap, subst}
use Rattle.device_outside.specs.Bay.{Bay}
use Rattle.subsystem_core.specs.Devices.{numbers_of}
use Rattle.deck_run.specs.Fronts.{front_of}
use Rattle.deck_run.specs.Opening.{numbers_in}
use Rattle.deck_run.proofs.Ready.{read_lines}
use Rattle.volume_file.specs.File.{ImageVolume}
use Rattle.copy_tool.specs.Copying.{copying, Gives}
use Rattle.copy_tool.proofs.Begun.{begun_found, begun_of, is_there, plain_ok, refused_found, small_device}
use Rattle.copy_tool.proofs.Rest.{rest_open}
use Rattle.copy_tool.proofs.deck.copy_device.Goals as goal

pub in_file-requires : goal.in_file-requires
in_file-requires c =
    small_device c.in-Ok.sub c.args.deck.now c.args.lines c.args.d c.device-device.result.now c.cylinders-cylinders.result c.requires.read
    (c.in-Ok.ensures.stands (ap (λ (b : Bay). b.spoiled) c.new-bay.ensures)) c.device-device.ensures c.cylinders-cylinders.ensures

pub copy_begun-requires-clause-lines : goal.copy_begun-requires-clause-lines
copy_begun-requires-clause-lines c =
    let begun = rw c.device-device.ensures at c.in-Ok-begin.ensures.begun in
    let rest : c.split_at.result.1.now ≡ drop c.args.lines c.args.deck.now.events =
    c.split_at.ensures.back ∙ ap (drop c.args.lines) (c.as_slice.ensures ∙ c.schedule.ensures) in
    rw (ap (λ s. numbers_of s.devices.items) begun.sub_is ∙ c.in-Ok.ensures.numbers, rest)
    (rest_open (numbers_in c.args.deck.now.devices) c.args.lines c.args.deck.now.events
    (read_lines c.requires.read.0 c.args.deck.now c.requires.read.1))

pub copy_begun-requires-clause-begun : goal.copy_begun-requires-clause-begun
copy_begun-requires-clause-begun c =
    let run = (front_of c.args.deck.now c.args.lines).behind in
    let stands = c.in-Ok.ensures.stands (ap (λ (b : Bay). b.spoiled) c.new-bay.ensures) in (
      run,
      c.args.d,
      begun_of c.in-Ok.sub run c.args.d c.device-device.result.now c.in-Ok-begin.session c.geometry-geometry.result c.in_file.result stands
          c.device-device.ensures c.geometry-geometry.ensures (c.in_file.ensures.value ∙ c.cylinders-cylinders.ensures)
          (c.in-Ok-begin.ensures.old run stands c.in-Ok.ensures.own),
    )

pub returns-in-Ok-begin-clause-found : goal.returns-in-Ok-begin-clause-found
returns-in-Ok-begin-clause-found c =
    let run = (front_of c.args.deck.now c.args.lines).behind in
    let stands = c.in-Ok.ensures.stands (ap (λ (b : Bay). b.spoiled) c.new-bay.ensures) in
    let b = begun_of c.in-Ok.sub run c.args.d c.device-device.result.now c.in-Ok-begin.session c.geometry-geometry.result c.in_file.result stands
    c.device-device.ensures c.geometry-geometry.ensures (c.in_file.ensures.value ∙ c.cylinders-cylinders.ensures) (c.in-Ok-begin.ensures.old run stands c.in-Ok.ensures.own) in
    let m = b.begun.mounted in
    begun_found c.args.deck.now c.args.d c.args.lines m b.begun.there c.split_at.result.1.now c.copy_begun.result
    (c.in-Ok-begin.ensures.refused run m stands b.begun.there)
    (c.split_at.ensures.back ∙ ap (drop c.args.lines) (c.as_slice.ensures ∙ c.schedule.ensures)) (c.copy_begun.ensures.found run c.args.d b)

pub returns-in-Ok-begin-clause-plain : goal.returns-in-Ok-begin-clause-plain
returns-in-Ok-begin-clause-plain c =
    let run = (front_of c.args.deck.now c.args.lines).behind in
    let stands = c.in-Ok.ensures.stands (ap (λ (b : Bay). b.spoiled) c.new-bay.ensures) in
    let b = begun_of c.in-Ok.sub run c.args.d c.device-device.result.now c.in-Ok-begin.session c.geometry-geometry.result c.in_file.result stands
    c.device-device.ensures c.geometry-geometry.ensures (c.in_file.ensures.value ∙ c.cylinders-cylinders.ensures) (c.in-Ok-begin.ensures.old run stands c.in-Ok.ensures.own) in
    plain_ok c.args.deck.now c.args.d c.args.lines b.begun.mounted b.begun.there c.copy_begun.result c.requires.read
    (c.copy_begun.ensures.made run c.args.d b)

pub returns-clause-found : goal.returns-clause-found
returns-clause-found c =
    let run = (front_of c.args.deck.now c.args.lines).behind in
    let stands = c.in-Ok.ensures.stands (ap (λ (b : Bay). b.spoiled) c.new-bay.ensures) in
    let t = is_there c.in-Ok.sub run c.args.d c.device-device.result.now stands c.device-device.ensures in
    subst (λ w. Gives {A = ImageVolume} (Err w) (copying c.args.deck.now c.args.d c.args.lines)) (sym c.not_begun.ensures)
    (refused_found c.args.deck.now c.args.d c.args.lines t.mounted t.there c.in-Err-begin.refused.0
    (c.in-Err-begin.ensures.refused run t.mounted stands t.there))
