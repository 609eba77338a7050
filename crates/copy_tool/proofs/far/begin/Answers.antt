use Rattle.std.proofs.Common.{◌∙◌, ◌*◌, ℕ, Some, ap, refl, sym}
use Rattle.std.proofs.lemmas.List.FromFn.{length-map-range_with_len}
use Rattle.ckd_types.specs.Track.{empty_track}
use Rattle.ckd_types.specs.Volume.{empty_volume}
use Rattle.device_outside.specs.Bay.{Bay}
use Rattle.subsystem_core.specs.Devices.{numbers_of}
use Rattle.subsystem_defs.specs.Decks.{opened}
use Rattle.deck_run.proofs.Ready.{read_devices}
use Rattle.remote_copy.specs.FarVolume.{FarVolume}
use Rattle.copy_tool.proofs.MirrorBegun.{begun_so, is_new}
use Rattle.copy_tool.proofs.far.begin.Goals as goal

pub open_deck-requires : goal.open_deck-requires
open_deck-requires c = read_devices c.requires.read.0 c.args.deck.now c.requires.read.1

pub new-mirror-requires-clause-home : goal.new-mirror-requires-clause-home
new-mirror-requires-clause-home c =
    rw c.device-device.ensures
    (is_new c.in_ok-sub.sub c.args.deck.now c.args.d c.device-device.result.now (c.in_ok-sub.ensures.stands (ap (λ (b : Bay). b.spoiled) c.new-bay.ensures))
    c.device-device.ensures).home

pub new-mirror-requires-clause-unused : goal.new-mirror-requires-clause-unused
new-mirror-requires-clause-unused c =
    let new =
    is_new c.in_ok-sub.sub c.args.deck.now c.args.d c.device-device.result.now (c.in_ok-sub.ensures.stands (ap (λ (b : Bay). b.spoiled) c.new-bay.ensures))
    c.device-device.ensures in
    rw c.device-device.ensures (new.items, new.running)

pub new-mirror-requires-clause-fits : goal.new-mirror-requires-clause-fits
new-mirror-requires-clause-fits c =
    rw (c.device-device.ensures, c.in_ok-link.ensures) (
      c.geometry-geometry.ensures,
      length-map-range_with_len empty_track 0 (c.cylinders-cylinders.result * 15) ∙ ap (λ (n : ℕ). n * 15) c.cylinders-cylinders.ensures,
    )

pub returns : goal.returns
returns c =
    let stands = c.in_ok-sub.ensures.stands (ap (λ (b : Bay). b.spoiled) c.new-bay.ensures) in
    let new = is_new c.in_ok-sub.sub c.args.deck.now c.args.d c.device-device.result.now stands c.device-device.ensures in
    let link = c.in_ok-link.ensures in
    record {
      stands = begun_so c.new-mirror.result c.args.deck.now c.args.d c.args.put new.mounted _ new.there (ap (λ (f : FarVolume). Some f.calls) link)
          (c.new-mirror.ensures.begun (opened c.args.deck.now) new.mounted stands c.in_ok-sub.ensures.own new.there
          (ap (λ (f : FarVolume). f.tracks) link ∙ ap empty_volume c.cylinders-cylinders.ensures ∙ sym new.firm));
      numbers = ap (λ s. numbers_of s.devices.items) c.new-mirror.ensures.sub ∙ c.in_ok-sub.ensures.numbers;
      device = ap (λ s. s.device) c.new-mirror.ensures.sender;
    }
