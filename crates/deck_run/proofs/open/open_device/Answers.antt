use Rattle.std.proofs.Common.{◌∙◌, ap, is_some}
use Rattle.device_store.specs.State.{on_a, on_b}
use Rattle.device_core.specs.State.{DefinedDevice, device_of}
use Rattle.deck_run.proofs.Opened.{device_stands, opened_own, stood_stands}
use Rattle.deck_run.proofs.open.open_device.Goals as goal

pub returns-in-Ok-clause-mounted : goal.returns-in-Ok-clause-mounted
returns-in-Ok-clause-mounted g c = λ firsts holds.
    stood_stands g.V.Volume.view (device_of c.in-Ok.made) (on_a c.in-Ok.made.store) (on_b c.in-Ok.made.store) c.args.volume c.in-Ok.ensures.volume.0
    c.in-Ok.ensures.volume.1
    (device_stands firsts c.args.deck.now c.args.line (device_of c.in-Ok.made) (g.V.Volume.view c.args.volume) c.in_ok-plans.plans holds
    c.in-Ok.ensures.device (c.in_ok-plans.ensures ∙ c.plans.ensures))

pub returns-in-Ok-clause-own : goal.returns-in-Ok-clause-own
returns-in-Ok-clause-own g c =
    opened_own (device_of c.in-Ok.made) c.args.line.number c.args.line.geometry c.args.line.cylinders c.in_ok-plans.plans c.in-Ok.ensures.device
    c.plans_give.ensures

pub returns-in-Ok-clause-fresh : goal.returns-in-Ok-clause-fresh
returns-in-Ok-clause-fresh g c = record {
  lent = ap (λ (d : DefinedDevice). d.store.lent) c.in-Ok.ensures.device;
  a = ap (λ o. is_some o) c.in-Ok.ensures.volume.0;
  b = ap (λ o. is_some o) c.in-Ok.ensures.volume.1;
}

pub returns-in-Ok-clause-unused : goal.returns-in-Ok-clause-unused
returns-in-Ok-clause-unused g c = ap (λ (d : DefinedDevice). d.history) c.in-Ok.ensures.device
