use Rattle.std.proofs.Common.{◌≡◌, ap, subst, sym}
use Rattle.device_core.specs.State.{device_of, opened_device}
use Rattle.ckd_c.specs.Calls.{StandsBehind}
use Rattle.ckd_c.proofs.Appending.{is_pushed}
use Rattle.ckd_c.proofs.opened.Opened.add.Goals as goal

pub push_behind-requires-clause-stands : goal.push_behind-requires-clause-stands
push_behind-requires-clause-stands c =
    subst (λ n. StandsBehind c.args.self.now.subsystem.devices.items n) (sym (ap (λ d. d.store.device) c.in-Ok.ensures.device)) c.requires.stands

pub returns : goal.returns
returns c =
    is_pushed _ _ _ c.args.volume c.push_behind.result c.args.self.now _ c.in-Ok.device
    (subst (λ p. device_of c.in-Ok.device ≡ opened_device c.args.number c.args.geometry c.args.cylinders p) c.new-plans.ensures c.in-Ok.ensures.device)
    c.in-Ok.ensures.volume c.push_behind.ensures.pool c.push_behind.ensures.pushed
    c.push_behind.ensures.same c.push_behind.ensures.refused
