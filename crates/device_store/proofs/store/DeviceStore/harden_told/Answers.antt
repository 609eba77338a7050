use Rattle.std.proofs.Common.{◌<◌, ap, refl, sym, subst}
use Rattle.device_outside.proofs.Runs.{ended, tells}
use Rattle.device_defs.specs.Contents.{contents}
use Rattle.device_store.specs.State.{outside_of, state_of}
use Rattle.device_store.proofs.Firming.{hardened_told, modified_there}
use Rattle.device_store.proofs.Moves.{from_equal, lands}
use Rattle.device_store.proofs.store.DeviceStore.harden_told.Goals as goal

pub returns-clause-run : goal.returns-clause-run
returns-clause-run g c =
    λ p. lands (ap (λ x. outside_of p g.V.Volume.view x.volumes c.firm.new.self) (sym c.harden.ensures.volume)) (from_equal (λ i. i)
    (sym (hardened_told contents c.args.t (state_of c.args.self.now)
    (modified_there _ (c.args.self.now.loose_modified c.requires.here c.args.t c.requires.loose)) c.requires.loose (c.no_firm.ensures c.args.t)
    (subst (λ n. c.args.t < n) (sym c.args.self.now.owed_of_each) c.requires.track))) refl
    (tells tt (rw c.frame_image-image.ensures.image at c.firm.ensures) tt (ended (sym c.harden.ensures.state) refl)))
