use Rattle.std.proofs.Common.{refl, sym, ap}
use Rattle.device_outside.proofs.Runs.{ended}
use Rattle.device_store.specs.State.{outside_of, state_of}
use Rattle.device_store.proofs.Moves.{from_equal, lands}
use Rattle.device_store.proofs.Writes.{written_none}
use Rattle.device_store.proofs.store.DeviceStore.unheld.Goals as goal

pub returns-clause-run : goal.returns-clause-run
returns-clause-run g c =
    λ p k bytes. from_equal (λ i. i) (sym (written_none (state_of c.args.self.now) c.args.t bytes c.requires.down c.requires.none)) refl
    (lands (ap (λ x. outside_of p g.V.Volume.view x.volumes k) (sym c.settle.ensures.volume)) (ended (sym c.settle.ensures.state) refl))
