use Rattle.std.proofs.Common.{◌*◌, refl, ap}
use Rattle.device_defs.specs.Contents.{contents}
use Rattle.device_defs.specs.declared.counts.Losses.{Losses}
use Rattle.device_defs.specs.Events.{lost_by}
use Rattle.device_defs.specs.Losses.{all_firm_told}
use Rattle.device_store.specs.State.{state_of}
use Rattle.device_store.proofs.Moves.{from_equal}
use Rattle.device_store.proofs.store.DeviceStore.lose.Goals as goal

pub returns-clause-run : goal.returns-clause-run
returns-clause-run g c =
    λ p. let s = state_of c.args.self.now in
    from_equal (λ z. all_firm_told contents (c.args.self.now.cylinders * 15) (lost_by contents z c.args.loss))
    (ap (λ (l : Losses). record s { counts = record s.counts { losses = l } }) c.count_loss.ensures) refl (c.lose_by.ensures.run p)
