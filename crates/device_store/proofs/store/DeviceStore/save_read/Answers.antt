use Rattle.ckd_types.specs.Track.{track_bytes}
use Rattle.device_outside.specs.Interaction.{and_then}
use Rattle.device_outside.proofs.Runs.{joined}
use Rattle.device_defs.specs.Background.{saved_by}
use Rattle.device_defs.specs.Contents.{contents}
use Rattle.device_defs.specs.Writing.{write_first}
use Rattle.device_store.proofs.store.DeviceStore.save_read.Goals as goal

pub returns-clause-run : goal.returns-clause-run
returns-clause-run g c =
    joined (λ y was. and_then (write_first contents y c.args.t (track_bytes c.args.image.track))
    (λ x w. saved_by contents c.args.t c.args.image c.args.done c.args.fault was w.fault x w.took)) (c.firm_first-was_loose.ensures.run _)
    (joined (λ x w. saved_by contents c.args.t c.args.image c.args.done c.args.fault c.firm_first-was_loose.result w.fault x w.took)
    (c.write_first-written.ensures.run _)
    (rw c.did.ensures (c.saved_by.ensures.run _ c.args.fault)))
