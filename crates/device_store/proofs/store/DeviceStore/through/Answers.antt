use Rattle.std.proofs.Common.{refl}
use Rattle.ckd_types.specs.Track.{track_bytes}
use Rattle.device_outside.specs.Interaction.{and_then}
use Rattle.device_outside.proofs.Runs.{joined}
use Rattle.device_defs.specs.Contents.{contents}
use Rattle.device_defs.specs.Editing.{through, through_by}
use Rattle.device_defs.specs.Writing.{write_first}
use Rattle.device_store.proofs.Halved.{opened_is}
use Rattle.device_store.proofs.store.DeviceStore.through.Goals as goal

pub returns-clause-run : goal.returns-clause-run
unfolding through
returns-clause-run g c =
    joined (λ z was. and_then (write_first contents z c.args.t (track_bytes c.args.image.track))
    (λ y w. through_by contents c.args.t c.args.image c.args.edit c.args.bypass c.args.opens was y w.took)) (c.firm_first-was_loose.ensures.run _)
    (joined (λ y w. through_by contents c.args.t c.args.image c.args.edit c.args.bypass c.args.opens c.firm_first-was_loose.result y w.took)
    (c.write_first-written.ensures.run _)
    (c.through_by.ensures.run c.args.edit refl))

pub returns-clause-half : goal.returns-clause-half
returns-clause-half g c = opened_is c.through_by.result c.through_by.new.self.half _ c.through_by.ensures.half
