use Rattle.std.proofs.Common.{refl, sym, ap, false}
use Rattle.device_outside.proofs.Runs.{tries, ended}
use Rattle.device_defs.specs.Contents.{contents}
use Rattle.device_defs.specs.Editing.{write}
use Rattle.device_store.specs.Looks.{frame_in}
use Rattle.device_store.specs.State.{outside_of}
use Rattle.device_store.proofs.Moves.{from_equal, lands}
use Rattle.device_store.proofs.store.DeviceStore.write_framed.Goals as goal

pub returns-in-Err-clause-run : goal.returns-in-Err-clause-run
unfolding write
returns-in-Err-clause-run g c = lands (ap (λ x. outside_of (g.P.Port.view c.args.port.now) g.V.Volume.view x c.args.keep.now)
    (sym c.room_framed.ensures.leaves.volume)) (tries false tt (ended (sym c.room_framed.ensures.state) refl))

pub returns-in-Ok-clause-run : goal.returns-in-Ok-clause-run
returns-in-Ok-clause-run g c =
    from_equal (λ z. write contents z c.args.usage.now c.args.first c.args.t (frame_in z c.args.t) c.args.edit)
    c.room_framed.ensures.state (ap (λ v. outside_of (g.P.Port.view c.args.port.now) g.V.Volume.view v c.args.keep.now) c.room_framed.ensures.leaves.volume)
    c.chosen_framed.ensures.run
