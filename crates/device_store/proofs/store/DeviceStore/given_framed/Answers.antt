use Rattle.std.proofs.Common.{refl, true, false, Some}
use Rattle.device_outside.specs.Interaction.{Done}
use Rattle.device_outside.specs.Outside.{done}
use Rattle.device_outside.proofs.Runs.{tells, joined, ran_weaker}
use Rattle.device_defs.specs.Store.{frame_at}
use Rattle.device_store.specs.State.{state_of}
use Rattle.device_store.proofs.Placed.{framed_of}
use Rattle.device_store.proofs.store.DeviceStore.given_framed.Goals as goal

pub returns-in-Err-clause-run : goal.returns-in-Err-clause-run
returns-in-Err-clause-run g c = tells false c.in-Err.ensures tt (ran_weaker (λ ok is. tt) (c.unchosen.ensures.run _))

pub returns-in-Ok-clause-run : goal.returns-in-Ok-clause-run
returns-in-Ok-clause-run g c =
    tells true c.in-Ok.ensures refl (joined (λ z took. Done z (Some took)) (rw c.requires.image at c.write_by.ensures.run) done)

pub write_by-requires-clause-of : goal.write_by-requires-clause-of
write_by-requires-clause-of g c =
    let s = state_of c.args.self.now in
    rw c.requires.image (framed_of s.geometry s c.args.t (frame_at s c.args.t) c.requires.framed (c.args.self.now.frames_of_tracks c.args.t))
