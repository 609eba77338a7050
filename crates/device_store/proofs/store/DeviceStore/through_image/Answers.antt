use Rattle.std.proofs.Common.{Some}
use Rattle.device_outside.specs.Interaction.{Done}
use Rattle.device_outside.specs.Outside.{done}
use Rattle.device_outside.proofs.Runs.{joined}
use Rattle.device_defs.specs.Store.{frame_at}
use Rattle.device_store.specs.State.{state_of}
use Rattle.device_store.proofs.Placed.{framed_of}
use Rattle.device_store.proofs.store.DeviceStore.through_image.Goals as goal

pub returns-then-is_given-clause-run : goal.returns-then-is_given-clause-run
returns-then-is_given-clause-run g c = rw (← c.is_given.ensures, c.if-is_given.true) c.given_framed.ensures.run

pub returns-clause-run : goal.returns-clause-run
returns-clause-run g c =
    rw (← c.is_given.ensures, c.if-is_given.false) (joined (λ z took. Done z (Some took)) (rw c.requires.image at c.write_by.ensures.run) done)

pub write_by-requires-clause-of : goal.write_by-requires-clause-of
write_by-requires-clause-of g c =
    let s = state_of c.args.self.now in
    rw c.requires.image (framed_of s.geometry s c.args.t (frame_at s c.args.t) c.requires.framed (c.args.self.now.frames_of_tracks c.args.t))
