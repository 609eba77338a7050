use Rattle.std.proofs.Common.{ap, refl}
use Rattle.device_outside.specs.Interaction.{Done}
use Rattle.device_outside.specs.Outside.{done}
use Rattle.device_outside.proofs.Runs.{joined}
use Rattle.device_defs.specs.Background.{did}
use Rattle.device_defs.specs.Contents.{contents}
use Rattle.device_defs.specs.declared.answers.Did.TheVariants.{Half}
use Rattle.device_defs.specs.Writing.{write_opened}
use Rattle.device_store.specs.State.{origin_of, state_of}
use Rattle.device_store.proofs.Moves.{from_equal}
use Rattle.device_store.proofs.store.DeviceStore.saved_by.Goals as goal

pub returns-in-Unwritten-clause-run : goal.returns-in-Unwritten-clause-run
returns-in-Unwritten-clause-run g c = λ k fault. rw (c.in-Unwritten.is, c.did.ensures) done

pub returns-in-Whole-clause-run : goal.returns-in-Whole-clause-run
returns-in-Whole-clause-run g c =
    λ k fault. rw (c.in-Whole.is, c.did-in-Whole.ensures)
    (joined (λ z _. Done z (did fault (did c.args.written.fault c.args.done))) (c.write_done.ensures.run k) done)

pub returns-in-Opened-clause-run : goal.returns-in-Opened-clause-run
returns-in-Opened-clause-run g c =
    λ k fault. rw c.in-Opened.is (joined (λ z _. Done z (did fault (Half c.args.half.track)))
    (from_equal (λ o. write_opened contents (state_of c.args.self.now) c.args.half.track c.args.half.image o c.args.was_loose)
    (ap origin_of c.requires.background) refl (c.open_half.ensures.run k)) done)
