use Rattle.std.proofs.Common.{◌∙◌, refl, true, false, Some, None}
use Rattle.device_outside.specs.Interaction.{Done}
use Rattle.device_outside.specs.Outside.{done}
use Rattle.device_outside.proofs.Runs.{joined, tries}
use Rattle.device_defs.specs.Background.{saving}
use Rattle.device_defs.specs.Contents.{contents}
use Rattle.device_store.specs.State.{state_of}
use Rattle.device_store.proofs.Moves.{from_equal}
use Rattle.device_store.proofs.store.DeviceStore.save_frame.Goals as goal

pub returns-then-not-is_paired-clause-run : goal.returns-then-not-is_paired-clause-run
returns-then-not-is_paired-clause-run g c = tries true refl (joined (λ z e. Done z (Some e)) c.save_alone.ensures.run done)

pub returns-in-Err-clause-run : goal.returns-in-Err-clause-run
returns-in-Err-clause-run g c = tries false tt done

pub returns-in-Ok-clause-run : goal.returns-in-Ok-clause-run
returns-in-Ok-clause-run g c =
    tries true refl (joined (λ z e. Done z (Some e))
    (from_equal (λ i. saving contents (state_of c.args.self.now) c.args.t i c.args.done None) (c.in-Ok.ensures ∙ c.frame_image.ensures.image) refl
    c.save_read.ensures.run) done)
