use Rattle.std.proofs.Common.{refl, sym, None, false}
use Rattle.device_outside.specs.Interaction.{Done}
use Rattle.device_outside.specs.Outside.{done}
use Rattle.device_outside.proofs.Runs.{joined}
use Rattle.device_defs.specs.Background.{did, saved_by}
use Rattle.device_defs.specs.Contents.{contents}
use Rattle.device_defs.specs.Writing.{write_done}
use Rattle.device_store.specs.Looks.{frame_in}
use Rattle.device_store.specs.State.{state_of}
use Rattle.device_store.proofs.Moves.{from_equal}
use Rattle.device_store.proofs.Writes.{same_image}
use Rattle.device_store.proofs.store.DeviceStore.save_firm.Goals as goal

pub returns-in-Whole-clause-run : goal.returns-in-Whole-clause-run
returns-in-Whole-clause-run g c =
    let s = state_of c.args.self.now in
    let y = state_of c.write_frame-written.new.self in
    let same = same_image s y c.args.t (sym (c.write_frame-written.ensures.kept c.in-Whole.is)) c.requires.framed in
    λ k was. joined (λ x w. saved_by contents c.args.t (frame_in s c.args.t) c.args.done None was w.fault x w.took) (c.write_frame-written.ensures.run _ k)
    (rw (c.in-Whole.is, c.did.ensures) (joined (λ x _. Done x (did c.write_frame-written.result.fault c.args.done))
    (from_equal (λ i. write_done contents y c.args.t i false) (sym same) refl (c.frame_done.ensures.run k)) done))

pub returns-in-Unwritten-clause-run : goal.returns-in-Unwritten-clause-run
returns-in-Unwritten-clause-run g c =
    let s = state_of c.args.self.now in
    λ k was. joined (λ x w. saved_by contents c.args.t (frame_in s c.args.t) c.args.done None was w.fault x w.took) (c.write_frame-written.ensures.run _ k)
    (rw (c.in-Unwritten.is, c.did-in-Unwritten.ensures) done)
