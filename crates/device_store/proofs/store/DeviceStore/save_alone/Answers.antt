use Rattle.std.proofs.Common.{◌∙◌, refl, sym, ap, None}
use Rattle.std.specs.Prelude.{is_some}
use Rattle.ckd_types.specs.Track.{track_bytes}
use Rattle.device_outside.specs.Interaction.{and_then}
use Rattle.device_outside.proofs.Runs.{joined}
use Rattle.device_defs.specs.Background.{saved_by}
use Rattle.device_defs.specs.Contents.{contents}
use Rattle.device_defs.specs.Writing.{write_first}
use Rattle.device_store.specs.Looks.{frame_in}
use Rattle.device_store.specs.State.{state_of}
use Rattle.device_store.proofs.Moves.{from_equal}
use Rattle.device_store.proofs.Writes.{same_image}
use Rattle.device_store.proofs.store.DeviceStore.save_alone.Goals as goal

pub returns-clause-run : goal.returns-clause-run
returns-clause-run g c =
    let s = state_of c.args.self.now in
    let z = state_of c.firm_first.new.self in
    let same = same_image s z c.args.t (sym c.firm_first.ensures.frames) c.requires.framed in
    joined (λ y was. and_then (write_first contents y c.args.t (track_bytes (frame_in s c.args.t).track))
    (λ x w. saved_by contents c.args.t (frame_in s c.args.t) c.args.done None was w.fault x w.took)) (c.firm_first.ensures.run _)
    (from_equal (λ i. and_then (write_first contents z c.args.t (track_bytes i.track))
    (λ x w. saved_by contents c.args.t i c.args.done None c.firm_first.result w.fault x w.took)) (sym same) refl
    (c.save_firm.ensures.run _ c.firm_first.result))

pub save_firm-requires-clause-single : goal.save_firm-requires-clause-single
save_firm-requires-clause-single g c = ap (λ v. is_some v.b) c.firm_first.ensures.volume ∙ c.requires.single
