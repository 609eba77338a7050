use Rattle.std.proofs.Common.{◌∙◌, ◌<◌, length, refl, sym, ap, arith}
use Rattle.std.proofs.lemmas.List.{length-set}
use Rattle.device_outside.proofs.Runs.{ended, tells}
use Rattle.event_notes.specs.Loose.{is_loose_in}
use Rattle.device_store.specs.State.{outside_of, state_of}
use Rattle.device_store.proofs.Moves.{lands}
use Rattle.device_store.proofs.InPlace.{edited_frames, edited_is, edited_there, still_modified}
use Rattle.device_defs.specs.Store.{frame_at}
use Rattle.device_store.proofs.Placed.{framed_of, reframed}
use Rattle.device_store.proofs.store.DeviceStore.edit_fast.Goals as goal

pub frame_image-image-requires : goal.frame_image-image-requires
frame_image-image-requires g c =
    let s = state_of c.args.self.now in
    edited_there s (record s { frames = c.edit.new.self }) c.args.t c.args.edit c.edit.ensures.now c.requires.there

pub returns-clause-run : goal.returns-clause-run
returns-clause-run g c =
    let s = state_of c.args.self.now in
    let image = c.frame_image-image.ensures.image ∙ edited_is s (record s { frames = c.edit.new.self }) c.args.t c.args.edit c.edit.ensures.now c.requires.there in
    λ u first p. lands (ap (λ x. outside_of p g.V.Volume.view x c.firm.new.self) (sym c.keep_edit.ensures.leaves.volume))
    (tells tt (rw image at c.firm.ensures) tt
    (ended (sym (rw (c.keep_edit.ensures.state, edited_frames s c.args.t c.args.edit _ c.edit.ensures.frames c.requires.there) refl)) refl))

pub invariant_of-self-clause-frame_of_each : goal.invariant_of-self-clause-frame_of_each
invariant_of-self-clause-frame_of_each g c =
    ap length c.edit.ensures.frames ∙ length-set c.args.self.now.frames c.args.t _ ∙ c.args.self.now.frame_of_each

pub invariant_of-self-clause-loose_modified : goal.invariant_of-self-clause-loose_modified
invariant_of-self-clause-loose_modified g c =
    let there : c.args.t < length c.args.self.now.frames = omega (arith, c.requires.track, c.args.self.now.frame_of_each) in
    let s = state_of c.args.self.now in
    λ here. rw (edited_frames s c.args.t c.args.edit _ c.edit.ensures.frames c.requires.there)
    (still_modified c.args.self.now.frames (is_loose_in c.args.self.now.loose.loose) c.args.t _ refl there (c.args.self.now.loose_modified here))

pub invariant_of-self-clause-frames_of_tracks : goal.invariant_of-self-clause-frames_of_tracks
invariant_of-self-clause-frames_of_tracks g c =
    let s = state_of c.args.self.now in
    rw (edited_frames s c.args.t c.args.edit _ c.edit.ensures.frames c.requires.there)
    (reframed s.geometry s.frames c.args.t _ c.args.self.now.frames_of_tracks
    (framed_of s.geometry s c.args.t (frame_at s c.args.t) c.requires.there (c.args.self.now.frames_of_tracks c.args.t)))
