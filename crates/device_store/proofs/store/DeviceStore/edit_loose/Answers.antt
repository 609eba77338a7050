use Rattle.std.proofs.Common.{◌∙◌, ◌<◌, length, refl, ap, arith}
use Rattle.std.proofs.lemmas.List.{length-set}
use Rattle.event_notes.specs.Loose.{is_loose_in}
use Rattle.device_store.specs.State.{state_of}
use Rattle.device_store.proofs.InPlace.{edited_frames, loosened_modified, still_modified}
use Rattle.device_defs.specs.Store.{frame_at}
use Rattle.device_store.proofs.Placed.{framed_of, reframed}
use Rattle.device_store.proofs.store.DeviceStore.edit_loose.Goals as goal

pub invariant_of-self-clause-frame_of_each : goal.invariant_of-self-clause-frame_of_each
invariant_of-self-clause-frame_of_each g c =
    ap length c.edit.ensures.frames ∙ length-set c.args.self.now.frames c.args.t _ ∙ c.args.self.now.frame_of_each

pub invariant_of-self-clause-loose_modified : goal.invariant_of-self-clause-loose_modified
invariant_of-self-clause-loose_modified g c =
    let there : c.args.t < length c.args.self.now.frames = omega (arith, c.requires.track, c.args.self.now.frame_of_each) in
    λ here. rw (edited_frames (state_of c.args.self.now) c.args.t c.args.edit.now _ c.edit.ensures.frames c.requires.there)
    (still_modified c.args.self.now.frames (is_loose_in c.args.self.now.loose.loose) c.args.t _ refl there (c.args.self.now.loose_modified here))

pub invariant_of-self-2-clause-frame_of_each : goal.invariant_of-self-2-clause-frame_of_each
invariant_of-self-2-clause-frame_of_each g c =
    ap length c.edit.ensures.frames ∙ length-set c.args.self.now.frames c.args.t _ ∙ c.args.self.now.frame_of_each

pub invariant_of-self-2-clause-loose_modified : goal.invariant_of-self-2-clause-loose_modified
invariant_of-self-2-clause-loose_modified g c =
    let there : c.args.t < length c.args.self.now.frames = omega (arith, c.requires.track, c.args.self.now.frame_of_each) in
    λ here. rw (edited_frames (state_of c.args.self.now) c.args.t c.args.edit.now _ c.edit.ensures.frames c.requires.there, c.loosen.ensures.loose)
    (loosened_modified c.args.self.now.frames c.args.self.now.loose.loose c.args.t _ refl there (c.args.self.now.loose_modified here))

pub invariant_of-self-clause-frames_of_tracks : goal.invariant_of-self-clause-frames_of_tracks
invariant_of-self-clause-frames_of_tracks g c =
    let s = state_of c.args.self.now in
    rw (edited_frames s c.args.t c.args.edit.now _ c.edit.ensures.frames c.requires.there)
    (reframed s.geometry s.frames c.args.t _ c.args.self.now.frames_of_tracks
    (framed_of s.geometry s c.args.t (frame_at s c.args.t) c.requires.there (c.args.self.now.frames_of_tracks c.args.t)))

pub invariant_of-self-2-clause-frames_of_tracks : goal.invariant_of-self-2-clause-frames_of_tracks
invariant_of-self-2-clause-frames_of_tracks g c =
    let s = state_of c.args.self.now in
    rw (edited_frames s c.args.t c.args.edit.now _ c.edit.ensures.frames c.requires.there)
    (reframed s.geometry s.frames c.args.t _ c.args.self.now.frames_of_tracks
    (framed_of s.geometry s c.args.t (frame_at s c.args.t) c.requires.there (c.args.self.now.frames_of_tracks c.args.t)))
