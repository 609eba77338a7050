use Rattle.device_defs.specs.Store.{frame_at}
use Rattle.device_defs.specs.Owed.{waits}
use Rattle.device_store.specs.State.{state_of}
use Rattle.device_store.proofs.Telling.{waits_by_words}
use Rattle.device_store.proofs.store.DeviceStore.waiting.Goals as goal

pub returns : goal.returns
unfolding waits
returns g c =
    λ t. rw (
      c.patched_tracks-patched.ensures t,
      c.framed_tracks.ensures t,
      c.modified_tracks.ensures t,
      c.marks.ensures t,
      c.marks-2.ensures t,
    )
    (waits_by_words (state_of c.args.self.now) t (frame_at (state_of c.args.self.now) t))
