use Rattle.std.proofs.Common.{◌≡◌, ◌∙◌, true, false, sym}
use Rattle.device_outside.specs.Outside.{done}
use Rattle.device_outside.proofs.Runs.{asks}
use Rattle.device_defs.specs.Contents.{contents}
use Rattle.device_defs.specs.Owed.{is_modified}
use Rattle.device_defs.specs.Store.{frame_at}
use Rattle.device_store.specs.State.{state_of}
use Rattle.device_store.proofs.Telling.{modified_is, not_true, not_false_true}
use Rattle.device_store.proofs.store.DeviceStore.tell_modified.Goals as goal

pub returns-then-not-at : goal.returns-then-not-at
returns-then-not-at g c = record { run = λ k. rw (← c.at.ensures.value, not_true _ c.if-not-at.true) done }

pub returns-then-modified : goal.returns-then-modified
returns-then-modified g c =
    let is : is_modified contents (frame_at (state_of c.args.self.now) c.args.t) ≡ true =
    sym (modified_is (frame_at (state_of c.args.self.now) c.args.t)) ∙ sym c.modified.ensures ∙ c.if-modified.true in
    record { run = λ k. rw (← c.at.ensures.value, not_false_true _ c.if-not-at.false, is) (asks c.set_modified.ensures done) }

pub returns-else-modified : goal.returns-else-modified
returns-else-modified g c =
    let is : is_modified contents (frame_at (state_of c.args.self.now) c.args.t) ≡ false =
    sym (modified_is (frame_at (state_of c.args.self.now) c.args.t)) ∙ sym c.modified.ensures ∙ c.if-modified.false in
    record { run = λ k. rw (← c.at.ensures.value, not_false_true _ c.if-not-at.false, is) done }
