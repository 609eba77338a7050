use Rattle.std.proofs.Common.{◌∙◌, ap, refl, sym}
use Rattle.std.specs.Prelude.{is_some}
use Rattle.ckd_types.specs.Track.{track_bytes}
use Rattle.device_defs.specs.Contents.{contents}
use Rattle.device_defs.specs.declared.counts.Counts.{Counts}
use Rattle.device_defs.specs.Writing.{first_a, write_counted}
use Rattle.device_store.specs.Looks.{frame_in}
use Rattle.device_store.specs.State.{state_of, with_pair}
use Rattle.device_store.proofs.Moves.{from_equal}
use Rattle.device_store.proofs.Volumes.{same_by_a, writes_on_a}
use Rattle.device_store.proofs.Writes.{image_is, none_taken, written_a}
use Rattle.device_store.proofs.store.DeviceStore.write_frame.Goals as goal

pub taken_alone-requires-clause-single : goal.taken_alone-requires-clause-single
taken_alone-requires-clause-single g c = ap (λ v. is_some v) c.write_side-done.ensures.other ∙ c.requires.single

pub unheld-requires-clause-none : goal.unheld-requires-clause-none
unheld-requires-clause-none g c = none_taken _ c.args.self.now.pair.held _ c.args.self.now.pair.b_there c.requires.single

pub returns-then-self-clause-run : goal.returns-then-self-clause-run
returns-then-self-clause-run g c =
    let s = state_of c.args.self.now in
    let now = ap (λ (n : Counts). with_pair (record s { counts = n }) c.write_side-done.new.pair) c.write_side-done.ensures.counts
    ∙ same_by_a (write_counted s c.write_side-done.result) c.write_side-done.ensures.sides c.write_side-done.ensures.other in
    λ p k. from_equal (λ i. i) (sym (written_a s c.args.t _ c.if-self.true)) refl
    (writes_on_a g.V.Volume.view c.args.self.now.pair.volumes c.write_side-done.new.pair.volumes c.write_side-done.ensures.before
    c.write_side-done.ensures.there c.write_side-done.ensures.other
    (rw (image_is s c.args.t c.image_in-image.result.now c.image_in-image.ensures) at c.write_side-done.ensures.wrote)
    (from_equal (λ z. first_a contents c.args.t (track_bytes (frame_in s c.args.t).track) z c.write_side-done.result) now refl
    (c.taken_alone.ensures.run p k (track_bytes (frame_in s c.args.t).track))))
