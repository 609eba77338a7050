use Rattle.std.proofs.Common.{◌∙◌, ap, refl, sym, Some}
use Rattle.ckd_types.specs.declared.paths.Side.TheVariants.{A}
use Rattle.ckd_types.specs.Track.{track_bytes}
use Rattle.device_outside.proofs.Runs.{ended, joined}
use Rattle.device_defs.specs.Contents.{contents}
use Rattle.device_defs.specs.declared.counts.Counts.{Counts}
use Rattle.device_defs.specs.Losses.{call_failed}
use Rattle.device_defs.specs.Store.{takes_b}
use Rattle.device_defs.specs.Writing.{failed_a, first_a, taken_a, write_counted}
use Rattle.device_store.specs.State.{outside_of, state_of, with_pair}
use Rattle.device_store.proofs.Moves.{from_equal, lands}
use Rattle.device_store.proofs.Volumes.{same_by_a, writes_on_a}
use Rattle.device_store.proofs.Writes.{up_from, written_a}
use Rattle.device_store.proofs.store.DeviceStore.write_a.Goals as goal

pub failed_a-requires-clause-up : goal.failed_a-requires-clause-up
failed_a-requires-clause-up g c =
    λ e. c.call_failed.ensures.up_b refl ∙ ap (λ x. x.up) c.write_side.ensures.sides.b ∙ up_from _ _ (sym c.takes_b-takes.ensures ∙ e)

pub returns-then-write_side-clause-run : goal.returns-then-write_side-clause-run
returns-then-write_side-clause-run g c =
    let s = state_of c.args.self.now in
    let now = ap (λ (n : Counts). with_pair (record s { counts = n }) c.write_side.new.pair) c.write_side.ensures.counts
    ∙ same_by_a (write_counted s c.write_side.result) c.write_side.ensures.sides c.write_side.ensures.other in
    λ p. from_equal (λ i. i) (sym (written_a s c.args.t _ c.requires.up)) refl
    (writes_on_a g.V.Volume.view c.args.self.now.pair.volumes c.write_side.new.pair.volumes c.write_side.ensures.before c.write_side.ensures.there
    c.write_side.ensures.other c.write_side.ensures.wrote
    (from_equal (first_a contents c.args.t (track_bytes c.args.image.now.track) (write_counted s c.write_side.result)) (sym c.if-write_side.true) refl
    (lands (ap (λ x. outside_of p g.V.Volume.view x c.args.keep.now) (sym c.taken_a.ensures.leaves.volume))
    (ended (sym (c.taken_a.ensures.state ∙ ap (λ z. taken_a z c.args.t) now)) (sym (rw (c.opened_if.ensures, c.takes_b-takes.ensures) refl))))))

pub returns-clause-run : goal.returns-clause-run
returns-clause-run g c =
    let s = state_of c.args.self.now in
    let now = ap (λ (n : Counts). with_pair (record s { counts = n }) c.write_side.new.pair) c.write_side.ensures.counts
    ∙ same_by_a (write_counted s c.write_side.result) c.write_side.ensures.sides c.write_side.ensures.other in
    λ p. from_equal (λ i. i) (sym (written_a s c.args.t _ c.requires.up)) refl
    (writes_on_a g.V.Volume.view c.args.self.now.pair.volumes c.write_side.new.pair.volumes c.write_side.ensures.before c.write_side.ensures.there
    c.write_side.ensures.other c.write_side.ensures.wrote
    (from_equal (first_a contents c.args.t (track_bytes c.args.image.now.track) (write_counted s c.write_side.result)) (sym c.if-write_side.false) refl
    (joined (λ z _. failed_a contents c.args.t (track_bytes c.args.image.now.track) (takes_b s) z)
    (from_equal (λ z. call_failed contents z A (Some c.args.t)) now refl (c.call_failed.ensures.run p))
    (from_equal (λ b. failed_a contents c.args.t (track_bytes c.args.image.now.track) b (state_of c.call_failed.new.self)) c.takes_b-takes.ensures
    refl (c.failed_a.ensures.run p)))))
