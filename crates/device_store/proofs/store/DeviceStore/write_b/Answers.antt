use Rattle.std.proofs.Common.{◌∙◌, ap, refl, sym, false, Some}
use Rattle.ckd_types.specs.declared.paths.Side.TheVariants.{B}
use Rattle.device_outside.specs.Interaction.{Done}
use Rattle.device_outside.proofs.Runs.{ended, joined}
use Rattle.device_defs.specs.Contents.{contents}
use Rattle.device_defs.specs.declared.answers.Took.TheVariants.{Unwritten}
use Rattle.device_defs.specs.declared.counts.Counts.{Counts}
use Rattle.device_defs.specs.Losses.{call_failed}
use Rattle.device_defs.specs.Store.{with_stale}
use Rattle.device_defs.specs.Writing.{alone_b, unwritten, write_counted, wrote}
use Rattle.device_store.specs.State.{outside_of, state_of, with_pair}
use Rattle.device_store.proofs.Moves.{from_equal, lands}
use Rattle.device_store.proofs.Volumes.{same_by_b, writes_on_b}
use Rattle.device_store.proofs.store.DeviceStore.write_b.Goals as goal

pub returns-then-write_side-clause-run : goal.returns-then-write_side-clause-run
returns-then-write_side-clause-run g c =
    let s = state_of c.args.self.now in
    let now = ap (λ (n : Counts). with_pair (record s { counts = n }) c.write_side.new.pair) c.write_side.ensures.counts
    ∙ same_by_b (write_counted s c.write_side.result) c.write_side.ensures.sides c.write_side.ensures.before c.write_side.ensures.there in
    λ p. writes_on_b g.V.Volume.view c.args.self.now.pair.volumes c.write_side.new.pair.volumes c.write_side.ensures.before c.write_side.ensures.there
    c.write_side.ensures.other c.write_side.ensures.wrote
    (from_equal (alone_b contents c.args.t c.args.fault c.args.first (write_counted s c.write_side.result)) (sym c.if-write_side.true) refl
    (lands (ap (λ x. outside_of p g.V.Volume.view x c.args.keep.now) (sym c.mark_b.ensures.leaves.volume))
    (ended (sym (c.mark_b.ensures.state ∙ ap (λ z. with_stale z B c.args.t false) now)) refl)))

pub returns-clause-run : goal.returns-clause-run
returns-clause-run g c =
    let s = state_of c.args.self.now in
    let now = ap (λ (n : Counts). with_pair (record s { counts = n }) c.write_side.new.pair) c.write_side.ensures.counts
    ∙ same_by_b (write_counted s c.write_side.result) c.write_side.ensures.sides c.write_side.ensures.before c.write_side.ensures.there in
    λ p. writes_on_b g.V.Volume.view c.args.self.now.pair.volumes c.write_side.new.pair.volumes c.write_side.ensures.before c.write_side.ensures.there
    c.write_side.ensures.other c.write_side.ensures.wrote
    (from_equal (alone_b contents c.args.t c.args.fault c.args.first (write_counted s c.write_side.result)) (sym c.if-write_side.false) refl
    (joined (λ z _. Done (unwritten contents z c.args.t) (wrote Unwritten (Some c.args.first)))
    (from_equal (λ z. call_failed contents z B (Some c.args.t)) now refl (c.call_failed.ensures.run p))
    (lands (ap (λ x. outside_of p g.V.Volume.view x c.call_failed.new.keep) (sym c.refuse.ensures.leaves.volume)) (ended (sym c.refuse.ensures.state) refl))))
