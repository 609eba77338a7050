use Rattle.std.proofs.Common.{◌∙◌, ap, refl, sym}
use Rattle.device_outside.specs.Outside.{done}
use Rattle.device_defs.specs.Contents.{contents}
use Rattle.device_defs.specs.declared.counts.Counts.{Counts}
use Rattle.device_defs.specs.Writing.{tried_b, write_counted}
use Rattle.device_store.specs.State.{state_of, with_pair}
use Rattle.device_store.proofs.Moves.{from_equal}
use Rattle.device_store.proofs.Volumes.{same_by_b, writes_on_b}
use Rattle.device_store.proofs.Writes.{second_b, second_none, up_from}
use Rattle.device_store.proofs.store.DeviceStore.write_second.Goals as goal

pub write_side-took-requires-clause-up : goal.write_side-took-requires-clause-up
write_side-took-requires-clause-up g c = up_from _ _ (sym c.takes_second.ensures ∙ c.if-takes_second.true)

pub returns-then-takes_second-clause-run : goal.returns-then-takes_second-clause-run
returns-then-takes_second-clause-run g c =
    let s = state_of c.args.self.now in
    let now = ap (λ (n : Counts). with_pair (record s { counts = n }) c.write_side-took.new.pair) c.write_side-took.ensures.counts
    ∙ same_by_b (write_counted s c.write_side-took.result) c.write_side-took.ensures.sides c.write_side-took.ensures.before c.write_side-took.ensures.there in
    λ p. from_equal (λ i. i) (sym (second_b s c.args.t _ (sym c.takes_second.ensures ∙ c.if-takes_second.true))) refl
    (writes_on_b g.V.Volume.view c.args.self.now.pair.volumes c.write_side-took.new.pair.volumes c.write_side-took.ensures.before
    c.write_side-took.ensures.there c.write_side-took.ensures.other c.write_side-took.ensures.wrote
    (from_equal (λ z. tried_b contents c.args.t z c.write_side-took.result) now refl (c.tried_b.ensures.run p)))

pub returns-else-takes_second-clause-run : goal.returns-else-takes_second-clause-run
returns-else-takes_second-clause-run g c =
    λ p. from_equal (λ i. i) (sym (second_none (state_of c.args.self.now) c.args.t _ (sym c.takes_second.ensures ∙ c.if-takes_second.false))) refl done
