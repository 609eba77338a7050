use Rattle.std.proofs.Common.{◌≡◌, ◌∙◌, true, ap, refl, subst, sym}
use Rattle.device_outside.specs.Outside.{done}
use Rattle.device_defs.specs.declared.counts.Counts.{Counts}
use Rattle.device_defs.specs.Contents.{contents}
use Rattle.device_defs.specs.Writing.{tried_b, write_counted}
use Rattle.device_store.specs.Halves.{half_below}
use Rattle.device_store.specs.State.{state_of, with_pair}
use Rattle.device_store.proofs.Moves.{from_equal}
use Rattle.device_store.proofs.Volumes.{same_by_b, writes_on_b}
use Rattle.device_store.proofs.Writes.{second_b, second_none, up_from}
use Rattle.device_store.proofs.store.DeviceStore.write_half.Goals as goal

pub write_open-took-requires-clause-up : goal.write_open-took-requires-clause-up
write_open-took-requires-clause-up g c = up_from _ _ (sym c.takes_second.ensures ∙ c.if-takes_second.true)

pub write_open-took-requires-clause-track : goal.write_open-took-requires-clause-track
write_open-took-requires-clause-track g c =
    subst (λ n. half_below n c.args.self.now.half ≡ true) (sym c.args.self.now.stale_of_each) c.args.self.now.half_here

pub returns-then-takes_second-clause-run : goal.returns-then-takes_second-clause-run
returns-then-takes_second-clause-run g c =
    let s = state_of c.args.self.now in
    let w = c.write_open-took.ensures in
    let now = ap (λ (n : Counts). with_pair (record s { counts = n }) c.write_open-took.new.pair) w.counts
    ∙ same_by_b (write_counted s c.write_open-took.result) w.sides w.before w.there in
    λ h p is. from_equal (λ i. i) (sym (second_b s h.track _ (sym c.takes_second.ensures ∙ c.if-takes_second.true))) refl
    (writes_on_b g.V.Volume.view c.args.self.now.pair.volumes c.write_open-took.new.pair.volumes w.before w.there w.other (w.wrote h is)
    (from_equal (λ z. tried_b contents h.track z c.write_open-took.result) now refl
    (from_equal (λ n. tried_b contents n (with_pair (record s { counts = c.write_open-took.new.counts }) c.write_open-took.new.pair) c.write_open-took.result)
    (c.half_track-t.ensures.of h is) refl (c.tried_b.ensures.run p))))

pub returns-else-takes_second-clause-run : goal.returns-else-takes_second-clause-run
returns-else-takes_second-clause-run g c =
    λ h p is. from_equal (λ i. i) (sym (second_none (state_of c.args.self.now) h.track _ (sym c.takes_second.ensures ∙ c.if-takes_second.false))) refl done
