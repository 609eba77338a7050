use Rattle.std.proofs.Common.{refl, sym, ap}
use Rattle.device_outside.specs.Outside.{done}
use Rattle.device_defs.specs.Background.{stage, destage_first, to_destage}
use Rattle.device_defs.specs.Contents.{contents}
use Rattle.device_store.specs.State.{state_of, outside_of}
use Rattle.device_store.proofs.Moves.{from_equal}
use Rattle.device_store.proofs.Writes.{stage_next, stage_none}
use Rattle.device_store.proofs.store.DeviceStore.stage_or_destage.Goals as goal

pub returns-in-Some-clause-run : goal.returns-in-Some-clause-run
returns-in-Some-clause-run g c =
    from_equal (λ i. i) (sym (stage_next (state_of c.args.self.now) c.in-Some.t (sym c.in-Some.ensures.oldest))) refl
    (from_equal (λ z. stage contents z c.in-Some.t) c.next_queued.ensures.state
    (ap (λ v. outside_of (g.P.Port.view c.args.port.now) g.V.Volume.view v c.args.keep.now) c.next_queued.ensures.leaves.volume) c.stage.ensures.run)

pub returns-in-Some-to_destage-clause-run : goal.returns-in-Some-to_destage-clause-run
returns-in-Some-to_destage-clause-run g c =
    from_equal (λ i. i) (sym (stage_none (state_of c.args.self.now) (sym c.in-None.ensures.oldest))) refl
    (from_equal (λ z. destage_first contents z (to_destage contents z)) c.next_queued.ensures.state
    (ap (λ v. outside_of (g.P.Port.view c.args.port.now) g.V.Volume.view v c.args.keep.now) c.next_queued.ensures.leaves.volume)
    (rw (← c.in-Some-to_destage.ensures.least) c.save_frame.ensures.run))

pub returns-in-None-to_destage-clause-run : goal.returns-in-None-to_destage-clause-run
returns-in-None-to_destage-clause-run g c =
    from_equal (λ i. i) (sym (stage_none (state_of c.args.self.now) (sym c.in-None.ensures.oldest))) refl
    (from_equal (λ z. destage_first contents z (to_destage contents z)) c.next_queued.ensures.state
    (ap (λ v. outside_of (g.P.Port.view c.args.port.now) g.V.Volume.view v c.args.keep.now) c.next_queued.ensures.leaves.volume)
    (rw (← c.in-None-to_destage.ensures.least) done))
