use Rattle.std.proofs.Common.{ap, refl, sym}
use Rattle.ckd_types.specs.Track.{track_bytes}
use Rattle.device_outside.proofs.Runs.{ended}
use Rattle.device_defs.specs.Contents.{contents}
use Rattle.device_defs.specs.Writing.{failed_a}
use Rattle.device_store.specs.State.{outside_of, state_of}
use Rattle.device_store.proofs.Moves.{from_equal, lands}
use Rattle.device_store.proofs.store.DeviceStore.failed_a.Goals as goal

pub returns-then-takes-clause-run : goal.returns-then-takes-clause-run
returns-then-takes-clause-run g c =
    λ p. from_equal (λ b. failed_a contents c.args.t (track_bytes c.args.image.now.track) b (state_of c.args.self.now)) (sym c.if-takes.true) refl
    (c.write_b.ensures.run p)

pub returns-clause-run : goal.returns-clause-run
returns-clause-run g c =
    λ p. from_equal (λ b. failed_a contents c.args.t (track_bytes c.args.image.now.track) b (state_of c.args.self.now)) (sym c.if-takes.false) refl
    (lands (ap (λ x. outside_of p g.V.Volume.view x c.args.keep.now) (sym c.refuse.ensures.leaves.volume)) (ended (sym c.refuse.ensures.state) refl))
