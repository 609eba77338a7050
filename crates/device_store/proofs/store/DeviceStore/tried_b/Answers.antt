use Rattle.std.proofs.Common.{ap, refl, sym}
use Rattle.device_outside.proofs.Runs.{ended}
use Rattle.device_defs.specs.Contents.{contents}
use Rattle.device_defs.specs.Writing.{tried_b}
use Rattle.device_store.specs.State.{outside_of, state_of}
use Rattle.device_store.proofs.Moves.{from_equal, lands}
use Rattle.device_store.proofs.store.DeviceStore.tried_b.Goals as goal

pub returns-then-took-clause-run : goal.returns-then-took-clause-run
returns-then-took-clause-run g c =
    λ p. from_equal (tried_b contents c.args.t (state_of c.args.self.now)) (sym c.if-took.true) refl
    (lands (ap (λ x. outside_of p g.V.Volume.view x c.args.keep.now) (sym c.mark_b.ensures.leaves.volume)) (ended (sym c.mark_b.ensures.state) refl))

pub returns-clause-run : goal.returns-clause-run
returns-clause-run g c =
    λ p. from_equal (tried_b contents c.args.t (state_of c.args.self.now)) (sym c.if-took.false) refl (c.call_failed.ensures.run p)
