use Rattle.std.proofs.Common.{ap, refl, sym, Some}
use Rattle.device_outside.specs.Interaction.{Done}
use Rattle.device_outside.specs.Outside.{done}
use Rattle.device_outside.proofs.Runs.{ended, joined}
use Rattle.device_defs.specs.Background.{copied}
use Rattle.device_defs.specs.Contents.{contents}
use Rattle.device_defs.specs.declared.answers.Did.TheVariants.{Fault}
use Rattle.device_store.specs.State.{outside_of, state_of}
use Rattle.device_store.proofs.Moves.{from_equal, lands}
use Rattle.device_store.proofs.store.DeviceStore.copy_written.Goals as goal

pub returns-then-took-clause-run : goal.returns-then-took-clause-run
returns-then-took-clause-run g c =
    λ p. from_equal (copied contents c.args.t c.args.side (state_of c.args.self.now)) (sym c.if-took.true) refl
    (lands (ap (λ x. outside_of p g.V.Volume.view x c.args.keep.now) (sym c.mark.ensures.leaves.volume)) (ended (sym c.mark.ensures.state) refl))

pub returns-clause-run : goal.returns-clause-run
returns-clause-run g c =
    λ p. from_equal (copied contents c.args.t c.args.side (state_of c.args.self.now)) (sym c.if-took.false) refl
    (joined (λ z _. Done z (Some (Fault c.args.side))) (c.call_failed.ensures.run p) done)
