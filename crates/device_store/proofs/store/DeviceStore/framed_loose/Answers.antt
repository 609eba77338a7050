use Rattle.std.proofs.Common.{ap, refl, sym, true, false, Some}
use Rattle.device_outside.specs.Interaction.{Done}
use Rattle.device_outside.specs.Outside.{done}
use Rattle.device_outside.proofs.Runs.{tells, joined, ran_weaker, ended}
use Rattle.device_store.specs.State.{outside_of}
use Rattle.device_store.proofs.Moves.{lands}
use Rattle.device_store.proofs.store.DeviceStore.framed_loose.Goals as goal

pub returns-in-Err-clause-run : goal.returns-in-Err-clause-run
returns-in-Err-clause-run g c = λ u first. tells false c.in-Err.ensures tt (ran_weaker (λ ok is. tt) (c.unchosen.ensures.run _))

pub returns-in-Ok-clause-run : goal.returns-in-Ok-clause-run
returns-in-Ok-clause-run g c = λ u first.
    tells true c.in-Ok.ensures refl (lands (ap (λ x. outside_of (g.P.Port.view c.args.port.now) g.V.Volume.view x c.tell_frame.new.keep)
    (sym c.edit_loose.ensures.leaves.volume))
    (joined (λ z took. Done z (Some took)) (ended (sym (c.edit_loose.ensures.state c.args.edit.now)) refl) done))
