use Rattle.std.proofs.Common.{◌∙◌, refl, ap, true, false}
use Rattle.std.specs.Prelude.{is_some}
use Rattle.device_outside.specs.Outside.{done}
use Rattle.device_outside.proofs.Runs.{tries}
use Rattle.device_defs.specs.Contents.{contents}
use Rattle.device_store.specs.State.{outside_of}
use Rattle.device_store.proofs.Moves.{had_ok, from_equal}
use Rattle.device_store.proofs.store.DeviceStore.deliver.Goals as goal
use Rattle.device_defs.specs.Image.{loaded}

pub returns-in-Err-clause-run : goal.returns-in-Err-clause-run
returns-in-Err-clause-run g c = λ k. tries false tt done

pub returns-in-Ok-None-clause-run : goal.returns-in-Ok-None-clause-run
returns-in-Ok-None-clause-run g c = λ k. tries true refl (rw (← c.in-Ok-None.ensures.image, c.in-Ok-None.field-0-is) done)

pub returns-in-Ok-Some-clause-run : goal.returns-in-Ok-Some-clause-run
returns-in-Ok-Some-clause-run g c =
    λ k. tries true (had_ok c.load.result) (rw (← c.in-Ok-Some.ensures.image, c.in-Ok-Some.field-0-is) (
    from_equal (λ z. loaded contents z c.args.t c.in-Ok-Some.image c.args.usage.now.mode) c.queue_ahead.ensures.state
    (ap (λ x. outside_of (g.P.Port.view c.args.port.now) g.V.Volume.view x k) c.queue_ahead.ensures.leaves.volume) (c.load.ensures.run k)))

pub load-requires-clause-here : goal.load-requires-clause-here
load-requires-clause-here g c = ap is_some c.queue_ahead.ensures.lent ∙ c.requires.here

pub load-requires-clause-of : goal.load-requires-clause-of
load-requires-clause-of g c = rw c.queue_ahead.ensures.leaves.geometry (rw c.in-Ok-Some.field-0-is at c.in-Ok-Some.ensures.of)
