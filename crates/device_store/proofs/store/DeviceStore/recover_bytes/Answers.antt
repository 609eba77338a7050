use Rattle.std.proofs.Common.{refl, true, false, Some}
use Rattle.device_outside.specs.Interaction.{Done}
use Rattle.device_outside.specs.Outside.{done}
use Rattle.device_outside.proofs.Runs.{tries, joined}
use Rattle.device_store.proofs.Firmly.{modified_there}
use Rattle.device_store.proofs.store.DeviceStore.recover_bytes.Goals as goal

pub returns-in-Err-clause-run : goal.returns-in-Err-clause-run
returns-in-Err-clause-run g c = tries false tt done

pub returns-in-Ok-None-clause-run : goal.returns-in-Ok-None-clause-run
returns-in-Ok-None-clause-run g c = tries true refl (rw (← c.in-Ok-None.ensures.image, c.in-Ok-None.field-0-is, c.did.ensures) done)

pub returns-in-Ok-Some-clause-run : goal.returns-in-Ok-Some-clause-run
returns-in-Ok-Some-clause-run g c =
    tries true refl (rw (← c.in-Ok-Some.ensures.image, c.in-Ok-Some.field-0-is) (tries true refl
    (joined (λ z e. Done z (Some e)) c.save_read.ensures.run done)))

pub save_read-requires-clause-kept : goal.save_read-requires-clause-kept
save_read-requires-clause-kept g c = λ loose. modified_there _ (c.args.self.now.loose_modified c.requires.here c.args.t loose)

pub save_read-requires-clause-of : goal.save_read-requires-clause-of
save_read-requires-clause-of g c = rw c.in-Ok-Some.field-0-is at c.in-Ok-Some.ensures.of
