use Rattle.device_outside.specs.Outside.{done}
use Rattle.device_outside.proofs.Runs.{asks}
use Rattle.device_store.proofs.InPlace.{slot_denied, slot_down}
use Rattle.device_store.proofs.store.DeviceStore.choose_slot.Goals as goal

pub returns-in-Given-clause-run : goal.returns-in-Given-clause-run
returns-in-Given-clause-run g c = λ k. asks c.in-Given.ensures (c.with_slot.ensures.run k)

pub returns-in-Denied-clause-run : goal.returns-in-Denied-clause-run
returns-in-Denied-clause-run g c = λ k. asks c.in-Denied.ensures done

pub returns-in-Down-clause-run : goal.returns-in-Down-clause-run
returns-in-Down-clause-run g c = λ k. asks c.in-Down.ensures done

pub returns-in-Given-clause-same : goal.returns-in-Given-clause-same
returns-in-Given-clause-same g c = λ is. c.with_slot.ensures.same _ c.in-Given.ensures is

pub returns-in-Denied-clause-same : goal.returns-in-Denied-clause-same
returns-in-Denied-clause-same g c = λ is. slot_denied _ _ c.in-Denied.ensures

pub returns-in-Down-clause-same : goal.returns-in-Down-clause-same
returns-in-Down-clause-same g c = λ is. slot_down _ _ c.in-Down.ensures
