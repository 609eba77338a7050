use Rattle.device_store.proofs.Moves.{heard_alone}
use Rattle.device_core.proofs.device.Device.lend.Goals as goal

pub returns-clause-run : goal.returns-clause-run
returns-clause-run g c = λ k. heard_alone (c.lend_with.ensures.run k)

pub returns-clause-sound : goal.returns-clause-sound
returns-clause-sound g c = c.lend_with.ensures.sound (record {})

pub returns-clause-plain : goal.returns-clause-plain
returns-clause-plain g c = c.lend_with.ensures.plain (record {})

pub returns-clause-excused : goal.returns-clause-excused
returns-clause-excused g c = c.lend_with.ensures.excused (record {})
