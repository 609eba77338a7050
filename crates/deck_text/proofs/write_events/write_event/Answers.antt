use Rattle.deck_text.specs.Canonical.{event_text}
use Rattle.deck_text.proofs.write_events.write_event.Goals as goal

pub returns-in-FailCache-clause-bytes : goal.returns-in-FailCache-clause-bytes
unfolding event_text
returns-in-FailCache-clause-bytes g c = rw c.in-FailCache.is c.write_pieces.ensures.bytes

pub returns-in-FailStore-clause-bytes : goal.returns-in-FailStore-clause-bytes
unfolding event_text
returns-in-FailStore-clause-bytes g c = rw c.in-FailStore.is c.write_pieces-in-FailStore.ensures.bytes

pub returns-in-FailVolume-clause-bytes : goal.returns-in-FailVolume-clause-bytes
unfolding event_text
returns-in-FailVolume-clause-bytes g c = rw c.in-FailVolume.is c.write_side.ensures.bytes

pub returns-in-RepairCache-clause-bytes : goal.returns-in-RepairCache-clause-bytes
unfolding event_text
returns-in-RepairCache-clause-bytes g c = rw c.in-RepairCache.is c.write_pieces-in-RepairCache.ensures.bytes
