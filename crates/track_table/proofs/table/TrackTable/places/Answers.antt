use Rattle.std.proofs.Common.{arith}
use Rattle.track_table.proofs.SparsePlaces.{length_places}
use Rattle.track_table.proofs.table.TrackTable.places.Goals as goal

pub returns-clause-value : goal.returns-clause-value
returns-clause-value g c = rw (← c.self.view_is, length_places) (omega (arith, c.len.ensures))
