use Rattle.std.proofs.Common.{arith}
use Rattle.event_notes.proofs.OwedEntries.{owed_is}
use Rattle.event_notes.proofs.debts.Debts.no_firm.Goals as goal

pub returns : goal.returns
returns c = λ t. rw (← c.self.view_is, owed_is c.self.inside.tracks c.self.inside.owed t (omega (arith, c.self.invariant.0))) (c.self.invariant.2 t)
