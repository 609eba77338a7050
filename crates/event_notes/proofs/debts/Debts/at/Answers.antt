use Rattle.std.proofs.Common.{refl, arith}
use Rattle.event_notes.proofs.OwedEntries.{owed_is}
use Rattle.event_notes.proofs.debts.Debts.at.Goals as goal

pub returns-in-Some-clause-value : goal.returns-in-Some-clause-value
returns-in-Some-clause-value c = rw (← c.self.view_is, owed_is c.self.inside.tracks c.self.inside.owed c.args.t (omega (arith, c.self.invariant.0)), ← c.in-Some.ensures) refl

pub returns-in-None-clause-value : goal.returns-in-None-clause-value
returns-in-None-clause-value c = rw (← c.self.view_is, owed_is c.self.inside.tracks c.self.inside.owed c.args.t (omega (arith, c.self.invariant.0)), ← c.in-None.ensures) c.no_debt.ensures
