use Rattle.std.proofs.Common.{sym, ◌∙◌, arith}
use Rattle.event_notes.proofs.OwedEntries.{owed_is}
use Rattle.event_notes.proofs.Paid.{not_not, paid_none}
use Rattle.event_notes.proofs.debts.Debts.are_paid.Goals as goal

pub returns : goal.returns
returns c = λ is t. rw (← c.self.view_is, owed_is c.self.inside.tracks c.self.inside.owed t (omega (arith, c.self.invariant.0)))
    (paid_none _ (not_not _ (sym (c.self.invariant.1 t) ∙ c.is_empty.ensures is t)))
