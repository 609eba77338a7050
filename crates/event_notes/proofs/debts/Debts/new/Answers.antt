use Rattle.std.proofs.Common.{◌-◌, arith}
use Rattle.event_notes.proofs.OwedEntries.{none_owed}
use Rattle.event_notes.proofs.debts.Debts.new.Goals as goal

pub returns : goal.returns
returns c = rw (c.in_ok-reserve.ensures.made, c.in_ok-owed.ensures) (none_owed c.args.tracks (c.min.result - 0) (omega (arith, c.min.ensures)))
