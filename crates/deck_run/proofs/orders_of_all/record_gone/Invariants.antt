use Rattle.std.proofs.Common.{◌≡◌, ◌++◌, drop, length}
use Rattle.deck_run.specs.Sweeping.{gone_lines}
use Rattle.deck_run.proofs.orders_of_all.record_gone.Given as goal

-- what is left to tell
abbrev pub invariant-loop-i : goal.invariant-loop-i
invariant-loop-i g l =
    (l.report ++ gone_lines l.quiet l.end (drop l.i l.stocks) (drop l.i l.devices) ≡ l.initial.report ++ gone_lines l.quiet l.end l.stocks l.devices)
    × (l.i-end ≡ length l.devices)
