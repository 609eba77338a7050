use Rattle.std.proofs.Common.{◌≡◌, ◌≤◌, ◌+◌, take, length}
use Rattle.deck_plan.proofs.event.copy_schedule.Given as goal

-- the events so far are copied, and there is room for the others
abbrev pub invariant-loop-event : goal.invariant-loop-event
invariant-loop-event l =
    (l.made.items ≡ take l.event-index l.schedule.items) × (length l.schedule.items ≤ l.event-index + l.made.spare)
