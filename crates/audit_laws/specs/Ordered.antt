-- Event lines at which something is lost, or two devices become a pair or part.
use Rattle.std.specs.Prelude.{List, [], ◌∷◌}
use Rattle.deck_plan.specs.declared.event.EventLine.{EventLine}
use Rattle.deck_plan.specs.declared.event.EventLine.TheVariants as events
use Rattle.subsystem_defs.specs.Lines.{asked_by, last_behind, line_logged}
use Rattle.subsystem_defs.specs.Subsystem.{Subsystem}
use Rattle.audit_laws.specs.Standing.{HasDevice, LineLeads}

abbrev pub IsLossOrPair : Subsystem → EventLine → Type 0
IsLossOrPair s events.FailCache = Unit {0}
IsLossOrPair s events.FailStore = Unit {0}
IsLossOrPair s (events.FailVolume d side) = HasDevice s d
IsLossOrPair s (events.Pair a b) = HasDevice s a × HasDevice s b
IsLossOrPair s (events.Unpair a) = HasDevice s a
IsLossOrPair s events.Power = Unit {0}
IsLossOrPair s _ = ⊥

-- Event lines at which no work is done step by step: all but STEP, RUN, BACK and SETTLE
abbrev pub IsNoWork : EventLine → Type 0
IsNoWork (events.Step d) = ⊥
IsNoWork (events.Run d) = ⊥
IsNoWork (events.Back d) = ⊥
IsNoWork (events.Settle d) = ⊥
IsNoWork e = Unit {0}

-- each of these leads the audit on, where they are run one after another
abbrev pub AllLead : Subsystem → List EventLine → Type 0
AllLead s [] = Unit {0}
AllLead s (e ∷ later) = (IsNoWork e → LineLeads s e) × AllLead (last_behind s (line_logged s (asked_by e))) later
