-- Decks without a FAULT line, none of whose calls is to fail, and decks on sound hardware, in which nothing is lost either.
use Rattle.std.specs.Prelude.{◌≡◌, ◌==◌, ◌&&◌, not, Bool, true, List, [], ◌∷◌, All, length, count_by}
use Rattle.deck_plan.specs.declared.event.EventLine.{EventLine}
use Rattle.deck_text.specs.DeckLines.{DeckLines}
use Rattle.device_defs.specs.Excused.{unexplained}
use Rattle.device_defs.specs.Marks.{MarksDevice}
use Rattle.device_laws.specs.Unharmed.{ends_with_equipment_check}
use Rattle.subsystem_defs.specs.Calm.{asks_loss}
use Rattle.subsystem_defs.specs.Lines.{Logged, asked_by}
use Rattle.subsystem_defs.specs.Promised.{empty_of}
use Rattle.subsystem_defs.specs.Subsystem.{devices_of}
use Rattle.subsystem_laws.specs.Excused.{WasNeverLent}

-- no call of it failed
abbrev pub HasNoFailedCall : MarksDevice → Type 0
HasNoFailedCall d = d.store.counts.failed ≡ 0

abbrev pub HaveNoFailedCall : Logged → Type 0
HaveNoFailedCall x = All HasNoFailedCall (devices_of x.happened.behind)

-- what was lost explains each of its checks
abbrev pub HasExplainedChecks : MarksDevice → Type 0
HasExplainedChecks d = WasNeverLent d → unexplained d.plans (empty_of d) d.store.lost d.store.counts d.history.items ≡ 0

abbrev pub HaveExplainedChecks : Logged → Type 0
HaveExplainedChecks x = All HasExplainedChecks (devices_of x.happened.behind)

-- no line is a FAIL or a POWER
abbrev pub lose_nothing : List EventLine → Bool
lose_nothing [] = true
lose_nothing (line ∷ lines) = not (asks_loss (asked_by line)) && lose_nothing lines

-- nor is one a FAULT
abbrev pub has_sound_hardware : DeckLines → Bool
has_sound_hardware deck = (length deck.faults == 0) && lose_nothing deck.events

-- none of its programs ended with equipment check
abbrev pub HasNoEquipmentCheck : MarksDevice → Type 0
HasNoEquipmentCheck d = count_by ends_with_equipment_check d.history.items ≡ 0

abbrev pub HaveNoEquipmentCheck : Logged → Type 0
HaveNoEquipmentCheck x = All HasNoEquipmentCheck (devices_of x.happened.behind)
