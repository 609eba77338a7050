-- The devices that a report tells of are plain devices.
use Rattle.std.specs.Prelude.{◌≡◌, ℕ, List, [], ◌∷◌, ⊤}
use Rattle.deck_text.specs.declared.line.DeviceLine.{DeviceLine}
use Rattle.deck_text.specs.declared.line.PlannedProgram.{PlannedProgram}
use Rattle.deck_text.specs.DeckLines.{DeckLines}
use Rattle.deck_text.specs.Plans.{plans_of}
use Rattle.plain_defs.specs.History.{IsPlain}
use Rattle.plain_defs.specs.PlainState.{empty_state}
use Rattle.deck_audit.specs.Device.{AuditedDevice}
use Rattle.deck_audit.specs.State.{AuditState, first_state}
use Rattle.deck_audit.specs.declared.state.Due.TheVariants.{Nothing}
use Rattle.audit_laws.specs.FirstFault.{IsDeckAndReport, LeadsTo, report_lines}

-- the device of a line of the deck: of its number, its model and the programs planned for it, with a history that such a plain
-- device could have
pub record IsPlainDevice (programs : List PlannedProgram) (line : DeviceLine) (a : AuditedDevice) : Type 0 where
  pub number_is : a.number ≡ line.number
  pub empty_is : a.empty ≡ empty_state line.geometry line.cylinders
  pub plans_are : a.plans ≡ plans_of programs line.number
  pub plain : IsPlain a.plans a.empty a.history

abbrev pub AreOf : List PlannedProgram → List DeviceLine → List AuditedDevice → Type 0
AreOf programs [] [] = ⊤
AreOf programs (line ∷ lines) (a ∷ devices) = IsPlainDevice programs line a × AreOf programs lines devices
AreOf programs lines devices = ⊥

-- all devices of the deck
abbrev pub ArePlain : DeckLines → AuditState → Type 0
ArePlain deck s = AreOf deck.programs deck.devices s.devices

-- a text of a deck and a report whose lines have no fault, with what they make of its devices at last
pub record IsPlainReport (text : List ℕ) : Type 0 where
  pub deck : DeckLines
  pub lines : ℕ
  pub is : IsDeckAndReport text deck lines
  pub end : AuditState
  pub leads : LeadsTo (first_state deck) (report_lines text lines) end
  pub over : end.due ≡ Nothing
  pub plain : ArePlain deck end
