-- A deck that was read starts programs of one of four paths; before the first line of its report each device's past is empty.
use Rattle.std.proofs.Common.{arith, ◌≡◌, ℕ, List, [], ◌∷◌, map, Ok, subst}
use Rattle.std.specs.Prelude.{Result}
use Rattle.deck_plan.specs.declared.event.EventLine.{EventLine}
use Rattle.deck_plan.specs.declared.event.EventLine.TheVariants as events
use Rattle.deck_text.specs.declared.line.DeckWhy.{DeckWhy}
use Rattle.deck_text.specs.declared.line.DeviceLine.{DeviceLine}
use Rattle.deck_text.specs.declared.line.PlannedProgram.{PlannedProgram}
use Rattle.deck_text.specs.DeckLines.{DeckLines}
use Rattle.deck_text.specs.Forms.{path_and_device}
use Rattle.deck_text.specs.Parse.{parsed}
use Rattle.deck_text.proofs.DeckAgain.{Each, EventOk}
use Rattle.deck_text.proofs.FormsAgain.{went, needed_is, if_ok, Ranged, number_range}
use Rattle.deck_text.proofs.Reached.{parsed_good}
use Rattle.deck_audit.specs.declared.state.Due.{Due}
use Rattle.deck_audit.specs.declared.state.Due.TheVariants.{Next, Nothing}
use Rattle.deck_audit.specs.Device.{AuditedDevice, new_device}
use Rattle.deck_audit.specs.State.{AuditState, first_state}
use Rattle.audit_laws.specs.FirstFault.{LeadsTo}
use Rattle.device_laws.proofs.WaitingResets.{nothing_is_due}
use Rattle.audit_laws.specs.Plain.{AreOf, ArePlain}
use Rattle.audit_laws.proofs.Devices as each
use Rattle.audit_laws.proofs.Sound.{Sound}
use Rattle.audit_laws.proofs.Lines.{AreOnPaths, AreSo, IsOnPath, IsSoundState, leads_sound}

-- The paths of a deck

path_range : (devices : List DeviceLine) (words : List (List ℕ)) (at : ℕ × ℕ) → path_and_device devices words ≡ Ok at → Ranged 1 4 at.0
path_range devices words at h = grind (arith, went, if_ok, number_range, needed_is)

start_is : (p q a b : ℕ) → ◌≡◌ {A = Result EventLine DeckWhy} (Ok (events.Start p a)) (Ok (events.Start q b)) → p ≡ q
start_is p q a b e = cc

line_on_path : (devices : List DeviceLine) (event : EventLine) → EventOk devices event → IsOnPath event
line_on_path devices event ok = grind (arith, went, start_is, path_range)

lines_on_paths : (devices : List DeviceLine) (es : List EventLine) → Each (EventOk devices) es → AreOnPaths es
lines_on_paths devices [] h = tt
lines_on_paths devices (event ∷ es) h = (line_on_path devices event h.0, lines_on_paths devices es h.1)

-- Before the first line

all_new : (programs : List PlannedProgram) (ls : List DeviceLine) → each.Each programs Sound ls (map (new_device programs) ls)
all_new programs [] = tt
all_new programs (line ∷ ls) = grind (arith, all_new programs ls, nothing_is_due)

pub first_sound : (text : List ℕ) (deck : DeckLines) → parsed text ≡ Ok deck → IsSoundState deck.programs deck.devices (first_state deck)
first_sound text deck parses = record {
  devices = all_new deck.programs deck.devices;
  paths = lines_on_paths deck.devices deck.events (parsed_good text deck parses).events;
}

-- Behind some lines

are_of : (programs : List PlannedProgram) (ls : List DeviceLine) (ds : List AuditedDevice) → each.Each programs Sound ls ds → AreOf programs ls ds
are_of programs [] [] all = tt
are_of programs (line ∷ ls) (a ∷ ds) all = (
  (let is = all.0 in record { number_is = is.0; empty_is = is.1; plans_are = is.2; plain = all.1.plain }),
  are_of programs ls ds all.2,
)
are_of programs ls ds all = absurd all

module _ (text : List ℕ) (deck : DeckLines) (parses : parsed text ≡ Ok deck) (s : AuditState) (lines : List (List ℕ))
    (leads : LeadsTo (first_state deck) lines s) where
  sound : IsSoundState deck.programs deck.devices s
  sound = leads_sound deck.programs deck.devices (first_state deck) s lines (first_sound text deck parses) leads

  pub plain_at_next : s.due ≡ Next → ArePlain deck s
  plain_at_next is = are_of deck.programs deck.devices s.devices
      (subst (λ (due : Due). AreSo deck.programs deck.devices due s.events s.devices) is sound.devices)

  pub plain_at_last : s.due ≡ Nothing → ArePlain deck s
  plain_at_last is = are_of deck.programs deck.devices s.devices
      (subst (λ (due : Due). AreSo deck.programs deck.devices due s.events s.devices) is sound.devices)
