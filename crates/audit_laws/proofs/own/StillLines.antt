-- An event line at which no command runs, behind the run of a deck.
use Rattle.std.proofs.Common.{arith, ◌≡◌, ℕ, List, [], ◌∷◌, Option, Some, refl}
use Rattle.std.specs.Prelude.{IsSome, Ok}
use Rattle.std.proofs.lemmas.List.{append-nil}
use Rattle.deck_plan.specs.declared.event.EventLine.{EventLine}
use Rattle.deck_plan.specs.declared.event.EventLine.TheVariants as wanted
use Rattle.deck_text.specs.DeckLines.{DeckLines}
use Rattle.deck_text.specs.Parse.{parsed}
use Rattle.device_defs.specs.Marks.{MarksDevice}
use Rattle.subsystem_defs.specs.declared.event.Event.{Event}
use Rattle.subsystem_defs.specs.declared.event.Event.TheVariants as events
use Rattle.subsystem_defs.specs.Decks.{run_of}
use Rattle.subsystem_defs.specs.Deeds.{device_in}
use Rattle.subsystem_defs.specs.Happening as H
use Rattle.subsystem_defs.specs.Happening.{EventHappened, happens, replaced, replaced_at, replaced_by}
use Rattle.subsystem_defs.specs.Lines as L
use Rattle.subsystem_defs.specs.Lines.{Asked, Logged, Once, Replace, asked_by, last_behind, line_logged, logged}
use Rattle.subsystem_defs.specs.Subsystem.{Subsystem, devices_of, unfailing}
use Rattle.subsystem_laws.proofs.PlainRuns.{ArePlain, plain_behind}
use Rattle.subsystem_laws.proofs.ReadDecks.{read_served}
use Rattle.audit_laws.specs.Standing.{IsStill, LineLeads}
use Rattle.audit_laws.proofs.own.Leading.{EventLeads}
use Rattle.audit_laws.proofs.own.Orders.{repair_cache_leads, repair_store_leads, replace_leads, resume_leads, suspend_leads}
use Rattle.audit_laws.proofs.own.Resets.{reset_leads}
use Rattle.audit_laws.proofs.own.Starts.{start_leads}
use Rattle.subsystem_laws.proofs.RunLinks.{event_from}

replaced_before : (s : Subsystem) (d : ℕ) (side : _) → (replaced s d side unfailing).before ≡ s
unfolding H.replaced
replaced_before s d side = grind arith

-- of one event
module _ (s : Subsystem) (e : EventLine) (asked : Asked) (h : EventHappened) where
  pub one_line : asked_by e ≡ asked → line_logged s asked ≡ logged asked h ∷ [] → h.before ≡ s → EventLeads s e asked h → LineLeads s e
  one_line asks_so is before leads = grind (arith, append-nil)

once_logged : (s : Subsystem) (e : Event) → line_logged s (Once e) ≡ logged (Once e) (happens s e) ∷ []
unfolding L.line_logged
once_logged s e = refl

replace_logged : (s : Subsystem) (d : ℕ) (side : _) → line_logged s (Replace d side) ≡ logged (Replace d side) (replaced s d side unfailing) ∷ []
unfolding L.line_logged
replace_logged s d side = refl

pub some_device : {T : Type 0} (o : Option MarksDevice) → IsSome o → ((x : MarksDevice) → o ≡ Some x → T) → T
some_device o some go = grind arith

module _ (s : Subsystem) (plain : ArePlain s.mounted) where
  pub once : (line : EventLine) (e : Event) → asked_by line ≡ Once e → EventLeads s line (Once e) (happens s e) → LineLeads s line
  once line e same leads = one_line s line (Once e) (happens s e) same (once_logged s e) (event_from s e) leads

  pub still_leads : (e : EventLine) → IsStill s e → LineLeads s e
  still_leads (wanted.Start path d) has =
      some_device (device_in (devices_of s) d) has
      (λ x at. once (wanted.Start path d) (events.Start path d) refl (start_leads s plain path d x at))
  still_leads (wanted.Reset path d) has =
      some_device (device_in (devices_of s) d) has
      (λ x at. once (wanted.Reset path d) (events.Reset path d) refl (reset_leads s plain path d x at))
  still_leads wanted.RepairCache has = once wanted.RepairCache events.RepairCache refl (repair_cache_leads s)
  still_leads wanted.RepairStore has = once wanted.RepairStore events.RepairStore refl (repair_store_leads s)
  still_leads (wanted.Replace d side) has = grind (arith, some_device, one_line, replace_logged, replaced_before, replace_leads)
  still_leads (wanted.Suspend d) has =
      some_device (device_in (devices_of s) d) has (λ x at. once (wanted.Suspend d) (events.Suspend d) refl (suspend_leads s d x at))
  still_leads (wanted.Resume d) has =
      some_device (device_in (devices_of s) d) has (λ x at. once (wanted.Resume d) (events.Resume d) refl (resume_leads s d x at))
  still_leads e has = absurd has

-- behind the run of a deck that was read
pub still_line_leads : (text : List ℕ) (deck : DeckLines) → parsed text ≡ Ok deck → (e : EventLine) → IsStill (run_of deck).behind e →
    LineLeads (run_of deck).behind e
still_line_leads text deck read e still = still_leads (run_of deck).behind (plain_behind deck (read_served text deck read)) e still
