-- In the run of a deck no command ends with data check.
use Rattle.std.proofs.Common.{ℕ, List, [], ◌∷◌, map, refl, ◌∙◌}
use Rattle.std.specs.Prelude.{All}
use Rattle.plain_defs.specs.declared.journal.Item.TheVariants as items
use Rattle.deck_text.specs.declared.line.DeviceLine.{DeviceLine}
use Rattle.deck_text.specs.DeckLines.{DeckLines}
use Rattle.device_defs.specs.Contents.{by_plain}
use Rattle.device_defs.specs.Marks.{MarksDevice}
use Rattle.device_defs.specs.Pledge.{ends_with_data_check}
use Rattle.device_defs.specs.Start as S
use Rattle.device_defs.specs.Start.{start}
use Rattle.device_laws.proofs.Always.{Always}
use Rattle.device_laws.proofs.CleanParts.{command_clean, second_clean}
use Rattle.device_laws.proofs.KeptEvents.{background_holds, lose_holds}
use Rattle.device_laws.proofs.KeptHistories.{count_more}
use Rattle.subsystem_defs.specs.Decks as D
use Rattle.subsystem_defs.specs.Decks.{Firsts, opened_device_on, opened_on, run_on}
use Rattle.subsystem_defs.specs.Lines.{asked_by}
use Rattle.subsystem_laws.specs.Causes.{HasNoDataCheck, HaveNoDataCheck}
use Rattle.subsystem_laws.proofs.Came.{at, came_clean}
use Rattle.subsystem_laws.proofs.PastChecks.{reset_counts, power_counts, lend_counts}
use Rattle.subsystem_laws.proofs.RunLines.{AnyEvent}
use Rattle.subsystem_laws.proofs.Walks.{IsKept, AreSo, LeavesSo, run_keeps}

-- whatever is answered
always_so : {A : Type 0} {talk : _} → Always talk (λ (y : MarksDevice) (_ : A). HasNoDataCheck y) → LeavesSo HasNoDataCheck talk
always_so h = λ t. at h t

started_so : (d : MarksDevice) (path : ℕ) → HasNoDataCheck d → HasNoDataCheck (start d path)
unfolding S.start
started_so d path p = p

pub checks_kept : IsKept HasNoDataCheck AnyEvent
checks_kept = record {
  started = λ d path n may fault p. started_so d path p;
  commanded = λ d o running whole p. λ t. came_clean (command_clean d) t ∙ p;
  seconded = λ d h is p. λ t. came_clean (second_clean d) t ∙ p;
  worked = λ d whole p. always_so (background_holds by_plain 0 d p);
  cut = λ d path p. always_so (reset_counts ends_with_data_check (λ o k. refl) (λ path. refl) refl 0 d path p);
  lost_cache = λ d p. always_so (lose_holds by_plain 0 d _ p);
  lost_store = λ d p. always_so (lose_holds by_plain 0 d _ p);
  lost_side = λ d side home p. always_so (lose_holds by_plain 0 d _ p);
  lost_power = λ d p. always_so (power_counts ends_with_data_check (λ o k. refl) (λ path. refl) refl 0 d p);
  held = λ d fault p. p;
  resumed = λ d pair p. p;
  replaced = λ d side fault p. p;
  lent = λ x y fault p q. always_so (lend_counts ends_with_data_check (λ o k. refl) (λ path. refl) refl 0 y x.store.device q);
  joins = λ d single p. p;
  splits = λ d fault p. p;
  restored = λ d a is p. count_more ends_with_data_check d.history.items (items.Fresh ∷ []) (refl, tt) ∙ p;
}

opened_so : (firsts : Firsts) (deck : DeckLines) (ds : List DeviceLine) → AreSo HasNoDataCheck (map (opened_device_on firsts deck) ds)
opened_so firsts deck [] = tt
opened_so firsts deck (d ∷ ds) = (refl, opened_so firsts deck ds)

pub run_has_no_data_check : (firsts : Firsts) (deck : DeckLines) → All HaveNoDataCheck (run_on firsts deck).events
unfolding D.run_asked_on
run_has_no_data_check firsts deck = run_keeps HasNoDataCheck checks_kept (map asked_by deck.events) (opened_on firsts deck) (opened_so firsts deck deck.devices)
