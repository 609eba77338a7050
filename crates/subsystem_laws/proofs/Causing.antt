-- In a run each check of each device has its cause.
use Rattle.std.proofs.Common.{◌≡◌, Some, refl, ◌∙◌, inl}
use Rattle.std.specs.Prelude.{All}
use Rattle.deck_text.specs.DeckLines.{DeckLines}
use Rattle.loss_model.specs.declared.Loss.TheVariants as losses
use Rattle.device_defs.specs.Command.{command}
use Rattle.device_defs.specs.Contents.{by_plain}
use Rattle.device_defs.specs.Cutting.{reset}
use Rattle.device_defs.specs.Events.{second, lose, background}
use Rattle.device_defs.specs.Marks.{MarksDevice}
use Rattle.device_defs.specs.Orders.{hold_side, resume}
use Rattle.device_defs.specs.Start.{start, next_ordinal}
use Rattle.subsystem_defs.specs.declared.end.EventEnd.TheVariants as ends
use Rattle.subsystem_defs.specs.Decks.{Firsts, run_on}
use Rattle.subsystem_defs.specs.Deeds.{ends_done, end_of}
use Rattle.subsystem_defs.specs.Subsystem.{Subsystem}
use Rattle.subsystem_laws.specs.Causes.{checks_of, ChecksForCause, CheckForCause}
use Rattle.subsystem_laws.specs.Served.{IsServedDeck}
use Rattle.subsystem_laws.proofs.CheckCauses.{
  command_causes,
  second_causes,
  background_same,
  reset_same,
  power_same,
  loss_same,
  lend_same,
  start_same,
  replace_same,
  restore_same,
}
use Rattle.subsystem_laws.proofs.DeedWalk.{seat_of, IsDeedwise}
use Rattle.subsystem_laws.proofs.Pairing.{KeepsDeed, deeds_of, IsPairwise, run_pairs, ends_made, becomes_so, fair_of, started_number}
use Rattle.subsystem_laws.proofs.TracksKept.{Fair}
use Rattle.subsystem_laws.proofs.Walks.{AreSo}

abbrev AddsNone : MarksDevice → MarksDevice → Type 0
AddsNone x y = checks_of y ≡ checks_of x

deeds_show : (s : Subsystem) → AreSo Fair s.mounted → IsDeedwise s (KeepsDeed AddsNone ChecksForCause s)
deeds_show s p = record {
  ended = λ end. tt;
  started = λ d x path fault.
      becomes_so AddsNone ChecksForCause s d x (start d path) (started_number d path) (start_same d path) (ends.Started (next_ordinal d path));
  seconded = λ d x h is. (
    seat_of s d x,
    ends_made AddsNone ChecksForCause d (second by_plain d) (λ a. Some (ends.Second a))
        (second_causes d (fair_of s p d x) h is),
  );
  commanded = λ d x whole o running. (
    seat_of s d x,
    ends_made AddsNone ChecksForCause d (command by_plain d) (end_of ends.Stepped) (command_causes d (fair_of s p d x) o running whole),
  );
  worked = λ d x whole. (seat_of s d x, ends_made AddsNone ChecksForCause d (background by_plain d) (end_of ends.Back) (λ t. inl (background_same d t)));
  cut = λ d x path. (seat_of s d x, ends_made AddsNone ChecksForCause d (reset by_plain d path) (λ a. Some (ends_done a)) (λ t. inl (reset_same d path t)));
  lost_cache = λ d t. inl (loss_same d losses.Cache t);
  lost_store = λ d t. inl (loss_same d losses.Store t);
  lost_side = λ d x side fault. (
    seat_of s d x,
    ends_made AddsNone ChecksForCause d (lose by_plain d (losses.Side side)) (λ a. Some (ends_done a)) (λ t. inl (loss_same d (losses.Side side) t)),
  );
  lost_power = λ d t. inl (power_same d t);
  repaired_cache = tt;
  repaired_store = tt;
  lent = λ x y z w fault. (seat_of s y w, lend_same y x.store.device);
  held = λ d x fault. becomes_so AddsNone ChecksForCause s d x (hold_side d) refl refl ends.Done;
  resumed = λ d x fault. becomes_so AddsNone ChecksForCause s d x (resume d) refl refl ends.Done;
}

checks_pairwise : IsPairwise AddsNone (λ lossy alone. ChecksForCause)
checks_pairwise = record {
  own = λ d. refl;
  on = λ x y z p q. q ∙ p;
  made = λ lossy alone x y p. inl p;
  joins = λ d. refl;
  splits = λ d fault. refl;
  replaces = λ d side fault. replace_same d side;
  restores = λ d a is. restore_same d;
  deeds = λ s p. deeds_of AddsNone ChecksForCause s (deeds_show s p);
}

pub run_checks_for_cause : (firsts : Firsts) (deck : DeckLines) → IsServedDeck deck → All CheckForCause (run_on firsts deck).events
run_checks_for_cause firsts = run_pairs AddsNone (λ lossy alone. ChecksForCause) checks_pairwise firsts
