-- In a run a device that was never lent is excused for all that it loses and checks.
use Rattle.std.proofs.Common.{◌<◌, ◌^◌, ◌-◌}
use Rattle.std.specs.Prelude.{All, length}
use Rattle.deck_text.specs.DeckLines.{DeckLines}
use Rattle.device_defs.specs.Marks.{MarksDevice}
use Rattle.subsystem_defs.specs.Decks.{empty_firsts, run_of}
use Rattle.subsystem_laws.specs.Causes.{CountFailures}
use Rattle.subsystem_laws.specs.Excused.{HasExcusedTracks, HasCountedLosses, HasExcusedChecks, HasExcuse, HaveExcuses}
use Rattle.subsystem_laws.specs.Served.{IsServedDeck}
use Rattle.subsystem_laws.proofs.ExcusedRuns.{checks_are_excused}
use Rattle.subsystem_laws.proofs.FramesRuns.{run_excuses_tracks}
use Rattle.subsystem_laws.proofs.LooseRuns.{run_counts_losses}
use Rattle.subsystem_laws.proofs.Walks.{both_behind}

abbrev ForLosses : MarksDevice → Type 0
ForLosses d = HasExcusedTracks d × HasCountedLosses d

pub run_excuses_devices : (deck : DeckLines) → IsServedDeck deck → length (run_of deck).events < 2 ^ 64 - 1 → All CountFailures (run_of deck).events →
    All HaveExcuses (run_of deck).events
run_excuses_devices deck h few n =
    let ts = (run_of deck).events in
    both_behind ForLosses HasExcusedChecks HasExcuse (λ d e checks never. record { tracks = e.0; loose = e.1; checks = checks never }) ts
    (both_behind HasExcusedTracks HasCountedLosses ForLosses (λ d tracks loose. (tracks, loose)) ts (run_excuses_tracks empty_firsts deck h)
    (run_counts_losses empty_firsts deck h few))
    (checks_are_excused deck h n)
