-- All that is promised of the run of a deck that was read, on volumes that held some tracks first.
use Rattle.std.proofs.Common.{◌≡◌, ℕ, List}
use Rattle.std.specs.Prelude.{Ok}
use Rattle.deck_text.specs.DeckLines.{DeckLines}
use Rattle.deck_text.specs.Parse.{parsed}
use Rattle.subsystem_defs.specs.Decks.{AreWhole, Firsts}
use Rattle.subsystem_defs.specs.Promised.{IsPromisedOn}
use Rattle.subsystem_laws.proofs.CalmRuns.{calm_run_misses_nothing}
use Rattle.subsystem_laws.proofs.ExplainedRuns.{run_is_explained_on}
use Rattle.subsystem_laws.proofs.FailedCalls.{read_run_counts_failures}
use Rattle.subsystem_laws.proofs.PlainRuns.{run_plainly_on}
use Rattle.subsystem_laws.proofs.ReadDecks.{read_served}
use Rattle.subsystem_laws.proofs.RunLength.{read_run_is_short}

pub promised_on : (firsts : Firsts) → AreWhole firsts → (text : List ℕ) (deck : DeckLines) → parsed text ≡ Ok deck → IsPromisedOn firsts deck
promised_on firsts whole text deck read =
    let served = read_served text deck read in
    record {
      plain = run_plainly_on firsts whole deck served;
      explained = run_is_explained_on firsts whole deck served (read_run_counts_failures firsts text deck read);
      calm = calm_run_misses_nothing firsts deck served (read_run_is_short firsts text deck read);
    }
