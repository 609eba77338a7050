-- The first lines of a deck that are all of its lines.
use Rattle.std.proofs.Common.{◌≡◌, ◌≤◌, ℕ, List, length, map, take, ap, arith}
use Rattle.std.proofs.lemmas.List.{take_all}
use Rattle.deck_plan.specs.declared.event.EventLine.{EventLine}
use Rattle.deck_text.specs.DeckLines.{DeckLines}
use Rattle.subsystem_defs.specs.Decks.{Firsts, run_asked_on, run_on}
use Rattle.subsystem_defs.specs.Lines.{asked_by}
use Rattle.deck_run.specs.Fronts.{front_on}

pub front_whole : (firsts : Firsts) (deck : DeckLines) (n : ℕ) → n ≡ length deck.events → front_on firsts deck n ≡ run_on firsts deck
front_whole firsts deck n is =
    let all : length deck.events ≤ n = omega (arith, is) in
    ap (λ (es : List EventLine). run_asked_on firsts deck (map asked_by es)) (take_all n deck.events all)
