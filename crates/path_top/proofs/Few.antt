-- Few event lines are unused.
use Rattle.std.proofs.Common.{◌≡◌, ◌≤◌, ℕ, List, Ok, arith}
use Rattle.deck_text.specs.DeckLines.{DeckLines}
use Rattle.deck_text.specs.Parse.{parsed}
use Rattle.deck_text.proofs.Reached.{parsed_good}
use Rattle.path_top.specs.Pairs.{unused_in}

pub few_unused : (text : List ℕ) (deck : DeckLines) → parsed text ≡ Ok deck → unused_in deck.events ≤ 65536
few_unused text deck p = let few = (parsed_good text deck p).event_count in omega (arith, few)
