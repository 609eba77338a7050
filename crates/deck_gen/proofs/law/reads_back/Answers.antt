use Rattle.deck_text.proofs.DeckAgain.{reads_again}
use Rattle.deck_gen.specs.Generated.{deck_of_seed}
use Rattle.deck_gen.proofs.Good.{is_deck}
use Rattle.deck_gen.proofs.Sizes.{is_short}
use Rattle.deck_gen.proofs.law.reads_back.Goals as goal

pub returns : goal.returns
returns c seed count h = reads_again (deck_of_seed seed count) (is_deck seed count h) (is_short seed count h)
