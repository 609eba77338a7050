use Rattle.deck_text.proofs.DeckAgain.{reads_again}
use Rattle.deck_text.proofs.Reached.{parsed_good}
use Rattle.deck_text.proofs.law.reads_back.Goals as goal

pub returns : goal.returns
returns c text deck h small = reads_again deck (parsed_good text deck h) small
