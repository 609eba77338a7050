use Rattle.deck_text.proofs.WordLemmas.{word_first}
use Rattle.deck_text.proofs.words.cut_word.Goals as goal

pub returns-clause-split : goal.returns-clause-split
returns-clause-split c =
    rw (c.split_at.ensures.front, c.split_at.ensures.back)
    (word_first c.args.line.now c.place_of.result c.place_of.ensures.bound c.place_of.ensures.none c.place_of.ensures.stands c.requires)
