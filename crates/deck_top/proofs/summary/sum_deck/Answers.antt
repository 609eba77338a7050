use Rattle.std.proofs.Common.{◌∙◌}
use Rattle.deck_top.proofs.Summed.{summary_is}
use Rattle.deck_top.proofs.summary.sum_deck.Goals as goal

pub returns-clause-summary : goal.returns-clause-summary
returns-clause-summary g c = λ firsts hands.
    c.summary_of-summary.ensures
    ∙ summary_is c.in_ok-ran.ran.sub firsts c.args.deck.now c.requires.0 c.requires.1 (c.in_ok-ran.ensures.stands firsts hands)
    c.in_ok-ran.ensures.numbers _ (c.in_ok-ran.ensures.counts firsts hands)
