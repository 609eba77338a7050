use Rattle.std.proofs.Common.{◌∙◌}
use Rattle.deck_top.proofs.HandedOut.{at_most, holds_first}
use Rattle.deck_top.proofs.handing.hand_out_one.Goals as goal

pub hand_out-requires : goal.hand_out-requires
hand_out-requires g c = at_most c.args.line c.requires

pub returns-clause-holds : goal.returns-clause-holds
returns-clause-holds g c = λ firsts hands.
    holds_first firsts c.args.deck.now c.args.line (g.V.Volume.view c.in_ok-volume.volume) c.deref.result.now c.deref-2.result.now
    (c.deref.ensures.value ∙ c.in_ok-reads.ensures) (c.deref-2.ensures.value ∙ c.in_ok-writes.ensures)
    (c.in_ok-volume.ensures.begins firsts hands)
