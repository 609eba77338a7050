use Rattle.ckd_outside.proofs.Lines.{puts_stopped, puts_then, stops_longer}
use Rattle.deck_text.proofs.write.DeckSpellingSpellingDeck.put.Goals as goal

pub returns-in_err-write_head-clause-bytes : goal.returns-in_err-write_head-clause-bytes
returns-in_err-write_head-clause-bytes g c =
    puts_stopped _ _ _ _ _ _ _ c.from_residual.ensures.1
    (stops_longer _ _ _ _ _ _ (rw (c.frames.ensures, c.slots.ensures) at c.in_err-write_head.ensures.bytes))

pub returns-clause-bytes : goal.returns-clause-bytes
returns-clause-bytes g c =
    puts_then _ _ _ _ _ _ _ _ _ (rw (c.frames.ensures, c.slots.ensures) at c.in_ok-write_head.ensures.bytes) c.write_from_devices.ensures.bytes
