use Rattle.std.proofs.Common.{[], refl}
use Rattle.ckd_outside.proofs.Lines.{puts_stopped, stops_longer}
use Rattle.deck_text.specs.Canonical.{word_text}
use Rattle.deck_text.proofs.write_programs.write_word.Goals as goal

pub returns-in_err-make_room-clause-bytes : goal.returns-in_err-make_room-clause-bytes
returns-in_err-make_room-clause-bytes g c =
    puts_stopped _ _ _ _ _ _ _ c.from_residual.ensures.1 (stops_longer _ _ _ _ [] (word_text c.args.ccw.now) c.in_err-make_room.ensures.bytes)
