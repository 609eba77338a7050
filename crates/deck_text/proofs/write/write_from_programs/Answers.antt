use Rattle.ckd_outside.proofs.Lines.{puts_stopped, puts_then, stops_longer}
use Rattle.deck_text.proofs.write.write_from_programs.Goals as goal

pub returns-in_err-write_programs-clause-bytes : goal.returns-in_err-write_programs-clause-bytes
returns-in_err-write_programs-clause-bytes g c =
    puts_stopped _ _ _ _ _ _ _ c.from_residual.ensures.1 (stops_longer _ _ _ _ _ _ c.in_err-write_programs.ensures.bytes)

pub returns-clause-bytes : goal.returns-clause-bytes
returns-clause-bytes g c = puts_then _ _ _ _ _ _ _ _ _ c.in_ok-write_programs.ensures.bytes c.write_from_events.ensures.bytes
