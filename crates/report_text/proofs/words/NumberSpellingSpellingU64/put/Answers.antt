use Rattle.std.proofs.Common.{[]}
use Rattle.std.specs.Prelude.{decimal}
use Rattle.ckd_outside.proofs.Lines.{puts_stopped, stops_longer}
use Rattle.report_text.specs.Words.{spaced}
use Rattle.report_text.proofs.words.NumberSpellingSpellingU64.put.Goals as goal

pub returns-in_err-make_room-clause-bytes : goal.returns-in_err-make_room-clause-bytes
returns-in_err-make_room-clause-bytes g c =
    puts_stopped _ _ _ _ _ _ _ c.from_residual.ensures.1 (stops_longer _ _ _ _ [] (spaced (decimal c.args.it.now)) c.in_err-make_room.ensures.bytes)
