use Rattle.std.proofs.Common.{[]}
use Rattle.std.specs.Prelude.{decimal}
use Rattle.ckd_outside.proofs.Lines.{moves_in, moves_then, stops_longer, puts_stopped}
use Rattle.ckd_outside.proofs.pieces.write_number.Goals as goal

pub returns-in_err-make_room-clause-bytes : goal.returns-in_err-make_room-clause-bytes
returns-in_err-make_room-clause-bytes g c =
    puts_stopped _ _ _ _ _ _ _ c.from_residual.ensures.1 (stops_longer _ _ _ _ [] (decimal c.args.n) c.in_err-make_room.ensures.bytes)

pub returns-clause-bytes : goal.returns-clause-bytes
returns-clause-bytes g c =
    moves_then _ _ _ _ _ _ [] _ c.in_ok-make_room.ensures.bytes (moves_in _ _ _ _ c.put_number.ensures.text)
