use Rattle.std.proofs.Common.{arith, refl, [], take}
use Rattle.std.proofs.lemmas.Grind.{common_steps}
use Rattle.ckd_outside.proofs.HexLemmas.{hex_parts, hex_none}
use Rattle.ckd_outside.proofs.Lines.{moves_in, moves_then, put_more, put_stopped, put_all, puts_stopped}
use Rattle.ckd_outside.proofs.pieces.put_hex.Goals as goal

pub returns-in_err-make_room-clause-bytes : goal.returns-in_err-make_room-clause-bytes
returns-in_err-make_room-clause-bytes g c =
    puts_stopped _ _ _ _ _ _ _ c.from_residual.ensures.1 (put_stopped _ _ _ _ _ _ _ _ [] _ c.loop-rest.invariant.0 refl c.in_err-make_room.ensures.bytes)

pub loop-rest-preserved : goal.loop-rest-preserved
loop-rest-preserved g c = (
  put_more _ _ _ _ _ _ _ _ _ _ c.loop-rest.invariant.0 (hex_parts _ (take c.take_hex-count.result c.loop-rest.rest.now) _ (grind (arith, common_steps)))
      (moves_then _ _ _ _ _ _ [] _ c.in_ok-make_room.ensures.bytes (moves_in _ _ _ _ c.take_hex-count.ensures.bytes)),
  omega (arith, c.loop-rest.invariant.1, c.in_ok-make_room.ensures.cause.later),
)

pub returns-clause-bytes : goal.returns-clause-bytes
returns-clause-bytes g c =
    put_all _ _ _ _ _ _ c.loop-rest.invariant.0 (hex_none _ (grind (arith, common_steps)))
