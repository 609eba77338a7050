use Rattle.std.proofs.Common.{◌++◌, take, arith}
use Rattle.std.proofs.lemmas.Grind.{common_steps}
use Rattle.std.proofs.KnownBytes.{Consumes-trans}
use Rattle.std.proofs.lemmas.Result.{err_from_is_err_and}
use Rattle.ckd_outside.proofs.source.read_up_to.Goals as goal

pub returns-in_err-extend_from_slice-clause-part : goal.returns-in_err-extend_from_slice-clause-part
returns-in_err-extend_from_slice-clause-part g c =
    let p = err_from_is_err_and c.from_residual-in_err-extend_from_slice.result c.from_residual-in_err-extend_from_slice.ensures.1 in rw p.1 (
    record {
      text = c.loop-buffer.text.items ++ take c.in_ok-count.count c.read.new.into;
      bound = grind (arith, common_steps);
      taken = Consumes-trans _ _ _ _ _ c.loop-buffer.invariant.0 c.in_ok-count.ensures.bytes.0;
    }
    )
