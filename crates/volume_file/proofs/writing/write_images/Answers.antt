use Rattle.std.proofs.Common.{arith}
use Rattle.ckd_outside.proofs.Lines.{flat_step, put_more, put_stopped, puts_stopped}
use Rattle.volume_file.specs.File.{track_part}
use Rattle.volume_file.proofs.writing.write_images.Goals as goal

pub returns-in_err-write_image-clause-bytes : goal.returns-in_err-write_image-clause-bytes
returns-in_err-write_image-clause-bytes g c =
    puts_stopped _ _ _ _ _ _ _ c.from_residual.ensures.1
    (put_stopped _ _ _ _ _ _ _ _ _ _ c.loop-image.invariant.0
    (flat_step track_part c.args.images.now c.loop-image.image-index c.image-item.result c.loop-image-test.true
    c.image-item.is) c.in_err-write_image.ensures.bytes)

pub loop-image-preserved : goal.loop-image-preserved
loop-image-preserved g c = (
  put_more _ _ _ _ _ _ _ _ _ _ c.loop-image.invariant.0
      (flat_step track_part c.args.images.now c.loop-image.image-index c.image-item.result c.loop-image-test.true
      c.image-item.is) c.in_ok-write_image.ensures.bytes,
  omega (arith, c.loop-image.invariant.1, c.in_ok-write_image.ensures.cause.later),
)
