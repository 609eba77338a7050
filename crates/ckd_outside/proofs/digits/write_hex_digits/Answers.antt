use Rattle.std.proofs.Common.{◌∙◌, ◌+◌, ◌*◌, slice_set, arith}
use Rattle.std.proofs.lemmas.List.{length-set}
use Rattle.hex.proofs.Pairs.{encode_step, encode_done}
use Rattle.hex.specs.Hex.{upper_digits}
use Rattle.ckd_outside.proofs.Blocks.{block_step}
use Rattle.ckd_outside.proofs.digits.write_hex_digits.Goals as goal

pub blocks-2-preserved : goal.blocks-2-preserved
blocks-2-preserved c = (
  omega (arith, c.blocks-2-test.true),
  c.write_block.ensures.long ∙ c.blocks-2.invariant.1,
  block_step c.args.bytes.now c.blocks-2.out c.write_block.new.out c.blocks-2.i c.write_block.ensures.text c.blocks-2.invariant.2,
)

pub bytes-preserved : goal.bytes-preserved
bytes-preserved c =
    let one = slice_set c.bytes.out (2 * c.bytes.i) c.digit_of.result in (
      omega arith,
      length-set one (2 * c.bytes.i + 1) c.digit_of-in-bytes.result ∙ length-set c.bytes.out (2 * c.bytes.i) c.digit_of.result ∙ c.bytes.invariant.1,
      encode_step upper_digits c.args.bytes.now c.bytes.out c.bytes.i _ _ (omega arith)
          (omega (arith, c.bytes.invariant.1)) c.digit_of.ensures c.digit_of-in-bytes.ensures c.bytes.invariant.2,
    )

pub returns : goal.returns
returns c =
    encode_done upper_digits c.args.bytes.now c.bytes.out c.bytes.i (omega arith) c.bytes.invariant.1 c.bytes.invariant.2
