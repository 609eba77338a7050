use Rattle.std.proofs.Common.{refl, arith}
use Rattle.disk_image.proofs.Steps.{ends_here, no_more, none_left, stepped}
use Rattle.disk_image.proofs.ending.end_in.Goals as goal

pub loop-steps-init : goal.loop-steps-init
loop-steps-init c = (refl, omega arith)

pub returns-then-room-at-clause-value : goal.returns-then-room-at-clause-value
returns-then-room-at-clause-value c = none_left _ _ _ c.loop-steps.invariant.0 c.if-room-at.true

pub returns-then-starts_with-clause-value : goal.returns-then-starts_with-clause-value
returns-then-starts_with-clause-value c =
    ends_here _ _ _ _ _ c.loop-steps.invariant.0 c.loop-steps-test.true (omega (arith, c.if-room-at.false)) c.split_at.ensures.back
    c.if-starts_with.ensures.value refl

pub loop-steps-preserved : goal.loop-steps-preserved
loop-steps-preserved c = (
  stepped _ _ _ _ _ _ c.loop-steps.invariant.0 c.loop-steps-test.true (omega (arith, c.if-room-at.false)) c.split_at.ensures.back
      c.if-starts_with.ensures.value refl c.record_size-at.ensures.size,
  omega (arith, c.if-room-at.false, c.requires, c.record_size-at.ensures.range),
)

pub returns-clause-value : goal.returns-clause-value
returns-clause-value c = no_more _ _ _ c.loop-steps.invariant.0 c.loop-steps-test.false
