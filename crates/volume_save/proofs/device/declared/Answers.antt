use Rattle.std.proofs.Common.{◌≡◌, ◌<◌, ◌∙◌, arith, length, sym}
use Rattle.volume_save.proofs.Devices.{goes_on, is_there, none_left}
use Rattle.volume_save.proofs.device.declared.Goals as goal

pub returns-then-from-n-clause-some : goal.returns-then-from-n-clause-some
returns-then-from-n-clause-some c =
    let ds = c.args.deck.now.devices in
    let same : c.device_at-line.result.number ≡ c.args.n = sym (c.from.ensures ∙ c.get.ensures.value) ∙ c.if-from-n.true in
    let inside : c.loop-i.i < length ds = omega (arith, c.loop-i-test.true, c.loop-i.invariant.count) in
    (same, c.loop-i.invariant.rest ∙ is_there c.args.n c.loop-i.i ds c.device_at-line.result inside c.device_at-line.ensures same)

pub loop-i-preserved : goal.loop-i-preserved
loop-i-preserved c =
    let ds = c.args.deck.now.devices in
    let inside : c.loop-i.i < length ds = omega (arith, c.loop-i-test.true, c.loop-i.invariant.count) in
    record {
      rest = c.loop-i.invariant.rest
          ∙ goes_on c.args.n c.loop-i.i ds c.device_at-line.result inside c.device_at-line.ensures
          (λ e. c.if-from-n.false (c.from.ensures ∙ c.get.ensures.value ∙ e));
      count = c.loop-i.invariant.count;
    }

pub returns-clause-none : goal.returns-clause-none
returns-clause-none c = λ none.
    c.loop-i.invariant.rest
    ∙ none_left c.args.n c.loop-i.i c.args.deck.now.devices (omega (arith, c.loop-i-test.false, c.loop-i.invariant.count))
