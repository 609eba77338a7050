use Rattle.std.proofs.Common.{◌<◌, ◌∙◌, arith, length, sym}
use Rattle.image_runner.proofs.Devices.{goes_on, is_there, none_left}
use Rattle.image_runner.proofs.top.has_device.Goals as goal

pub returns-then-eq : goal.returns-then-eq
returns-then-eq c =
    let ds = c.args.deck.now.devices in
    let inside : c.loop-i.i < length ds = omega (arith, c.loop-i-test.true, c.loop-i.invariant.count) in
    sym (c.loop-i.invariant.rest ∙ is_there c.args.d c.loop-i.i ds c.device_at.result inside c.device_at.ensures (sym c.eq.ensures ∙ c.if-eq.true))

pub loop-i-preserved : goal.loop-i-preserved
loop-i-preserved c =
    let ds = c.args.deck.now.devices in
    let inside : c.loop-i.i < length ds = omega (arith, c.loop-i-test.true, c.loop-i.invariant.count) in
    record {
      rest = c.loop-i.invariant.rest ∙ goes_on c.args.d c.loop-i.i ds c.device_at.result inside c.device_at.ensures (sym c.eq.ensures ∙ c.if-eq.false);
      count = c.loop-i.invariant.count;
    }

pub returns : goal.returns
returns c =
    sym (c.loop-i.invariant.rest ∙ none_left c.args.d c.loop-i.i c.args.deck.now.devices (omega (arith, c.loop-i-test.false, c.loop-i.invariant.count)))
