use Rattle.std.proofs.Common.{subst}
use Rattle.ckd_chain.specs.State.{ChainState}
use Rattle.plain_device.specs.Between.{ComesTo}
use Rattle.plain_device.specs.Looking.{stage_effect}
use Rattle.plain_device.proofs.Opened.{opened_ends}
use Rattle.plain_device.proofs.device.PlainDevice.attempt.Goals as goal

pub returns : goal.returns
returns c = record {
  done = opened_ends c.args.self.now c.args.path c.args.chain.now c.go_on.new.chain c.in_ok-done.done
      c.requires.between
      (subst (λ (s : ChainState). ComesTo s c.go_on.new.chain c.in_ok-done.done
      (stage_effect c.args.self.now c.args.path s s.stage)) c.need-need.ensures.chain c.in_ok-done.ensures.ends);
  fits = c.in_ok-done.ensures.fits;
}
