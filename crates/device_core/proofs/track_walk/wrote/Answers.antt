use Rattle.std.proofs.Common.{ap, refl}
use Rattle.ckd_chain.specs.State.{ChainState}
use Rattle.device_core.proofs.Halves.{is_written}
use Rattle.device_core.proofs.Stepping.{ready_behind}
use Rattle.device_core.proofs.track_walk.wrote.Goals as goal

pub returns-in-Whole-clause-left : goal.returns-in-Whole-clause-left
returns-in-Whole-clause-left c = record {
  cylinders_are = ap (λ (x : ChainState). x.fixed.cylinders) c.settle.ensures.chain;
  goes = ready_behind c.args.chain.now c.settle.new.self _ c.settle.result c.settle.ensures.end c.settle.ensures.chain;
}

pub returns-in-Opened-clause-left : goal.returns-in-Opened-clause-left
returns-in-Opened-clause-left c = record {
  cylinders_are = refl;
  goes = record {
    running = c.requires.running;
    begun = c.requires.begun;
    back = c.requires.back;
    written = is_written c.args.chain.now.stage c.requires.written;
  };
}
