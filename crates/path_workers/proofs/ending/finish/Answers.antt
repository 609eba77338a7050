use Rattle.path_workers.proofs.ending.finish.Goals as goal

pub loop-preserved : goal.loop-preserved
loop-preserved g c = (tt, tt, λ first p k. c.in_ok-next_event.ensures.stays first p (c.loop.invariant.2 first p k))
