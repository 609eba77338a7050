use Rattle.image_runner.proofs.top.run_top.Goals as goal

pub returns-in-None-clause-told : goal.returns-in-None-clause-told
returns-in-None-clause-told g c =
    rw c.in-None.ensures (c.usage.ensures.told (g.R.Rack.holds c.args.rack.now) (g.S.Source.left c.args.source.now))
