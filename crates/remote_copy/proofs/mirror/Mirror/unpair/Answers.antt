use Rattle.std.proofs.Common.{Some, refl}
use Rattle.subsystem_core.specs.Ends.{Answers}
use Rattle.subsystem_defs.specs.Happening.{unpaired}
use Rattle.subsystem_defs.specs.Subsystem.{unfailing}
use Rattle.remote_copy.proofs.Fitting.{still_fits, still_here}
use Rattle.remote_copy.proofs.Mirrors.{unpair_mirrors, unpaired_all, unpaired_sitting}
use Rattle.remote_copy.proofs.mirror.Mirror.unpair.Goals as goal

pub invariant_of-self : goal.invariant_of-self
invariant_of-self g c =
    let old = c.args.self.now in
    let end = c.do_unpair in
    record {
      here = still_here old.sender old.sender old.sub.devices.items end.new.sub.devices.items old.here end.ensures.numbers refl;
      fits = still_fits old.sender.device old.sub.devices.items end.new.sub.devices.items old.sender.link old.sender.link old.here old.fits refl refl
          (unpaired_all old.sender.device old.sub end.new.sub c.args.a c.args.volume _ end.result end.ensures.unpaired end.ensures.lacked);
      within = old.within;
    }

pub returns-clause-mirrors : goal.returns-clause-mirrors
returns-clause-mirrors g c = λ s is fresh.
    let old = c.args.self.now in
    let end = c.do_unpair in
    unpair_mirrors old.sub end.new.sub old.sender s is old.here end.ensures.numbers
    (λ z. Answers (Some z) (unpaired s.run c.args.a unfailing).end) c.args.a end.result (end.ensures.own is.own)
    (unpaired_sitting old.sender.device old.sub end.new.sub c.args.a c.args.volume _ end.result end.ensures.unpaired)
    (end.ensures.happened s.run is.stands is.own fresh)
