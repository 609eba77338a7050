use Rattle.std.proofs.Common.{Some, refl}
use Rattle.subsystem_core.specs.Ends.{Answers}
use Rattle.subsystem_defs.specs.Happening.{replaced}
use Rattle.subsystem_defs.specs.Subsystem.{unfailing}
use Rattle.remote_copy.proofs.Fitting.{still_fits, still_here}
use Rattle.remote_copy.proofs.Mirrors.{replace_mirrors, replaced_all, replaced_sitting}
use Rattle.remote_copy.proofs.mirror.Mirror.replace.Goals as goal

pub invariant_of-self : goal.invariant_of-self
invariant_of-self g c =
    let old = c.args.self.now in
    let end = c.do_replace in
    record {
      here = still_here old.sender old.sender old.sub.devices.items end.new.sub.devices.items old.here end.ensures.numbers refl;
      fits = still_fits old.sender.device old.sub.devices.items end.new.sub.devices.items old.sender.link old.sender.link old.here old.fits refl refl
          (replaced_all old.sender.device old.sub end.new.sub c.args.d c.args.side c.args.volume _ end.result end.ensures.had end.ensures.replaced);
      within = old.within;
    }

pub returns-clause-mirrors : goal.returns-clause-mirrors
returns-clause-mirrors g c = λ s is fresh.
    let old = c.args.self.now in
    let end = c.do_replace in
    replace_mirrors old.sub end.new.sub old.sender s is old.here end.ensures.numbers
    (λ z. Answers (Some z) (replaced s.run c.args.d c.args.side unfailing).end) c.args.d c.args.side end.result (end.ensures.own is.own)
    (replaced_sitting old.sender.device old.sub end.new.sub c.args.d c.args.side c.args.volume _ end.result end.ensures.replaced)
    (end.ensures.happened s.run is.stands is.own fresh)
