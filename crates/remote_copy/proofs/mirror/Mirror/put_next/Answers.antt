use Rattle.std.proofs.Common.{◌∙◌, ap, refl, sym}
use Rattle.subsystem_core.specs.Devices.{device_at}
use Rattle.remote_copy.proofs.Copied.{put_fits, put_follows, put_within}
use Rattle.remote_copy.proofs.Fitting.{still_here}
use Rattle.remote_copy.proofs.mirror.Mirror.put_next.Goals as goal

pub returns-clause-follows : goal.returns-clause-follows
returns-clause-follows g c =
    let old = c.args.self.now in
    put_follows c.args.t old.sub old.sender c.put_found.new.sender c.device.result.now c.args.peeked c.put_found.result
    (ap (device_at old.sub.devices.items) (sym c.device-d.ensures) ∙ c.device.ensures) old.fits c.requires.found c.put_found.ensures

pub invariant_of-self : goal.invariant_of-self
invariant_of-self g c =
    let old = c.args.self.now in
    let at = ap (device_at old.sub.devices.items) (sym c.device-d.ensures) ∙ c.device.ensures in
    record {
      here = still_here old.sender c.put_found.new.sender old.sub.devices.items old.sub.devices.items old.here refl
          (put_follows c.args.t old.sub old.sender c.put_found.new.sender c.device.result.now c.args.peeked c.put_found.result at old.fits c.requires.found
          c.put_found.ensures).device;
      fits = put_fits c.args.t old.sub old.sender c.put_found.new.sender c.device.result.now c.args.peeked c.put_found.result at old.fits c.requires.found
          c.put_found.ensures old.here;
      within = put_within c.args.t old.sub old.sender c.put_found.new.sender c.device.result.now c.args.peeked c.put_found.result at old.fits
          c.requires.found c.put_found.ensures old.within;
    }
