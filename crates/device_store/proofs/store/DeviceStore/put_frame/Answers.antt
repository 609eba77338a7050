use Rattle.std.proofs.Common.{◌<◌, None, ap, sym, subst}
use Rattle.std.specs.Prelude.{is_some}
use Rattle.std.proofs.lemmas.List.{get_or-set_same}
use Rattle.device_defs.specs.Contents.{contents}
use Rattle.device_defs.specs.Losses.{framed_image}
use Rattle.device_store.specs.State.{state_of}
use Rattle.device_store.proofs.store.DeviceStore.put_frame.Goals as goal

pub returns-clause-there : goal.returns-clause-there
returns-clause-there g c =
    rw c.set.ensures (ap is_some (get_or-set_same c.args.self.now.frames c.args.t _ None
    (subst (λ n. c.args.t < n) (sym c.args.self.now.frame_of_each) c.requires.track)))

pub returns-clause-image : goal.returns-clause-image
returns-clause-image g c =
    rw c.set.ensures (ap (λ f. framed_image contents (state_of c.args.self.now) c.args.t f)
    (get_or-set_same c.args.self.now.frames c.args.t _ None (subst (λ n. c.args.t < n) (sym c.args.self.now.frame_of_each) c.requires.track)))
