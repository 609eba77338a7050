use Rattle.std.proofs.Common.{subst}
use Rattle.device_store.specs.declared.store.Peeked.{Peeked}
use Rattle.device_store.specs.Looks.{peeked_by}
use Rattle.device_store.specs.State.{state_of}
use Rattle.remote_copy.specs.Copies.{IsImageFound}
use Rattle.remote_copy.proofs.Fitting.{far_image}
use Rattle.remote_copy.proofs.copying.put_found.Goals as goal

pub put_copy-requires : goal.put_copy-requires
put_copy-requires g c =
    far_image c.args.sender.now.link c.args.device.now c.args.t c.frame_image.result.now c.requires.fits c.requires.track c.frame_image.ensures.of

pub put_copy-requires-in-Track : goal.put_copy-requires-in-Track
put_copy-requires-in-Track g c =
    let store = c.args.device.now.store in
    far_image c.args.sender.now.link c.args.device.now c.args.t c.in-Track.image c.requires.fits c.requires.track
    (subst (λ (p : Peeked). IsImageFound store.geometry c.args.t (peeked_by (state_of store) c.args.t p)) c.in-Track.is c.requires.image)
