use Rattle.std.proofs.Common.{◌≡◌, ◌∙◌, Some, sym, ap, subst}
use Rattle.std.specs.Option.{option_copied}
use Rattle.std.specs.Prelude.{IfOk}
use Rattle.device_defs.specs.Contents.{patched_by, image_read}
use Rattle.device_defs.specs.Store.{patch_at}
use Rattle.device_store.specs.Looks.{applied_by}
use Rattle.device_store.specs.State.{state_of}
use Rattle.device_store.proofs.Looks.{patched_with, read_image}
use Rattle.device_store.proofs.Placed.{patched_of}
use Rattle.device_store.proofs.store.DeviceStore.image_of.Goals as goal

pub returns-in-Ok-clause-image : goal.returns-in-Ok-clause-image
returns-in-Ok-clause-image g c =
    let s = state_of c.args.self.now in
    let p = patch_at s c.args.t in
    let read : image_read s.geometry c.args.t c.args.self.now.buffer ≡ Some c.in-Ok.image =
    read_image _ _ _ _ (rw c.bytes.ensures.bytes at c.in-Ok.ensures.exact) c.in-Ok.ensures.place.0
    in
    let same : applied_by (option_copied c.get.result) c.in-Ok.image ≡ patched_by p (image_read s.geometry c.args.t c.args.self.now.buffer) =
    ap (λ v. applied_by v c.in-Ok.image) c.get.ensures ∙ sym (patched_with p c.in-Ok.image) ∙ ap (λ r. patched_by p r) (sym read)
    in
    subst (λ x. IfOk c.patched.result (λ i. i ≡ x)) same c.patched.ensures

pub returns-in-Ok-clause-of : goal.returns-in-Ok-clause-of
returns-in-Ok-clause-of g c =
    patched_of c.args.self.now.geometry c.args.t (option_copied c.get.result) c.in-Ok.image c.patched.result c.in-Ok.ensures.place c.patched.ensures
