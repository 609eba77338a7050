use Rattle.std.proofs.Common.{◌≡◌, ◌<◌, length, ap, sym, subst, ◌∙◌}
use Rattle.volume_file.specs.File.{ImageVolume}
use Rattle.volume_file.proofs.EmptyImages.{set_has_all}
use Rattle.volume_file.proofs.volume.DeviceVolume.set.Goals as goal

pub invariant_of-self : goal.invariant_of-self
invariant_of-self c =
    let t : c.from.result ≡ c.args.t = c.from.ensures ∙ c.get.ensures.value in
    let v : ImageVolume = record { geometry = c.self.inside.geometry; cylinders = c.self.inside.cylinders; images = c.self.inside.images.items } in
    rw t (set_has_all v c.args.t c.args.image c.self.invariant
    (subst (λ (w : ImageVolume). c.args.t < length w.images) (sym c.self.view_is) c.requires.track)
    (record { fits = c.fits.ensures; model = c.requires.model ∙ ap (λ (w : ImageVolume). w.geometry) (sym c.self.view_is); home = c.requires.home }))
