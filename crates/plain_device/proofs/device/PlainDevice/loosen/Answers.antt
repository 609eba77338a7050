use Rattle.std.proofs.Common.{◌<◌, ◌*◌, List, [], ◌∷◌, ◌++◌, ap, sym, subst, ◌∙◌}
use Rattle.std.specs.Prelude.{All}
use Rattle.plain_defs.specs.PlainState.{PlainState}
use Rattle.plain_device.specs.declared.loose.LooseImage.{LooseImage}
use Rattle.plain_device.specs.Volume.{IsLooseOf}
use Rattle.plain_device.proofs.Tracks.{loose_more}
use Rattle.plain_device.proofs.device.PlainDevice.loosen.Goals as goal
use Rattle.track_image.specs.Image.{Image}

pub invariant_of-self-2 : goal.invariant_of-self-2
invariant_of-self-2 c =
    let model = c.in_ok-image.ensures ∙ c.image.ensures in (
      c.self.invariant.0,
      c.self.invariant.1,
      subst (All (IsLooseOf c.self.inside.fixed.geometry (c.self.inside.fixed.cylinders * 15)))
          (sym (c.push_reserved.ensures.items ∙ ap (λ (l : List LooseImage). l
          ++ record { track = c.args.t; image = c.in_ok-image.image } ∷ []) c.in_ok-reserve.ensures.items))
          (loose_more c.self.inside.fixed.geometry (c.self.inside.fixed.cylinders * 15) c.self.inside.loose.items
          (record { track = c.args.t; image = c.in_ok-image.image }) c.self.invariant.2
          (ap (λ (i : Image). i.geometry) model ∙ c.self.invariant.0)
          (subst (λ (d : PlainState). c.args.t < d.cylinders * 15) (sym c.self.view_is) c.requires)),
    )
