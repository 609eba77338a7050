use Rattle.std.proofs.Common.{sym, subst}
use Rattle.std.specs.Prelude.{◌==◌, ◌*◌, not, All}
use Rattle.std.proofs.lemmas.List.Elements.{All-filter}
use Rattle.plain_device.specs.declared.loose.LooseImage.{LooseImage}
use Rattle.plain_device.specs.Volume.{IsLooseOf}
use Rattle.plain_device.proofs.device.PlainDevice.harden.Goals as goal

pub invariant_of-self : goal.invariant_of-self
invariant_of-self c =
    let holds = IsLooseOf c.self.inside.fixed.geometry (c.self.inside.fixed.cylinders * 15) in (
      c.self.invariant.0,
      c.self.invariant.1,
      subst (All holds) (sym c.take_out.ensures.others)
          (All-filter (λ (l : LooseImage). not (l.track == c.args.t)) holds c.self.inside.loose.items
          c.self.invariant.2),
    )
