use Rattle.std.proofs.Common.{ℕ, ◌*◌, List, Option, sym, subst}
use Rattle.disk_image.specs.Image.{HasEmpty}
use Rattle.image_tool.proofs.storing.create_whole.Goals as goal

pub returns-clause-made : goal.returns-clause-made
returns-clause-made g c =
    subst (λ (h : Option (List ℕ)). HasEmpty c.args.geometry (c.args.cylinders * 15) h) (sym c.in_ok-sync.ensures.same) c.in_ok-create.ensures.made
