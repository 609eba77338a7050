use Rattle.std.proofs.Common.{ℕ, ap, ◌∙◌, List}
use Rattle.std.specs.Prelude.{◌==◌, not}
use Rattle.std.specs.List.{filter}
use Rattle.plain_device.specs.declared.loose.LooseImage.{LooseImage}
use Rattle.plain_device.specs.Volume.{loose_of}
use Rattle.plain_device.proofs.Tracks.{loose_others}
use Rattle.plain_device.proofs.loose.take_out.Goals as goal

pub returns : goal.returns
returns c =
    let others = c.keep_others.ensures ∙ ap (λ (n : ℕ). filter (λ (l : LooseImage). not (l.track == n))
    c.args.loose.now.items) c.get.ensures.value in
    record {
      others = others;
      list = ap (λ (l : List LooseImage). loose_of l) others
          ∙ loose_others c.args.t c.args.loose.now.items;
    }
