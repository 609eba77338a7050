use Rattle.std.proofs.Common.{ℕ, arith, ap, ◌∙◌}
use Rattle.std.proofs.lemmas.Grind.{common_steps}
use Rattle.ckd_types.specs.Track.{empty_track}
use Rattle.plain_device.proofs.Tracks.{images_more}
use Rattle.plain_device.proofs.volume.Images.empty.Goals as goal

pub loop-n-preserved : goal.loop-n-preserved
loop-n-preserved c =
    images_more c.args.geometry c.loop-n.images.items c.push.new.self.items c.loop-n.n c.in_ok-image.image
    c.in_ok-push.ensures.items
    (c.in_ok-image.ensures ∙ ap (λ (n : ℕ). record { geometry = c.args.geometry; track = empty_track n })
    (grind (arith, common_steps)))
    c.loop-n.invariant.0 c.loop-n.invariant.1 c.loop-n.invariant.2
