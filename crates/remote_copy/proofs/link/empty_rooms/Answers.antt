use Rattle.std.proofs.Common.{◌≡◌, arith, ap, ◌∙◌}
use Rattle.std.proofs.lemmas.Grind.{common_steps}
use Rattle.volume_file.specs.File.{empty_image}
use Rattle.volume_file.proofs.EmptyImages.{images_more}
use Rattle.remote_copy.proofs.link.empty_rooms.Goals as goal

pub loop-n-preserved : goal.loop-n-preserved
loop-n-preserved c =
    let g = c.args.geometry in
    let is : c.in_ok-room.room ≡ empty_image g c.loop-n.n = c.in_ok-room.ensures ∙ ap (empty_image g) (grind (arith, common_steps)) in
    images_more g c.loop-n.rooms.items c.push.new.self.items c.loop-n.n c.in_ok-room.room c.in_ok-push.ensures.items is c.loop-n.invariant
