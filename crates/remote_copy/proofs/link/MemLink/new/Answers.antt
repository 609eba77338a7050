use Rattle.std.proofs.Common.{◌≡◌, ◌∙◌, List, rules, sym, ap, subst}
use Rattle.ckd_types.specs.Volume.{empty_volume}
use Rattle.track_image.specs.Image.{Image}
use Rattle.remote_copy.specs.FarVolume.{AreFarImages}
use Rattle.remote_copy.proofs.FarImages.{empty_are, empty_tracks, tracks_of}
use Rattle.remote_copy.proofs.link.MemLink.new.Goals as goal

pub invariant_of-result : goal.invariant_of-result
invariant_of-result c =
    subst (λ (l : List Image). AreFarImages c.args.geometry l) (sym c.in_ok-rooms.ensures) (empty_are c.args.geometry c.args.cylinders)

pub returns : goal.returns
returns c =
    let tracks : tracks_of c.in_ok-rooms.rooms.items ≡ empty_volume c.args.cylinders =
    ap tracks_of c.in_ok-rooms.ensures ∙ empty_tracks c.args.geometry c.args.cylinders in
    let failing : c.in_ok-failing.failing.items ≡ c.args.fail.now = search rules in
    rw (tracks, failing)
