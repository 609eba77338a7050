use Rattle.std.proofs.Common.{◌≡◌, ◌≤◌, ◌<◌, ◌∙◌, ℕ, length, arith, below_more, refl, sym, ap, subst}
use Rattle.std.proofs.lemmas.Grind.{common_steps}
use Rattle.ckd_types.specs.Geometry.{cchh_of}
use Rattle.ckd_types.specs.Track.{Fits}
use Rattle.ckd_types.specs.Volume.{track_in}
use Rattle.track_image.specs.Image.{Image}
use Rattle.volume_file.specs.File.{IsPlaced}
use Rattle.copy_tool.proofs.LinkVolumes.{all_images, images_on, whole_so}
use Rattle.copy_tool.proofs.far.link_volume.Goals as goal

pub loop-n-preserved : goal.loop-n-preserved
loop-n-preserved c =
    let v = c.args.link.now in
    let at : c.unwrap-t.result ≡ c.loop-n.n = grind (arith, common_steps) in
    let held : c.track-room.result.now ≡ record { geometry = v.geometry; track = track_in v.tracks c.loop-n.n } =
    c.track-room.ensures.value ∙ ap (λ (t : ℕ). record { geometry = v.geometry; track = track_in v.tracks t }) at in
    let is : c.in_ok-image.image ≡ record { geometry = v.geometry; track = track_in v.tracks c.loop-n.n } = c.in_ok-image.ensures ∙ held in
    let inside : c.loop-n.n < length v.tracks = omega (arith, c.loop-n-test.true, c.requires.tracks) in
    record {
      images = images_on v.geometry v.tracks c.loop-n.n c.loop-n.images.items c.push.new.self.items c.in_ok-image.image inside
          c.in_ok-push.ensures.items is c.loop-n.invariant.images;
      placed = below_more (λ t. IsPlaced v.geometry t (record { geometry = v.geometry; track = track_in v.tracks t })) _ c.loop-n.invariant.placed
          (record {
            fits = subst (λ (i : Image). Fits i.geometry i.track) is c.fits.ensures;
            model = refl;
            home = ap (λ (i : Image). i.track.home) (sym held) ∙ c.track-room.ensures.of.1 ∙ ap cchh_of at;
          });
    }

pub of-requires : goal.of-requires
of-requires c =
    let v = c.args.link.now in
    let past : length v.tracks ≤ c.loop-n.n = omega (arith, c.loop-n-test.false, c.requires.tracks) in
    rw c.geometry.ensures
    (whole_so v.geometry v.tracks c.args.cylinders c.loop-n.images.items c.requires.least c.requires.most c.requires.tracks
    (all_images v.geometry v.tracks c.loop-n.n c.loop-n.images.items past c.loop-n.invariant.images)
    (λ t lt. c.loop-n.invariant.placed t (omega (arith, lt, c.requires.tracks))))
