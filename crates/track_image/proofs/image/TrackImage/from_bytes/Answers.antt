use Rattle.std.proofs.Common.{◌≡◌, ℕ, Result, Ok, sym, ap, subst, ◌∙◌, arith}
use Rattle.ckd_types.specs.declared.geometry.Cchh.{Cchh}
use Rattle.ckd_types.specs.declared.record.Track.{Track}
use Rattle.ckd_types.specs.Geometry.{cchh_of}
use Rattle.track_image.specs.Reading.{Gives, reading}
use Rattle.track_image.proofs.Tracks.{is_found, reading_again}
use Rattle.track_image.proofs.image.TrackImage.from_bytes.Goals as goal

pub returns-clause-found : goal.returns-clause-found
returns-clause-found c =
    let read = rw c.cchh_of.ensures at c.image_at.ensures.exact in
    is_found c.args.geometry (cchh_of c.args.track) c.args.bytes.now c.image_at.result
    (λ i. omega (arith, c.type_inv.bytes i)) read c.image_at.ensures.fits

pub returns-clause-only : goal.returns-clause-only
returns-clause-only c = λ t fits home e.
    let read : reading c.args.geometry c.cchh_of.result c.args.bytes.now ≡ Ok t =
    ap (λ (h : Cchh). reading c.args.geometry h c.args.bytes.now) (c.cchh_of.ensures ∙ sym home)
    ∙ ap (reading c.args.geometry t.home) e ∙ reading_again c.args.geometry t fits in
    subst (λ (f : Result Track ℕ). Gives (λ i. i.track) c.image_at.result f) read c.image_at.ensures.exact
