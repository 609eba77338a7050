use Rattle.std.proofs.Common.{◌≤◌, ℕ, List, ◌++◌, length, ◌∙◌, sym, ap, subst, refl, arith}
use Rattle.ckd_types.specs.Track.{Fits, empty_track, track_bytes}
use Rattle.track_image.specs.Image.{Image}
use Rattle.track_image.specs.Packed.{most_bytes}
use Rattle.track_image.proofs.TrackRooms.{track_is_read, track_is_held}
use Rattle.track_image.proofs.track_room.TrackRoom.with_room.Goals as goal

pub invariant_of-result : goal.invariant_of-result
invariant_of-result c =
    let long = c.append.ensures.items
    ∙ ap (λ (xs : List ℕ). xs ++ c.bytes.result.now) c.in_ok-bytes.ensures.items in
    let spelled = long ∙ c.bytes.ensures.value ∙ ap (λ (i : Image). track_bytes i.track) c.in_ok-image.ensures in
    let fits = subst (λ (i : Image). Fits i.geometry i.track) c.in_ok-image.ensures c.fits.ensures in
    track_is_held c.args.geometry c.args.track (empty_track c.args.track) c.append.new.bytes.items _ fits refl spelled
    (subst (λ (xs : List ℕ). length xs ≤ most_bytes) (sym long) c.bytes.ensures.most)
    (omega (arith, c.in_ok-bytes.ensures.capacity, c.append.ensures.room))

pub returns : goal.returns
returns c =
    let long = c.append.ensures.items
    ∙ ap (λ (xs : List ℕ). xs ++ c.bytes.result.now) c.in_ok-bytes.ensures.items in
    let spelled = long ∙ c.bytes.ensures.value ∙ ap (λ (i : Image). track_bytes i.track) c.in_ok-image.ensures in
    let fits = subst (λ (i : Image). Fits i.geometry i.track) c.in_ok-image.ensures c.fits.ensures in
    ap (λ t. record { geometry = c.args.geometry; track = t })
    (track_is_read c.args.geometry c.args.track (empty_track c.args.track) c.append.new.bytes.items fits refl spelled)
