use Rattle.std.proofs.Common.{◌≤◌, ℕ, List, ◌++◌, length, ◌∙◌, sym, ap, subst, arith}
use Rattle.ckd_types.specs.Track.{Fits}
use Rattle.ckd_types.specs.declared.geometry.Geometry.{Geometry}
use Rattle.track_image.specs.Image.{Image}
use Rattle.track_image.specs.Packed.{most_bytes}
use Rattle.track_image.proofs.TrackRooms.{track_is_read, track_is_held}
use Rattle.track_image.proofs.track_room.TrackRoom.assign.Goals as goal

pub invariant_of-self : goal.invariant_of-self
invariant_of-self c =
    let long = c.append.ensures.items ∙ ap (λ (xs : List ℕ). xs ++ c.bytes.result.now) c.truncate.ensures.items in
    let home = c.requires.home ∙ ap (λ (i : Image). i.track.home) (sym c.self.view_is) ∙ c.self.invariant.home in
    let geometry = c.requires.geometry ∙ ap (λ (i : Image). i.geometry) (sym c.self.view_is) in
    let fits = subst (λ (g : Geometry). Fits g c.args.from.now.track) geometry c.fits.ensures in
    track_is_held c.self.inside.geometry c.self.inside.track c.args.from.now.track c.append.new.bytes.items _ fits home
    (long ∙ c.bytes.ensures.value) (subst (λ (xs : List ℕ). length xs ≤ most_bytes) (sym long) c.bytes.ensures.most)
    (omega (arith, c.self.invariant.room, c.truncate.ensures.capacity, c.append.ensures.room))

pub returns : goal.returns
returns c =
    let long = c.append.ensures.items ∙ ap (λ (xs : List ℕ). xs ++ c.bytes.result.now) c.truncate.ensures.items in
    let home = c.requires.home ∙ ap (λ (i : Image). i.track.home) (sym c.self.view_is) ∙ c.self.invariant.home in
    let geometry = c.requires.geometry ∙ ap (λ (i : Image). i.geometry) (sym c.self.view_is) in
    let fits = subst (λ (g : Geometry). Fits g c.args.from.now.track) geometry c.fits.ensures in
    ap (λ t. record { geometry = c.self.inside.geometry; track = t })
    (track_is_read c.self.inside.geometry c.self.inside.track c.args.from.now.track c.append.new.bytes.items fits home
    (long ∙ c.bytes.ensures.value)) ∙ ap (λ g. record { geometry = g; track = c.args.from.now.track }) (sym geometry)
