use Rattle.std.proofs.Common.{◌≡◌, List, ◌++◌, ℕ, take, refl, ap, ◌∙◌}
use Rattle.ckd_types.specs.Track.{home_bytes, record_bytes, end_mark}
use Rattle.track_image.proofs.Places.{starts, unpacked_is}
use Rattle.track_image.proofs.Packs.{made_of, seen_as}
use Rattle.track_image.proofs.packed.Packed.one.Goals as goal

pub returns : goal.returns
returns c =
    let r = c.args.zero.now in
    let made = starts c.args.home r c.requires.ranges c.requires.key c.requires.body in
    let old : take 5 c.extend_from_slice.new.self.items ≡ home_bytes c.args.home =
    rw (c.in_ok-extend_from_slice.ensures.items, c.in_ok-bytes.ensures.items, c.home_area.ensures) refl in
    let bytes_are : c.end_with.new.bytes.items ≡ home_bytes c.args.home ++ (record_bytes r ++ end_mark) =
    c.end_with.ensures.items ∙ ap (λ (x : List ℕ). x ++ (record_bytes r ++ end_mark)) old in
    let changed = made_of c.args.home c.end_with.new.bytes.items c.in_ok-places.places.items _ _ _ bytes_are
    c.in_ok-places.ensures.items made in
    seen_as refl (unpacked_is c.args.home _ _ _ changed)
