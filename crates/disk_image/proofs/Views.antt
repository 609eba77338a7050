-- A read and a write of a track, as a volume has them.
use Rattle.std.proofs.Common.{
  ◌≡◌,
  ◌≢◌,
  ℕ,
  ◌+◌,
  ◌*◌,
  ◌≤◌,
  ◌<◌,
  Bool,
  true,
  false,
  min,
  List,
  [],
  length,
  take,
  get_or,
  set,
  Option,
  Some,
  None,
  Result,
  Ok,
  Err,
  refl,
  sym,
  ap,
  subst,
  ◌∙◌,
  arith,
}
use Rattle.std.specs.Prelude.{is_ok}
use Rattle.std.proofs.lemmas.List.{length-take, set-get_or}
use Rattle.std.proofs.lemmas.List.FromFn.{length-map-range_with_len, get_or-map-range_with_len}
use Rattle.device_outside.specs.Volume.{ReadOf, WriteOf, Stores, Delivers, counted}
use Rattle.disk_image.specs.Calls.{IsRoom, PutsAll, patched}
use Rattle.disk_image.specs.File.{fits_room, padded, place_of, room_size, track_in, track_in_room, tracks_in}
use Rattle.disk_image.specs.declared.layout.Layout.{Layout}
use Rattle.disk_image.specs.Image.{ImageState, IsLayoutOf, Left, held_tracks, image_view}
use Rattle.disk_image.proofs.Tracks.{comes_back, fits_within, inside, padded_length, put_size, put_tracks, room_put}

delivers : (held : Option (List ℕ)) (l : Layout) (t : ℕ) (room bytes : List ℕ) → t < l.cylinders * 15 → IsRoom held l.geometry t room
    → bytes ≡ track_in_room room → Delivers (held_tracks l held) t (Some bytes)
delivers None l t room bytes less is same = tt
delivers (Some all) l t room bytes less is same =
    let many = length-map-range_with_len (track_in l.geometry all) 0 (l.cylinders * 15) in
    let here = get_or-map-range_with_len (track_in l.geometry all) 0 (l.cylinders * 15) t t bytes less (omega arith) in
    (subst (λ (n : ℕ). t < n) (sym many) less, same ∙ sym (ap track_in_room is) ∙ sym here)

no_delivery : (held : Option (List ℕ)) (l : Layout) (t : ℕ) → Delivers (held_tracks l held) t None
no_delivery None l t = tt
no_delivery (Some all) l t = tt

-- a read that didn't fail
pub read_ok : (s n : ImageState) (t : ℕ) (room bytes : List ℕ) → t < s.layout.cylinders * 15 → IsRoom s.held s.layout.geometry t room
    → bytes ≡ track_in_room room → n ≡ record s { delivered = Some bytes; reads = counted s.reads }
    → ReadOf (image_view s) t (Some bytes) (image_view n)
read_ok s n t room bytes less is same new =
    subst (λ (x : ImageState). ReadOf (image_view s) t (Some bytes) (image_view x)) (sym new)
    (record { delivers = delivers s.held s.layout t room bytes less is same; planned = tt; spent = tt; after = refl })

pub read_failed : (s n : ImageState) (t : ℕ) → n ≡ record s { reads = counted s.reads; faults = counted s.faults }
    → ReadOf (image_view s) t None (image_view n)
read_failed s n t new =
    subst (λ (x : ImageState). ReadOf (image_view s) t None (image_view x)) (sym new)
    (record { delivers = no_delivery s.held s.layout t; planned = tt; spent = tt; after = refl })

-- a whole room was written, or a front of it
pub room_written : (l : Layout) (old new : Option (List ℕ)) (t : ℕ) (bytes room : List ℕ) (E : Type 0) (x : Unit {0}) → IsLayoutOf old l
    → t < l.cylinders * 15
    → length room ≡ room_size l.geometry → track_in_room room ≡ bytes
    → (let r : Result (Unit {0}) E = Ok x in PutsAll old (place_of l.geometry t) room r new) → Left l old t bytes true new
room_written l None new t bytes room E x is less size same put = rw put (record { stores = refl; layout = is })
room_written l (Some all) new t bytes room E x is less size same put =
    let g = l.geometry in
    let made = patched all (place_of g t) room in
    let back : track_in g made t ≡ bytes = ap track_in_room (room_put g all t room size put.0) ∙ same in
    let held : tracks_in g l.cylinders made ≡ set (tracks_in g l.cylinders all) t bytes =
    put_tracks g l.cylinders all t room less is.sized (omega (arith, size))
    ∙ ap (λ (x : List ℕ). set (tracks_in g l.cylinders all) t x) back in
    let long = put_size g l.cylinders all t room less is.sized (omega (arith, size)) in
    rw put.1 (record { stores = ap Some held; layout = record { least = is.least; most = is.most; sized = long } })

short_front : (n m : ℕ) (room : List ℕ) → length room ≡ m → length (take n room) ≤ m
short_front n m room size = omega (arith, length-take n room, size)

pub front_written : (l : Layout) (old new : Option (List ℕ)) (t : ℕ) (bytes room : List ℕ) (E : Type 0) (e : E) → IsLayoutOf old l
    → t < l.cylinders * 15
    → length room ≡ room_size l.geometry
    → (let r : Result (Unit {0}) E = Err e in PutsAll old (place_of l.geometry t) room r new) → Left l old t bytes false new
front_written l None new t bytes room E e is less size put = rw put (record { stores = refl; layout = is })
front_written l (Some all) new t bytes room E e is less size put =
    let g = l.geometry in
    let piece = take put.0 room in
    let made = patched all (place_of g t) piece in
    let held = put_tracks g l.cylinders all t piece less is.sized (short_front put.0 (room_size g) room size) in
    let long = put_size g l.cylinders all t piece less is.sized (short_front put.0 (room_size g) room size) in
    rw put.1.0 (record { stores = (track_in g made t, ap Some held); layout = record { least = is.least; most = is.most; sized = long } })

same_set : (xs : List (List ℕ)) (t : ℕ) → (x : List ℕ) × (let now : Option (List (List ℕ)) = Some xs in now ≡ Some (set xs t x))
same_set xs t = (get_or xs t [], ap Some (sym (set-get_or xs t [])))

-- nothing was written
pub none_written : (l : Layout) (old : Option (List ℕ)) (t : ℕ) (bytes : List ℕ) → IsLayoutOf old l → Left l old t bytes false old
none_written l None t bytes is = record { stores = refl; layout = is }
none_written l (Some all) t bytes is = record { stores = same_set (tracks_in l.geometry l.cylinders all) t; layout = is }

pub write_of : (s n : ImageState) (t : ℕ) (bytes : List ℕ) (held : Option (List ℕ)) → Left s.layout s.held t bytes true held
    → n ≡ record s { held = held; writes = counted s.writes }
    → WriteOf (image_view s) t bytes true (image_view n)
write_of s n t bytes held left new =
    subst (λ (x : ImageState). WriteOf (image_view s) t bytes true (image_view x)) (sym new)
    (record { stores = left.stores; planned = tt; spent = tt; after = refl })

pub write_failed : (s n : ImageState) (t : ℕ) (bytes : List ℕ) (held : Option (List ℕ)) → Left s.layout s.held t bytes false held
    → n ≡ record s { held = held; writes = counted s.writes; faults = counted s.faults }
    → WriteOf (image_view s) t bytes false (image_view n)
write_failed s n t bytes held left new =
    subst (λ (x : ImageState). WriteOf (image_view s) t bytes false (image_view x)) (sym new)
    (record { stores = left.stores; planned = tt; spent = tt; after = refl })

-- a write of a room ended
pub written : (l : Layout) (old new : Option (List ℕ)) (t : ℕ) (bytes room : List ℕ) (E : Type 0) (r : Result (Unit {0}) E) → IsLayoutOf old l
    → t < l.cylinders * 15
    → length room ≡ room_size l.geometry → track_in_room room ≡ bytes
    → PutsAll old (place_of l.geometry t) room r new → Left l old t bytes (is_ok r) new
written l old new t bytes room E (Ok x) is less size same put = room_written l old new t bytes room E x is less size same put
written l old new t bytes room E (Err e) is less size same put = front_written l old new t bytes room E e is less size put

-- what was put into a room comes back from it
pub set_back : (room new bytes : List ℕ) (b : Bool) → b ≡ fits_room (length room) bytes → (b ≡ true → new ≡ padded (length room) bytes) → b ≡ true
    → track_in_room new ≡ bytes
set_back room new bytes b test is passed = ap track_in_room (is passed) ∙ comes_back (length room) bytes (sym test ∙ passed)

-- a read that didn't fail, where the room holds what the file holds
pub read_here : (s old : ImageState) (held : Option (List ℕ)) (reads t : ℕ) (room bytes into : List ℕ) → s ≡ old → t < old.layout.cylinders * 15
    → held ≡ s.held → IsRoom s.held s.layout.geometry t room → bytes ≡ track_in_room room → into ≡ bytes → reads ≡ counted s.reads
    → ReadOf (image_view old) t (Some into) (image_view (record s { held = held; delivered = Some bytes; reads = reads }))
read_here s old held reads t room bytes into is less held_is room_is same into_is reads_is =
    let n : ImageState = record s { held = held; delivered = Some bytes; reads = reads } in
    let here : t < s.layout.cylinders * 15 = subst (λ (x : ImageState). t < x.layout.cylinders * 15) (sym is) less in
    let made : n ≡ record s { delivered = Some bytes; reads = counted s.reads } = rw (held_is, reads_is) refl in
    subst (λ (x : ImageState). ReadOf (image_view x) t (Some into) (image_view n)) is
    (subst (λ (b : List ℕ). ReadOf (image_view s) t (Some b) (image_view n)) (sym into_is) (read_ok s n t room bytes here room_is same made))
