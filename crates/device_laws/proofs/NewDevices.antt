-- A new device is in order.
use Rattle.std.proofs.Common.{
  ◌≡◌,
  ◌<◌,
  ◌≤◌,
  ◌*◌,
  ℕ,
  zero,
  suc,
  Bool,
  true,
  false,
  List,
  [],
  ◌∷◌,
  length,
  map,
  Option,
  Some,
  None,
  get_or,
  refl,
  sym,
  ap,
  ◌∙◌,
  arith,
}
use Rattle.std.specs.Prelude.{replicate, option_map}
use Rattle.std.specs.List.{range_with_len}
use Rattle.std.proofs.lemmas.List.{get_or-map, length-map, length-replicate}
use Rattle.ckd_types.specs.declared.geometry.Geometry.{Geometry}
use Rattle.ckd_types.specs.declared.paths.Side.{Side}
use Rattle.ckd_types.specs.declared.paths.Side.TheVariants.{A, B}
use Rattle.ckd_types.specs.declared.record.Track.{Track}
use Rattle.ckd_types.specs.Track.{empty_track, track_bytes}
use Rattle.ckd_types.specs.Volume.{IsVolume, empty_volume, track_in}
use Rattle.track_image.specs.Image.{Image}
use Rattle.track_image.specs.Reading.{reading}
use Rattle.track_image.proofs.Tracks.{reading_again}
use Rattle.track_cache.specs.declared.frames.Frame.{Frame}
use Rattle.track_table.proofs.Places.{empty_places}
use Rattle.nv_store.specs.declared.patches.Stored.{Stored}
use Rattle.plain_device.proofs.Wholes.{volume_empty}
use Rattle.device_outside.specs.Disk.{empty_contents, empty_bytes}
use Rattle.device_outside.specs.After.{holds_of}
use Rattle.device_defs.specs.declared.owed.Owed.{Owed}
use Rattle.device_defs.specs.Between.{HasSizes}
use Rattle.device_defs.specs.Contents.{contents, image_with, image_read, patched_by}
use Rattle.device_defs.specs.Marks.{new_store, marks_of, frame_mark, patch_mark, owed_mark}
use Rattle.device_defs.specs.Sound.{DeviceStore, IsHeld, has_sound_marks}
use Rattle.device_defs.specs.Store.{tracks_of, side_of, frame_at, patch_at, is_lost, owed_at, no_debt}
use Rattle.device_laws.specs.Agrees.{Held, image_in, slot_at, HasSlots, IsGround}
use Rattle.device_laws.specs.InOrder.{IsInOrder}
use Rattle.device_laws.specs.NewDevice.{new_contents, store_on, volume_contents}
use Rattle.device_laws.proofs.TrackContents as T
use Rattle.device_laws.proofs.TrackContents.{TrackContents, contents_at, Keeps, IsRight, right_by}

map_replicate : {X Y : Type 0} (f : X → Y) (n : ℕ) (x : X) → map f (replicate n x) ≡ replicate n (f x)
map_replicate f zero x = refl
map_replicate f (suc n) x = ap (λ l. f x ∷ l) (map_replicate f n x)

pub unpatched : (o : Option Image) → patched_by None o ≡ o
unpatched None = refl
unpatched (Some i) = refl

-- empty tracks have the bytes of an empty volume
empty_each : (l : List ℕ) → map empty_bytes l ≡ map track_bytes (map empty_track l)
unfolding empty_bytes
empty_each [] = refl
empty_each (t ∷ ts) = ap (λ (l : List (List ℕ)). track_bytes (empty_track t) ∷ l) (empty_each ts)

pub empty_is_contents : (n : ℕ) → empty_contents (n * 15) ≡ volume_contents (empty_volume n)
empty_is_contents n = empty_each (range_with_len 0 (n * 15))

module _ (d : ℕ) (g : Geometry) (n : ℕ) (v : List Track) where
  abbrev s : DeviceStore
  s = new_contents d g n

  -- over marks it is the new device of a run
  pub marks_on : marks_of v v s ≡ store_on d g n v
  marks_on =
      ap (λ (l : List (Option Bool)). record (store_on d g n v) {
        frames = l;
        patches = map (option_map patch_mark) s.patches;
        owed = map owed_mark s.owed;
      }) (map_replicate (option_map frame_mark) (n * 15) None)
      ∙ ap (λ (l : List (Option (Unit {0}))). record (store_on d g n v) { patches = l; owed = map owed_mark s.owed })
      (map_replicate (option_map patch_mark) (n * 15) None)
      ∙ ap (λ (l : List Owed). record (store_on d g n v) { owed = l }) (map_replicate owed_mark (n * 15) no_debt)

  -- of each track there is nothing but what side A has
  no_frame : (t : ℕ) → frame_at s t ≡ None
  no_frame t = empty_places (n * 15) t None

  no_patch : (t : ℕ) → patch_at s t ≡ None
  no_patch t = empty_places (n * 15) t None

  not_lost : (t : ℕ) → is_lost s t ≡ false
  not_lost t = empty_places (n * 15) t false

  none_owed : (t : ℕ) → owed_at s t ≡ no_debt
  none_owed t = empty_places (n * 15) t no_debt

  new_sizes : HasSizes s
  new_sizes = record {
    are =
        rw (
          length-replicate (n * 15) false,
          length-replicate {A = Option Frame} (n * 15) None,
          length-replicate {A = Option Stored} (n * 15) None,
          length-replicate (n * 15) no_debt,
        ) refl;
  }

  sound : (t : ℕ) → has_sound_marks contents s t ≡ true
  sound t = rw (not_lost t, no_frame t) refl

  no_slot : (kept : Bool) (t slot : ℕ) → slot_at s kept t ≡ Some slot → ⊥
  no_slot true t slot e = absurd (let f = no_patch t in cc)
  no_slot false t slot e = absurd (let f = ap (λ (o : Owed). o.freed) (none_owed t) in cc)

  new_slots : (o : Option (List ℕ)) → HasSlots s o
  new_slots None = tt
  new_slots (Some mine) = record {
    own = λ kept t slot e. absurd (no_slot kept t slot e);
    apart = λ kept other t q slot e f. absurd (no_slot kept t slot e);
  }

  module _ (h : Held) (is : IsVolume g n v) (on : h.a ≡ volume_contents v) where
    long : (side : Side) → (side_of s side).up ≡ true → length (holds_of h side) ≡ tracks_of s
    long A up = ap length on ∙ length-map v track_bytes ∙ is.tracks
    long B up = absurd (cc)

    ground : IsGround v v s h
    ground = record {
      sizes = new_sizes;
      plain = is;
      firm = is;
      same = λ t lt e. refl;
      apart = λ t e. refl;
      patches = λ t p e. absurd (let f = no_patch t in cc);
      long = long;
      slots = new_slots h.slots;
    }

    module _ (t : ℕ) (lt : t < n * 15) where
      bytes_are : get_or h.a t [] ≡ track_bytes (track_in v t)
      bytes_are =
          ap (λ (l : List (List ℕ)). get_or l t []) on
          ∙ get_or-map track_bytes v t (empty_track t) [] (let long = is.tracks in omega arith)

      pub reads : image_read g t (get_or h.a t []) ≡ Some (image_in s v t)
      reads =
          let x = track_in v t in
          ap (image_read g t) bytes_are
          ∙ ap (λ p. image_with g (reading g p (track_bytes x))) (sym (is.homes t lt))
          ∙ ap (image_with g) (reading_again g x (is.fits t lt))

      keeps : Keeps g t (contents_at s h t) (image_in s v t) (image_in s v t)
      unfolding T.contents_at
      keeps = record {
        frame = λ f e. absurd (let none = no_frame t in cc);
        a = λ e. rw (no_patch t) (unpatched (image_read g t (get_or h.a t [])) ∙ reads);
        b = λ e. absurd (cc);
        patch = T.none_fits (patch_at s t) (image_in s v t) (image_in s v t) (no_patch t);
      }

      held : IsHeld s h t (image_in s v t) (image_in s v t)
      held = T.right_is_held s h t (image_in s v t) (image_in s v t) (right_by g t None (contents_at s h t) (image_in s v t) (image_in s v t) keeps)

    pub in_order_on : IsInOrder v v s h
    in_order_on = record {
      agrees = record { ground = ground; held = held };
      told = λ t. ap (λ (o : Owed). o.firm) (none_owed t);
      free = refl;
      alone = λ e. refl;
      whole = λ e. refl;
      marks = λ t lt. sound t;
      nowhere = λ t lt lost. absurd (let f = not_lost t in cc);
      queued = tt;
      within = λ i e. absurd (cc);
      there = λ i e. absurd (cc);
      patched = λ t lt there off. T.none_fits (patch_at s t) (image_in s v t) (image_in s v t) (no_patch t);
      opened = λ i e. absurd (cc);
    }

-- an empty volume
pub new_marks : (d : ℕ) (g : Geometry) (n : ℕ) → marks_of (empty_volume n) (empty_volume n) (new_contents d g n) ≡ new_store d g n
new_marks d g n = marks_on d g n (empty_volume n)

pub new_in_order : (d : ℕ) (g : Geometry) (n : ℕ) (h : Held) → n ≤ 4369 → h.a ≡ empty_contents (n * 15) →
    IsInOrder (empty_volume n) (empty_volume n) (new_contents d g n) h
new_in_order d g n h most on = in_order_on d g n (empty_volume n) h (volume_empty g n most) (on ∙ empty_is_contents n)
