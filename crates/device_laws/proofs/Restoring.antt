-- A device that was lent gets an empty volume, and is in order with empty tracks.
use Rattle.std.proofs.Common.{◌≡◌, ◌<◌, ◌≤◌, ◌*◌, ℕ, Bool, true, false, List, [], length, map, Option, is_some, get_or, refl, sym, ap, subst, ◌∙◌}
use Rattle.std.proofs.lemmas.List.FromFn.{length-map-range_with_len}
use Rattle.std.specs.List.{range_with_len}
use Rattle.std.specs.Prelude.{◌&&◌, not}
use Rattle.ckd_types.specs.declared.geometry.Geometry.{Geometry}
use Rattle.ckd_types.specs.declared.paths.Side.{Side}
use Rattle.ckd_types.specs.declared.paths.Side.TheVariants.{A, B}
use Rattle.ckd_types.specs.declared.record.Track.{Track}
use Rattle.ckd_types.specs.Track.{empty_track}
use Rattle.ckd_types.specs.Volume.{IsVolume, empty_volume}
use Rattle.plain_device.proofs.Wholes.{volume_empty}
use Rattle.nv_store.specs.declared.patches.Stored.{Stored}
use Rattle.track_image.specs.Image.{Image}
use Rattle.device_outside.specs.After.{holds_of}
use Rattle.device_outside.specs.Disk.{empty_contents, empty_bytes}
use Rattle.device_defs.specs.Contents.{contents, patched_by, image_read}
use Rattle.device_defs.specs.Orders.{empty_like, restore}
use Rattle.device_defs.specs.Sound.{DeviceStore}
use Rattle.device_defs.specs.Store.{HalfWrite, tracks_of, side_of, half_is}
use Rattle.device_laws.specs.Agrees.{Held, image_in, slot_at, IsGround}
use Rattle.device_laws.specs.InOrder.{AreBelow, IsInOrder}
use Rattle.device_laws.specs.Lent.{IsLentStore}
use Rattle.device_laws.specs.Whole.{WholeDevice, marks_device, holding}
use Rattle.device_laws.proofs.ContentChanges.{same_slots}
use Rattle.device_laws.proofs.FailedCall.{IsWell}
use Rattle.device_laws.proofs.NewDevices.{empty_is_contents, reads, unpatched}
use Rattle.device_laws.proofs.OrderMarks.{IsGone, restore_makes_good}
use Rattle.device_laws.proofs.TrackContents as T
use Rattle.device_laws.proofs.TrackContents.{TrackContents, contents_at, Keeps, none_fits}
use Rattle.device_laws.proofs.TrackMarks as M
use Rattle.device_laws.proofs.TrackMarks.{track_at, device_is_faithful}
use Rattle.device_laws.proofs.TwinAsks.{right_keeps}
use Rattle.device_laws.proofs.TwinLaws.{is_in_order}
use Rattle.device_laws.proofs.TwinSettled.{AllTold}

module _ (v w : List Track) (d : WholeDevice) (h : Held) (i : IsLentStore v w d.store h) (most : d.store.cylinders ≤ 4369) where
  abbrev s : DeviceStore
  s = d.store

  abbrev g : Geometry
  g = d.store.geometry

  abbrev n : ℕ
  n = d.store.cylinders

  abbrev z : DeviceStore
  z = (restore d).store

  abbrev u : List Track
  u = empty_volume d.store.cylinders

  abbrev k : Held
  k = record h { a = empty_contents (d.store.cylinders * 15) }

  gone : IsGone contents device_is_faithful s
  unfolding M.track_at
  gone = record {
    sizes = i.ground.sizes;
    single = i.single;
    other = i.down_b;
    none = i.half;
    queued = subst (λ (l : List ℕ). AreBelow (tracks_of s) l) (sym i.queue) tt;
    frame = λ q lt. ap (M.frame_mark contents) (i.frame q);
    patched = λ q lt. ap is_some (i.patch q);
    lost = λ q lt. i.lost q;
  }

  well : IsWell contents z
  well = (restore_makes_good contents device_is_faithful d gone).well

  slots_still : (kept : Bool) (q : ℕ) → slot_at z kept q ≡ slot_at s kept q
  slots_still true q = refl
  slots_still false q = refl

  long : (side : Side) → (side_of z side).up ≡ true → length (holds_of k side) ≡ tracks_of z
  long A up = length-map-range_with_len empty_bytes 0 (d.store.cylinders * 15)
  long B up = absurd (let off = i.down_b in cc)

  ground : IsGround u u z k
  ground = record {
    sizes = well.sizes;
    plain = volume_empty g n most;
    firm = volume_empty g n most;
    same = λ t lt e. refl;
    apart = λ t e. ap (λ (o : Option (HalfWrite Image)). half_is o t) i.half;
    patches = λ t p e. absurd (let none = i.patch t in cc);
    long = long;
    slots = same_slots s z h.slots slots_still i.ground.slots;
  }

  keeps : (q : ℕ) → q < tracks_of z → Keeps g q (contents_at z k q) (image_in z u q) (image_in z u q)
  unfolding T.contents_at
  keeps q lt = record {
    frame = λ f e. absurd (let none = i.frame q in cc);
    a = λ e. ap (λ (o : Option Stored). patched_by o (image_read g q (get_or k.a q []))) (i.patch q)
        ∙ unpatched (image_read g q (get_or k.a q [])) ∙ reads 0 g n u k (volume_empty g n most) (empty_is_contents n) q lt;
    b = λ e. absurd (off q e);
    patch = none_fits (contents_at z k q).patch (image_in z u q) (image_in z u q) (i.patch q);
  }
    where
      off_by : (up x : Bool) → up ≡ false → (up && x) ≡ true → ⊥
      off_by true x e f = absurd (cc)
      off_by false x e f = absurd (cc)

      off : (q : ℕ) → (d.store.b.up && not (get_or d.store.b.stale q false)) ≡ true → ⊥
      off q e = off_by d.store.b.up (not (get_or d.store.b.stale q false)) i.down_b e

  told : AllTold z k
  unfolding T.contents_at
  told q = i.told q

  pub restore_order : IsInOrder (empty_volume d.store.cylinders) (empty_volume d.store.cylinders) (restore d).store
      (holding h A (empty_contents (d.store.cylinders * 15)))
  restore_order =
      is_in_order u u z k
      (record {
        sure = record {
          ground = ground;
          right = λ q lt ne. right_keeps g q z.half (contents_at z k q) (image_in z u q) (image_in z u q)
              (ap (λ (o : Option (HalfWrite Image)). half_is o q) i.half) (keeps q lt);
        };
        told = told;
      }) well

  like : (x : List Track) → IsVolume g n x → empty_like x ≡ empty_volume d.store.cylinders
  like x is = ap (λ (m : ℕ). map empty_track (range_with_len 0 m)) is.tracks

  pub restore_same : marks_device (empty_volume d.store.cylinders) (empty_volume d.store.cylinders) (restore d) ≡ restore (marks_device v w d)
  restore_same =
      ap (λ (x : List Track). marks_device x u (restore d)) (sym (like v i.ground.plain))
      ∙ ap (λ (x : List Track). marks_device (empty_like v) x (restore d)) (sym (like w i.ground.firm))
