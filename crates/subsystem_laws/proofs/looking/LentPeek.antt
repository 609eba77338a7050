-- A look at a track of a device that is lent asks nothing and finds nothing.
use Rattle.std.proofs.Common.{◌≡◌, ◌&&◌, not, ℕ, Bool, true, false, List, Option, Some, None, refl, sym, ap, subst, ◌∙◌}
use Rattle.std.specs.Prelude.{option_map, if◌then◌else◌}
use Rattle.ckd_types.specs.declared.paths.Side.TheVariants.{A, B}
use Rattle.ckd_types.specs.declared.record.Track.{Track}
use Rattle.track_image.specs.Image.{Image}
use Rattle.device_outside.specs.Interaction.{Interaction, Done, and_then}
use Rattle.device_defs.specs.Contents.{Contents, contents, by_plain}
use Rattle.device_defs.specs.Device.{with_store, event_begun}
use Rattle.device_defs.specs.Image as I
use Rattle.device_defs.specs.Image.{Got, got, Imaged, NoBytes, read_side, first_read, second_read, read_b, level_bytes, missed, image_by, image}
use Rattle.device_defs.specs.Marks.{MarksStore, marks_of, frame_mark, half_mark}
use Rattle.device_defs.specs.Memory.{had_by}
use Rattle.device_defs.specs.Owed.{noted_begin}
use Rattle.device_defs.specs.Peek as P
use Rattle.device_defs.specs.Peek.{Peeked, Lost, Fault, peek_usage, peeked, peek_half, peek_track, peek}
use Rattle.device_defs.specs.Sound.{DeviceStore}
use Rattle.device_defs.specs.Store.{Store, stale_at, frame_at, is_lost}
use Rattle.device_laws.specs.Agrees.{Held, slot_at}
use Rattle.device_laws.specs.Lent.{IsLentStore, IsLent}
use Rattle.device_laws.specs.Whole.{WholeDevice, marks_device, WholeTwins}
use Rattle.device_laws.proofs.ContentChanges.{same_slots}
use Rattle.device_laws.proofs.Lent.{LeavesLent, quiet_lent}
use Rattle.device_laws.proofs.TwinChanges.{frame_twin}
use Rattle.device_laws.proofs.WholeTwins.{whole_done}

module _ {F P H R : Type 0} (c : Contents F P H R) (s : Store F P H) (t : ℕ) where
  no_bytes : s.a.up ≡ false → s.b.up ≡ false → level_bytes c s t ≡ Done s (got B None None)
  unfolding I.level_bytes
  no_bytes down_a down_b =
      ap (λ (x : Bool). if x && not (stale_at s.a t) then read_side c s A t (first_read c t) else read_b c s t None) down_a
      ∙ ap (λ (x : Bool). if x && not (stale_at s.b t) then read_side c s B t (second_read c None) else Done s (got B None None)) down_b

  no_image : s.a.up ≡ false → s.b.up ≡ false → frame_at s t ≡ None → image c s peek_usage t ≡ Done s (Some (NoBytes None))
  unfolding I.image
  no_image down_a down_b none =
      ap (image_by c s peek_usage t) none
      ∙ ap (λ (i : Interaction R Image (Store F P H) (Got R)). and_then i (λ z g. missed c peek_usage t z g g.bytes)) (no_bytes down_a down_b)

  pub finds_none : s.a.up ≡ false → s.b.up ≡ false → frame_at s t ≡ None → is_lost s t ≡ false → s.half ≡ None →
      peek_track c s t ≡ Done s (Some (Fault A))
  finds_none down_a down_b none there whole =
      ap (λ (b : Bool). if b then Done s (Some Lost) else peek_half c s t s.half) there
      ∙ ap (peek_half c s t) whole
      ∙ ap (λ (i : Interaction R Image (Store F P H) (Option Imaged)). and_then i (had_by (λ z x. Done z (Some (peeked x))))) (no_image down_a down_b none)

begun_slots : (s : DeviceStore) (kept : Bool) (q : ℕ) → slot_at (noted_begin s) kept q ≡ slot_at s kept q
begun_slots s true q = refl
begun_slots s false q = refl

begun_store : (v w : List Track) (s : DeviceStore) (h : Held) → IsLentStore v w s h → IsLentStore v w (noted_begin s) h
begun_store v w s h i = record {
  ground = record {
    sizes = record { are = i.ground.sizes.are };
    plain = i.ground.plain;
    firm = i.ground.firm;
    same = i.ground.same;
    apart = i.ground.apart;
    patches = i.ground.patches;
    long = i.ground.long;
    slots = same_slots s (noted_begin s) h.slots (begun_slots s) i.ground.slots;
  };
  told = i.told;
  lent = i.lent;
  single = i.single;
  down_a = i.down_a;
  down_b = i.down_b;
  half = i.half;
  queue = i.queue;
  frame = i.frame;
  patch = i.patch;
  lost = i.lost;
}

pub peek_lent : (v w : List Track) (d : WholeDevice) (h : Held) (t : ℕ) → IsLent v w d h →
    WholeTwins LeavesLent (peek contents d t) (peek by_plain (marks_device v w d) t) h
unfolding P.peek
peek_lent v w d h t i =
    let z : WholeDevice = event_begun d in
    let m = marks_of v w z.store in
    let frames : frame_at m t ≡ None = frame_twin v w z.store t ∙ ap (option_map frame_mark) (i.store.frame t) in
    quiet_lent v w d h (λ x. and_then (peek_track contents x.store t) (λ s found. Done (with_store x s) found))
    (λ x. and_then (peek_track by_plain x.store t) (λ s found. Done (with_store x s) found))
    (subst (λ (x : Interaction (List ℕ) Image DeviceStore (Option Peeked)). WholeTwins LeavesLent (and_then x (λ s found. Done (with_store z s) found))
    (and_then (peek_track by_plain m t) (λ s found. Done (with_store (marks_device v w z) s) found)) h)
    (sym (finds_none contents z.store t i.store.down_a i.store.down_b (i.store.frame t) (i.store.lost t) i.store.half))
    (subst (λ (x : Interaction Bool Image MarksStore (Option Peeked)). WholeTwins LeavesLent (Done (with_store z z.store) (Some (Fault A)))
    (and_then x (λ s found. Done (with_store (marks_device v w z) s) found)) h)
    (sym (finds_none by_plain m t i.store.down_a i.store.down_b frames (i.store.lost t) (ap (option_map half_mark) i.store.half)))
    (whole_done v w (with_store z z.store) (record { lent = record { store = begun_store v w d.store h i.store; idle = i.idle }; same = refl }))))
