-- A look past the channel leaves a device in order, or lent, and its twin on marks finds the same.
use Rattle.std.proofs.Common.{◌≡◌, ◌<◌, ◌==◌, ◌&&◌, not, ℕ, Bool, true, false, List, Option, Some, None, refl, sym, ap, subst, ◌∙◌, arith}
use Rattle.std.specs.Prelude.{option_map}
use Rattle.ckd_types.specs.declared.record.Track.{Track}
use Rattle.track_image.specs.Image.{Image}
use Rattle.device_outside.specs.Both.{both_try}
use Rattle.device_outside.specs.Interaction.{Done, and_then}
use Rattle.device_outside.proofs.BothRules.{on_test, on_tests}
use Rattle.device_defs.specs.Contents.{contents, by_plain}
use Rattle.device_defs.specs.Device.{with_store, event_begun}
use Rattle.device_defs.specs.Image.{Imaged}
use Rattle.device_defs.specs.Marks.{marks_of, half_mark}
use Rattle.device_defs.specs.Memory.{had_by}
use Rattle.device_defs.specs.Owed.{noted_begin}
use Rattle.device_defs.specs.Peek as P
use Rattle.device_defs.specs.Peek.{Peeked, Track as Found, peek_usage, peeked, peek_image, is_in_half, peek_half, peek_track, peek}
use Rattle.device_defs.specs.Second.{plainly_written, half_image_of}
use Rattle.device_defs.specs.Sound.{DeviceStore}
use Rattle.device_defs.specs.Store.{OfBackground, HalfWrite, tracks_of, has_level, is_lost}
use Rattle.device_laws.specs.Agrees.{Held, image_in}
use Rattle.device_laws.specs.InOrder.{IsInOrder, StaysInOrder}
use Rattle.device_laws.specs.Twin.{Twins}
use Rattle.device_laws.specs.Whole.{WholeDevice, marks_device, WholeTwins, Leaves}
use Rattle.device_laws.proofs.TwinChanges.{has_frame_twin}
use Rattle.device_laws.proofs.TwinLaws.{in_order}
use Rattle.device_laws.proofs.TwinWalks.{twin_done, twin_then}
use Rattle.device_laws.proofs.WholeTwins.{whole_done, store_then, begun_order, quiet_twin}
use Rattle.subsystem_laws.proofs.looking.TwinLook.{ByBackground, image_is_found, written_here}

abbrev Ends : List Track → List Track → List Track → DeviceStore → Option Peeked → Option Peeked → Held → Type 0
Ends v v' w' z a b k = StaysInOrder v v' w' z a b k

first_of : (x y z : Bool) → (x && y && z) ≡ true → x ≡ true
first_of true y z e = refl
first_of false y z e = absurd (cc)

-- what was found is told
found_so : (v v' w' : List Track) (z : DeviceStore) (k : Held) (a : Option Imaged) → IsInOrder v' w' z k → v' ≡ v →
    Twins (Ends v) (had_by (λ y i. Done y (Some (peeked i))) z a) (had_by (λ y i. Done y (Some (peeked i))) (marks_of v' w' z) a) k
found_so v v' w' z k None order plain = twin_done (record { order = order; plain = plain; same = refl })
found_so v v' w' z k (Some i) order plain = twin_done (record { order = order; plain = plain; same = refl })

module _ (v w : List Track) (s : DeviceStore) (h : Held) (t : ℕ) (i : IsInOrder v w s h) (lt : t < tracks_of s) (may : ByBackground s.half t) where
  imaged : is_lost s t ≡ false → Twins (Ends v) (peek_image contents s t) (peek_image by_plain (marks_of v w s) t) h
  imaged there =
      twin_then (had_by (λ y x. Done y (Some (peeked x)))) (had_by (λ y x. Done y (Some (peeked x))))
      (image_is_found v w s h t i lt there may)
      (λ v' w' z a b k f.
      subst (λ (o : Option Imaged). Twins (Ends v) (had_by (λ y x. Done y (Some (peeked x))) z a)
      (had_by (λ y x. Done y (Some (peeked x))) (marks_of v' w' z) o) k) f.left.same
      (found_so v v' w' z k a f.left.order f.left.plain))

  -- the open half write alone has the track
  half_found : (hw : HalfWrite Image) → s.half ≡ Some hw → is_lost s t ≡ false → (hw.track == t) ≡ true →
      half_image_of contents s hw ≡ half_image_of by_plain (marks_of v w s) (half_mark hw)
  half_found hw e there own =
      let origin : hw.origin ≡ OfBackground = may hw e own in
      let is : hw.track ≡ t = grind arith in
      written_here v w s h t hw e own origin (in_order v w s h i).sure lt there
      ∙ ap (λ (q : ℕ). image_in s v q) (sym is)
      ∙ sym (ap (plainly_written (marks_of v w s) hw.track) origin)

  by_half : (o : Option (HalfWrite Image)) → s.half ≡ o → is_lost s t ≡ false →
      Twins (Ends v) (peek_half contents s t o) (peek_half by_plain (marks_of v w s) t (option_map half_mark o)) h
  by_half None e there = imaged there
  by_half (Some hw) e there =
      on_tests (is_in_half contents s t hw) (is_in_half by_plain (marks_of v w s) t (half_mark hw))
      (ap (λ (b : Bool). (hw.track == t) && not b && not (has_level s t)) (has_frame_twin v w s t))
      (λ yes.
      both_try
      (twin_done (record {
        order = i;
        plain = refl;
        same = ap (λ (x : Image). Some (Found x)) (half_found hw e there (first_of (hw.track == t) _ _ yes));
      }))
      (twin_done (record { order = i; plain = refl; same = refl })))
      (λ no. imaged there)

  track_twin : Twins (Ends v) (peek_track contents s t) (peek_track by_plain (marks_of v w s) t) h
  track_twin =
      on_test (is_lost s t)
      (λ lost. twin_done (record { order = i; plain = refl; same = refl }))
      (λ there. by_half s.half refl there)

-- a look at a track of a device in order
pub peek_whole : (v w : List Track) (d : WholeDevice) (h : Held) (t : ℕ) → t < tracks_of d.store → ByBackground d.store.half t → IsInOrder v w d.store h →
    WholeTwins (Leaves (λ v2. v2 ≡ v)) (peek contents d t) (peek by_plain (marks_device v w d) t) h
unfolding P.peek
peek_whole v w d h t lt may i =
    quiet_twin v w d h (λ z. and_then (peek_track contents z.store t) (λ s found. Done (with_store z s) found))
    (λ z. and_then (peek_track by_plain z.store t) (λ s found. Done (with_store z s) found))
    (store_then (λ s found. Done (with_store (event_begun d) s) found) (λ s found. Done (with_store (event_begun (marks_device v w d)) s) found)
    (track_twin v w (noted_begin d.store) h t (begun_order v w d.store h i) lt may)
    (λ v2 w2 y a b k f. whole_done v2 w2 (with_store (event_begun d) y) (record { order = f.order; same = f.same; is = f.plain })))
