-- A look tells a track as lost exactly where it is, and a side as failed where that had the track, or no side has it: whatever is answered.
use Rattle.std.proofs.Common.{◌≡◌, ℕ, Bool, true, false, List, Option, Some, None, is_some, refl, inl, inr}
use Rattle.std.specs.Prelude.{◌||◌, if◌then◌else◌}
use Rattle.ckd_types.specs.declared.paths.Side.{Side}
use Rattle.ckd_types.specs.declared.paths.Side.TheVariants.{A, B}
use Rattle.ckd_types.specs.Parameters.{is_bypass}
use Rattle.track_image.specs.Image.{Image}
use Rattle.device_outside.specs.Interaction.{Interaction, Done}
use Rattle.device_defs.specs.Contents.{contents}
use Rattle.device_defs.specs.Image as I
use Rattle.device_defs.specs.Image.{Got, Has, Imaged, NoBytes, BadTrack, delivered, image, image_by, image_of, level_bytes, miss, missed, read_b, read_counted}
use Rattle.device_defs.specs.Losses.{call_failed}
use Rattle.device_defs.specs.Memory.{had_by}
use Rattle.device_defs.specs.Owed.{noted_begin, noted_end, waiting_count}
use Rattle.device_defs.specs.Peek as P
use Rattle.device_defs.specs.Peek.{Peeked, Track, Lost, Fault, BadBytes, is_in_half, peek, peek_half, peek_image, peek_track, peek_usage, peeked}
use Rattle.device_defs.specs.Sound.{DeviceStore}
use Rattle.device_defs.specs.Store.{HalfWrite, frame_at, has_level, is_lost, level_at, side_of, with_frame}
use Rattle.track_cache.specs.declared.frames.Frame.{Frame}
use Rattle.device_laws.specs.Whole.{WholeDevice}
use Rattle.device_laws.proofs.Always.{Always, always_ask, always_done, always_read, always_then, always_try}
use Rattle.device_laws.proofs.KeptEvents.{always_any, always_if}
use Rattle.subsystem_laws.specs.Found.{HasNoBytes}

pub always_on : {R I S X : Type 0} {q : S → X → Type 0} (b : Bool) {i j : Interaction R I S X} → (b ≡ true → Always i q) → (b ≡ false → Always j q) →
    Always (if b then i else j) q
always_on true f g = f refl
always_on false f g = g refl

either_false : (a b : Bool) → a ≡ false → b ≡ false → (a || b) ≡ false
either_false false false e f = refl
either_false true b e f = absurd (cc)
either_false false true e f = absurd (cc)

module _ (s : DeviceStore) (t : ℕ) where
  -- no bytes came, and this is the first side that failed
  abbrev NoneBy : Option (List ℕ) → Option Side → Type 0
  NoneBy (Some r) fault = Unit {0}
  NoneBy None None = has_level s t ≡ false
  NoneBy None (Some side) = level_at (side_of s side) t ≡ true

  abbrev Reads : Interaction (List ℕ) Image DeviceStore (Got (List ℕ)) → Type 0
  Reads i = Always i (λ z g. NoneBy g.bytes g.fault)

  later_by : (z : DeviceStore) (got : Option (List ℕ)) → level_at s.a t ≡ true → Reads (I.second_read contents (Some A) z got)
  later_by z (Some r) up = always_done tt
  later_by z None up = always_then (always_any (call_failed contents z B None)) (λ y _ _. always_done up)

  later_told : (z : DeviceStore) → level_at s.a t ≡ true → Reads (read_b contents z t (Some A))
  later_told z up = always_if (level_at z.b t) (always_read (λ got. later_by (read_counted z (is_some got)) got up)) (always_done up)

  alone_by : (z : DeviceStore) (got : Option (List ℕ)) → level_at s.b t ≡ true → Reads (I.second_read contents None z got)
  alone_by z (Some r) up = always_done tt
  alone_by z None up = always_then (always_any (call_failed contents z B None)) (λ y _ _. always_done up)

  first_by : (z : DeviceStore) (got : Option (List ℕ)) → level_at s.a t ≡ true → Reads (I.first_read contents t z got)
  first_by z (Some r) up = always_done tt
  first_by z None up = always_then (always_any (call_failed contents z A None)) (λ y _ _. later_told y up)

  level_told : Reads (level_bytes contents s t)
  unfolding I.level_bytes
  level_told =
      always_on (level_at s.a t) (λ up. always_read (λ got. first_by (read_counted s (is_some got)) got up))
      (λ off. always_on (level_at s.b t) (λ up. always_read (λ got. alone_by (read_counted s (is_some got)) got up))
      (λ none. always_done (either_false (level_at s.a t) (level_at s.b t) off none)))

  abbrev ImageTold : Option Imaged → Type 0
  ImageTold None = Unit {0}
  ImageTold (Some (Has i)) = Unit {0}
  ImageTold (Some (BadTrack side)) = Unit {0}
  ImageTold (Some (NoBytes None)) = has_level s t ≡ false
  ImageTold (Some (NoBytes (Some side))) = level_at (side_of s side) t ≡ true

  none_told : (fault : Option Side) → NoneBy None fault → ImageTold (Some (NoBytes fault))
  none_told None e = e
  none_told (Some side) e = e

  abbrev Images : Interaction (List ℕ) Image DeviceStore (Option Imaged) → Type 0
  Images i = Always i (λ z o. ImageTold o)

  delivered_told : (z : DeviceStore) (side : Side) (o : Option Image) → Images (delivered contents peek_usage t side z o)
  delivered_told z side None = always_done tt
  delivered_told z side (Some i) = always_done tt

  missed_told : (z : DeviceStore) (g : Got (List ℕ)) (o : Option (List ℕ)) → NoneBy o g.fault → Images (missed contents peek_usage t z g o)
  missed_told z g None e = always_done (none_told g.fault e)
  missed_told z g (Some r) e =
      always_try (λ ok. always_if ok (delivered_told z g.side (image_of contents z t r)) (always_done tt))

  miss_told : Images (miss contents s peek_usage t)
  miss_told = always_then level_told (λ z g e. missed_told z g g.bytes e)

-- a frame that the pool lists no more goes first
image_told : (s : DeviceStore) (t : ℕ) (o : Option Frame) → Images s t (image_by contents s peek_usage t o)
image_told s t None = miss_told s t
image_told s t (Some f) =
    always_if f.modified (always_done tt)
    (always_if (is_bypass peek_usage.mode) (miss_told s t)
    (always_ask (λ listed. always_if listed (always_done tt) (miss_told (with_frame s t None) t))))

module _ (s : DeviceStore) (t : ℕ) where
  abbrev pub LookTold : Option Peeked → Type 0
  LookTold None = Unit {0}
  LookTold (Some (Track i)) = Unit {0}
  LookTold (Some Lost) = is_lost s t ≡ true
  LookTold (Some (Fault side)) = (is_lost s t ≡ false) × HasNoBytes s t side
  LookTold (Some (BadBytes side)) = Unit {0}

  abbrev LooksTold : Interaction (List ℕ) Image DeviceStore (Option Peeked) → Type 0
  LooksTold i = Always i (λ z o. LookTold o)

  found_told : (z : DeviceStore) (o : Option Imaged) → is_lost s t ≡ false → ImageTold s t o →
      LooksTold (had_by (λ y i. Done y (Some (peeked i))) z o)
  found_told z None there e = always_done tt
  found_told z (Some (Has i)) there e = always_done tt
  found_told z (Some (NoBytes None)) there e = always_done (there, inr e)
  found_told z (Some (NoBytes (Some side))) there e = always_done (there, inl e)
  found_told z (Some (BadTrack side)) there e = always_done tt

  imaged_told : is_lost s t ≡ false → LooksTold (peek_image contents s t)
  unfolding I.image
  imaged_told there = always_then (image_told s t (frame_at s t)) (λ z o e. found_told z o there e)

  half_told : (o : Option (HalfWrite Image)) → is_lost s t ≡ false → LooksTold (peek_half contents s t o)
  half_told None there = imaged_told there
  half_told (Some h) there =
      always_if (is_in_half contents s t h) (always_try (λ ok. always_if ok (always_done tt) (always_done tt))) (imaged_told there)

  pub track_told : LooksTold (peek_track contents s t)
  track_told = always_on (is_lost s t) (λ lost. always_done lost) (λ there. half_told s.half there)

begun_told : (s : DeviceStore) (t : ℕ) (o : Option Peeked) → LookTold (noted_begin s) t o → LookTold s t o
begun_told s t None e = tt
begun_told s t (Some (Track i)) e = tt
begun_told s t (Some Lost) e = e
begun_told s t (Some (Fault A)) e = e
begun_told s t (Some (Fault B)) e = e
begun_told s t (Some (BadBytes side)) e = tt

pub peek_told : (d : WholeDevice) (t : ℕ) → Always (peek contents d t) (λ e o. LookTold d.store t o)
unfolding P.peek
peek_told d t =
    always_then
    (always_then (track_told (noted_begin d.store) t) (λ z o e. always_done (begun_told d.store t o e)))
    (λ y o e. always_then (always_any (noted_end contents (waiting_count contents d.store) y.store)) (λ z _ _. always_done e))
