-- An image that a look finds is of the model of its device and says which track it is, whatever the volumes tell.
use Rattle.std.proofs.Common.{◌≡◌, ◌∙◌, ◌==◌, ◌&&◌, ℕ, Bool, true, false, List, ◌∷◌, Option, Some, None, is_some, Result, Ok, Err, refl, sym, ap, subst}
use Rattle.std.specs.Prelude.{IfSome, if◌then◌else◌, not}
use Rattle.std.proofs.lemmas.Bool.{eqb-true}
use Rattle.ckd_types.specs.declared.geometry.Cchh.{Cchh}
use Rattle.ckd_types.specs.declared.geometry.Geometry.{Geometry}
use Rattle.ckd_types.specs.declared.record.Record.{Record}
use Rattle.ckd_types.specs.declared.record.Track.{Track}
use Rattle.ckd_types.specs.Geometry.{cchh_of}
use Rattle.track_image.specs.Image.{Image}
use Rattle.track_image.specs.Reading.{◌>>=◌, reading}
use Rattle.track_cache.specs.declared.frames.Frame.{Frame}
use Rattle.nv_store.specs.declared.patches.Stored.{Stored}
use Rattle.nv_store.specs.Patch.{PatchView, applies, patched_image}
use Rattle.device_outside.specs.Interaction.{Interaction, Done, and_then}
use Rattle.device_outside.specs.Keeper.{Hearing}
use Rattle.device_outside.specs.Outside.{Outside, Ran}
use Rattle.device_outside.specs.Pool.{Call}
use Rattle.device_defs.specs.Contents.{contents, image_read, image_with, patched_by}
use Rattle.device_defs.specs.Device.{event_begun, with_store}
use Rattle.device_defs.specs.Image as images
use Rattle.device_defs.specs.Image.{Got, Has, Imaged, ahead, delivered, hit, image, image_by, image_of, level_bytes, miss, missed}
use Rattle.device_defs.specs.Memory.{had_by, tried}
use Rattle.device_defs.specs.Owed.{noted_begin, noted_end, waiting_count}
use Rattle.device_defs.specs.Peek as peeks
use Rattle.device_defs.specs.Peek.{Peeked, peek, peek_half, peek_image, peek_track, peek_usage, peeked}
use Rattle.device_defs.specs.Store.{HalfWrite, frame_at, has_level, is_lost, patch_at, with_frame}
use Rattle.device_laws.specs.Whole.{WholeDevice}
use Rattle.device_laws.proofs.Always as always
use Rattle.device_laws.proofs.Always.{Always, Behind, always_ask, always_done, always_then, always_try, always_weaker}
use Rattle.device_laws.proofs.Based.{Base, Based, based_ask, based_done, based_read, based_tell, based_try, based_write}
use Rattle.device_laws.proofs.invariants.CallCounts.{level_steady}
use Rattle.device_laws.proofs.KeepLaws.{always_ran}
use Rattle.device_laws.proofs.KeptEvents.{always_any, always_if}
use Rattle.device_store.specs.Images.{IsImageOf}
use Rattle.device_store.specs.Looks.{StoreOf}
use Rattle.remote_copy.specs.Copies.{IsImageFound}

-- A track that is read says where it was read

same_ok : {X E : Type 0} {x y : X} (r : Result X E) → r ≡ Ok x → r ≡ Ok y → x ≡ y
same_ok r e f = cc

home_by : (b : Bool) (h : Cchh) (z : Result Record ℕ) (rest : Result (List Record) ℕ) (x : Track) →
    (if b then z >>= (λ first. rest >>= (λ others. Ok (record { home = h; records = first ∷ others }))) else Err 0) ≡ Ok x → x.home ≡ h
home_by true h (Ok first) (Ok others) x e = ap (λ (y : Track). y.home) (sym (same_ok _ refl e))
home_by true h (Ok first) (Err at) x e = absurd (cc)
home_by true h (Err at) rest x e = absurd (cc)
home_by false h z rest x e = absurd (cc)

reads_home : (g : Geometry) (h : Cchh) (bytes : List ℕ) (x : Track) → reading g h bytes ≡ Ok x → x.home ≡ h
unfolding reading
reads_home g h bytes x e = home_by _ h _ _ x e

module _ (g : Geometry) (t : ℕ) where
  -- Images

  with_fits : (bytes : List ℕ) (r : Result Track ℕ) → reading g (cchh_of t) bytes ≡ r → IfSome (image_with g r) (IsImageOf g t)
  with_fits bytes (Ok x) e = (refl, reads_home g (cchh_of t) bytes x e)
  with_fits bytes (Err at) e = tt

  applied_fits : (p : PatchView) (i : Image) (b : Bool) → IsImageOf g t i → IfSome (if b then Some (patched_image p i) else None) (IsImageOf g t)
  applied_fits p i true of = of
  applied_fits p i false of = tt

  patched_fits : (p : Option Stored) (o : Option Image) → IfSome o (IsImageOf g t) → IfSome (patched_by p o) (IsImageOf g t)
  patched_fits None None of = tt
  patched_fits (Some p) None of = tt
  patched_fits None (Some i) of = of
  patched_fits (Some p) (Some i) of = applied_fits p.patch i (applies p.patch i) of

  image_fits : (s : StoreOf) (bytes : List ℕ) → s.geometry ≡ g → IfSome (image_of contents s t bytes) (IsImageOf g t)
  image_fits s bytes is =
      subst (λ (k : Geometry). IfSome (patched_by (patch_at s t) (image_read k t bytes)) (IsImageOf g t)) (sym is)
      (patched_fits (patch_at s t) (image_read g t bytes) (with_fits bytes (reading g (cchh_of t) bytes) refl))

  -- Looks

  abbrev FitsImaged : Option Imaged → Type 0
  FitsImaged (Some (Has i)) = IsImageOf g t i
  FitsImaged _ = Unit {0}

  abbrev FitsFound : Option Peeked → Type 0
  FitsFound (Some found) = IsImageFound g t found
  FitsFound None = Unit {0}

  abbrev Sees : Interaction (List ℕ) Image StoreOf (Option Imaged) → Type 0
  Sees i = Always i (λ z a. FitsImaged a)

  abbrev Finds : Interaction (List ℕ) Image StoreOf (Option Peeked) → Type 0
  Finds i = Always i (λ z a. FitsFound a)

  delivered_sees : (s : StoreOf) (side : _) (o : Option Image) → IfSome o (IsImageOf g t) → Sees (delivered contents peek_usage t side s o)
  delivered_sees s side None of = always_done tt
  delivered_sees s side (Some i) of = always_done of

  missed_sees : (s : StoreOf) (got : Got (List ℕ)) (bytes : Option (List ℕ)) → s.geometry ≡ g → Sees (missed contents peek_usage t s got bytes)
  missed_sees s got None is = always_done tt
  missed_sees s got (Some bytes) is =
      always_try (λ ok. always_if ok (delivered_sees s got.side (image_of contents s t bytes) (image_fits s bytes is)) (always_done tt))

  based_model : {S X : Type 0} {base : S → Base} {may : Call → Type 0} {b : Base} {i : Interaction (List ℕ) Image S X} → Based base may b i →
      Behind i (λ s a. (base s).geometry ≡ b.geometry)
  unfolding always.Behind
  based_model (based_done e) = ap (λ (x : Base). x.geometry) e
  based_model (based_try x) = λ ok. based_model (x ok)
  based_model (based_ask m x) = λ a. based_model (x a)
  based_model (based_read x) = λ got. based_model (x got)
  based_model (based_write x) = λ ok. based_model (x ok)
  based_model (based_tell x) = λ r. based_model (x r)

  miss_sees : (s : StoreOf) → s.geometry ≡ g → Sees (miss contents s peek_usage t)
  miss_sees s is =
      let bytes : Always (level_bytes contents s t) (λ z got. z.geometry ≡ s.geometry) = record { holds = based_model (level_steady contents s t) } in
      always_then bytes (λ z got same. missed_sees z got got.bytes (same ∙ is))

  abbrev FramesFit : Option Frame → Type 0
  FramesFit o = IfSome o (λ f. IsImageOf g t f.image)

  framed_sees : (s : StoreOf) (o : Option Frame) → s.geometry ≡ g → FramesFit o → Sees (image_by contents s peek_usage t o)
  framed_sees s None is of = miss_sees s is
  framed_sees s (Some f) is of =
      always_if f.modified (always_done of)
      (always_ask (λ listed. always_if listed (always_done of) (miss_sees (with_frame s t None) is)))

  image_sees : (s : StoreOf) → s.geometry ≡ g → FramesFit (frame_at s t) → Sees (image contents s peek_usage t)
  unfolding images.image
  image_sees s is of = framed_sees s (frame_at s t) is of

  peeked_finds : (s : StoreOf) (a : Option Imaged) → FitsImaged a → Finds (had_by (λ z i. Done z (Some (peeked i))) s a)
  peeked_finds s None fits = always_done tt
  peeked_finds s (Some (Has i)) fits = always_done fits
  peeked_finds s (Some (images.NoBytes (Some side))) fits = always_done tt
  peeked_finds s (Some (images.NoBytes None)) fits = always_done tt
  peeked_finds s (Some (images.BadTrack side)) fits = always_done tt

  image_finds : (s : StoreOf) → s.geometry ≡ g → FramesFit (frame_at s t) → Finds (peek_image contents s t)
  image_finds s is of = always_then (image_sees s is of) (λ z a fits. peeked_finds z a fits)

  -- of an open half write
  abbrev HalfFits : Option (HalfWrite Image) → Type 0
  HalfFits o = IfSome o (λ h. IsImageOf g h.track h.image)

  and_first : (a b : Bool) → (a && b) ≡ true → a ≡ true
  and_first true b e = refl
  and_first false b e = absurd (cc)

  in_half_finds : (s : StoreOf) (h : HalfWrite Image) (b : Bool) → (h.track == t) ≡ true → IsImageOf g h.track h.image →
      Finds (if b then Done s (Some (peeks.Track h.image)) else Done s None)
  in_half_finds s h true is of = always_done (subst (λ (n : ℕ). IsImageOf g n h.image) (eqb-true h.track t is) of)
  in_half_finds s h false is of = always_done tt

  half_by : (s : StoreOf) (h : HalfWrite Image) (b : Bool) → ((h.track == t) && not (is_some (frame_at s t)) && not (has_level s t)) ≡ b → s.geometry ≡ g →
      FramesFit (frame_at s t) → IsImageOf g h.track h.image →
      Finds (if b then tried s (Done s (Some (peeks.Track h.image))) else peek_image contents s t)
  half_by s h true e is frames of = always_try (λ ok. in_half_finds s h ok
      (and_first (h.track == t) (not (is_some (frame_at s t))) (and_first ((h.track == t) && not (is_some (frame_at s t))) (not (has_level s t)) e)) of)
  half_by s h false e is frames of = image_finds s is frames

  half_finds : (s : StoreOf) (o : Option (HalfWrite Image)) → s.geometry ≡ g → FramesFit (frame_at s t) → HalfFits o → Finds (peek_half contents s t o)
  half_finds s None is frames half = image_finds s is frames
  half_finds s (Some h) is frames half = half_by s h _ refl is frames half

  track_finds : (s : StoreOf) → s.geometry ≡ g → FramesFit (frame_at s t) → HalfFits s.half → Finds (peek_track contents s t)
  track_finds s is frames half = always_if (is_lost s t) (always_done tt) (half_finds s s.half is frames half)

  found_so : (d : WholeDevice) → d.store.geometry ≡ g → FramesFit (frame_at d.store t) → HalfFits d.store.half →
      Always (peek contents d t) (λ e a. FitsFound a)
  unfolding peeks.peek
  found_so d is frames half =
      let body : Always (and_then (peek_track contents (noted_begin d.store) t) (λ s found. Done (with_store (event_begun d) s) found)) (λ e a. FitsFound a) =
      always_then (track_finds (noted_begin d.store) is frames half) (λ s found fits. always_done fits) in
      always_then body (λ e a fits. always_then (always_any (noted_end contents (waiting_count contents d.store) e.store)) (λ z _ _. always_done fits))

  -- behind any run of it
  pub ran_finds : {K : Type 0} {had : Bool → Type 0} {hears : Hearing Image K} (d e : WholeDevice) {u z : Outside (List ℕ) K} (found : Peeked) →
      d.store.geometry ≡ g → FramesFit (frame_at d.store t) → HalfFits d.store.half → Ran had hears (peek contents d t) u e (Some found) z →
      IsImageFound g t found
  ran_finds d e found is frames half ran = always_ran (peek contents d t) (λ y a. FitsFound a) (found_so d is frames half).holds ran
