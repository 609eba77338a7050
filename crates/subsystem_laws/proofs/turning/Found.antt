-- A look at a track of a device that stands beside the plain device of its history finds that one's track.
use Rattle.std.proofs.Common.{◌≡◌, ◌<◌, ◌==◌, ◌&&◌, ℕ, Bool, true, false, List, [], Option, Some, None, refl, sym, ap, subst, ◌∙◌, arith}
use Rattle.ckd_types.specs.declared.geometry.Geometry.{Geometry}
use Rattle.ckd_types.specs.declared.paths.Side.{Side}
use Rattle.ckd_types.specs.declared.record.Track.{Track as PlainTrack}
use Rattle.ckd_types.specs.Parameters.{is_bypass}
use Rattle.ckd_types.specs.Volume.{track_in}
use Rattle.plain_defs.specs.PlainState.{PlainState}
use Rattle.track_image.specs.Image.{Image}
use Rattle.device_outside.specs.Interaction.{Interaction, Done}
use Rattle.device_outside.specs.Keeper.{Hearing}
use Rattle.device_outside.specs.Outside.{Outside, Ran}
use Rattle.device_outside.proofs.Runs.{ran_weaker}
use Rattle.device_defs.specs.Contents.{by_plain, contents}
use Rattle.device_defs.specs.Device.{event_begun, event_ended, with_store}
use Rattle.device_defs.specs.Image as I
use Rattle.device_defs.specs.Image.{Got, Has, Imaged, NoBytes, BadTrack, delivered, image, image_by, image_of, miss, missed}
use Rattle.device_defs.specs.Marks.{MarksDevice, MarksStore}
use Rattle.device_defs.specs.Memory.{had_by}
use Rattle.device_defs.specs.Owed.{noted_begin, noted_end, waiting_count}
use Rattle.device_defs.specs.Peek as P
use Rattle.device_defs.specs.Peek.{Peeked, Track, Lost, Fault, BadBytes, is_in_half, peek, peek_half, peek_image, peek_track, peek_usage, peeked}
use Rattle.device_defs.specs.Second.{plainly_written}
use Rattle.device_defs.specs.Store.{Origin, OfCommand, OfCut, OfBackground, HalfWrite, frame_at, is_lost, plain_at, tracks_of, with_frame}
use Rattle.device_laws.specs.SoundOn.{begun_as}
use Rattle.device_laws.specs.Whole.{WholeDevice}
use Rattle.device_laws.proofs.Always.{Always, always_ask, always_done, always_then, always_try}
use Rattle.device_laws.proofs.CleanParts.{Clean, NotBad, clean_any, clean_done, clean_if, clean_then, clean_try, image_clean}
use Rattle.device_laws.proofs.KeepLaws.{always_ran, clean_ran}
use Rattle.device_laws.proofs.KeptEvents.{always_any, always_if}
use Rattle.device_laws.proofs.PlainStores.{core_of}
use Rattle.device_laws.proofs.PlainTurns.{Follows}
use Rattle.subsystem_laws.specs.Looking.{is_written, is_written_at}
use Rattle.subsystem_laws.proofs.looking.Talks.{by_background, marked_same}
use Rattle.subsystem_laws.proofs.looking.TwinPeek.{peek_whole}
use Rattle.subsystem_laws.specs.Found.{FoundPlain}
use Rattle.subsystem_laws.specs.Standing.{IsBesideOn}
use Rattle.subsystem_laws.proofs.turning.Beside.{has, marks}
use Rattle.subsystem_laws.proofs.turning.Finding.{LookTold, always_on, peek_told}
use Rattle.subsystem_laws.proofs.turning.Lacking.{bytes_keep}
use Rattle.subsystem_laws.proofs.turning.Untold.{along}
use Rattle.subsystem_laws.proofs.turning.Wanting.{WalkedOn, along_quiet, along_first}

-- Over marks it finds the plain track

module _ (num : ℕ) (empty : PlainState) (d : MarksDevice) (f : Follows num empty d) (t : ℕ) where
  abbrev On : MarksStore → Type 0
  On z = WalkedOn num empty d f (core_of z)

  plain_here : (z : MarksStore) → On z → plain_at z t ≡ plain_at d.store t
  plain_here z w =
      ap (λ (x : Geometry). record { geometry = x; track = track_in z.plain t }) w.0.walks.geometry
      ∙ ap (λ (v : List PlainTrack). record { geometry = d.store.geometry; track = track_in v t }) w.1

  abbrev ImagePlain : Option Imaged → Type 0
  ImagePlain None = Unit {0}
  ImagePlain (Some (Has i)) = i ≡ plain_at d.store t
  ImagePlain (Some (NoBytes fault)) = Unit {0}
  ImagePlain (Some (BadTrack side)) = Unit {0}

  abbrev Images : Interaction Bool Image MarksStore (Option Imaged) → Type 0
  Images i = Always i (λ z o. ImagePlain o)

  delivered_plain : (z : MarksStore) (side : Side) (r : Bool) → On z → Images (delivered by_plain peek_usage t side z (image_of by_plain z t r))
  delivered_plain z side true w = always_done (plain_here z w)
  delivered_plain z side false w = always_done tt

  missed_plain : (z : MarksStore) (g : Got Bool) (o : Option Bool) → On z → Images (missed by_plain peek_usage t z g o)
  missed_plain z g None w = always_done tt
  missed_plain z g (Some r) w = always_try (λ ok. always_if ok (delivered_plain z g.side r w) (always_done tt))

  miss_plain : (z : MarksStore) → On z → Images (miss by_plain z peek_usage t)
  miss_plain z w =
      always_then (bytes_keep by_plain (λ y. WalkedOn num empty d f (core_of y)) (along_quiet num empty d f) z t w)
      (λ y g x. missed_plain y g g.bytes x)

  frame_plain : (z : MarksStore) (o : Option Bool) → On z → Images (image_by by_plain z peek_usage t o)
  frame_plain z None w = miss_plain z w
  frame_plain z (Some m) w =
      always_if m (always_done (plain_here z w))
      (always_if (is_bypass peek_usage.mode) (miss_plain z w)
      (always_ask (λ listed. always_if listed (always_done (plain_here z w))
      (miss_plain (with_frame z t None) ((along_quiet num empty d f).frames z t None w)))))

  abbrev pub LookPlain : Option Peeked → Type 0
  LookPlain None = Unit {0}
  LookPlain (Some (Track i)) = i ≡ plain_at d.store t
  LookPlain (Some Lost) = Unit {0}
  LookPlain (Some (Fault side)) = Unit {0}
  LookPlain (Some (BadBytes side)) = Unit {0}

  abbrev Looks : Interaction Bool Image MarksStore (Option Peeked) → Type 0
  Looks i = Always i (λ z o. LookPlain o)

  found_plain : (z : MarksStore) (o : Option Imaged) → ImagePlain o → Looks (had_by (λ y i. Done y (Some (peeked i))) z o)
  found_plain z None e = always_done tt
  found_plain z (Some (Has i)) e = always_done e
  found_plain z (Some (NoBytes None)) e = always_done tt
  found_plain z (Some (NoBytes (Some side))) e = always_done tt
  found_plain z (Some (BadTrack side)) e = always_done tt

  imaged_plain : (z : MarksStore) → On z → Looks (peek_image by_plain z t)
  unfolding I.image
  imaged_plain z w = always_then (frame_plain z (frame_at z t) w) (λ y o e. found_plain y o e)

  -- what the background writes is the plain track
  written_plain : (z : MarksStore) (q : ℕ) (origin : Origin) → is_written origin ≡ false → plainly_written z q origin ≡ plain_at z q
  written_plain z q (OfCommand bypass e) off = absurd (cc)
  written_plain z q (OfCut bypass) off = absurd (cc)
  written_plain z q OfBackground off = refl

  both_so : (x y : Bool) → (x && y) ≡ false → x ≡ true → y ≡ false
  both_so true y e f = e
  both_so false y e f = absurd (cc)

  first_of : (x y z : Bool) → (x && y && z) ≡ true → x ≡ true
  first_of true y z e = refl
  first_of false y z e = absurd (cc)

  half_plain : (z : MarksStore) (o : Option (HalfWrite (Unit {0}))) → On z → is_written_at o t ≡ false → Looks (peek_half by_plain z t o)
  half_plain z None w off = imaged_plain z w
  half_plain z (Some h) w off =
      always_on (is_in_half by_plain z t h)
      (λ yes.
      let own : (h.track == t) ≡ true = first_of (h.track == t) _ _ yes in
      let is : h.track ≡ t = grind arith in
      always_try (λ ok. always_if ok
      (always_done (written_plain z h.track h.origin (both_so (h.track == t) (is_written h.origin) off own) ∙ ap (λ (q : ℕ). plain_at z q) is ∙ plain_here z w))
      (always_done tt)))
      (λ no. imaged_plain z w)

  peek_plain : is_written_at d.store.half t ≡ false → Always (peek by_plain d t) (λ y o. LookPlain o)
  unfolding P.peek
  peek_plain off =
      always_then
      (always_then
      (always_if (is_lost (noted_begin d.store) t) (always_done tt)
      (half_plain (noted_begin d.store) (noted_begin d.store).half (along_first num empty d f) off))
      (λ z o e. always_done e))
      (λ y o e. always_then (always_any (noted_end by_plain (waiting_count by_plain d.store) y.store)) (λ z _ _. always_done e))

-- No bytes are bad

abbrev GoodLook : Option Peeked → Type 0
GoodLook None = Unit {0}
GoodLook (Some (Track i)) = Unit {0}
GoodLook (Some Lost) = Unit {0}
GoodLook (Some (Fault side)) = Unit {0}
GoodLook (Some (BadBytes side)) = ⊥

found_clean : (z : MarksStore) (o : Option Imaged) → NotBad o → Clean {I = Image} (λ y (a : Option Peeked). GoodLook a) (had_by (λ y i. Done y (Some (peeked i))) z o)
found_clean z None e = clean_done tt
found_clean z (Some (Has i)) e = clean_done tt
found_clean z (Some (NoBytes None)) e = clean_done tt
found_clean z (Some (NoBytes (Some side))) e = clean_done tt
found_clean z (Some (BadTrack side)) e = absurd e

imaged_clean : (z : MarksStore) (t : ℕ) → Clean {I = Image} (λ y (a : Option Peeked). GoodLook a) (peek_image by_plain z t)
imaged_clean z t = clean_then (had_by (λ y i. Done y (Some (peeked i)))) (image_clean z peek_usage t) (λ y o e. found_clean y o e)

half_clean : (z : MarksStore) (t : ℕ) (o : Option (HalfWrite (Unit {0}))) → Clean {I = Image} (λ y (a : Option Peeked). GoodLook a) (peek_half by_plain z t o)
half_clean z t None = imaged_clean z t
half_clean z t (Some h) =
    clean_if (is_in_half by_plain z t h) (clean_try (λ ok. clean_if ok (clean_done tt) (clean_done tt))) (imaged_clean z t)

peek_clean : (d : MarksDevice) (t : ℕ) → Clean {I = Image} (λ y (a : Option Peeked). GoodLook a) (peek by_plain d t)
unfolding P.peek
peek_clean d t =
    clean_then (event_ended by_plain d)
    (clean_then (λ s found. Done (with_store (event_begun d) s) found)
    (clean_if (is_lost (noted_begin d.store) t) (clean_done tt) (half_clean (noted_begin d.store) t (noted_begin d.store).half)) (λ z o e. clean_done e))
    (λ y o e. clean_then (λ z _. Done (record y { store = z }) o) (clean_any (noted_end by_plain (waiting_count by_plain d.store) y.store)) (λ z _ _. clean_done e))

-- Over contents

module _ {first : ℕ → List PlainTrack} {K : Type 0} {d : WholeDevice} {u : Outside (List ℕ) K} (s : IsBesideOn first d u) (t : ℕ) where
  all_of : (a : Option Peeked) → LookTold d.store t a → LookPlain d.store.device (begun_as first d) (marks s) s.follows t a →
      GoodLook a → FoundPlain first d t a
  all_of None told plain good = tt
  all_of (Some (Track i)) told plain good =
      plain ∙ ap (λ (v : List PlainTrack). record { geometry = d.store.geometry; track = track_in v t }) (sym s.follows.of.volume)
  all_of (Some Lost) told plain good = told
  all_of (Some (Fault side)) told plain good = told
  all_of (Some (BadBytes side)) told plain good = absurd good

module _ {first : ℕ → List PlainTrack} {K : Type 0} {d : WholeDevice} {u : Outside (List ℕ) K} (s : IsBesideOn first d u) {had : Bool → Type 0} {hears : Hearing Image K}
    {e : WholeDevice} {z : Outside (List ℕ) K} (t : ℕ) (lt : t < tracks_of d.store) (may : is_written_at d.store.half t ≡ false) where
  pub peek_finds : {a : Option Peeked} → Ran had hears (peek contents d t) u e a z → FoundPlain first d t a
  peek_finds {a = a} r =
      let num = d.store.device in
      let empty = begun_as first d in
      let both = peek_whole s.plain s.firm d s.held t lt (by_background d.store.half t may) s.order in
      let o = along [] _ (λ y (b : Option Peeked). LookPlain num empty (marks s) s.follows t b) s.held both
      (peek_plain num empty (marks s) s.follows t (marked_same d.store.half t ∙ may)).holds s.untold r in
      all_of s t a (always_ran (peek contents d t) (λ y b. LookTold d.store t b) (peek_told d t).holds r)
      (subst (λ (b : Option Peeked). LookPlain num empty (marks s) s.follows t b) (sym o.is.is.same) o.so)
      (clean_ran (λ y b. GoodLook b) (λ y b. GoodLook b) [] s.held both (peek_clean (marks s) t) (λ v w f. f) (has s) (ran_weaker (λ ok h. tt) r))
