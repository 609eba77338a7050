-- The volumes that stand in the devices behind a run are those that the run hands out.
use Rattle.std.proofs.Common.{
  ◌≡◌,
  ◌<◌,
  ◌≤◌,
  ◌⊎◌,
  inl,
  inr,
  ◌∙◌,
  ◌++◌,
  append_assoc,
  ◌+◌,
  ◌∷◌,
  [],
  ◌*◌,
  ◌==◌,
  ◌&&◌,
  ◌||◌,
  not,
  map,
  length,
  ℕ,
  Bool,
  true,
  false,
  List,
  Option,
  Some,
  None,
  Result,
  Ok,
  Err,
  is_some,
  refl,
  sym,
  ap,
  subst,
  arith,
  get_or,
}
use Rattle.std.specs.Prelude.{option_map, IfSome, if◌then◌else◌}
use Rattle.std.specs.List.{range_with_len}
use Rattle.std.proofs.lemmas.Bool.{and_parts, cases_lt}
use Rattle.std.proofs.lemmas.List.{append-nil, get_or_past, length-append, length-map}
use Rattle.std.proofs.lemmas.List.FromFn.{get_or-map-range_with_len, length-map-range_with_len}
use Rattle.std.proofs.lemmas.Option.{none-some, same_Some}
use Rattle.ckd_types.specs.declared.geometry.Geometry.{Geometry}
use Rattle.ckd_types.specs.declared.paths.Side.{Side}
use Rattle.ckd_types.specs.declared.paths.Side.TheVariants.{A, B}
use Rattle.ckd_types.specs.declared.record.Track.{Track}
use Rattle.ckd_types.specs.Geometry.{cchh_of}
use Rattle.ckd_types.specs.Track.{track_bytes}
use Rattle.ckd_types.specs.Volume.{track_in}
use Rattle.track_image.specs.Image.{Image}
use Rattle.track_image.specs.Reading.{reading}
use Rattle.track_image.proofs.Fields.{IsBytes}
use Rattle.track_image.proofs.Tracks.{reading_takes}
use Rattle.track_cache.specs.declared.frames.Frame.{Frame}
use Rattle.nv_store.specs.declared.patches.Stored.{Stored}
use Rattle.device_outside.specs.declared.volume.Volume.{Ghosts}
use Rattle.device_outside.specs.After.{holds_of}
use Rattle.device_outside.specs.Both as both
use Rattle.device_outside.specs.Volume.{VolumeView}
use Rattle.device_defs.specs.Contents.{contents, by_plain, image_with, image_read, patched_by}
use Rattle.device_defs.specs.Marks.{marks_of, frame_mark}
use Rattle.device_defs.specs.Owed.{is_modified}
use Rattle.device_defs.specs.Sound.{DeviceStore, IsKept, IsHeldBy, IsHeld, IsWritten, is_bare, clean_is_on_side, has_copy}
use Rattle.device_defs.specs.Store.{HalfWrite, tracks_of, side_of, level_at, has_level, frame_at, patch_at, is_lost, is_loose, half_is}
use Rattle.device_core.specs.declared.device.Device.{Device}
use Rattle.device_laws.specs.Agrees.{Held, image_in}
use Rattle.device_laws.specs.InOrder.{IsInOrder}
use Rattle.device_laws.specs.Lent.{in_order, is_away}
use Rattle.device_laws.proofs.Soundness.{and_left, and_not}
use Rattle.device_laws.proofs.TrackContents.{By}
use Rattle.device_laws.proofs.TwinChanges.{frame_twin, has_patch_twin, half_twin}
use Rattle.subsystem_defs.specs.Closing as closing
use Rattle.subsystem_defs.specs.Closing.{HandedOut, handed_of, handed_by, handed_out, handed_side, known_bytes, is_plain_at}
use Rattle.subsystem_defs.specs.Subsystem.{Mounted, calls_behind}
use Rattle.subsystem_laws.specs.WholeStood.{Stood, IsMounted, is_mounted, AreMountedBy, no_more, one_more}
use Rattle.subsystem_laws.proofs.WholeFinding.{same_number}
use Rattle.deck_run.specs.Opening.{numbers_in}
use Rattle.deck_run.specs.Standing.{StandsAs, stood_of, all_stood}
use Rattle.deck_text.specs.declared.line.DeviceLine.{DeviceLine}
use Rattle.subsystem_core.specs.declared.subsystem.Subsystem.{Subsystem}
use Rattle.subsystem_core.specs.Devices.{numbers_of}
use Rattle.subsystem_defs.specs.Subsystem as defs
use Rattle.deck_top.specs.Handed.{IsKnownAs, IsHandedBack, AreHandedBack, HoldsBytes, SidesHoldBytes, on_side, taken_of, all_taken, AllHoldBytes}
use Rattle.deck_top.specs.Bays.{Back, BayView}
use Rattle.device_store.specs.State.{on_a, on_b}
use Rattle.deck_run.specs.Sides.{AreAccounted, all_sides, away_here, one_if, sides_of, total, volumes_here}

-- Of one track

none_by : {X : Type 0} (o : Option X) → is_some o ≡ false → o ≡ None
none_by None e = refl
none_by (Some x) e = absurd (cc)

here_by : (X : Type 0) (b : Bool) → b ≡ false → By b (Unit {0}) X → X
here_by X true e k = absurd (cc)
here_by X false e k = k

other_by : (X Y : Type 0) (b : Bool) → b ≡ false → By b X Y → Y
other_by X Y true e k = absurd (cc)
other_by X Y false e k = k

kept_by : (s : DeviceStore) (h : Held) (t : ℕ) (plain firm : Image) (half : Option (HalfWrite Image)) → half_is half t ≡ false →
    IsHeldBy s h t plain firm half → IsKept s h t plain firm
kept_by s h t plain firm None off k = k
kept_by s h t plain firm (Some w) off k = other_by (IsWritten s h plain w) (IsKept s h t plain firm) (w.track == t) off k

kept_at : (s : DeviceStore) (h : Held) (t : ℕ) (plain firm : Image) → is_lost s t ≡ false → half_is s.half t ≡ false → IsHeld s h t plain firm →
    IsKept s h t plain firm
kept_at s h t plain firm there off held =
    kept_by s h t plain firm s.half off (here_by (IsHeldBy s h t plain firm s.half) (is_lost s t) there held)

sound_by : (lost half modified loose bare near copy x y : Bool) →
    (if lost then bare else if half then not loose else near && copy && (not loose || (modified && x && y))) ≡ true →
    lost ≡ false → half ≡ false → modified ≡ false → loose ≡ false
sound_by lost half modified false bare near copy x y sound l h m = refl
sound_by true half modified true bare near copy x y sound l h m = absurd (cc)
sound_by false true modified true bare near copy x y sound l h m = absurd (cc)
sound_by false false true true bare near copy x y sound l h m = absurd (cc)
sound_by false false false true bare near copy x y sound l h m = absurd (let e = (and_parts (near && copy) false sound).1 in cc)

read_by : (g : Geometry) (r : Result Track ℕ) (i : Image) → patched_by None (image_with g r) ≡ Some i → r ≡ Ok i.track
read_by g (Ok track) i e = ap (λ (j : Image). Ok j.track) (same_Some (record { geometry = g; track = track }) i e)
read_by g (Err at) i e = absurd (none-some i e)

bytes_of : (g : Geometry) (t : ℕ) (p : Option Stored) (bytes : List ℕ) (i : Image) → p ≡ None → IsBytes bytes →
    patched_by p (image_read g t bytes) ≡ Some i → bytes ≡ track_bytes i.track
bytes_of g t p bytes i none are is =
    reading_takes g (cchh_of t) bytes i.track are
    (read_by g (reading g (cchh_of t) bytes) i (ap (λ (o : Option Stored). patched_by o (image_read g t bytes)) (sym none) ∙ is))

modified_by : (o : Option Frame) → is_modified by_plain (option_map frame_mark o) ≡ is_modified contents o
modified_by None = refl
modified_by (Some f) = refl

module _ (v w : List Track) (s : DeviceStore) (h : Held) (order : IsInOrder v w s h) where
  same_side : (side : Side) → side_of (marks_of v w s) side ≡ side_of s side
  same_side A = refl
  same_side B = refl

  -- a side's bytes of a track of which nothing newer is kept are those of the plain volume
  holds_plain : (side : Side) (t : ℕ) → t < tracks_of s → is_plain_at (marks_of v w s) side t ≡ true → IsBytes (get_or (holds_of h side) t []) →
      get_or (holds_of h side) t [] ≡ track_bytes (track_in v t)
  holds_plain side t lt plain are =
      let m = marks_of v w s in
      let level = level_at (side_of m side) t in
      let lost = is_lost m t in
      let patched = is_some (patch_at m t) in
      let modified = is_modified by_plain (frame_at m t) in
      let half = half_is m.half t in
      let four = and_left (level && not lost && not patched && not modified) (not half) plain in
      let three = and_left (level && not lost && not patched) (not modified) four in
      let two = and_left (level && not lost) (not patched) three in
      let there : is_lost s t ≡ false = and_not level lost two in
      let off : half_is s.half t ≡ false =
      sym (half_twin v w s t) ∙ and_not (level && not lost && not patched && not modified) half plain in
      let clean : is_modified contents (frame_at s t) ≡ false =
      sym (modified_by (frame_at s t)) ∙ ap (is_modified by_plain) (sym (frame_twin v w s t)) ∙ and_not (level && not lost && not patched) modified four in
      let none : patch_at s t ≡ None = none_by (patch_at s t) (sym (has_patch_twin v w s t) ∙ and_not (level && not lost) patched three) in
      let on : level_at (side_of s side) t ≡ true = ap (λ x. level_at x t) (sym (same_side side)) ∙ and_left level (not lost) two in
      let kept = kept_at s h t (image_in s v t) (image_in s w t) there off (order.agrees.held t lt) in
      let firm : is_loose s t ≡ false =
      sound_by (is_lost s t) (half_is s.half t) (is_modified contents (frame_at s t)) (is_loose s t) (is_bare contents s t)
      (clean_is_on_side contents s t) (has_copy contents s t) (not (is_some (patch_at s t))) (has_level s t) (order.marks t lt) there off clean in
      bytes_of s.geometry t (patch_at s t) (get_or (holds_of h side) t []) (image_in s w t) none are (kept.sides side on)
      ∙ ap track_bytes (order.agrees.ground.same t lt firm)

known_by : (bytes known : List ℕ) (b : Bool) → (b ≡ true → bytes ≡ known) → IsKnownAs bytes (if b then Some known else None)
known_by bytes known true is = is refl
known_by bytes known false is = tt

-- Of a side

record SideOf (v : VolumeView (List ℕ)) (m : Mounted) (side : Side) : Type 0 where
  pub reads : v.reads ≡ (calls_behind m side).reads
  pub writes : v.writes ≡ (calls_behind m side).writes
  pub held : List (List ℕ)
  pub told : v.contents ≡ Some held
  pub known : (t : ℕ) → t < tracks_of m.device.store → IsBytes (get_or held t []) → IsKnownAs (get_or held t []) (known_bytes m.device.store side t)

side_of_a : {mine : List ℕ} {x : Stood} {m : Mounted} → IsMounted mine x m → (v : VolumeView (List ℕ)) → x.a ≡ Some v →
    is_some x.device.store.lent ≡ false → SideOf v m A
side_of_a (is_mounted d plain firm h on_a on_b a b (is_away away) slots told_a told_b) v is free = absurd (let gone = away.store.lent in cc)
side_of_a (is_mounted d plain firm h on_a on_b a b (in_order order) slots told_a told_b) v is free =
    let told : both.SideIs v h.a a = subst (λ (o : Option (VolumeView (List ℕ))). both.SideTold o h.a a) is told_a in
    record {
      reads = told.reads;
      writes = told.writes;
      held = h.a;
      told = told.contents;
      known = λ t lt are.
          known_by (get_or h.a t []) (track_bytes (track_in plain t)) (is_plain_at (marks_of plain firm d.store) A t)
          (λ is_plain. holds_plain plain firm d.store h order A t lt is_plain are);
    }

side_of_b : {mine : List ℕ} {x : Stood} {m : Mounted} → IsMounted mine x m → (v : VolumeView (List ℕ)) → x.b ≡ Some v →
    is_some x.device.store.lent ≡ false → SideOf v m B
side_of_b (is_mounted d plain firm h on_a on_b a b (is_away away) slots told_a told_b) v is free = absurd (let gone = away.store.lent in cc)
side_of_b (is_mounted d plain firm h on_a on_b a b (in_order order) slots told_a told_b) v is free =
    let told : both.SideIs v h.b b = subst (λ (o : Option (VolumeView (List ℕ))). both.SideTold o h.b b) is told_b in
    record {
      reads = told.reads;
      writes = told.writes;
      held = h.b;
      told = told.contents;
      known = λ t lt are.
          known_by (get_or h.b t []) (track_bytes (track_in plain t)) (is_plain_at (marks_of plain firm d.store) B t)
          (λ is_plain. holds_plain plain firm d.store h order B t lt is_plain are);
    }

away_single : {mine : List ℕ} {x : Stood} {m : Mounted} → IsMounted mine x m → is_some x.device.store.lent ≡ true → x.device.store.paired ≡ false
away_single (is_mounted d plain firm h on_a on_b a b (is_away away) slots told_a told_b) gone = away.store.single
away_single (is_mounted d plain firm h on_a on_b a b (in_order order) slots told_a told_b) gone = absurd (let free = order.free in cc)

same_lent : {mine : List ℕ} {x : Stood} {m : Mounted} → IsMounted mine x m → m.device.store.lent ≡ x.device.store.lent
same_lent (is_mounted d v w h on_a on_b a b order slots told_a told_b) = refl

same_paired : {mine : List ℕ} {x : Stood} {m : Mounted} → IsMounted mine x m → m.device.store.paired ≡ x.device.store.paired
same_paired (is_mounted d v w h on_a on_b a b order slots told_a told_b) = refl

same_tracks : {mine : List ℕ} {x : Stood} {m : Mounted} → IsMounted mine x m → tracks_of m.device.store ≡ tracks_of x.device.store
same_tracks (is_mounted d v w h on_a on_b a b order slots told_a told_b) = refl

-- Of all devices

few_tracks : (cylinders t : ℕ) → cylinders ≤ 4369 → t < cylinders * 15 → t < 65535
few_tracks cylinders t most lt = omega (arith, most, lt)

first_zero : (m n : ℕ) → m + n ≡ 0 → m ≡ 0
first_zero m n e = omega (arith, e)

rest_zero : (m n : ℕ) → m + n ≡ 0 → n ≡ 0
rest_zero m n e = omega (arith, e)

not_there : (lent there : Bool) → one_if (lent && there) ≡ 0 → lent ≡ true → there ≡ false
not_there true true e l = absurd (omega (arith, e))
not_there true false e l = refl
not_there false there e l = absurd (cc)

both_handed : {V : Type 0} (view : V → VolumeView (List ℕ)) (ts us : List (Back V)) (hs ks : List HandedOut) → AreHandedBack view ts hs
    → AreHandedBack view us ks
    → AreHandedBack view (ts ++ us) (hs ++ ks)
both_handed view [] us [] ks one two = two
both_handed view [] us (h ∷ hs) ks one two = absurd one
both_handed view (t ∷ ts) us [] ks one two = absurd one
both_handed view (t ∷ ts) us (h ∷ hs) ks one two = (one.0, both_handed view ts us hs ks one.1 two)

module _ {V : Type 0} {G : Ghosts V} where
  -- the volume of a side is the one that the run hands out
  module _ (x : Device V G) (m : Mounted) (mine : List ℕ) (is : IsMounted mine (stood_of x) m) (k : Side) (v : V) (bytes : HoldsBytes (G.view v))
      (side : SideOf (G.view v) m k) where
    track_known : (n : ℕ) → (n < tracks_of m.device.store) ⊎ (tracks_of m.device.store ≤ n) →
        IsKnownAs (get_or side.held n []) (get_or (handed_side m k).tracks n None)
    track_known n (inl lt) =
        let known = known_bytes m.device.store k in
        let number = tracks_of m.device.store in
        let within : n < x.store.cylinders * 15 = subst (λ (i : ℕ). n < i) (same_tracks is) lt in
        let own : IsBytes (get_or side.held n []) = λ i. bytes side.held side.told n i (few_tracks x.store.cylinders n x.store.most within) in
        subst (λ (o : Option (List ℕ)). IsKnownAs (get_or side.held n []) o)
        (sym (get_or-map-range_with_len known 0 number n n None lt (omega arith)))
        (side.known n lt own)
    track_known n (inr past) =
        let known = known_bytes m.device.store k in
        let number = tracks_of m.device.store in
        subst (λ (o : Option (List ℕ)). IsKnownAs (get_or side.held n []) o)
        (sym (get_or_past (map known (range_with_len 0 number)) n None (subst (λ (i : ℕ). i ≤ n) (sym (length-map-range_with_len known 0 number)) past)))
        tt

    one_handed : IsHandedBack G.view (record { device = x.store.number; side = k; volume = v }) (handed_side m k)
    one_handed = record {
      device = sym (same_number is);
      side = refl;
      reads = side.reads;
      writes = side.writes;
      held = side.held;
      told = side.told;
      tracks = λ n. track_known n (cases_lt n (tracks_of m.device.store));
    }

  -- of a device
  module _ (x : Device V G) (m : Mounted) (mine : List ℕ) (is : IsMounted mine (stood_of x) m) where
    sides_handed : (free : is_some x.store.pair.lent ≡ false) (a b : Option V) → on_a x.store ≡ a → on_b x.store ≡ b → is_some a ≡ true →
        IfSome a (λ v. HoldsBytes (G.view v)) → IfSome b (λ v. HoldsBytes (G.view v)) →
        AreHandedBack G.view (on_side x.store.number A a ++ on_side x.store.number B b) (handed_by m false (is_some b))
    sides_handed free None b at_a at_b there one two = absurd (cc)
    sides_handed free (Some v) None at_a at_b there one two =
        (one_handed x m mine is A v one (side_of_a is (G.view v) (ap (λ (o : Option V). option_map G.view o) at_a) free), tt)
    sides_handed free (Some v) (Some w) at_a at_b there one two = (
      one_handed x m mine is A v one (side_of_a is (G.view v) (ap (λ (o : Option V). option_map G.view o) at_a) free),
      (one_handed x m mine is B w two (side_of_b is (G.view w) (ap (λ (o : Option V). option_map G.view o) at_b) free), tt),
    )

    gone_handed : (a b : Option V) → is_some a ≡ false → is_some b ≡ false →
        AreHandedBack G.view (on_side x.store.number A a ++ on_side x.store.number B b) (handed_by m true (is_some b))
    gone_handed None None none no_b = tt
    gone_handed None (Some w) none no_b = absurd (cc)
    gone_handed (Some v) b none no_b = absurd (cc)

    device_by : (lent : Bool) → is_some x.store.pair.lent ≡ lent → away_here (sides_of x) ≡ 0 → SidesHoldBytes x →
        AreHandedBack G.view (taken_of x) (handed_by m lent (is_some (on_b x.store)))
    device_by true gone away bytes =
        gone_handed (on_a x.store) (on_b x.store) (not_there (is_some x.store.pair.lent) (is_some (on_a x.store)) away gone) (away_single is gone)
    device_by false free away bytes = sides_handed free (on_a x.store) (on_b x.store) refl refl (x.store.pair.home free) bytes.0 bytes.1

    device_handed : away_here (sides_of x) ≡ 0 → SidesHoldBytes x →
        AreHandedBack G.view (taken_of x) (handed_by m (is_some m.device.store.lent) m.device.store.paired)
    device_handed away bytes =
        subst (λ (o : Option ℕ). AreHandedBack G.view (taken_of x) (handed_by m (is_some o) m.device.store.paired)) (sym (same_lent is))
        (subst (λ (b : Bool). AreHandedBack G.view (taken_of x) (handed_by m (is_some x.store.pair.lent) b)) (sym (same_paired is))
        (device_by (is_some x.store.pair.lent) refl away bytes))

  handed_by_each : (used taken : List ℕ) (xs : List (Device V G)) (ms : List Mounted) → AllHoldBytes xs → total away_here (all_sides xs) ≡ 0 →
      AreMountedBy used taken (all_stood xs) ms → AreHandedBack G.view (all_taken xs) (handed_of ms)
  unfolding closing.handed_of
  handed_by_each used taken [] [] bytes away (no_more within) = tt
  handed_by_each used taken [] (m ∷ ms) bytes away are = elim are [ ]
  handed_by_each used taken (x ∷ xs) [] bytes away are = elim are [ ]
  handed_by_each used taken (x ∷ xs) (m ∷ ms) bytes away (one_more mine is apart rest) =
      both_handed G.view (taken_of x) (all_taken xs) (handed_by m (is_some m.device.store.lent) m.device.store.paired) (handed_of ms)
      (device_handed x m mine is (first_zero (away_here (sides_of x)) (total away_here (all_sides xs)) away) bytes.0)
      (handed_by_each used (mine ++ taken) xs ms bytes.1 (rest_zero (away_here (sides_of x)) (total away_here (all_sides xs)) away) rest)

  -- so are those of a subsystem that stands as a run has it
  pub all_handed : (s : Subsystem V G) (run : defs.Subsystem) → AllHoldBytes s.devices.items → AreAccounted (all_sides s.devices.items) → StandsAs s run →
      AreHandedBack G.view (all_taken s.devices.items) (handed_out run)
  all_handed s run bytes accounted stands =
      handed_by_each s.pool.pool.used [] s.devices.items run.mounted bytes accounted.away stands.mounted

-- How many they are

one_long : {V : Type 0} (n : ℕ) (side : Side) (o : Option V) → length (on_side n side o) ≡ one_if (is_some o)
one_long n side None = refl
one_long n side (Some v) = refl

pub taken_long : {V : Type 0} {G : Ghosts V} (x : Device V G) → length (taken_of x) ≡ volumes_here (sides_of x)
taken_long x =
    length-append (on_side x.store.number A (on_a x.store)) (on_side x.store.number B (on_b x.store))
    ∙ ap (λ (k : ℕ). k + length (on_side x.store.number B (on_b x.store))) (one_long x.store.number A (on_a x.store))
    ∙ ap (λ (k : ℕ). one_if (is_some (on_a x.store)) + k) (one_long x.store.number B (on_b x.store))

all_long : {V : Type 0} {G : Ghosts V} (xs : List (Device V G)) → length (all_taken xs) ≡ total volumes_here (all_sides xs)
all_long [] = refl
all_long (x ∷ xs) =
    length-append (taken_of x) (all_taken xs) ∙ ap (λ (k : ℕ). k + length (all_taken xs)) (taken_long x)
    ∙ ap (λ (k : ℕ). volumes_here (sides_of x) + k) (all_long xs)

-- as many as there are devices
pub all_number : {V : Type 0} {G : Ghosts V} (xs : List (Device V G)) (ds : List DeviceLine) → AreAccounted (all_sides xs) → numbers_of xs ≡ numbers_in ds →
    length (all_taken xs) ≡ length ds
all_number {V} {G = G} xs ds accounted are =
    all_long xs ∙ accounted.volumes ∙ length-map xs sides_of ∙ sym (length-map xs (λ (x : Device V G). x.store.number))
    ∙ ap (λ (l : List ℕ). length l) are ∙ length-map ds (λ (d : DeviceLine). d.number)

pub taken_more : {V : Type 0} {G : Ghosts V} (all xs : List (Device V G)) (x : Device V G) → all ≡ xs ++ x ∷ [] → all_taken all ≡ all_taken xs ++ taken_of x
taken_more {V} {G = G} all xs x is = ap (λ (l : List (Device V G)). all_taken l) is ∙ go xs
  where
    go : (ys : List (Device V G)) → all_taken (ys ++ x ∷ []) ≡ all_taken ys ++ taken_of x
    go [] = append-nil (taken_of x)
    go (y ∷ ys) = ap (λ (l : List (Back V)). taken_of y ++ l) (go ys) ∙ sym (append_assoc (taken_of y) (all_taken ys) (taken_of x))

pub held_more : {V : Type 0} {G : Ghosts V} (all xs : List (Device V G)) (x : Device V G) → all ≡ xs ++ x ∷ [] → AllHoldBytes xs → SidesHoldBytes x
    → AllHoldBytes all
held_more {V} {G = G} all xs x is hold holds = subst AllHoldBytes (sym is) (go xs hold)
  where
    go : (ys : List (Device V G)) → AllHoldBytes ys → AllHoldBytes (ys ++ x ∷ [])
    go [] h = (holds, tt)
    go (y ∷ ys) h = (h.0, go ys h.1)

-- A bay that takes some volumes and then others

pub taken_behind : {V : Type 0} (a b c : BayView V) (ts : List (Back V)) → a.taken ≡ b.taken → c ≡ record b { taken = b.taken ++ ts } → c.taken ≡ a.taken ++ ts
taken_behind {V} a b c ts same is =
    ap (λ (x : BayView V). x.taken) is ∙ ap (λ (l : List (Back V)). l ++ ts) (sym same)

module _ {V : Type 0} (b : BayView V) (all ts us : List (Back V)) (parts : all ≡ ts ++ us) where
  pub both_given : (c d : BayView V) → c ≡ record b { taken = b.taken ++ ts } → d ≡ record c { taken = c.taken ++ us } →
      d ≡ record b { taken = b.taken ++ all }
  both_given c d one two =
      two ∙ ap (λ (x : BayView V). record x { taken = x.taken ++ us }) one ∙ ap (λ (l : List (Back V)). record b { taken = l }) (append_assoc b.taken ts us)
      ∙ ap (λ (l : List (Back V)). record b { taken = b.taken ++ l }) (sym parts)

  pub room_one : length b.taken + length all ≤ b.made → length b.taken + length ts ≤ b.made
  room_one room = omega (arith, room, ap length parts, length-append ts us)

  pub room_two : (c : BayView V) → c ≡ record b { taken = b.taken ++ ts } → length b.taken + length all ≤ b.made → length c.taken + length us ≤ c.made
  room_two c is room =
      subst (λ (x : BayView V). length x.taken + length us ≤ x.made) (sym is)
      (omega (arith, room, ap length parts, length-append ts us, length-append b.taken ts))
