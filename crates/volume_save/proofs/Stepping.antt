-- A volume that is being saved goes on by one track, or ends with the first look that found none.
use Rattle.std.proofs.Common.{
  ◌≡◌,
  ◌∙◌,
  ◌<◌,
  ◌≤◌,
  ◌⊎◌,
  ◌+◌,
  ◌-◌,
  ◌*◌,
  inl,
  inr,
  ℕ,
  zero,
  suc,
  Bool,
  true,
  false,
  List,
  [],
  ◌∷◌,
  ◌++◌,
  append_assoc,
  length,
  take,
  set,
  map,
  Option,
  Some,
  None,
  is_some,
  Result,
  Ok,
  Err,
  refl,
  sym,
  ap,
  subst,
  arith,
}
use Rattle.std.specs.Prelude.{IfSome, option_map, if◌then◌else◌}
use Rattle.std.proofs.lemmas.Bool.{cases_lt}
use Rattle.std.proofs.lemmas.List.{append-nil, take_all, take_more_set}
use Rattle.std.proofs.lemmas.Option.{none-some}
use Rattle.ckd_types.specs.declared.geometry.Geometry.{Geometry}
use Rattle.ckd_types.specs.declared.paths.Side.{Side}
use Rattle.ckd_types.specs.declared.record.Track.{Track}
use Rattle.ckd_types.specs.Geometry.{cchh_of}
use Rattle.ckd_types.specs.Volume.{track_in}
use Rattle.deck_text.specs.DeckLines.{DeckLines}
use Rattle.track_image.specs.Image.{Image}
use Rattle.device_outside.specs.declared.volume.Volume.{Ghosts}
use Rattle.device_outside.specs.Pool.{Pool}
use Rattle.device_core.specs.declared.device.Device.{Device}
use Rattle.device_core.specs.State.{device_of}
use Rattle.device_defs.specs.Contents.{by_plain}
use Rattle.device_defs.specs.Marks.{half_mark}
use Rattle.device_defs.specs.Peek as peeks
use Rattle.device_defs.specs.Peek.{Peeked}
use Rattle.device_defs.specs.Sound.{has_sound_marks}
use Rattle.device_defs.specs.Store.{HalfWrite, tracks_of, is_lost, half_is}
use Rattle.subsystem_laws.specs.Looking.{is_writing, is_written_at, IsPlainly, StaysOwn}
use Rattle.subsystem_laws.proofs.looking.Talks.{unwritten}
use Rattle.subsystem_laws.proofs.looking.Leaves.{fault_has_failed, fault_is, look_finds_plain, look_leaves_own, lost_is_lost}
use Rattle.subsystem_core.specs.declared.subsystem.Subsystem.{Subsystem}
use Rattle.subsystem_core.specs.Devices.{device_at}
use Rattle.subsystem_defs.specs.Decks.{AreWhole, Firsts, run_on}
use Rattle.subsystem_defs.specs.Looks.{looked}
use Rattle.subsystem_defs.specs.Subsystem as runs
use Rattle.subsystem_defs.specs.Subsystem.{Mounted, mounted_in}
use Rattle.subsystem_laws.specs.Served.{IsServedDeck}
use Rattle.subsystem_laws.specs.WholeStood.{Stood, stood_in, AreMounted, IsMounted, is_mounted}
use Rattle.subsystem_laws.proofs.WholeFinding.{Found, none_found, both_found, find}
use Rattle.deck_run.specs.Standing.{StandsAs, stood_of, all_stood}
use Rattle.deck_run.proofs.Found.{stood_found}
use Rattle.volume_file.specs.File.{HasAllTracks, ImageVolume}
use Rattle.volume_save.specs.declared.unsaved.Unsaved.{Unsaved}
use Rattle.volume_save.specs.declared.unsaved.Unsaved.TheVariants.{Lent, Half, Lost, Fault, NoMemory}
use Rattle.volume_save.specs.Devices.{HasSmallDevices}
use Rattle.volume_save.specs.Saving as S
use Rattle.volume_save.specs.Saving.{
  and_then,
  behind_looks,
  image_found,
  images_from,
  refusal,
  saving,
  tracks_saved,
  unless_refused,
  volume_with,
  saving_at,
  saving_on,
  Gives,
  HasDevice,
  HasReason,
  IsFault,
  IsSavedOn,
}
use Rattle.volume_save.specs.Stepping.{FitsRun, GoesOn, GoesOnWith, LooksLeft}
use Rattle.volume_save.proofs.Images.{found_plain, image_on, not_refused, saving_plain}
use Rattle.volume_save.proofs.InRun.{plain_after, stands_in_run}
use Rattle.volume_save.proofs.SmallRuns.{small_in_run}
use Rattle.volume_file.proofs.EmptyImages.{small_is_whole}

some_same : {X : Type 0} {x y : X} → Some x ≡ Some y → x ≡ y
some_same e = cc

-- The device of the code, and what a run has mounted for it

pub record IsStood (y : Stood) (o : Option Mounted) : Type 0 where
  pub mounted : Mounted
  pub there : o ≡ Some mounted
  pub geometry : mounted.device.store.geometry ≡ y.device.store.geometry
  pub cylinders : mounted.device.store.cylinders ≡ y.device.store.cylinders
  pub refused : refusal mounted.device.store ≡ refusal y.device.store

marked_writing : (o : Option (HalfWrite Image)) → is_writing (option_map half_mark o) ≡ is_writing o
marked_writing None = refl
marked_writing (Some h) = refl

stood_is : {mine : List ℕ} {y : Stood} {m : Mounted} (o : Option Mounted) → o ≡ Some m → IsMounted mine y m → IsStood y o
stood_is {m = m} o there (is_mounted d v w h on_a on_b a b stands slots told_a told_b) = record {
  mounted = m;
  there = there;
  geometry = refl;
  cylinders = refl;
  refused = ap (λ (b : Bool). if is_some d.store.lent then Some Lent else if b then Some Half else None) (marked_writing d.store.half);
}

stood_by : (used taken : List ℕ) (xs : List Stood) (ms : List Mounted) (n : ℕ) (y : Stood) → Found used taken xs ms n → stood_in xs n ≡ Some y →
    IsStood y (mounted_in ms n)
stood_by used taken xs ms n y (none_found s t) at = absurd (none-some y (sym s ∙ at))
stood_by used taken xs ms n y (both_found x m mine others s t is shared number put) at =
    subst (λ (z : Stood). IsStood z (mounted_in ms n)) (some_same (sym s ∙ at)) (stood_is (mounted_in ms n) t is)

module _ {V : Type 0} {G : Ghosts V} where
  pub stood_run : (sub : Subsystem V G) (run : runs.Subsystem) (d : ℕ) (x : Device V G) → StandsAs sub run → device_at sub.devices.items d ≡ Some x →
      IsStood (stood_of x) (mounted_in run.mounted d)
  stood_run sub run d x stands at =
      stood_by sub.pool.pool.used [] (all_stood sub.devices.items) run.mounted d (stood_of x)
      (find sub.pool.pool.used [] (all_stood sub.devices.items) run.mounted d stands.mounted) (stood_found sub.devices.items d x at)

  -- a track of the volume is one of the device
  track_below : (sub : Subsystem V G) (run : runs.Subsystem) (d t : ℕ) (v : ImageVolume) (x : Device V G) → StandsAs sub run → FitsRun run d v →
      HasAllTracks v → t < length v.images → device_at sub.devices.items d ≡ Some x → t < x.store.cylinders * 15
  track_below sub run d t v x stands fits whole lt at =
      let s = stood_run sub run d x stands at in
      let same : s.mounted ≡ fits.mounted = some_same (sym s.there ∙ fits.there) in
      let cylinders : x.store.cylinders ≡ v.cylinders =
      sym s.cylinders ∙ ap (λ (m : Mounted). m.device.store.cylinders) same ∙ fits.cylinders in
      omega (arith, whole.tracks, lt, cylinders)

  tracks_by : (sub : Subsystem V G) (run : runs.Subsystem) (d t : ℕ) (v : ImageVolume) (o : Option (Device V G)) → StandsAs sub run → FitsRun run d v →
      HasAllTracks v → t < length v.images → device_at sub.devices.items d ≡ o → IfSome o (λ x. t < x.store.cylinders * 15)
  tracks_by sub run d t v (Some x) stands fits whole lt at = track_below sub run d t v x stands fits whole lt at
  tracks_by sub run d t v None stands fits whole lt at = tt

  pub all_below : (sub : Subsystem V G) (run : runs.Subsystem) (d t : ℕ) (v : ImageVolume) → StandsAs sub run → FitsRun run d v → HasAllTracks v →
      t < length v.images → IfSome (device_at sub.devices.items d) (λ x. t < x.store.cylinders * 15)
  all_below sub run d t v stands fits whole lt = tracks_by sub run d t v (device_at sub.devices.items d) stands fits whole lt refl

  -- an image that was found goes into the volume
  pub is_placed : (sub : Subsystem V G) (run : runs.Subsystem) (d t : ℕ) (v : ImageVolume) (i : Image) → StandsAs sub run → FitsRun run d v → HasAllTracks v →
      t < length v.images → (looked run d t).found ≡ peeks.Track i → (i.geometry ≡ v.geometry) × (i.track.home ≡ cchh_of t)
  is_placed sub run d t v i stands fits whole lt found =
      let m = fits.mounted in
      let plain : i ≡ image_on m.device.store.geometry (track_in m.device.store.plain t) = found_plain run d t m i fits.there fits.calm found in
      let in_run = stands_in_run sub.pool.pool (all_stood sub.devices.items) run.mounted d m stands.mounted fits.there fits.home in
      let below : t < m.device.store.cylinders * 15 = omega (arith, whole.tracks, lt, fits.cylinders) in
      (ap (λ (x : Image). x.geometry) plain ∙ fits.geometry, ap (λ (x : Image). x.track.home) plain ∙ in_run.plain.homes t below)

-- bytes are never bad
pub never_bad : (run : runs.Subsystem) (d t : ℕ) (v : ImageVolume) (side : Side) → FitsRun run d v → (looked run d t).found ≡ peeks.BadBytes side → ⊥
never_bad run d t v side fits found =
    subst (IsPlainly fits.mounted t) found
    (look_finds_plain run d t fits.mounted fits.there (unwritten fits.mounted.device.store.half t fits.calm))

pub off_track : (run : runs.Subsystem) (d t : ℕ) (v : ImageVolume) → FitsRun run d v →
    IfSome (mounted_in run.mounted d) (λ m. is_written_at m.device.store.half t ≡ false)
off_track run d t v fits =
    subst (λ (o : Option Mounted). IfSome o (λ m. is_written_at m.device.store.half t ≡ false)) (sym fits.there)
    (unwritten fits.mounted.device.store.half t fits.calm)

-- One track

pub fits_on : (run : runs.Subsystem) (d t : ℕ) (v w : ImageVolume) → FitsRun run d v → w.geometry ≡ v.geometry → w.cylinders ≡ v.cylinders →
    FitsRun (looked run d t).behind d w
fits_on run d t v w f geometry cylinders =
    let stays : StaysOwn run d t f.mounted = look_leaves_own run d t f.mounted f.there in
    record {
      mounted = stays.mounted;
      there = stays.there;
      home = ap is_some stays.own.lent ∙ f.home;
      calm = ap is_writing stays.own.half ∙ f.calm;
      geometry = stays.own.geometry ∙ f.geometry ∙ sym geometry;
      cylinders = stays.own.cylinders ∙ f.cylinders ∙ sym cylinders;
    }

-- the tracks before, and those that follow
abbrev more : ImageVolume → ℕ → List Image → ImageVolume
more v t images = record v { images = take t v.images ++ images }

on_by : (v w : ImageVolume) (t : ℕ) (i : Image) (r : Result (List Image) Unsaved) → w ≡ record v { images = set v.images t i } → t < length v.images →
    and_then (and_then r (λ images. Ok (i ∷ images))) (λ images. Ok (more v t images)) ≡ and_then r (λ images. Ok (more w (t + 1) images))
on_by v w t i (Err why) is lt = refl
on_by v w t i (Ok images) is lt =
    let front : take t v.images ++ i ∷ images ≡ take (t + 1) (set v.images t i) ++ images =
    sym (append_assoc (take t v.images) (i ∷ []) images) ∙ ap (λ (l : List Image). l ++ images) (sym (take_more_set v.images t i lt)) in
    ap (λ (l : List Image). Ok (record v { images = l })) front
    ∙ ap (λ (x : ImageVolume). Ok (more x (t + 1) images)) (sym is)

abbrev rest_of : ℕ → runs.Subsystem → ℕ → ℕ → ImageVolume → Result ImageVolume Unsaved
rest_of n now d t v = and_then (images_from n now d t) (λ images. Ok (more v t images))

rest_on : (n : ℕ) (now : runs.Subsystem) (d t : ℕ) (v w : ImageVolume) (i : Image) → (looked now d t).found ≡ peeks.Track i →
    w ≡ record v { images = set v.images t i } → t < length v.images → rest_of (suc n) now d t v ≡ rest_of n (looked now d t).behind d (t + 1) w
unfolding S.images_from
rest_on n now d t v w i found is lt =
    rw found (on_by v w t i (images_from n (looked now d t).behind d (t + 1)) is lt)

rest_stops : (n : ℕ) (now : runs.Subsystem) (d t : ℕ) (v : ImageVolume) (why : Unsaved) → image_found t (looked now d t).found ≡ Err why →
    rest_of (suc n) now d t v ≡ Err why
unfolding S.images_from
rest_stops n now d t v why found = rw found refl

refused_by : (run : runs.Subsystem) (d : ℕ) (m : Mounted) (o : Option Unsaved) → mounted_in run.mounted d ≡ Some m → refusal m.device.store ≡ o →
    saving run d ≡ unless_refused o (tracks_saved run d m)
unfolding S.saving
refused_by run d m o there is = rw (there, is) refl

module _ {V : Type 0} {G : Ghosts V} where
  on_here : (run : runs.Subsystem) (d t count : ℕ) (old new : Subsystem V G) (v w : ImageVolume) (l : LooksLeft run d t count old v) →
      t < count → t < length v.images → GoesOnWith l.now d t v new w → LooksLeft run d (t + 1) count new w
  on_here run d t count old new v w l lt inside g =
      let next : count - t ≡ suc (count - (t + 1)) = omega (arith, lt) in
      let on : t + 1 ≡ suc t = omega arith in
      record {
        now = (looked l.now d t).behind;
        is = ap (λ (n : ℕ). behind_looks n run d) on ∙ ap (λ (s : runs.Subsystem). (looked s d t).behind) l.is;
        stands = g.stands;
        fits = g.fits;
        rest = l.rest ∙ ap (λ (n : ℕ). rest_of n l.now d t v) next ∙ rest_on (count - (t + 1)) l.now d t v w g.image g.found g.set inside;
      }

  pub looks_on : (run : runs.Subsystem) (d t count track : ℕ) (old new : Subsystem V G) (v w : ImageVolume) (l : LooksLeft run d t count old v) →
      track ≡ t → t < count → t < length v.images → GoesOnWith l.now d track v new w → LooksLeft run d (t + 1) count new w
  looks_on run d t count track old new v w l at lt inside g =
      on_here run d t count old new v w l lt inside (subst (λ (k : ℕ). GoesOnWith l.now d k v new w) at g)

  looks_stop : (run : runs.Subsystem) (d t count : ℕ) (sub : Subsystem V G) (v : ImageVolume) (why : Unsaved) (l : LooksLeft run d t count sub v) →
      t < count → image_found t (looked l.now d t).found ≡ Err why → saving run d ≡ Err why
  looks_stop run d t count sub v why l lt found =
      let next : count - t ≡ suc (count - (t + 1)) = omega (arith, lt) in
      l.rest ∙ ap (λ (n : ℕ). rest_of n l.now d t v) next ∙ rest_stops (count - (t + 1)) l.now d t v why found

  pub looks_over : (run : runs.Subsystem) (d t count : ℕ) (sub : Subsystem V G) (v : ImageVolume) → LooksLeft run d t count sub v → count ≤ t →
      length v.images ≤ t → saving run d ≡ Ok v
  unfolding S.images_from
  looks_over run d t count sub v l over all =
      let none : count - t ≡ zero = omega (arith, over) in
      l.rest ∙ ap (λ (n : ℕ). rest_of n l.now d t v) none
      ∙ ap (λ (images : List Image). Ok (record v { images = images })) (append-nil (take t v.images) ∙ take_all t v.images all)

  -- The first look

  pub refused_first : (sub : Subsystem V G) (run : runs.Subsystem) (d : ℕ) (x : Device V G) (why : Unsaved) → StandsAs sub run →
      device_at sub.devices.items d ≡ Some x → refusal (device_of x).store ≡ Some why → saving run d ≡ Err why
  refused_first sub run d x why stands at is =
      let s = stood_run sub run d x stands at in refused_by run d s.mounted (Some why) s.there (s.refused ∙ is)

  pub looks_first : (sub : Subsystem V G) (run : runs.Subsystem) (d count : ℕ) (x : Device V G) (v : ImageVolume) → StandsAs sub run →
      device_at sub.devices.items d ≡ Some x → refusal (device_of x).store ≡ None → v.geometry ≡ x.store.geometry → v.cylinders ≡ x.store.cylinders →
      count ≡ x.store.cylinders * 15 → LooksLeft run d 0 count sub v
  looks_first sub run d count x v stands at is geometry cylinders size =
      let s = stood_run sub run d x stands at in
      let m = s.mounted in
      let not = not_refused m (s.refused ∙ is) in
      let tracks : tracks_of m.device.store ≡ count - 0 = omega (arith, size, s.cylinders) in
      let same : volume_with m.device.store.geometry m.device.store.cylinders ≡ more v 0 =
      ap (λ (g : Geometry). volume_with g m.device.store.cylinders) (s.geometry ∙ sym geometry)
      ∙ ap (λ (n : ℕ). volume_with v.geometry n) (s.cylinders ∙ sym cylinders) in
      record {
        now = run;
        is = refl;
        stands = stands;
        fits = record {
          mounted = m;
          there = s.there;
          home = not.home;
          calm = not.calm;
          geometry = s.geometry ∙ sym geometry;
          cylinders = s.cylinders ∙ sym cylinders;
        };
        rest = refused_by run d m None s.there (s.refused ∙ is)
            ∙ ap (λ (f : List Image → ImageVolume). and_then (images_from (tracks_of m.device.store) run d 0) (λ images. Ok (f images))) same
            ∙ ap (λ (n : ℕ). rest_of n run d 0 v) tracks;
      }

-- Why nothing is saved

pub gives_why : {A : Type 0} (why : Unsaved) (wanted : Result A Unsaved) → wanted ≡ Err why → Gives (Err why) wanted
gives_why Lent wanted is = sym is
gives_why Half wanted is = sym is
gives_why (Lost t) wanted is = sym is
gives_why (Fault side) wanted is = sym is
gives_why NoMemory wanted is = tt

found_lost : (t q : ℕ) (p : Peeked) → image_found t p ≡ Err (Lost q) → (p ≡ peeks.Lost) × (t ≡ q)
found_lost t q (peeks.Track image) e = absurd (cc)
found_lost t q peeks.Lost e = (refl, cc)
found_lost t q (peeks.Fault side) e = absurd (cc)
found_lost t q (peeks.BadBytes side) e = absurd (cc)

found_fault : (t : ℕ) (side : Side) (p : Peeked) → ((other : Side) → p ≡ peeks.BadBytes other → ⊥) → image_found t p ≡ Err (Fault side) →
    p ≡ peeks.Fault side
found_fault t side (peeks.Track image) good e = absurd (cc)
found_fault t side peeks.Lost good e = absurd (cc)
found_fault t side (peeks.Fault other) good e = cc
found_fault t side (peeks.BadBytes other) good e = absurd (good other refl)

found_other : (t : ℕ) (p : Peeked) → (image_found t p ≡ Err Lent → ⊥) × (image_found t p ≡ Err Half → ⊥)
found_other t (peeks.Track image) = (λ e. cc, λ e. cc)
found_other t peeks.Lost = (λ e. cc, λ e. cc)
found_other t (peeks.Fault side) = (λ e. cc, λ e. cc)
found_other t (peeks.BadBytes side) = (λ e. cc, λ e. cc)

by_half : (run : runs.Subsystem) (d t : ℕ) (side : Side) (m : Mounted) (b : Bool) → half_is m.device.store.half t ≡ b → mounted_in run.mounted d ≡ Some m →
    has_sound_marks by_plain m.device.store t ≡ true → (looked run d t).found ≡ peeks.Fault side → IsFault t side m
by_half run d t side m true half there marks found = elim (fault_is run d t m there side found) [
  | inl failed ↦ inl failed
  | inr nowhere ↦ inr (half, nowhere)
]
by_half run d t side m false half there marks found = inl (fault_has_failed run d t m side there marks half found)

by_some : (run : runs.Subsystem) (d : ℕ) (m : Mounted) (why : Unsaved) (b c : Bool) → is_some m.device.store.lent ≡ b →
    is_writing m.device.store.half ≡ c → mounted_in run.mounted d ≡ Some m → (if b then Some Lent else if c then Some Half else None) ≡ Some why →
    HasReason run d why
by_some run d m why true c lent half there is =
    subst (HasReason run d) (some_same is) (record { mounted = m; there = there; is_so = lent })
by_some run d m why false true lent half there is =
    subst (HasReason run d) (some_same is) (record { mounted = m; there = there; is_so = half })
by_some run d m why false false lent half there is = absurd (cc)

not_none : (d : ℕ) (s : runs.Subsystem) (v : ImageVolume) → saving_at s d None ≡ Ok v → ⊥
not_none d s v e = cc

module _ {V : Type 0} {G : Ghosts V} where
  has_reason : (run : runs.Subsystem) (d t count : ℕ) (sub : Subsystem V G) (v : ImageVolume) (why : Unsaved) (l : LooksLeft run d t count sub v) →
      HasAllTracks v → t < length v.images → image_found t (looked l.now d t).found ≡ Err why → HasReason run d why
  has_reason run d t count sub v Lent l whole lt found = absurd ((found_other t (looked l.now d t).found).0 found)
  has_reason run d t count sub v Half l whole lt found = absurd ((found_other t (looked l.now d t).found).1 found)
  has_reason run d t count sub v (Lost q) l whole lt found =
      let so = found_lost t q (looked l.now d t).found found in
      let m = l.fits.mounted in
      subst (λ (k : ℕ). HasReason run d (Lost k)) so.1
      (subst (λ (s : runs.Subsystem). HasDevice s d (λ (x : Mounted). is_lost x.device.store t ≡ true)) (sym l.is)
      (record { mounted = m; there = l.fits.there; is_so = lost_is_lost l.now d t m l.fits.there so.0 }))
  has_reason run d t count sub v (Fault side) l whole lt found =
      let m = l.fits.mounted in
      let so = found_fault t side (looked l.now d t).found (λ other. never_bad l.now d t v other l.fits) found in
      let in_run = stands_in_run sub.pool.pool (all_stood sub.devices.items) l.now.mounted d m l.stands.mounted l.fits.there l.fits.home in
      let below : t < m.device.store.cylinders * 15 = omega (arith, whole.tracks, lt, l.fits.cylinders) in (
        t,
        subst (λ (s : runs.Subsystem). HasDevice s d (IsFault t side)) (sym l.is) (record {
          mounted = m;
          there = l.fits.there;
          is_so = by_half l.now d t side m (half_is m.device.store.half t) refl l.fits.there (in_run.marks t below) so;
        }),
      )
  has_reason run d t count sub v NoMemory l whole lt found = tt

  pub reason_first : (sub : Subsystem V G) (run : runs.Subsystem) (d : ℕ) (x : Device V G) (why : Unsaved) → StandsAs sub run →
      device_at sub.devices.items d ≡ Some x → refusal (device_of x).store ≡ Some why → HasReason run d why
  reason_first sub run d x why stands at is =
      let s = stood_run sub run d x stands at in
      by_some run d s.mounted why (is_some s.mounted.device.store.lent) (is_writing s.mounted.device.store.half) refl refl s.there (s.refused ∙ is)

  -- What is saved

  saved_by : (sub : Subsystem V G) (firsts : Firsts) → AreWhole firsts → (deck : DeckLines) (d : ℕ) (v : ImageVolume) (o : Option Mounted) →
      mounted_in (run_on firsts deck).behind.mounted d ≡ o → IsServedDeck deck → HasSmallDevices deck → StandsAs sub (run_on firsts deck).behind →
      saving_on firsts deck d ≡ Ok v → HasAllTracks v → IsSavedOn firsts deck d v
  unfolding S.saving
  saved_by sub firsts whole deck d v None none served small stands found all =
      absurd (not_none d (run_on firsts deck).behind v (ap (saving_at (run_on firsts deck).behind d) (sym none) ∙ found))
  saved_by sub firsts whole deck d v (Some m) there served small stands found all =
      let size = λ (home : is_some m.device.store.lent ≡ false).
      (stands_in_run sub.pool.pool (all_stood sub.devices.items) (run_on firsts deck).behind.mounted d m stands.mounted there home).plain.tracks in
      let images : v ≡ volume_with m.device.store.geometry m.device.store.cylinders (map (image_on m.device.store.geometry) m.device.store.plain) =
      saving_plain (run_on firsts deck).behind d m v there size found in
      record {
        mounted = m;
        there = there;
        found = found;
        plain = images
            ∙ ap (λ (l : List Track). volume_with m.device.store.geometry m.device.store.cylinders (map (image_on m.device.store.geometry) l))
            (sym (plain_after firsts whole deck d m served there));
        whole =
            small_is_whole v all
            (subst (λ (k : ℕ). k ≤ 64) (sym (ap (λ (w : ImageVolume). w.cylinders) images)) (small_in_run firsts deck d m small there));
      }

  pub is_saved : (sub : Subsystem V G) (firsts : Firsts) → AreWhole firsts → (deck : DeckLines) (d : ℕ) (v : ImageVolume) → IsServedDeck deck →
      HasSmallDevices deck → StandsAs sub (run_on firsts deck).behind → saving_on firsts deck d ≡ Ok v → HasAllTracks v → IsSavedOn firsts deck d v
  is_saved sub firsts whole deck d v served small stands found all =
      saved_by sub firsts whole deck d v (mounted_in (run_on firsts deck).behind.mounted d) refl served small stands found all

-- At the end of a call

pub gives_ok : (v : ImageVolume) (wanted : Result ImageVolume Unsaved) → wanted ≡ Ok v → Gives (Ok v) wanted
gives_ok v wanted is = sym is

module _ {V : Type 0} {G : Ghosts V} where
  stop_by : (now : runs.Subsystem) (d t : ℕ) (v w : ImageVolume) (sub : Subsystem V G) (why : Unsaved) → GoesOn now d t v sub w (Err why) →
      (why ≡ NoMemory) ⊎ (image_found t (looked now d t).found ≡ Err why)
  stop_by now d t v w sub Lent g = inr g
  stop_by now d t v w sub Half g = inr g
  stop_by now d t v w sub (Lost q) g = inr g
  stop_by now d t v w sub (Fault side) g = inr g
  stop_by now d t v w sub NoMemory g = inl refl

  pub gives_stop : (run : runs.Subsystem) (d t count track : ℕ) (old new : Subsystem V G) (v w : ImageVolume) (why : Unsaved)
      (l : LooksLeft run d t count old v) → track ≡ t → t < count → GoesOn l.now d track v new w (Err why) → Gives {A = ImageVolume} (Err why) (saving run d)
  gives_stop run d t count track old new v w why l at lt g =
      elim (stop_by l.now d t v w new why (subst (λ (k : ℕ). GoesOn l.now d k v new w (Err why)) at g)) [
        | inl none ↦ subst (λ (x : Unsaved). Gives {A = ImageVolume} (Err x) (saving run d)) (sym none) tt
        | inr found ↦ gives_why why (saving run d) (looks_stop run d t count old v why l lt found)
      ]

  pub has_reason_by : (run : runs.Subsystem) (d t count track : ℕ) (old new : Subsystem V G) (v w : ImageVolume) (why : Unsaved)
      (l : LooksLeft run d t count old v) → track ≡ t → HasAllTracks v → t < length v.images → GoesOn l.now d track v new w (Err why) → HasReason run d why
  has_reason_by run d t count track old new v w why l at whole lt g =
      elim (stop_by l.now d t v w new why (subst (λ (k : ℕ). GoesOn l.now d k v new w (Err why)) at g)) [
        | inl none ↦ subst (λ (x : Unsaved). HasReason run d x) (sym none) tt
        | inr found ↦ has_reason run d t count old v why l whole lt found
      ]
