-- The images that are found in a run are those of the plain volume.
use Rattle.std.proofs.Common.{
  ◌≡◌,
  ◌∙◌,
  ◌<◌,
  ◌+◌,
  ◌*◌,
  ℕ,
  zero,
  suc,
  Bool,
  true,
  false,
  List,
  [],
  ◌∷◌,
  length,
  drop,
  get_or,
  map,
  Option,
  Some,
  None,
  is_some,
  Result,
  Ok,
  Err,
  refl,
  sym,
  ap,
  subst,
  arith,
}
use Rattle.std.specs.Prelude.{if◌then◌else◌}
use Rattle.std.proofs.lemmas.List.{at_drop_more, drop_all}
use Rattle.ckd_types.specs.declared.geometry.Geometry.{Geometry}
use Rattle.ckd_types.specs.declared.record.Track.{Track}
use Rattle.ckd_types.specs.Track.{empty_track}
use Rattle.ckd_types.specs.Volume.{IsVolume, track_in}
use Rattle.track_image.specs.Image.{Image}
use Rattle.device_defs.specs.Marks.{MarksStore}
use Rattle.device_defs.specs.Peek as peeks
use Rattle.device_defs.specs.Peek.{Peeked}
use Rattle.device_defs.specs.Store.{tracks_of}
use Rattle.subsystem_laws.specs.Looking.{is_writing, is_written_at, IsPlainly, LeavesOwn, StaysOwn}
use Rattle.subsystem_laws.proofs.looking.Talks.{unwritten}
use Rattle.subsystem_laws.proofs.looking.Leaves.{look_finds_plain, look_leaves_own}
use Rattle.subsystem_defs.specs.Looks.{looked}
use Rattle.subsystem_defs.specs.Subsystem.{Mounted, Subsystem, mounted_in}
use Rattle.volume_file.specs.File.{ImageVolume}
use Rattle.volume_save.specs.declared.unsaved.Unsaved.{Unsaved}
use Rattle.volume_save.specs.declared.unsaved.Unsaved.TheVariants.{Lent, Half}
use Rattle.volume_save.specs.Saving as S
use Rattle.volume_save.specs.Saving.{and_then, image_found, images_from, refusal, saving, tracks_saved, unless_refused, volume_with}

abbrev Same : {A : Type 0} → Result A Unsaved → Result A Unsaved → Type 0
Same r q = r ≡ q

ok_same : {A : Type 0} {x y : A} → Same (Ok x) (Ok y) → x ≡ y
ok_same e = cc

-- what came of one after another

pub record Both {A B E : Type 0} (r : Result A E) (f : A → Result B E) (b : B) : Type 0 where
  pub first : A
  pub was : r ≡ Ok first
  pub next : f first ≡ Ok b

pub and_ok : {A B E : Type 0} (r : Result A E) (f : A → Result B E) (b : B) → and_then r f ≡ Ok b → Both r f b
and_ok (Ok x) f b e = record { first = x; was = refl; next = e }
and_ok (Err why) f b e = absurd (cc)

pub found_image : (t : ℕ) (p : Peeked) (i : Image) → image_found t p ≡ Ok i → p ≡ peeks.Track i
found_image t (peeks.Track image) i e = ap peeks.Track (ok_same e)
found_image t peeks.Lost i e = absurd (cc)
found_image t (peeks.Fault side) i e = absurd (cc)
found_image t (peeks.BadBytes side) i e = absurd (cc)

-- an image of a plain track
abbrev pub image_on : Geometry → Track → Image
image_on g x = record { geometry = g; track = x }

abbrev pub plain_images : Mounted → ℕ → List Image
plain_images m t = map (image_on m.device.store.geometry) (drop t m.device.store.plain)

-- a track that a look found
pub found_plain : (s : Subsystem) (d t : ℕ) (m : Mounted) (i : Image) → mounted_in s.mounted d ≡ Some m → is_writing m.device.store.half ≡ false →
    (looked s d t).found ≡ peeks.Track i → i ≡ image_on m.device.store.geometry (track_in m.device.store.plain t)
found_plain s d t m i there calm found =
    subst (IsPlainly m t) found (look_finds_plain s d t m there (unwritten m.device.store.half t calm))

calm_on : (m k : Mounted) → LeavesOwn m k → is_writing m.device.store.half ≡ false → is_writing k.device.store.half ≡ false
calm_on m k own calm = ap is_writing own.half ∙ calm

same_images : (m k : Mounted) (t : ℕ) → LeavesOwn m k → plain_images k t ≡ plain_images m t
same_images m k t own =
    ap (λ (g : Geometry). map (image_on g) (drop t k.device.store.plain)) own.geometry
    ∙ ap (λ (l : List Track). map (image_on m.device.store.geometry) (drop t l)) own.plain

pub images_plain : (n : ℕ) (s : Subsystem) (d t : ℕ) (m : Mounted) (images : List Image) → mounted_in s.mounted d ≡ Some m →
    is_writing m.device.store.half ≡ false → n + t ≡ length m.device.store.plain → images_from n s d t ≡ Ok images → images ≡ plain_images m t
unfolding S.images_from
images_plain zero s d t m images there calm size e =
    sym (ok_same e) ∙ sym (ap (map (image_on m.device.store.geometry)) (drop_all t m.device.store.plain (omega (arith, size))))
images_plain (suc n) s d t m images there calm size e =
    let one = and_ok (image_found t (looked s d t).found)
    (λ image. and_then (images_from n (looked s d t).behind d (t + 1)) (λ more. Ok (image ∷ more))) images e in
    let rest = and_ok (images_from n (looked s d t).behind d (t + 1)) (λ more. Ok (one.first ∷ more)) images one.next in
    let stays : StaysOwn s d t m = look_leaves_own s d t m there in
    let k = stays.mounted in
    let plain : one.first ≡ image_on m.device.store.geometry (track_in m.device.store.plain t) =
    found_plain s d t m one.first there calm (found_image t (looked s d t).found one.first one.was) in
    let later : rest.first ≡ plain_images k (t + 1) =
    images_plain n (looked s d t).behind d (t + 1) k rest.first stays.there (calm_on m k stays.own calm)
    (omega (arith, size, ap length stays.own.plain)) rest.was in
    sym (ok_same rest.next)
    ∙ ap (λ (i : Image). i ∷ rest.first) plain
    ∙ ap (λ (l : List Image). image_on m.device.store.geometry (track_in m.device.store.plain t) ∷ l) (later ∙ same_images m k (t + 1) stays.own)
    ∙ sym (at_drop_more (map (image_on m.device.store.geometry)) m.device.store.plain t (empty_track t) (omega (arith, size)))

-- A device that isn't refused

refused_none : (o : Option Unsaved) (r : Result ImageVolume Unsaved) (v : ImageVolume) → unless_refused o r ≡ Ok v → (o ≡ None) × (r ≡ Ok v)
refused_none (Some why) r v e = absurd (cc)
refused_none None r v e = (refl, e)

pub record NotRefused (m : Mounted) : Type 0 where
  pub home : is_some m.device.store.lent ≡ false
  pub calm : is_writing m.device.store.half ≡ false

by_none : (b c : Bool) → (if b then Some Lent else if c then Some Half else None) ≡ None → (b ≡ false) × (c ≡ false)
by_none true c e = absurd (cc)
by_none false true e = absurd (cc)
by_none false false e = (refl, refl)

pub not_refused : (m : Mounted) → refusal m.device.store ≡ None → NotRefused m
not_refused m e =
    let so = by_none (is_some m.device.store.lent) (is_writing m.device.store.half) e in
    record { home = so.0; calm = so.1 }

-- the whole volume
pub saving_plain : (s : Subsystem) (d : ℕ) (m : Mounted) (v : ImageVolume) → mounted_in s.mounted d ≡ Some m →
    (is_some m.device.store.lent ≡ false → length m.device.store.plain ≡ tracks_of m.device.store) → saving s d ≡ Ok v →
    v ≡ volume_with m.device.store.geometry m.device.store.cylinders (map (image_on m.device.store.geometry) m.device.store.plain)
unfolding S.saving
saving_plain s d m v there size e =
    let here : unless_refused (refusal m.device.store) (tracks_saved s d m) ≡ Ok v = rw there at e in
    let so = refused_none (refusal m.device.store) (tracks_saved s d m) v here in
    let not = not_refused m so.0 in
    let all = and_ok (images_from (tracks_of m.device.store) s d 0)
    (λ images. Ok (volume_with m.device.store.geometry m.device.store.cylinders images)) v so.1 in
    sym (ok_same all.next)
    ∙ ap (volume_with m.device.store.geometry m.device.store.cylinders)
    (images_plain (tracks_of m.device.store) s d 0 m all.first there not.calm (omega (arith, size not.home)) all.was)
