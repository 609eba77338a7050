-- The images that a session gave make up the plain volume with which it began.
use Rattle.std.proofs.Common.{
  ◌≡◌,
  ◌∙◌,
  ◌≤◌,
  ◌<◌,
  ◌*◌,
  ℕ,
  false,
  List,
  length,
  map,
  Some,
  is_some,
  Ok,
  Err,
  refl,
  sym,
  ap,
  subst,
  arith,
}
use Rattle.std.specs.List.{range_with_len}
use Rattle.std.proofs.lemmas.List.FromFn.{get_or-map-range_with_len, length-map-range_with_len}
use Rattle.ckd_types.specs.declared.geometry.Geometry.{Geometry}
use Rattle.ckd_types.specs.Volume.{IsVolume}
use Rattle.track_image.specs.Image.{Image}
use Rattle.device_outside.specs.declared.volume.Volume.{Ghosts}
use Rattle.device_defs.specs.Store.{tracks_of}
use Rattle.subsystem_defs.specs.Lines.{Asked}
use Rattle.subsystem_defs.specs.Subsystem as runs
use Rattle.subsystem_defs.specs.Subsystem.{Mounted}
use Rattle.deck_run.specs.Standing.{all_stood}
use Rattle.line_drive.specs.declared.stage.Stopped.{Stopped}
use Rattle.line_drive.specs.declared.stage.Stopped.TheVariants.{NoMemory, Ended}
use Rattle.line_drive.specs.Driven.{Step, Goes}
use Rattle.line_drive.specs.Staging.{StopsBy}
use Rattle.volume_file.specs.File.{ImageVolume, IsPlaced, IsWhole, empty_image, image_in}
use Rattle.volume_save.specs.Saving.{volume_with}
use Rattle.volume_save.proofs.InRun.{stands_in_run}
use Rattle.point_copy.specs.declared.given.Early.{Early}
use Rattle.point_copy.specs.declared.session.Session.{Session}
use Rattle.point_copy.specs.Copying.{plain_images, tracks_at}
use Rattle.point_copy.specs.CopyRun.{Copying, copied}
use Rattle.point_copy.specs.Sessions.{IsBegunOver}
use Rattle.point_copy.proofs.Images.{copies_are_old}
use Rattle.copy_tool.specs.declared.unmade.Unmade.{Unmade}
use Rattle.copy_tool.specs.Copying.{Made, stopped_by, volume_of, Gives}
use Rattle.copy_tool.specs.Standing.{IsBegunOf, IsMade}

pub some_same : {X : Type 0} {x y : X} → Some x ≡ Some y → x ≡ y
some_same e = cc

-- The images of a plain volume are a volume of a file

image_at : (m : Mounted) (n t : ℕ) (images : List Image) (g : Geometry) → images ≡ map (plain_images m) (range_with_len 0 n) → t < n →
    image_in (volume_with g n images) t ≡ plain_images m t
image_at m n t images g is lt =
    ap (λ (l : List Image). image_in (volume_with g n l) t) is
    ∙ get_or-map-range_with_len (plain_images m) 0 n t t (empty_image g t) lt (omega arith)

placed_so : (g : Geometry) (m : Mounted) (t : ℕ) (i : Image) → g ≡ m.device.store.geometry → i ≡ plain_images m t →
    IsVolume m.device.store.geometry m.device.store.cylinders m.device.store.plain → t < m.device.store.cylinders * 15 → IsPlaced g t i
placed_so g m t i geometry is volume lt =
    subst (IsPlaced g t) (sym is) (record { fits = volume.fits t lt; model = sym geometry; home = volume.homes t lt })

pub is_whole : (m : Mounted) (v : ImageVolume) → 1 ≤ v.cylinders → v.cylinders ≤ 64 → v.geometry ≡ m.device.store.geometry →
    v.cylinders ≡ m.device.store.cylinders → IsVolume m.device.store.geometry m.device.store.cylinders m.device.store.plain →
    v.images ≡ map (plain_images m) (range_with_len 0 (tracks_of m.device.store)) → IsWhole v
is_whole m v least most geometry cylinders volume images =
    let size : length v.images ≡ m.device.store.cylinders * 15 =
    ap length images ∙ length-map-range_with_len (plain_images m) 0 (tracks_of m.device.store) in
    record {
      least = least;
      most = most;
      tracks = size ∙ ap (λ (n : ℕ). n * 15) (sym cylinders);
      placed = λ t lt.
          let below : t < m.device.store.cylinders * 15 = omega (arith, lt, size) in
          placed_so v.geometry m t (image_in v t) geometry (image_at m (tracks_of m.device.store) t v.images v.geometry images below) volume below;
    }

-- A session gave them

module _ {V : Type 0} {G : Ghosts V} where
  plain_there : (s : Session V G) (run : runs.Subsystem) (d : ℕ) (b : IsBegunOver run d s) →
      IsVolume b.mounted.device.store.geometry b.mounted.device.store.cylinders b.mounted.device.store.plain
  plain_there s run d b =
      let keeps = b.copy.keeps in
      let same : keeps.mounted ≡ b.mounted = some_same (sym keeps.there ∙ b.there) in
      let home : is_some b.mounted.device.store.lent ≡ false =
      ap (λ (m : Mounted). is_some m.device.store.lent) (sym same) ∙ ap is_some (keeps.tracks refl).home in
      (stands_in_run s.sub.pool.pool (all_stood s.sub.devices.items) run.mounted d b.mounted b.copy.stands.mounted b.there home).plain

  pub is_made : (s : Session V G) (run : runs.Subsystem) (d : ℕ) (g : Geometry) (n : ℕ) (b : IsBegunOf run d g n s) (lines : List Asked) (z : Copying)
      (images : List Image) → 1 ≤ n → n ≤ 64 → copied run d lines ≡ Goes z → images ≡ z.images → IsMade b.begun.mounted (volume_with g n images)
  is_made s run d g n b lines z images least most e given =
      let m = b.begun.mounted in
      let plain = plain_there s run d b.begun in
      let few : tracks_of m.device.store ≤ 961 = omega (arith, most, b.cylinders_are) in
      let all : images ≡ map (plain_images m) (range_with_len 0 (tracks_of m.device.store)) =
      given ∙ copies_are_old run d (tracks_of m.device.store) lines (plain_images m) z b.begun.copy.keeps (ap tracks_at b.begun.there) few e in
      record {
        plain = plain;
        geometry = b.geometry;
        cylinders = b.cylinders_are;
        images = all;
        whole = is_whole m (volume_with g n images) least most b.geometry b.cylinders_are plain all;
      }

-- What is answered

pub made_found : (m : Mounted) (v : ImageVolume) (s : Step Copying Early) (z : Copying) → IsMade m v → s ≡ Goes z → v.images ≡ z.images →
    Gives (Ok v) (volume_of m s)
made_found m v s z made e given =
    ap (λ (g : Geometry). Ok (record v { geometry = g })) made.geometry
    ∙ ap (λ (n : ℕ). Ok (record v { geometry = m.device.store.geometry; cylinders = n })) made.cylinders
    ∙ ap (λ (l : List Image). Ok (volume_with m.device.store.geometry m.device.store.cylinders l)) given
    ∙ ap (volume_of m) (sym e)

pub gives_err : (why : Stopped Unmade) (wanted : Made) → wanted ≡ Err why → Gives {A = ImageVolume} (Err why) wanted
gives_err NoMemory wanted is = tt
gives_err (Ended why) wanted is = sym is

pub stopped_found : (m : Mounted) (s : Step Copying Early) (why : Stopped Early) → StopsBy s why → Gives {A = ImageVolume} (Err (stopped_by why)) (volume_of m s)
stopped_found m s NoMemory ended = tt
stopped_found m s (Ended e) ended = sym (ap (volume_of m) ended)
