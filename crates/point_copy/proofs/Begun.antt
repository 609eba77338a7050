-- A session that begins over a run has to give the plain volume there.
use Rattle.std.proofs.Common.{◌≡◌, ◌∙◌, ◌≤◌, ◌<◌, ◌*◌, ℕ, Bool, true, false, List, get_or, Option, Some, None, is_some, refl, sym, ap, subst, arith}
use Rattle.std.specs.Prelude.{option_map}
use Rattle.std.proofs.lemmas.List.{length-replicate, get_or-replicate}
use Rattle.track_image.specs.Image.{Image}
use Rattle.track_table.specs.Tracks.{least}
use Rattle.device_outside.specs.declared.volume.Volume.{Ghosts}
use Rattle.device_core.specs.declared.device.Device.{Device}
use Rattle.device_core.specs.State.{device_of}
use Rattle.device_defs.specs.Store.{HalfWrite, tracks_of, is_loose}
use Rattle.device_laws.proofs.CacheLost.{none_below}
use Rattle.subsystem_laws.specs.Looking.{is_written_at}
use Rattle.subsystem_core.specs.declared.subsystem.Subsystem.{Subsystem}
use Rattle.subsystem_core.specs.Devices.{device_at}
use Rattle.subsystem_defs.specs.Subsystem as runs
use Rattle.subsystem_defs.specs.Subsystem.{Mounted, mounted_in}
use Rattle.deck_run.specs.Owning.{AreOwn}
use Rattle.deck_run.specs.Standing.{StandsAs, all_stood, stood_of}
use Rattle.deck_run.proofs.Telling.{IsKnown, all_known, known_at}
use Rattle.keeper_laws.specs.Quiet.{IsQuiet}
use Rattle.keeper_laws.proofs.Mounts.{mounted_is_quiet}
use Rattle.point_copy.specs.declared.session.Session.{Session}
use Rattle.point_copy.specs.Keeping.{nothing_kept}
use Rattle.point_copy.specs.Copying.{IsOldTrack, KeepsOld, begin_fault, begun, fault_by, plain_images, tracks_at}
use Rattle.point_copy.specs.Sessions.{IsBegun, IsBegunOver}

-- What a device that isn't refused is

record IsFree (lent : Option ℕ) (half : Bool) (loose : Option ℕ) : Type 0 where
  home : lent ≡ None
  whole : half ≡ false
  firm : loose ≡ None

free_by : (lent : Option ℕ) (half : Bool) (loose : Option ℕ) → fault_by lent half loose ≡ None → IsFree lent half loose
free_by (Some of) half loose e = absurd (cc)
free_by None true loose e = absurd (cc)
free_by None false (Some t) e = absurd (cc)
free_by None false None e = record { home = refl; whole = refl; firm = refl }

off_by : {H : Type 0} (half : Option (HalfWrite H)) (t : ℕ) → is_some half ≡ false → is_written_at half t ≡ false
off_by None t e = refl
off_by (Some h) t e = absurd (cc)

-- The device of the code, and what a run has mounted for it

half_is : {X Y : Type 0} (f : X → Y) (o : Option X) → is_some (option_map f o) ≡ is_some o
half_is f None = refl
half_is f (Some x) = refl

pub record IsMountedFor {V : Type 0} {G : Ghosts V} (x : Device V G) (o : Option Mounted) : Type 0 where
  pub mounted : Mounted
  pub there : o ≡ Some mounted
  pub cylinders : mounted.device.store.cylinders ≡ x.store.cylinders
  pub lent : mounted.device.store.lent ≡ x.store.pair.lent
  pub fault : begin_fault mounted.device.store ≡ begin_fault (device_of x).store

abbrev no_image : Option Image
no_image = None

some_same : {X : Type 0} {x y : X} → Some x ≡ Some y → x ≡ y
some_same e = cc

module _ {V : Type 0} {G : Ghosts V} where
  fault_same : (x : Device V G) (m : Mounted) → IsKnown (stood_of x) m → begin_fault m.device.store ≡ begin_fault (device_of x).store
  fault_same x m is =
      ap (λ (o : Option ℕ). fault_by o (is_some m.device.store.half) (least 65535 (is_loose m.device.store))) is.lent
      ∙ ap (λ (b : Bool). fault_by x.store.pair.lent b (least 65535 (is_loose m.device.store))) (ap (λ o. is_some o) is.half ∙ half_is _ (device_of x).store.half)
      ∙ ap (λ (l : List Bool). fault_by x.store.pair.lent (is_some (device_of x).store.half) (least 65535 (λ t. get_or l t false))) is.loose

  pub mounted_for : (sub : Subsystem V G) (run : runs.Subsystem) (d : ℕ) (x : Device V G) → StandsAs sub run → device_at sub.devices.items d ≡ Some x →
      IsMountedFor x (mounted_in run.mounted d)
  mounted_for sub run d x stands at =
      let k = known_at sub.devices.items run.mounted d x (all_known (all_stood sub.devices.items) run.mounted stands.mounted) at in
      record { mounted = k.mounted; there = k.there; cylinders = k.is.cylinders; lent = k.is.lent; fault = fault_same x k.mounted k.is }

  -- It begins

  keeps_first : (sub : Subsystem V G) (run : runs.Subsystem) (d : ℕ) (x : Device V G) (m : Mounted) → StandsAs sub run →
      mounted_in run.mounted d ≡ Some m → m.device.store.cylinders ≡ x.store.cylinders → begin_fault m.device.store ≡ None →
      KeepsOld (begun run d) (plain_images m)
  keeps_first sub run d x m stands there cylinders fault =
      let free = free_by m.device.store.lent (is_some m.device.store.half) (least 65535 (is_loose m.device.store)) fault in
      let size : tracks_at (mounted_in run.mounted d) ≡ tracks_of m.device.store = ap tracks_at there in
      record {
        mounted = m;
        there = there;
        size = length-replicate (tracks_at (mounted_in run.mounted d)) None ∙ size;
        tracks = λ gone. record {
          home = free.home;
          each = λ t le lt.
              let inside : t < tracks_at (mounted_in run.mounted d) = omega (arith, lt, length-replicate (tracks_at (mounted_in run.mounted d)) no_image) in
              let small : x.store.cylinders ≤ 4369 = x.store.most in
              let below : t < 65535 = omega (arith, inside, size, cylinders, small) in
              let quiet : IsQuiet m t =
              mounted_is_quiet sub.pool.pool (all_stood sub.devices.items) run.mounted d t m stands.mounted there (omega (arith, inside, size))
              (none_below 65535 (is_loose m.device.store) (ap (λ (o : Option ℕ). is_some o) free.firm) t below) (off_by m.device.store.half t free.whole) in
              subst (λ (o : Option Image). IsOldTrack m (plain_images m) t o)
              (sym (get_or-replicate (tracks_at (mounted_in run.mounted d)) t None None inside)) (quiet, refl);
        };
      }

  pub begun_over : (sub : Subsystem V G) (run : runs.Subsystem) (d : ℕ) (x : Device V G) (s : Session V G) → StandsAs sub run → AreOwn sub.devices.items →
      device_at sub.devices.items d ≡ Some x → begin_fault (device_of x).store ≡ None → IsBegun sub d x s → IsBegunOver run d s
  begun_over sub run d x s stands own at none b =
      let k = mounted_for sub run d x stands at in
      let tracks : x.store.cylinders * 15 ≡ tracks_at (mounted_in run.mounted d) =
      ap (λ (n : ℕ). n * 15) (sym k.cylinders) ∙ sym (ap tracks_at k.there) in
      record {
        mounted = k.mounted;
        there = k.there;
        copy = record {
          stands = subst (λ (z : Subsystem V G). StandsAs z run) (sym b.sub_is) stands;
          own = subst (λ (z : Subsystem V G). AreOwn z.devices.items) (sym b.sub_is) own;
          device = b.device;
          kept = b.kept ∙ ap (nothing_kept d) tracks;
          gone = b.gone;
          keeps = keeps_first sub run d x k.mounted stands k.there k.cylinders (k.fault ∙ none);
        };
      }

  -- a run refuses as the code does
  pub fault_over : (sub : Subsystem V G) (run : runs.Subsystem) (d : ℕ) (x : Device V G) (m : Mounted) → StandsAs sub run →
      device_at sub.devices.items d ≡ Some x → mounted_in run.mounted d ≡ Some m → begin_fault m.device.store ≡ begin_fault (device_of x).store
  fault_over sub run d x m stands at there =
      let k = mounted_for sub run d x stands at in
      let same : k.mounted ≡ m = some_same (sym k.there ∙ there) in
      sym (ap (λ (z : Mounted). begin_fault z.device.store) same) ∙ k.fault
