-- What a look found, and what it left, is what a look in the run finds and leaves.
use Rattle.std.proofs.Common.{◌≡◌, ◌∙◌, ◌<◌, ◌*◌, ℕ, Option, Some, Result, Ok, Err, IfOk, refl, sym, ap, subst}
use Rattle.std.specs.Prelude.{IfSome, false}
use Rattle.ckd_types.specs.declared.memory.NoMemory.{NoMemory}
use Rattle.device_outside.specs.declared.keep.NoKeep.{NoKeep}
use Rattle.device_outside.specs.declared.volume.Volume.{Ghosts}
use Rattle.device_outside.specs.Outside.{Ran}
use Rattle.device_outside.specs.Pool as pools
use Rattle.device_defs.specs.Contents.{contents}
use Rattle.device_defs.specs.Peek.{Peeked, peek}
use Rattle.device_core.specs.declared.device.Device.{Device}
use Rattle.device_core.specs.State.{device_of}
use Rattle.device_store.specs.State.{had}
use Rattle.frame_pool.specs.Shared.{shared_view}
use Rattle.subsystem_core.specs.declared.subsystem.Subsystem.{Subsystem}
use Rattle.subsystem_core.specs.Devices.{device_at}
use Rattle.subsystem_core.specs.Ends.{where_some}
use Rattle.subsystem_core.specs.Keepers.{hears_none}
use Rattle.subsystem_defs.specs.Looks.{looked}
use Rattle.subsystem_defs.specs.Subsystem as runs
use Rattle.subsystem_defs.specs.Subsystem.{Mounted, mounted_in}
use Rattle.subsystem_laws.specs.WholeComes as laws
use Rattle.subsystem_laws.specs.WholeComes.{subsystem_of}
use Rattle.deck_run.specs.Standing.{StandsAs, stood_of, all_stood}
use Rattle.deck_run.proofs.Found.{stood_found, put_stood}
use Rattle.deck_run.proofs.Telling.{FoundKnown, all_known, known_at}
use Rattle.subsystem_laws.specs.Looking.{is_written_at, IsLooked}
use Rattle.subsystem_laws.proofs.looking.Talks.{look_so}
use Rattle.track_looks.specs.declared.found.Look.{Look}
use Rattle.track_looks.specs.Looking.{look_seen, IsAllowed, Looks}

some_same : {X : Type 0} {x y : X} → Some x ≡ Some y → x ≡ y
some_same e = cc

module _ {V : Type 0} {G : Ghosts V} where
  look_happens : (d t : ℕ) (f : Peeked) (old new : Subsystem V G) (run : runs.Subsystem) →
      IfSome (device_at old.devices.items d) (λ x. t < x.store.cylinders * 15) → Looks d t (Some f) old new → StandsAs old run → IsAllowed run d t →
      ((looked run d t).found ≡ f) × StandsAs new (looked run d t).behind
  look_happens d t f old new run lt looks stands may =
      let ch = looks.asked in
      let k : NoKeep = record {} in
      let known : FoundKnown ch.before (mounted_in run.mounted d) =
      known_at old.devices.items run.mounted d ch.before (all_known (all_stood old.devices.items) run.mounted stands.mounted) ch.stood in
      let off : is_written_at known.mounted.device.store.half t ≡ false =
      subst (λ (o : Option Mounted). IfSome o (λ m. is_written_at m.device.store.half t ≡ false)) known.there may in
      let here : t < ch.before.store.cylinders * 15 =
      subst (λ (o : Option (Device V G)). IfSome o (λ x. t < x.store.cylinders * 15)) ch.stood lt in
      let below : t < known.mounted.device.store.cylinders * 15 = subst (λ (n : ℕ). t < n * 15) (sym known.is.cylinders) here in
      let l = look_so hears_none old.pool.pool new.pool.pool (all_stood old.devices.items) (all_stood new.devices.items) run.mounted d t known.mounted f
      stands.mounted known.there off below
      (record {
        before = stood_of ch.before;
        behind = stood_of ch.behind;
        stood = stood_found old.devices.items d ch.before ch.stood;
        stands = ap all_stood ch.stands ∙ put_stood old.devices.items d ch.behind;
        is_so = record {
          port = shared_view old.pool;
          after = shared_view new.pool;
          keeper = k;
          later = k;
          pool_before = refl;
          pool_behind = refl;
          ran = subst (λ (o : Option Peeked). Ran (where_some o) hears_none (peek contents (device_of ch.before) t)
              (laws.outside_at (shared_view old.pool) (stood_of ch.before) k) (device_of ch.behind) o
              (laws.outside_at (shared_view new.pool) (stood_of ch.behind) k)) looks.told_is (ch.is_so k);
        };
      }) in
      let is : run ≡ subsystem_of old.pool.pool run.mounted = ap (λ (p : pools.Pool). record { pool = p; mounted = run.mounted }) stands.pool in
      let so : IsLooked (looked run d t) f new.pool.pool (all_stood new.devices.items) =
      subst (λ (s : runs.Subsystem). IsLooked (looked s d t) f new.pool.pool (all_stood new.devices.items)) (sym is) l in
      (so.found, record { pool = so.left; mounted = so.mounted })

  pub all_happens : (d t : ℕ) (r : Result Look NoMemory) (old new : Subsystem V G) (run : runs.Subsystem) →
      IfSome (device_at old.devices.items d) (λ x. t < x.store.cylinders * 15) → Looks d t (had look_seen r) old new → StandsAs old run → IsAllowed run d t →
      IfOk r (λ found. ((looked run d t).found ≡ look_seen found) × StandsAs new (looked run d t).behind)
  all_happens d t (Ok found) old new run lt looks stands may = look_happens d t (look_seen found) old new run lt looks stands may
  all_happens d t (Err e) old new run lt looks stands may = tt
