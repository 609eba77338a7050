-- A new device stands beside the plain device.
use Rattle.std.proofs.Common.{◌≤◌, ◌*◌, ℕ, List, [], None, refl, sym, subst, arith}
use Rattle.ckd_types.specs.declared.geometry.Geometry.{Geometry}
use Rattle.ckd_types.specs.declared.record.Track.{Track}
use Rattle.ckd_types.specs.Volume.{IsVolume, empty_volume}
use Rattle.plain_defs.specs.History.{no_history}
use Rattle.plain_defs.specs.Journal.{Plans}
use Rattle.plain_defs.specs.PlainState.{fresh_paths}
use Rattle.plain_defs.specs.Whole.{GiveBytes}
use Rattle.plain_device.proofs.Wholes.{volume_empty}
use Rattle.device_outside.specs.After.{Tells}
use Rattle.device_outside.specs.Disk.{empty_contents}
use Rattle.device_outside.specs.Outside.{Outside}
use Rattle.device_defs.specs.Marks.{MarksStore}
use Rattle.device_laws.specs.NewDevice.{first_state, volume_contents}
use Rattle.device_laws.proofs.NewDevices.{empty_is_contents, in_order_on, marks_on}
use Rattle.device_laws.proofs.PlainEvents.{first_follows}
use Rattle.device_laws.proofs.PlainTurns.{Follows}
use Rattle.subsystem_laws.specs.CameAbout as about
use Rattle.subsystem_laws.specs.CameAbout.{CameAboutOn}
use Rattle.subsystem_laws.specs.WholeStood.{opened}
use Rattle.subsystem_laws.specs.Standing.{Stands, StandsOn}

-- on a volume that holds tracks
pub first_stands : {K : Type 0} (first : ℕ → List Track) (d : ℕ) (g : Geometry) (n : ℕ) (plans : Plans) (u : Outside (List ℕ) K) → 1 ≤ n →
    IsVolume g n (first n) → Tells u.a (volume_contents (first n)) → Tells u.b [] → GiveBytes plans → StandsOn first (opened d g n plans) u
first_stands first d g n plans u some is a b gives =
    let v = first n in
    record {
      beside = record {
        plain = v;
        firm = v;
        held = record { a = volume_contents v; b = []; slots = None };
        untold = record { a = a; b = b; slots = refl };
        order = in_order_on d g n v (record { a = volume_contents v; b = []; slots = None }) is refl;
        follows =
            subst (λ (m : MarksStore). Follows d (first_state g n v) (record {
              store = m;
              paths = fresh_paths;
              plans = plans;
              history = no_history;
              chain = None;
            })) (sym (marks_on d g n v)) (first_follows d g n v plans is.tracks (omega (arith, some)));
        gives = gives;
      };
      never = refl;
      about =
          subst (λ (m : MarksStore). CameAboutOn first (record { store = m; paths = fresh_paths; plans = plans; history = no_history; chain = None }))
          (sym (marks_on d g n v)) (about.opened d g n plans some is.tracks);
    }

-- on one of empty tracks
pub new_stands : {K : Type 0} (d : ℕ) (g : Geometry) (n : ℕ) (plans : Plans) (u : Outside (List ℕ) K) → 1 ≤ n → n ≤ 4369 →
    Tells u.a (empty_contents (n * 15)) → Tells u.b [] → GiveBytes plans → Stands (opened d g n plans) u
new_stands d g n plans u some most a b gives =
    first_stands empty_volume d g n plans u some (volume_empty g n most) (subst (Tells u.a) (empty_is_contents n) a) b gives
