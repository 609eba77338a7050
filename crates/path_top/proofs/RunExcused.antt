-- What lines of a deck excuse of the devices behind the run of its paths.
use Rattle.std.proofs.Common.{◌<◌, ◌*◌, ◌-◌, ◌^◌, ℕ, Bool, List, sym, subst, lt_of_le_of_lt}
use Rattle.ckd_types.specs.declared.record.Track.{Track}
use Rattle.device_outside.specs.declared.volume.Volume.{Ghosts}
use Rattle.device_defs.specs.declared.counts.Counts.{Counts}
use Rattle.device_defs.specs.Excused.{IsExcused}
use Rattle.device_core.specs.declared.device.Device.{Device}
use Rattle.device_core.specs.State.{device_of}
use Rattle.device_laws.specs.SoundOn.{begun_as}
use Rattle.subsystem_laws.specs.Standing.{StandsOn}
use Rattle.subsystem_laws.proofs.turning.Sound.{stands_excused}
use Rattle.path_workers.specs.Keeping.{told_of}
use Rattle.path_top.specs.Devices.{told_by}
use Rattle.path_top.specs.Histories.{IsExcusedBy}
use Rattle.path_top.proofs.Marked.{are_tracks, marks_are}
use Rattle.path_top.proofs.MoreExcused.{AtMost, more_excused}

module _ {V : Type 0} {G : Ghosts V} (first : ℕ → List Track) (e : Device V G) (most : Counts) (few : AtMost (device_of e).store.counts most) where
  most_excused : StandsOn first (device_of e) (told_of e) → most.failed < 2 ^ 64 - 1 → most.losses.cache < 2 ^ 64 - 1 →
      IsExcused (device_of e).plans (begun_as first (device_of e)) (device_of e).history.items e.store.lost most
  most_excused s failed cache =
      more_excused (device_of e).store.counts most few (device_of e).plans
      (begun_as first (device_of e)) (device_of e).history.items e.store.lost
      (stands_excused (device_of e) (told_of e) s (lt_of_le_of_lt few.failed failed) (lt_of_le_of_lt few.cache cache))

  pub told_excused : StandsOn first (device_of e) (told_of e) → most.failed < 2 ^ 64 - 1 → most.losses.cache < 2 ^ 64 - 1 →
      IsExcusedBy (device_of e).plans (begun_as first (device_of e)) (e.store.cylinders * 15) most (told_by e)
  told_excused s failed cache = record {
    tracks = are_tracks e.store.lost (e.store.cylinders * 15) e.store.lost_of_each;
    is =
        subst (λ (l : List Bool). IsExcused (device_of e).plans (begun_as first (device_of e))
        (device_of e).history.items l most) (sym (marks_are e.store.lost (e.store.cylinders * 15) e.store.lost_of_each)) (most_excused s failed cache);
  }
