-- What a history tells of a device in code.
use Rattle.std.specs.Prelude.{List, [], ◌∷◌, map}
use Rattle.device_outside.specs.declared.volume.Volume.{Ghosts}
use Rattle.device_defs.specs.Start.{left}
use Rattle.device_core.specs.declared.device.Device.{Device}
use Rattle.device_core.specs.State.{device_of}
use Rattle.deck_run.specs.Ending.{lost_in}
use Rattle.path_top.specs.Told.{DeviceTold}

module _ {V : Type 0} {G : Ghosts V} where
  abbrev pub told_by : Device V G → DeviceTold
  told_by x = record {
    device = (device_of x).store.device;
    journal = (device_of x).history.items;
    left = map (left (device_of x)) (1 ∷ 2 ∷ 3 ∷ 4 ∷ []);
    lent = (device_of x).store.lent;
    lost = lost_in x;
  }

  abbrev pub all_told : List (Device V G) → List DeviceTold
  all_told xs = map told_by xs
