-- A new device over contents, on one volume; what it is on a volume that holds something, and the plain device that it begins as.
use Rattle.std.specs.Prelude.{ℕ, ◌*◌, false, List, [], None, map, replicate}
use Rattle.ckd_types.specs.declared.geometry.Geometry.{Geometry}
use Rattle.ckd_types.specs.declared.record.Track.{Track}
use Rattle.ckd_types.specs.Track.{track_bytes}
use Rattle.plain_defs.specs.History.{no_history}
use Rattle.plain_defs.specs.Journal.{Plans}
use Rattle.plain_defs.specs.PlainState.{PlainState, empty_state, fresh_paths}
use Rattle.device_defs.specs.Marks.{MarksDevice, MarksStore, new_store, no_counts}
use Rattle.device_defs.specs.Sound.{DeviceStore}
use Rattle.device_defs.specs.Store.{new_side, no_side, no_debt}

-- with no plain volumes of its own
abbrev pub new_contents : ℕ → Geometry → ℕ → DeviceStore
new_contents d g cylinders = record {
  device = d;
  geometry = g;
  cylinders = cylinders;
  number = 0;
  paired = false;
  lent = None;
  held = false;
  a = new_side (cylinders * 15) false;
  b = no_side (cylinders * 15);
  frames = replicate (cylinders * 15) None;
  patches = replicate (cylinders * 15) None;
  lost = replicate (cylinders * 15) false;
  loose = replicate (cylinders * 15) false;
  queue = [];
  half = None;
  plain = [];
  firm = [];
  acts = [];
  owed = replicate (cylinders * 15) no_debt;
  counts = no_counts;
}

-- a plain device whose volume holds these tracks
abbrev pub first_state : Geometry → ℕ → List Track → PlainState
first_state g cylinders v = record (empty_state g cylinders) { volume = v }

-- over marks, a new device on a volume of these tracks
abbrev pub store_on : ℕ → Geometry → ℕ → List Track → MarksStore
store_on d g cylinders v = record (new_store d g cylinders) { plain = v; firm = v }

abbrev pub device_on : ℕ → Geometry → ℕ → List Track → Plans → MarksDevice
device_on d g cylinders v plans = record {
  store = store_on d g cylinders v;
  paths = fresh_paths;
  plans = plans;
  history = no_history;
  chain = None;
}

-- what a volume holds that holds these tracks
abbrev pub volume_contents : List Track → List (List ℕ)
volume_contents v = map track_bytes v
