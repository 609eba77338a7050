-- The device of a run, over marks and plain volumes, and a new one.
use Rattle.std.specs.Prelude.{ℕ, ◌*◌, Bool, false, List, [], None, map, option_map, replicate}
use Rattle.ckd_types.specs.declared.geometry.Geometry.{Geometry}
use Rattle.ckd_types.specs.declared.record.Track.{Track}
use Rattle.ckd_types.specs.Volume.{empty_volume}
use Rattle.track_image.specs.Image.{Image}
use Rattle.track_cache.specs.declared.frames.Frame.{Frame}
use Rattle.nv_store.specs.declared.patches.Stored.{Stored}
use Rattle.plain_defs.specs.History.{no_history}
use Rattle.plain_defs.specs.Journal.{Plans}
use Rattle.plain_defs.specs.PlainState.{fresh_paths}
use Rattle.device_defs.specs.declared.counts.Counts.{Counts}
use Rattle.device_defs.specs.declared.owed.Owed.{Owed}
use Rattle.device_defs.specs.Device.{Device}
use Rattle.device_defs.specs.Store.{HalfWrite, Store, new_side, no_side, no_debt}

abbrev pub MarksStore : Type 0
MarksStore = Store Bool (Unit {0}) (Unit {0})

abbrev pub MarksDevice : Type 0
MarksDevice = Device Bool (Unit {0}) (Unit {0})

abbrev pub no_counts : Counts
no_counts = record { reads = 0; writes = 0; failed = 0; losses = record { cache = 0; store = 0; sides = 0 } }

-- a device on one empty volume, and the plain volume of empty tracks
abbrev pub new_store : ℕ → Geometry → ℕ → MarksStore
new_store d g cylinders = record {
  device = d;
  geometry = g;
  cylinders = cylinders;
  number = 0;
  paired = false;
  lent = None;
  held = false;
  a = new_side (cylinders * 15) false;
  b = no_side (cylinders * 15);
  frames = replicate (cylinders * 15) None;
  patches = replicate (cylinders * 15) None;
  lost = replicate (cylinders * 15) false;
  loose = replicate (cylinders * 15) false;
  queue = [];
  half = None;
  plain = empty_volume cylinders;
  firm = empty_volume cylinders;
  acts = [];
  owed = replicate (cylinders * 15) no_debt;
  counts = no_counts;
}

abbrev pub new_device : ℕ → Geometry → ℕ → Plans → MarksDevice
new_device d g cylinders plans = record {
  store = new_store d g cylinders;
  paths = fresh_paths;
  plans = plans;
  history = no_history;
  chain = None;
}

-- What a run knows of a device that keeps contents: its marks, with this plain volume, and this one without data of cache fast write

abbrev pub frame_mark : Frame → Bool
frame_mark f = f.modified

abbrev pub patch_mark : Stored → Unit {0}
patch_mark p = tt

abbrev pub half_mark : HalfWrite Image → HalfWrite (Unit {0})
half_mark h = record { track = h.track; origin = h.origin; image = tt }

-- a slot has no number there
abbrev pub slot_mark : ℕ → ℕ
slot_mark slot = 0

abbrev pub owed_mark : Owed → Owed
owed_mark o = record o { freed = option_map slot_mark o.freed }

abbrev pub marks_of : List Track → List Track → Store Frame Stored Image → MarksStore
marks_of plain firm s = record {
  device = s.device;
  geometry = s.geometry;
  cylinders = s.cylinders;
  number = s.number;
  paired = s.paired;
  lent = s.lent;
  held = s.held;
  a = s.a;
  b = s.b;
  frames = map (option_map frame_mark) s.frames;
  patches = map (option_map patch_mark) s.patches;
  lost = s.lost;
  loose = s.loose;
  queue = s.queue;
  half = option_map half_mark s.half;
  plain = plain;
  firm = firm;
  acts = s.acts;
  owed = map owed_mark s.owed;
  counts = s.counts;
}
