-- What a store is in the definitions, and how its answers are seen.
use Rattle.std.specs.Prelude.{
  ◌≡◌,
  ◌<◌,
  ◌==◌,
  ℕ,
  ◌*◌,
  Bool,
  true,
  false,
  List,
  [],
  Option,
  None,
  Some,
  Result,
  Ok,
  Err,
  if◌then◌else◌,
  replicate,
  is_some,
  option_map,
  slice_index_or,
}
use Rattle.track_image.specs.Image.{Image}
use Rattle.track_cache.specs.declared.frames.Frame.{Frame}
use Rattle.nv_store.specs.declared.patches.Stored.{Stored}
use Rattle.device_outside.specs.declared.volume.Volume.{Ghosts}
use Rattle.device_outside.specs.Keeper.{Hearing}
use Rattle.device_outside.specs.Outside.{PortView, Outside, Ran}
use Rattle.device_outside.specs.Volume.{VolumeView}
use Rattle.device_outside.specs.Interaction.{Interaction, Done}
use Rattle.device_defs.specs.Contents.{contents}
use Rattle.device_defs.specs.Losses.{settled}
use Rattle.device_defs.specs.Second.{left_by, second_done}
use Rattle.device_defs.specs.Image.{Got, got}
use Rattle.device_defs.specs.declared.answers.Took.{Took}
use Rattle.device_defs.specs.declared.answers.Took.TheVariants.{Opened}
use Rattle.device_defs.specs.Marks.{no_counts}
use Rattle.device_defs.specs.Store.{Store, has_level, new_side, no_side, no_debt}
use Rattle.ckd_types.specs.declared.geometry.Geometry.{Geometry}
use Rattle.ckd_types.specs.Track.{Fits}
use Rattle.device_defs.specs.Writing.{Wrote, wrote}
use Rattle.device_store.specs.declared.image.Given.{Given}
use Rattle.device_store.specs.declared.through.Written.{Written}
use Rattle.device_store.specs.declared.store.DeviceStore.{DeviceStore}
use Rattle.device_store.specs.declared.half.HalfWrite.{HalfWrite}
use Rattle.device_store.specs.declared.half.Origin.{Origin}
use Rattle.device_store.specs.declared.half.Origin.TheVariants as origins
use Rattle.device_store.specs.Images.{IsImageOf}
use Rattle.device_defs.specs.Store as definitions
use Rattle.device_defs.specs.Store.{OfCommand, OfCut, OfBackground}
use Rattle.duplex_pair.specs.declared.pair.DuplexPair.{DuplexPair}
use Rattle.duplex_pair.specs.declared.pair.SideVolumes.{SideVolumes}
use Rattle.duplex_pair.specs.Sides.{marks_of}

abbrev pub origin_of : Origin → definitions.Origin
origin_of (origins.OfCommand bypass e) = OfCommand bypass e
origin_of (origins.OfCut bypass) = OfCut bypass
origin_of origins.OfBackground = OfBackground

abbrev pub half_of : HalfWrite → definitions.HalfWrite Image
half_of h = record { track = h.track; origin = origin_of h.origin; image = h.image }

abbrev pub state_of : {V : Type 0} {G : Ghosts V} → DeviceStore V G → Store Frame Stored Image
state_of s = record {
  device = s.number;
  geometry = s.geometry;
  cylinders = s.cylinders;
  number = s.data_number;
  paired = is_some s.pair.volumes.b;
  lent = s.pair.lent;
  held = s.pair.held;
  a = marks_of s.pair.a;
  b = marks_of s.pair.b;
  frames = s.frames;
  patches = s.patches;
  lost = s.lost;
  loose = s.loose.loose;
  queue = s.queue;
  half = option_map half_of s.half;
  plain = [];
  firm = [];
  acts = s.loose.acts;
  owed = s.owed;
  counts = s.counts;
}

-- the volume of each side. None: there is no such side, or it is lent
abbrev pub on_a : {V : Type 0} {G : Ghosts V} → DeviceStore V G → Option V
on_a s = s.pair.volumes.a

abbrev pub on_b : {V : Type 0} {G : Ghosts V} → DeviceStore V G → Option V
on_b s = s.pair.volumes.b

abbrev pub outside_of : {V K : Type 0} → PortView → (V → VolumeView (List ℕ)) → SideVolumes V → K → Outside (List ℕ) K
outside_of port view v keeper = record { port = port; a = option_map view v.a; b = option_map view v.b; keeper = keeper }

-- the tracks of a new device
abbrev pub opened_store : ℕ → Geometry → ℕ → Store Frame Stored Image
opened_store d g cylinders = record {
  device = d;
  geometry = g;
  cylinders = cylinders;
  number = 0;
  paired = false;
  lent = None;
  held = false;
  a = new_side (cylinders * 15) false;
  b = no_side (cylinders * 15);
  frames = replicate (cylinders * 15) None;
  patches = replicate (cylinders * 15) None;
  lost = replicate (cylinders * 15) false;
  loose = replicate (cylinders * 15) false;
  queue = [];
  half = None;
  plain = [];
  firm = [];
  acts = [];
  owed = replicate (cylinders * 15) no_debt;
  counts = no_counts;
}

-- what is told by a port, the sides of a store, and a keeper
abbrev pub outside : {V K : Type 0} {G : Ghosts V} → PortView → DeviceStore V G → K → Outside (List ℕ) K
outside {G = G} port s keeper = outside_of port G.view s.pair.volumes keeper

-- memory was had
abbrev pub surely : Bool → Type 0
surely ok = ok ≡ true

-- a keeper may be told each image of a track of a device that fits there
pub record Takes {K : Type 0} (takes : K → ℕ → ℕ → Image → Type 0) (keeper : K) (d : ℕ) (g : Geometry) (n : ℕ) : Type 0 where
  pub all : (t : ℕ) (i : Image) → t < n → IsImageOf g t i → Fits i.geometry i.track → takes keeper d t i

-- the same of the tracks of a device
abbrev pub TakesTracks : {V : Type 0} {G : Ghosts V} {K : Type 0} → (K → ℕ → ℕ → Image → Type 0) → K → DeviceStore V G → Type 0
TakesTracks takes keeper s = Takes takes keeper s.number s.geometry (s.cylinders * 15)

-- a track of the device
abbrev pub HasTrack : {V : Type 0} {G : Ghosts V} → DeviceStore V G → ℕ → Type 0
HasTrack s t = t < s.cylinders * 15

abbrev pub had : {A X E : Type 0} → (X → A) → Result X E → Option A
had view (Ok x) = Some (view x)
had view (Err e) = None

-- Views of answers

-- bytes that were given are in the buffer
abbrev pub got_by : List ℕ → Given → Got (List ℕ)
got_by buffer g = got g.side (if g.given then Some buffer else None) g.fault

abbrev pub wrote_by : Written → Wrote
wrote_by w = wrote w.took w.fault

-- what ends the one interaction ends the other
pub record Rest {R I K S A : Type 0} (had : Bool → Type 0) (hears : Hearing I K) (i : Interaction R I S A) (u : Outside R K)
    (j : Interaction R I S A) (w : Outside R K) : Type 0 where
  pub ends : (s : S) (a : A) (z : Outside R K) → Ran had hears i u s a z → Ran had hears j w s a z

-- no track becomes loose
abbrev pub StaysFirm : List Bool → List Bool → Type 0
StaysFirm old new = (t : ℕ) → slice_index_or old t false ≡ false → slice_index_or new t false ≡ false

-- the write waits for its second part
abbrev pub is_opened : Took → Bool
is_opened Opened = true
is_opened _ = false

-- no half write is open but of the background
abbrev pub OnlyBackground : Option HalfWrite → Type 0
OnlyBackground None = Unit {0}
OnlyBackground (Some h) = h.origin ≡ origins.OfBackground

-- the track is the one that is being written
abbrev pub is_written : Option ℕ → ℕ → Bool
is_written None q = false
is_written (Some t) q = q == t

-- a store over another pair of sides
abbrev pub with_pair : {V : Type 0} {G : Ghosts V} → Store Frame Stored Image → DuplexPair V G → Store Frame Stored Image
with_pair s p = record s { paired = is_some p.volumes.b; lent = p.lent; held = p.held; a = marks_of p.a; b = marks_of p.b }

-- the second part was tried, and the half write is closed
abbrev pub closing : Store Frame Stored Image → ℕ → Image → definitions.Origin → Interaction (List ℕ) Image (Store Frame Stored Image) Bool
closing s t i origin = if has_level s t then second_done contents s t i origin else Done (settled contents (left_by contents s t i origin) t) false
