-- A whole device beside the device of a run: what an event leaves of both.
use Rattle.std.specs.Prelude.{◌≡◌, ◌⊎◌, ℕ, Bool, true, false, List, [], Option, None, Some}
use Rattle.ckd_types.specs.declared.paths.Side.{Side}
use Rattle.ckd_types.specs.declared.paths.Side.TheVariants as sides
use Rattle.ckd_types.specs.declared.record.Track.{Track}
use Rattle.ckd_chain.specs.declared.progress.Settled.{Settled}
use Rattle.ckd_chain.specs.Fed.{fed}
use Rattle.ckd_chain.specs.State.{ChainState}
use Rattle.ckd_rules.specs.declared.order.LocalAct.{LocalAct}
use Rattle.ckd_types.specs.Volume.{track_in}
use Rattle.track_cache.specs.declared.frames.Frame.{Frame}
use Rattle.nv_store.specs.declared.patches.Stored.{Stored}
use Rattle.track_image.specs.Image.{Image}
use Rattle.device_outside.specs.Both.{Both, TellsAll}
use Rattle.device_outside.specs.Interaction.{Interaction}
use Rattle.device_outside.specs.Outside.{Outside}
use Rattle.device_outside.specs.Told.{Told, hold}
use Rattle.device_defs.specs.Device.{Device}
use Rattle.device_defs.specs.Marks.{MarksDevice, marks_of}
use Rattle.device_defs.specs.Sound.{DeviceStore}
use Rattle.device_defs.specs.Store.{HalfWrite, has_loose}
use Rattle.loss_model.specs.declared.Loss.{Loss}
use Rattle.loss_model.specs.declared.Loss.TheVariants as losses
use Rattle.device_laws.specs.Agrees.{Held}
use Rattle.device_laws.specs.Feeding.{volume_with}
use Rattle.device_laws.specs.InOrder.{IsInOrder, plain_cut}
use Rattle.device_laws.specs.PlainWrites.{OriginSuits, plain_second}

abbrev pub WholeDevice : Type 0
WholeDevice = Device Frame Stored Image

-- what a run knows of a device that keeps contents: its marks with these plain volumes, and all that isn't of its tracks
abbrev pub marks_device : List Track → List Track → WholeDevice → MarksDevice
marks_device plain firm d = record {
  store = marks_of plain firm d.store;
  paths = d.paths;
  plans = d.plans;
  history = d.history;
  chain = d.chain;
}

-- of the plain volume, the firm one, the device, the two answers and what the sides hold
abbrev pub WholeClaim : Type 0 → Type 0 → Type 1
WholeClaim A B = List Track → List Track → WholeDevice → A → B → Held → Type 0

-- the other one is what a run knows of the device, with a plain volume and a firm one of which this holds
pub record WholeTwin {A B : Type 0} (q : WholeClaim A B) (d : WholeDevice) (a : A) (m : MarksDevice) (b : B) (h : Held) : Type 0 where
  pub plain : List Track
  pub firm : List Track
  pub marks : marks_device plain firm d ≡ m
  pub is : q plain firm d a b h

abbrev pub WholeTwins : {A B : Type 0} → WholeClaim A B → Interaction (List ℕ) Image WholeDevice A → Interaction Bool Image MarksDevice B → Held → Type 0
WholeTwins q i j h = Both [] true (WholeTwin q) i j h

-- The device is left in order, and both answer alike. p is what more is said of the plain volume
pub record Leaves {A : Type 0} (p : List Track → Type 0) (v w : List Track) (d : WholeDevice) (a b : A) (k : Held) : Type 0 where
  pub order : IsInOrder v w d.store k
  pub same : a ≡ b
  pub is : p v

-- The plain volume behind an event

-- behind a command: as it was, or with the edit of the chain that is fed with the plain tracks
abbrev pub BehindCommand : List Track → ℕ → Option ChainState → List Track → Type 0
BehindCommand u n None v = v ≡ u
BehindCommand u n (Some chain) v = (v ≡ u) ⊎ ((answer : LocalAct → Settled) → v ≡ volume_with u (fed n (track_in u) answer chain).edit)

-- behind the second part of a half write, done or not
abbrev pub plain_closed : Option (HalfWrite Image) → Bool → List Track → List Track
plain_closed None done v = v
plain_closed (Some i) done v = plain_second i.origin done v i.track

-- a command's edit that is half done suits its track
abbrev pub HalfSuits : List Track → DeviceStore → Type 0
HalfSuits v s = (i : HalfWrite Image) → s.half ≡ Some i → OriginSuits s.geometry (track_in v i.track) i.origin

abbrev pub BehindSecond : List Track → Option (HalfWrite Image) → List Track → Type 0
BehindSecond u half v = (done : Bool) × (v ≡ plain_closed half done u)

-- behind a loss it is as it was, but for data of cache fast write, which go with the cache
abbrev pub BehindLoss : List Track → Loss → List Track → Type 0
BehindLoss u losses.Cache v = Unit {0}
BehindLoss u losses.Store v = v ≡ u
BehindLoss u (losses.Side side) v = v ≡ u

-- behind a reset: as it was, or with the edit of a half write that counts as done
abbrev pub BehindReset : List Track → Option (HalfWrite Image) → List Track → Type 0
BehindReset u half v = (v ≡ u) ⊎ (v ≡ plain_cut half u)

-- behind a loss of power, where there are no data of cache fast write: as behind what cuts the program
abbrev pub BehindPower : List Track → DeviceStore → List Track → Type 0
BehindPower u s v = has_loose s ≡ false → v ≡ plain_cut s.half u

-- what the sides hold once one of them has this volume
abbrev pub holding : Held → Side → List (List ℕ) → Held
holding h sides.A l = record h { a = l }
holding h sides.B l = record h { b = l }

-- One step of a run: from here it ends at what a run knows of this device, with this answer and what the outside then tells
pub record IsStep {K A : Type 0} (p : List Track → Type 0) (others : List ℕ) (j : Interaction Bool Image MarksDevice A) (t : Told) (d : WholeDevice) (a : A)
    (u : Outside (List ℕ) K) : Type 0 where
  pub plain : List Track
  pub firm : List Track
  pub held : Held
  pub told : Told
  pub ran : hold true j t ≡ record { state = marks_device plain firm d; answer = a; told = told }
  pub order : IsInOrder plain firm d.store held
  pub is : p plain
  pub tells : TellsAll others u held told
