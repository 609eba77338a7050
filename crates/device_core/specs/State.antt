-- What a device is in the definitions, and how its answers are seen.
use Rattle.std.specs.Prelude.{
  ◌≡◌,
  ℕ,
  ◌-◌,
  List,
  length,
  slice_get,
  Option,
  None,
  Some,
  Result,
  Ok,
  Err,
  option_map,
  ◌+◌,
  ◌*◌,
  ◌^◌,
  min,
  count_by,
  if◌then◌else◌,
}
use Rattle.ckd_types.specs.declared.channel.CommandEnd.{CommandEnd}
use Rattle.ckd_types.specs.declared.paths.Side.{Side}
use Rattle.ckd_chain.specs.State.{ChainState}
use Rattle.ckd_chain.specs.Steps.{need_of}
use Rattle.plain_defs.specs.declared.journal.Item.{Item}
use Rattle.plain_defs.specs.declared.journal.Item.TheVariants.{Program}
use Rattle.plain_defs.specs.History.{History, is_path_of, no_history}
use Rattle.plain_defs.specs.Legal.{is_of_path}
use Rattle.plain_defs.specs.Journal.{Plans}
use Rattle.plain_defs.specs.PlainState.{PathsState, fresh_paths}
use Rattle.track_image.specs.Image.{Image}
use Rattle.track_cache.specs.declared.frames.Frame.{Frame}
use Rattle.nv_store.specs.declared.patches.Stored.{Stored}
use Rattle.device_outside.specs.declared.volume.Volume.{Ghosts}
use Rattle.device_outside.specs.Outside.{Outside, PortView}
use Rattle.device_defs.specs.declared.answers.Stepped as defs
use Rattle.ckd_chain.specs.declared.progress.Progress.{Progress}
use Rattle.ckd_types.specs.declared.geometry.Geometry.{Geometry}
use Rattle.device_defs.specs.declared.answers.Came.{Came}
use Rattle.device_defs.specs.Command.{answered_by, came_out, command_at, has_loss}
use Rattle.device_defs.specs.Contents.{contents}
use Rattle.device_defs.specs.Outcomes.{checks, turned, told_step}
use Rattle.ckd_chain.specs.declared.progress.Settled.TheVariants.{Equipment}
use Rattle.device_outside.specs.Interaction.{Interaction, Done}
use Rattle.device_core.specs.TrackWalk.{turn_with}
use Rattle.device_defs.specs.declared.answers.Stepped.TheVariants as answers
use Rattle.device_defs.specs.declared.answers.SecondEnd.{SecondEnd}
use Rattle.device_defs.specs.declared.answers.SecondEnd.TheVariants as seconds
use Rattle.device_defs.specs.Device as definitions
use Rattle.device_defs.specs.Store.{Store, tracks_of}
use Rattle.device_store.specs.State.{state_of, opened_store, outside_of, Takes}
use Rattle.duplex_pair.specs.declared.pair.SideVolumes.{SideVolumes}
use Rattle.duplex_pair.specs.Sides.{other_of, volume_of}
use Rattle.device_core.specs.declared.device.Device.{Device}
use Rattle.device_core.specs.declared.history.Past.{Past}
use Rattle.device_core.specs.declared.history.Running.{Running}
use Rattle.device_core.specs.declared.history.Stepped.{Stepped}
use Rattle.device_core.specs.declared.history.Stepped.TheVariants as steps
use Rattle.device_core.specs.declared.second.SecondStep.{SecondStep}
use Rattle.device_core.specs.declared.second.SecondStep.TheVariants as parts
pub use Rattle.device_core.specs.Kept.{open_of, chain_of, history_of}

abbrev pub device_by : Store Frame Stored Image → PathsState → Plans → Past → definitions.Device Frame Stored Image
device_by s paths plans p = record { store = s; paths = paths; plans = plans; history = history_of p; chain = option_map chain_of p.running }

abbrev pub device_of : {V : Type 0} {G : Ghosts V} → Device V G → definitions.Device Frame Stored Image
device_of d = device_by (state_of d.store) d.paths d.plans d.past

-- The end of the command that ended last: of the program that runs, or of the one that ended last

abbrev pub last_of : List CommandEnd → Option CommandEnd
last_of ends = slice_get ends (length ends - 1)

abbrev pub last_of_item : Option Item → Option CommandEnd
last_of_item (Some (Program e)) = last_of e.ends
last_of_item _ = None

abbrev pub last_by : Past → Option Running → Option CommandEnd
last_by p (Some r) = last_of r.ends.items
last_by p None = last_of_item (slice_get p.items.items p.last)

abbrev pub last_end_of : Past → Option CommandEnd
last_end_of p = last_by p p.running

-- an answer, whose end stands in the journal: the end that was the last
abbrev pub step_seen : Option CommandEnd → Stepped → Option defs.Stepped
step_seen last steps.Ended = option_map answers.Ended last
step_seen last (steps.Half t) = Some (answers.Half t)

abbrev pub step_had : {E : Type 0} → Option CommandEnd → Result Stepped E → Option defs.Stepped
step_had last (Ok s) = step_seen last s
step_had last (Err e) = None

-- the same of a second part
abbrev pub second_seen : Option CommandEnd → SecondStep → Option SecondEnd
second_seen last parts.Ended = option_map seconds.Ended last
second_seen last (parts.Finished t) = Some (seconds.Finished t)
second_seen last (parts.Unwritten t) = Some (seconds.Unwritten t)

-- The device behind a command of a path that came out, or for which memory was lacking

abbrev pub DefinedDevice : Type 0
DefinedDevice = definitions.Device Frame Stored Image

abbrev pub came_to : {E : Type 0} → DefinedDevice → ℕ → ChainState → Result Came E → DefinedDevice
came_to d path chain (Ok came) = turned d path (turn_with chain came)
came_to d path chain (Err e) = record d { chain = Some chain }

abbrev pub told : {E : Type 0} → Result Came E → Option defs.Stepped
told (Ok came) = Some (told_step came)
told (Err e) = None

-- what a step without a track came to, with what the device made of its paths
pub record Answers (g : Geometry) (old new : PathsState) (path : ℕ) (chain : ChainState) (progress : Progress) (behind : ChainState) (came : Came) : Type 0
  where
    pub is : (d : DefinedDevice) → d.store.geometry ≡ g → d.paths ≡ old →
        answered_by contents d path chain progress ≡ Done (turned (record d { paths = new }) path (turn_with behind came)) (Some (told_step came))

-- The command at hand of a program that runs, and the device behind it

abbrev pub commanded_by : DefinedDevice → Running → Interaction (List ℕ) Image DefinedDevice (Option defs.Stepped)
commanded_by d r =
    if has_loss r.acts.items then came_out contents d r.path (checks r.chain Equipment)
    else command_at contents d r.path r.chain (need_of r.chain)

abbrev pub commanded : DefinedDevice → Option Running → Interaction (List ℕ) Image DefinedDevice (Option defs.Stepped)
commanded d (Some r) = commanded_by d r
commanded d None = Done d None

abbrev pub came_from : {E : Type 0} → DefinedDevice → Option Running → Result Came E → DefinedDevice
came_from d (Some r) result = came_to d r.path r.chain result
came_from d None result = d

-- a device on which nothing happened
abbrev pub opened_device : ℕ → Geometry → ℕ → Plans → DefinedDevice
opened_device d g cylinders plans = record {
  store = opened_store d g cylinders;
  paths = fresh_paths;
  plans = plans;
  history = no_history;
  chain = None;
}

-- the programs of a path that ended, twice, and one more while one runs. It stops at the greatest of 64 bits
abbrev pub count_of : History → ℕ → ℕ
count_of h path = min (min (count_by (is_of_path path) h.items * 2) (2 ^ 64 - 1) + (if is_path_of h.running path then 1 else 0)) (2 ^ 64 - 1)

module _ {V : Type 0} {G : Ghosts V} where
  -- What callers see of a device beside `device_of`

  -- the end of the command that ended last
  abbrev pub last_end : Device V G → Option CommandEnd
  last_end d = last_end_of d.past

  -- the volumes of its sides. None: there is no such side, or it is lent
  abbrev pub own_volumes : Device V G → SideVolumes V
  own_volumes d = d.store.pair.volumes

  abbrev pub volume_a : Device V G → Option V
  volume_a d = (own_volumes d).a

  abbrev pub volume_b : Device V G → Option V
  volume_b d = (own_volumes d).b

  abbrev pub side_volume : Device V G → Side → Option V
  side_volume d side = volume_of (own_volumes d) side

  abbrev pub other_volume : Device V G → Side → Option V
  other_volume d side = other_of (own_volumes d) side

  -- what is told by a port, the volumes of a device, and a keeper
  abbrev pub around : {K : Type 0} → PortView → Device V G → K → Outside (List ℕ) K
  around port d keeper = outside_of port G.view (own_volumes d) keeper

  -- a keeper may be told each image of one of its tracks that fits there
  abbrev pub TakesItsTracks : {K : Type 0} → (K → ℕ → ℕ → Image → Type 0) → K → Device V G → Type 0
  TakesItsTracks takes keeper d = Takes takes keeper (device_of d).store.device (device_of d).store.geometry (tracks_of (device_of d).store)

  -- nothing of its tracks is otherwise, nor of the room that is kept for them
  abbrev pub HasSameTracks : Device V G → Device V G → Type 0
  HasSameTracks old new = new.store ≡ old.store

  -- it is the same device
  abbrev pub IsSameDevice : Device V G → Device V G → Type 0
  IsSameDevice old new =
      ((device_of new).store.device ≡ (device_of old).store.device) × ((device_of new).store.cylinders ≡ (device_of old).store.cylinders)
      × ((device_of new).store.geometry ≡ (device_of old).store.geometry)
