-- What a device promises by each of its calls: that it stays sound, that its history stays a plain device's, that it stays excused for what it lost, and what want
-- of memory leaves as it was.
use Rattle.std.specs.Prelude.{◌≡◌, ◌<◌, ◌^◌, ◌-◌, ℕ, Bool, false, List, Option, Some, Result, length}
use Rattle.ckd_types.specs.declared.geometry.Geometry.{Geometry}
use Rattle.ckd_types.specs.declared.record.Track.{Track}
use Rattle.ckd_types.specs.Volume.{IsVolume}
use Rattle.ckd_chain.specs.State.{ChainState}
use Rattle.ckd_chain.specs.Steps.{need_of}
use Rattle.loss_model.specs.declared.Loss.{Loss}
use Rattle.loss_model.specs.declared.Loss.TheVariants as losses
use Rattle.plain_defs.specs.History.{IsPlain, OpenEntry}
use Rattle.plain_defs.specs.PlainState.{PlainState}
use Rattle.plain_defs.specs.Whole.{GiveBytes}
use Rattle.device_outside.specs.declared.volume.Volume.{Ghosts}
use Rattle.track_image.specs.Image.{Image}
use Rattle.device_outside.specs.After.{Holdings, Tells}
use Rattle.device_outside.specs.Keeper.{Hearing}
use Rattle.device_outside.specs.Outside.{Outside, PortView, Ran, no_pool, where_ok}
use Rattle.device_outside.specs.Volume.{VolumeView}
use Rattle.device_defs.specs.declared.answers.Choice.TheVariants.{Through}
use Rattle.device_defs.specs.declared.answers.Stepped.{Stepped}
use Rattle.device_defs.specs.Choosing.{choose}
use Rattle.device_defs.specs.Command.{command}
use Rattle.device_defs.specs.Contents.{contents}
use Rattle.device_defs.specs.Outcomes.{usage_of}
use Rattle.device_defs.specs.Store.{is_lost}
use Rattle.device_defs.specs.Excused as defs
use Rattle.device_defs.specs.Sound.{DeviceStore}
use Rattle.device_laws.specs.Lent.{IsLent}
use Rattle.device_laws.specs.Moved.{choice_writes, counted_by, sides_writing}
use Rattle.device_laws.specs.NewDevice.{first_state, volume_contents}
use Rattle.device_laws.specs.Seen.{CommandCame, Look, Noticed, Saw, WentOn}
use Rattle.device_laws.specs.SoundOn.{IsSoundOn, plain_on}
use Rattle.device_laws.specs.Whole.{WholeDevice, marks_device}
use Rattle.device_laws.proofs.PlainTurns.{Follows}
use Rattle.device_store.specs.State.{outside}
use Rattle.subsystem_laws.specs.Again.{IsAgain}
use Rattle.past_laws.specs.Forgotten.{put_away}
use Rattle.past_laws.specs.PutAway.{PutAway}
use Rattle.past_laws.specs.WithPast.{with_past}
use Rattle.subsystem_laws.specs.Standing.{IsBesideOn, StandsOn, Untold}
use Rattle.device_core.specs.declared.device.Device.{Device}
use Rattle.device_core.specs.declared.history.Stepped as own
use Rattle.device_core.specs.WholePast.{SoWithPast}
use Rattle.device_core.specs.State.{around, device_of, last_end, step_had}

-- A command

-- What it did between what port, volumes and keeper told before it and after it: all that its definition does. The end that it answers stands in the journal
module _ {V : Type 0} {G : Ghosts V} {K : Type 0} (hears : Hearing Image K) where
  abbrev pub DidCommand : {E : Type 0} → Device V G → PortView → K → Device V G → PortView → K → Result own.Stepped E → Type 0
  DidCommand d port keeper e later kept result =
      Ran (where_ok result) hears (command contents (device_of d)) (around port d keeper) (device_of e) (step_had (last_end e) result)
      (around later e kept)

-- A command of a running program that ended, or is half done, came out as the rules say over the images that it saw
module _ {K : Type 0} (had : Bool → Type 0) (hears : Hearing Image K) where
  abbrev pub EndsSeen : WholeDevice → Outside (List ℕ) K → WholeDevice → Option Stepped → Outside (List ℕ) K → Type 0
  EndsSeen d u e a z =
      (o : OpenEntry) (chain : ChainState) (x : Stepped) → d.history.running ≡ Some o → d.chain ≡ Some chain → a ≡ Some x →
      CommandCame had hears d o chain u x e z

  -- It wrote no volume; or behind its notices and its looks it chose, by the rules, to write the track of its last look through, and wrote it once to each
  -- side that takes it, or where it is half done to the first alone
  pub data NoneOrThrough (d : WholeDevice) (chain : ChainState) (u : Outside (List ℕ) K) (e : WholeDevice) : Type 0 where
    none : e.store.counts.writes ≡ d.store.counts.writes → NoneOrThrough d chain u e
    through : (s x y : DeviceStore) (v w p q : Outside (List ℕ) K) (looks : List Look) (final : ChainState) (t : ℕ) (i : Image) (reads : ℕ) (half : Bool) →
        Noticed had hears d u s v → WentOn had hears chain s v looks final x w → need_of final ≡ Some t →
        Saw had hears x (usage_of final) t w i reads y p → Ran had hears (choose contents y (usage_of final) t) p y Through q →
        e.store.counts.writes ≡ counted_by (choice_writes (sides_writing y) Through half) d.store.counts.writes → NoneOrThrough d chain u e

  -- so a write that is fast, or of data that stay in the cache, writes no volume
  abbrev pub FastWritesNone : WholeDevice → Outside (List ℕ) K → WholeDevice → Option Stepped → Type 0
  FastWritesNone d u e a =
      (o : OpenEntry) (chain : ChainState) (x : Stepped) → d.history.running ≡ Some o → d.chain ≡ Some chain → a ≡ Some x → NoneOrThrough d chain u e

-- A volume that leaves

-- of the cache, or of the nonvolatile store
abbrev pub TakesNoSide : Loss → Type 0
TakesNoSide losses.Cache = Unit {0}
TakesNoSide losses.Store = Unit {0}
TakesNoSide (losses.Side side) = ⊥

-- A device is lent, and keeps nothing of its tracks: its history is still one of a plain device, whose volume was that of the one that left; it began with
-- these tracks
pub record IsLentBeside (first : List Track) {K : Type 0} (d : WholeDevice) (u : Outside (List ℕ) K) : Type 0 where
  pub plain : List Track
  pub firm : List Track
  pub held : Holdings (List ℕ)
  pub untold : Untold u held
  pub lent : IsLent plain firm d held
  pub follows : Follows d.store.device (first_state d.store.geometry d.store.cylinders first) (marks_device plain firm d)
  pub gives : GiveBytes d.plans

-- a volume tells that it holds these tracks, each where it says and such as fits
pub record HoldsTracks (g : Geometry) (cylinders : ℕ) (first : List Track) (v : VolumeView (List ℕ)) : Type 0 where
  pub is : IsVolume g cylinders first
  pub tells : v.contents ≡ Some (volume_contents first)

-- a volume tells what it holds, so many tracks
abbrev pub TellsTracks : VolumeView (List ℕ) → ℕ → Type 0
TellsTracks v n = (l : List (List ℕ)) × (v.contents ≡ Some l) × (length l ≡ n)

module _ {V : Type 0} {G : Ghosts V} where
  -- what its volumes tell
  abbrev pub told_by : Device V G → Outside (List ℕ) (Unit {0})
  told_by d = outside (no_pool 0) d.store tt

  -- its volumes tell what they hold, and with what of its past was put away it stands beside the plain device of its history, which began with these tracks
  abbrev pub StandsPlain : PutAway → List Track → Device V G → Type 0
  StandsPlain past first d = SoWithPast (IsBesideOn (λ (_ : ℕ). first)) past (device_of d) (told_by d)

  -- and it came about from a new device by its calls, its orders only where they aren't refused, and never got an empty volume on the way
  abbrev pub StandsWhole : PutAway → List Track → Device V G → Type 0
  StandsWhole past first d = SoWithPast (StandsOn (λ (_ : ℕ). first)) past (device_of d) (told_by d)

  -- with all of its past
  abbrev pub whole_of : PutAway → Device V G → WholeDevice
  whole_of past d = with_past past (device_of d)

  abbrev pub begun_with : List Track → Device V G → PlainState
  begun_with first d = first_state d.store.geometry d.store.cylinders first

  -- so behind a call, where it stood so before, whatever it began with and whatever was put away
  abbrev pub KeepsPlain : Device V G → Device V G → Type 0
  KeepsPlain d e = (past : PutAway) (first : List Track) → StandsPlain past first d → StandsPlain past first e

  abbrev pub KeepsWhole : Device V G → Device V G → Type 0
  KeepsWhole d e = (past : PutAway) (first : List Track) → StandsWhole past first d → StandsWhole past first e

  -- Sound: track by track, its frames, its patches and the bytes of each side that has the track are those of the plain device of its history

  pub record IsSound (past : PutAway) (first : List Track) (d : Device V G) : Type 0 where
    pub held : Holdings (List ℕ)
    pub on_a : Tells (told_by d).a held.a
    pub on_b : Tells (told_by d).b held.b
    pub is : IsSoundOn (λ (_ : ℕ). first) (whole_of past d) held

  -- behind a call, where it stood so before
  pub record StaysSound (d e : Device V G) : Type 0 where
    pub sound : (past : PutAway) (first : List Track) → StandsPlain past first d → IsSound past first e

  -- Plain: its history, with what was put away, is one that a plain device could have, over its plans and from a volume of these tracks

  abbrev pub HasPlainHistory : PutAway → List Track → Device V G → Type 0
  HasPlainHistory past first d = IsPlain (whole_of past d).plans (begun_with first d) (whole_of past d).history

  pub record StaysPlain (d e : Device V G) : Type 0 where
    pub stands : KeepsPlain d e
    pub history : (past : PutAway) (first : List Track) → StandsPlain past first d → HasPlainHistory past first e

  -- Excused: each lost track and each equipment check has its cause, while the counts of failed calls and of losses of the cache aren't at the greatest number

  abbrev pub IsExcused : PutAway → List Track → Device V G → Type 0
  IsExcused past first d =
      d.store.counts.failed < 2 ^ 64 - 1 → d.store.counts.losses.cache < 2 ^ 64 - 1 →
      defs.IsExcused (whole_of past d).plans (begun_with first d) (whole_of past d).history.items d.store.lost d.store.counts

  -- all of these, so that its next call keeps them
  pub record IsPromised (past : PutAway) (first : List Track) (d : Device V G) : Type 0 where
    pub stands : StandsWhole past first d
    pub sound : IsSound past first d
    pub plain : HasPlainHistory past first d
    pub excused : IsExcused past first d

  pub record StaysExcused (d e : Device V G) : Type 0 where
    pub stands : KeepsWhole d e
    pub excused : (past : PutAway) (first : List Track) → StandsWhole past first d → IsExcused past first e

  -- The same: want of memory leaves its paths, who holds it, its plans and its place in the program; of a device that is no pair its history and its marks;
  -- and the contents of the plain device of its history

  pub record StaysSame (d e : Device V G) : Type 0 where
    pub again : IsAgain (device_of d) (device_of e)
    pub contents : (past : PutAway) (first : List Track) → StandsPlain past first d →
        (plain_on (λ (_ : ℕ). first) (whole_of past e)).volume ≡ (plain_on (λ (_ : ℕ). first) (whole_of past d)).volume

  -- Lent: where it stood beside the plain device and ran nothing it does so without its volume, and on an empty one again

  abbrev pub StandsLent : PutAway → List Track → Device V G → Type 0
  StandsLent past first d = SoWithPast (IsLentBeside first) past (device_of d) (told_by d)

  pub record HasLostNone (d : Device V G) : Type 0 where
    pub none : (t : ℕ) → is_lost (device_of d).store t ≡ false

  pub record LeavesPlain (d e : Device V G) : Type 0 where
    pub stands : (past : PutAway) (first : List Track) → StandsPlain past first d → StandsLent past first e
    pub history : (past : PutAway) (first : List Track) → StandsPlain past first d → HasPlainHistory past first e

  pub record StaysLent (d e : Device V G) : Type 0 where
    pub stands : (past : PutAway) (first : List Track) → StandsLent past first d → StandsLent past first e
    pub history : (past : PutAway) (first : List Track) → StandsLent past first d → HasPlainHistory past first e
    pub lost : (past : PutAway) (first : List Track) → StandsLent past first d → HasLostNone e

  pub record ComesSound (d e : Device V G) : Type 0 where
    pub sound : (past : PutAway) (first : List Track) → StandsLent past first d → IsSound past first e

  pub record ComesPlain (d e : Device V G) : Type 0 where
    pub stands : (past : PutAway) (first : List Track) → StandsLent past first d → StandsPlain past first e
    pub history : (past : PutAway) (first : List Track) → StandsLent past first d → HasPlainHistory past first e

  -- Forgotten: it is the device that it was, with more put away; so it stands as it stood

  pub record ForgetsNothing (d e : Device V G) : Type 0 where
    pub whole : (past : PutAway) (first : List Track) → StandsPlain past first d → whole_of (put_away past (device_of d)) e ≡ whole_of past d
    pub plain : (past : PutAway) (first : List Track) → StandsPlain past first d → StandsPlain (put_away past (device_of d)) first e
    pub stands : (past : PutAway) (first : List Track) → StandsWhole past first d → StandsWhole (put_away past (device_of d)) first e
    pub lent : (past : PutAway) (first : List Track) → StandsLent past first d → StandsLent (put_away past (device_of d)) first e
