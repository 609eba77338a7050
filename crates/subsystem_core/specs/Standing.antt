-- What a subsystem promises of its devices, whatever volumes they began on, and whatever of their pasts was put away.
use Rattle.std.specs.Prelude.{◌≡◌, ◌==◌, ℕ, true, false, All, IfSome, List, OnErr, OnOk, Result, Some, if◌then◌else◌, is_some}
use Rattle.ckd_types.specs.declared.record.Track.{Track}
use Rattle.device_outside.specs.declared.volume.Volume.{Ghosts}
use Rattle.device_outside.specs.Disk.{empty_contents}
use Rattle.device_outside.specs.Volume.{VolumeView}
use Rattle.device_core.specs.declared.device.Device.{Device}
use Rattle.device_core.specs.Promises.{HasPlainHistory, IsSound, StandsLent, StandsPlain}
use Rattle.device_core.specs.State.{device_of}
use Rattle.past_laws.specs.Forgotten.{put_away}
use Rattle.past_laws.specs.PutAway.{PutAway}
use Rattle.subsystem_core.specs.Devices.{device_at, number_of}
use Rattle.subsystem_laws.specs.Looking.{is_written_at}

-- a volume tells that each of its tracks is empty
abbrev pub TellsEmpty : VolumeView (List ℕ) → Type 0
TellsEmpty v = v.contents ≡ Some (empty_contents v.tracks)

-- more of the past of the device of this number was put away
abbrev pub with_more : (ℕ → PutAway) → ℕ → PutAway → ℕ → PutAway
with_more pasts n more m = if m == n then more else pasts m

module _ {V : Type 0} {G : Ghosts V} where
  -- it stands beside the plain device of its history; or it is lent, and stood so when it left
  pub record Stands (past : PutAway) (first : List Track) (d : Device V G) : Type 0 where
    pub here : is_some (device_of d).store.lent ≡ false → StandsPlain past first d
    pub lent : is_some (device_of d).store.lent ≡ true → StandsLent past first d

  -- so behind a call, where it stood so before
  abbrev pub StaysStanding : Device V G → Device V G → Type 0
  StaysStanding d e = (past : PutAway) (first : List Track) → Stands past first d → Stands past first e

  -- no device is lent
  abbrev pub NoneIsLent : List (Device V G) → Type 0
  NoneIsLent ds = All (λ (d : Device V G). is_some (device_of d).store.lent ≡ false) ds

  -- each device, of whose past so much was put away, and which began with these tracks
  abbrev pub AllStand : (ℕ → PutAway) → (ℕ → List Track) → List (Device V G) → Type 0
  AllStand pasts firsts ds = All (λ (d : Device V G). Stands (pasts (number_of d)) (firsts (number_of d)) d) ds

  abbrev pub StayStanding : List (Device V G) → List (Device V G) → Type 0
  StayStanding olds news = (pasts : ℕ → PutAway) (firsts : ℕ → List Track) → AllStand pasts firsts olds → AllStand pasts firsts news

  -- the history of each, with what was put away, is one that a plain device could have, from the tracks with which it began
  abbrev pub HavePlainHistories : (ℕ → PutAway) → (ℕ → List Track) → List (Device V G) → Type 0
  HavePlainHistories pasts firsts ds = All (λ (d : Device V G). HasPlainHistory (pasts (number_of d)) (firsts (number_of d)) d) ds

  -- and track by track each that isn't lent has what the plain device of its history has
  abbrev pub AreSound : (ℕ → PutAway) → (ℕ → List Track) → List (Device V G) → Type 0
  AreSound pasts firsts ds =
      All (λ (d : Device V G). is_some (device_of d).store.lent ≡ false → IsSound (pasts (number_of d)) (firsts (number_of d)) d) ds

  -- all of these behind a call, where they stood so before
  pub record StayPlain (olds news : List (Device V G)) : Type 0 where
    pub stand : StayStanding olds news
    pub histories : (pasts : ℕ → PutAway) (firsts : ℕ → List Track) → AllStand pasts firsts olds → HavePlainHistories pasts firsts news
    pub sound : (pasts : ℕ → PutAway) (firsts : ℕ → List Track) → AllStand pasts firsts olds → AreSound pasts firsts news

  -- no half write of a command, or of one that was cut, is open on this track of the device of this number
  abbrev pub IsUnwritten : ℕ → ℕ → List (Device V G) → Type 0
  IsUnwritten n t ds = IfSome (device_at ds n) (λ (x : Device V G). is_written_at (device_of x).store.half t ≡ false)

  -- Forgetting

  -- the device of this number forgot: with what was put away of it each stands as it stood. Or, by the answer, it didn't, and each stands as it stood
  pub record StayForgetting {E : Type 0} (n : ℕ) (answer : Result (Unit {0}) E) (olds news : List (Device V G)) : Type 0 where
    pub forgot : OnOk answer ((pasts : ℕ → PutAway) (firsts : ℕ → List Track) (x : Device V G) → device_at olds n ≡ Some x → AllStand pasts firsts olds →
        AllStand (with_more pasts n (put_away (pasts n) (device_of x))) firsts news)
    pub same : OnErr answer (StayStanding olds news)
