-- What a device keeps while its turn goes round, and what an event of a worker leaves of it.
use Rattle.std.specs.Prelude.{◌≡◌, ◌≤◌, ◌&&◌, ℕ, Bool, true, false, List, [], ◌∷◌, Option, Some, None, is_some, slice_set}
use Rattle.ckd_types.specs.declared.record.Track.{Track}
use Rattle.plain_defs.specs.declared.journal.Item.{Item}
use Rattle.device_outside.specs.declared.volume.Volume.{Ghosts}
use Rattle.device_outside.specs.Outside.{Outside, no_pool}
use Rattle.device_outside.specs.Volume.{VolumeView}
use Rattle.device_defs.specs.declared.counts.Losses.{Losses}
use Rattle.device_defs.specs.Pledge.{Handed, Pledge, is_fresh, pledge, seat_counts}
use Rattle.device_defs.specs.Start.{is_finished}
use Rattle.device_laws.specs.Handed.{StaysInTurn, allowance_in}
use Rattle.subsystem_laws.specs.Standing.{StandsOn}
use Rattle.device_core.specs.declared.device.Device.{Device}
use Rattle.device_core.specs.State.{device_of, around}
use Rattle.path_workers.specs.declared.promise.Promise.{Promise}
use Rattle.path_workers.specs.Planned.{told_planned}

-- a volume tells what it holds
abbrev pub tells : {R : Type 0} → Option (VolumeView R) → Bool
tells None = true
tells (Some v) = is_some v.contents

-- nothing happened but that the volume was made empty
abbrev pub are_fresh : List Item → Bool
are_fresh [] = true
are_fresh (x ∷ xs) = is_fresh x && are_fresh xs

-- no more losses of each kind
pub record IsWithin (l most : Losses) : Type 0 where
  pub cache : l.cache ≤ most.cache
  pub store : l.store ≤ most.store
  pub sides : l.sides ≤ most.sides

module _ {V : Type 0} {G : Ghosts V} where
  -- what a device's volumes tell, with how many calls may still fail that their plans name
  abbrev pub told_of : Device V G → Outside (List ℕ) (Unit {0})
  told_of d = told_planned (around (no_pool 0) d tt)

  -- they tell what they hold
  abbrev pub tells_all : Device V G → Bool
  tells_all d = tells (told_of d).a && tells (told_of d).b

  -- how many calls of them may still fail, that they tell what they hold, and that every volume did which the device ever had
  abbrev pub handed_of : Bool → Device V G → Handed
  handed_of told d = record { allowance = allowance_in (told_of d); tells = tells_all d; told = told }

  -- A device's volumes tell what they hold, and it stands beside the plain device of its history, which began with these tracks, unless its volume is
  -- lent
  pub record StandsFirst (first : ℕ → List Track) (d : Device V G) : Type 0 where
    pub tells : tells_all d ≡ true
    pub stands : (device_of d).store.lent ≡ None → StandsOn first (device_of d) (told_of d)

  -- what is pledged of a device as it is, with so many losses in all, and whether that it stands so
  abbrev pub pledge_with : Bool → Device V G → Losses → Pledge
  pledge_with told d most =
      record (pledge (device_of d) (handed_of told d) (record { cache = 0; store = 0; sides = 0 })) { losses = most }

  -- A device keeps a pledge, and no reset of a path waits. Where that was pledged, it stands beside the plain device of its history, which began with
  -- these tracks, unless its volume is lent
  pub record KeepsPledge (first : ℕ → List Track) (p : Pledge) (d : Device V G) : Type 0 where
    pub keeps : StaysInTurn p (device_of d) (handed_of p.told d) (told_of d)
    pub stands : p.told ≡ true → (device_of d).store.lent ≡ None → StandsOn first (device_of d) (told_of d)

  -- the device e behind a run keeps what was pledged of d before it, with so many losses in all: with whichever tracks the plain device beside d began,
  -- that beside e did, and else what is pledged without it
  abbrev pub KeepsWithin : Losses → Device V G → Device V G → Type 0
  KeepsWithin most d e =
      (first : ℕ → List Track) (told : Bool) → (told ≡ true → StandsFirst first d) → KeepsPledge first (pledge_with told d most) e

  -- what a turn keeps: the device keeps what was pledged of it as the turn was made
  abbrev pub KeepsPromise : Promise V G → Device V G → Type 0
  KeepsPromise p d = KeepsWithin p.most p.made.value d

  -- whatever was pledged and kept before is kept behind
  abbrev pub StaysKept : Device V G → Device V G → Type 0
  StaysKept d e = (first : ℕ → List Track) (p : Pledge) → KeepsPledge first p d → KeepsPledge first p e

  -- an event of a seat: what was kept is kept, and of the seats' counts no other changes
  pub record Moves (seat : ℕ) (d e : Device V G) : Type 0 where
    pub stays : StaysKept d e
    pub count : ℕ
    pub counts : seat_counts (device_of e) ≡ slice_set (seat_counts (device_of d)) seat count

  -- No program runs, and no write is half done. The device is lent, or each path has no program left, or the one that holds the device keeps it out
  pub record IsFinished (d : Device V G) : Type 0 where
    pub over : is_finished (device_of d) ≡ true
    pub whole : is_some (device_of d).store.half ≡ false

  -- no program was ever started, and no reset waits
  pub record IsReady (d : Device V G) : Type 0 where
    pub idle : (device_of d).history.running ≡ None
    pub none : (device_of d).history.waiting ≡ []
    pub journal : are_fresh (device_of d).history.items ≡ true
