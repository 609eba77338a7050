-- A session of the code: how it begins, and that it stands as one over a run.
use Rattle.std.specs.Prelude.{◌≡◌, ◌⊎◌, ℕ, ◌*◌, Bool, true, false, Option, Some, None, Result, Ok, Err, IfOk, IfSome}
use Rattle.track_image.specs.Image.{Image}
use Rattle.device_outside.specs.declared.volume.Volume.{Ghosts}
use Rattle.device_defs.specs.Peek.{Peeked}
use Rattle.device_core.specs.declared.device.Device.{Device}
use Rattle.device_core.specs.State.{device_of}
use Rattle.device_defs.specs.Store.{tracks_of}
use Rattle.subsystem_core.specs.declared.subsystem.Subsystem.{Subsystem}
use Rattle.subsystem_core.specs.Devices.{device_at}
use Rattle.subsystem_defs.specs.Subsystem as runs
use Rattle.subsystem_defs.specs.Subsystem.{Mounted, mounted_in}
use Rattle.deck_run.specs.Owning.{AreOwn}
use Rattle.deck_run.specs.Standing.{StandsAs}
use Rattle.ckd_types.specs.declared.memory.NoMemory as memory
use Rattle.track_looks.specs.Looking.{Looks}
use Rattle.point_copy.specs.declared.given.BeginFault.{BeginFault}
use Rattle.point_copy.specs.declared.given.BeginFault.TheVariants.{NoMemory}
use Rattle.point_copy.specs.declared.given.Given.{Given}
use Rattle.point_copy.specs.declared.given.Given.TheVariants as gives
use Rattle.point_copy.specs.declared.session.Session.{Session}
use Rattle.point_copy.specs.Keeping.{OldView, nothing_kept, with_image}
use Rattle.point_copy.specs.Copying.{CopyState, Giving, KeepsOld, IsOldGiven, begun, first_lent, given_by, passed, passed_by, plain_images}

module _ {V : Type 0} {G : Ghosts V} where
  -- refused for this reason, and else begun, unless memory is lacking
  abbrev pub Begins : {S : Type 0} → Option BeginFault → Result S (BeginFault × Subsystem V G) → Type 0
  Begins fault (Ok s) = fault ≡ None
  Begins fault (Err e) = (fault ≡ Some e.0) ⊎ ((fault ≡ None) × (e.0 ≡ NoMemory))

  -- over these devices, and nothing is kept or given yet
  pub record IsBegun (sub : Subsystem V G) (d : ℕ) (x : Device V G) (s : Session V G) : Type 0 where
    pub sub_is : s.sub ≡ sub
    pub device : s.device ≡ d
    pub kept : s.kept ≡ nothing_kept d (tracks_of (device_of x).store)
    pub gone : s.gone ≡ None

  -- it was noted whether the device is lent now
  abbrev pub Notes : Session V G → Session V G → Type 0
  Notes old new =
      (new.device ≡ old.device) × IfSome (device_at new.sub.devices.items old.device) (λ x. new.gone ≡ first_lent old.gone (device_of x).store.lent)

  -- it stands as one over a run, and what it still has to give are these old images
  pub record IsCopy (s : Session V G) (c : CopyState) (old : ℕ → Image) : Type 0 where
    pub stands : StandsAs s.sub c.run
    pub own : AreOwn s.sub.devices.items
    pub device : s.device ≡ c.kept.device
    pub kept : s.kept ≡ c.kept
    pub gone : s.gone ≡ c.gone
    pub keeps : KeepsOld c old

  -- begun over a run it has to give the images of the plain volume there
  pub record IsBegunOver (run : runs.Subsystem) (d : ℕ) (s : Session V G) : Type 0 where
    pub mounted : Mounted
    pub there : mounted_in run.mounted d ≡ Some mounted
    pub copy : IsCopy s (begun run d) (plain_images mounted)

  -- it gives what is given over the run; a track is the next one, and old
  pub record GivesAs (n : Giving) (k : OldView) (old : ℕ → Image) (g : Given) (new : Session V G) : Type 0 where
    pub given : n.given ≡ g
    pub copy : IsCopy new n.behind old
    pub track : IsOldGiven k old g

  -- What next does, whatever the volumes tell

  -- nothing is changed
  pub record IsUnchanged (old new : Session V G) : Type 0 where
    pub sub : new.sub ≡ old.sub
    pub device : new.device ≡ old.device
    pub kept : new.kept ≡ old.kept
    pub gone : new.gone ≡ old.gone

  -- the image that was kept, without a look
  pub record GivesKept (old : Session V G) (i : Image) (r : Result Given memory.NoMemory) (new : Session V G) : Type 0 where
    pub given : r ≡ Ok (gives.Track old.kept.next i)
    pub sub : new.sub ≡ old.sub
    pub device : new.device ≡ old.device
    pub kept : new.kept ≡ passed (with_image old.kept old.kept.next None)
    pub gone : new.gone ≡ old.gone

  -- what a look found
  pub record GivesLooked (old : Session V G) (r : Result Given memory.NoMemory) (new : Session V G) : Type 0 where
    pub found : Option Peeked
    pub looked : Looks old.device old.kept.next found old.sub new.sub
    pub given : IfOk r (λ g. IfSome found (λ p. (g ≡ given_by old.kept.next p) × (new.kept ≡ passed_by p old.kept)))
    pub device : new.device ≡ old.device
    pub gone : new.gone ≡ old.gone

  -- nothing where all were given, nor where the device was lent since
  abbrev pub NextBy : Bool → Option ℕ → Option Image → Session V G → Result Given memory.NoMemory → Session V G → Type 0
  NextBy true _ _ old r new = (r ≡ Ok gives.Finished) × IsUnchanged old new
  NextBy false (Some of) _ old r new = (r ≡ Ok (gives.Gone of)) × IsUnchanged old new
  NextBy false None (Some i) old r new = GivesKept old i r new
  NextBy false None None old r new = GivesLooked old r new
