-- What a call that copies a track does.
use Rattle.std.specs.Prelude.{◌≡◌, ◌⊎◌, ◌<◌, ◌*◌, ℕ, ◌&&◌, not, Bool, true, false, Option, Some, None, Result, Ok, Err, IfOk, IsOk}
use Rattle.ckd_outside.specs.declared.faults.Failed.{Failed}
use Rattle.ckd_types.specs.declared.geometry.Geometry.{Geometry}
use Rattle.ckd_types.specs.declared.memory.NoMemory.{NoMemory}
use Rattle.ckd_types.specs.declared.record.Track.{Track}
use Rattle.device_outside.specs.declared.volume.Volume.{Ghosts}
use Rattle.device_outside.specs.Keeper.{Heard}
use Rattle.device_defs.specs.Peek as peeks
use Rattle.device_defs.specs.Peek.{Peeked}
use Rattle.device_store.specs.declared.store.Peeked as looks
use Rattle.device_store.specs.Images.{IsImageOf}
use Rattle.device_store.specs.Looks.{IsPeeked, peeked_by}
use Rattle.device_store.specs.State.{had}
use Rattle.device_core.specs.declared.device.Device.{Device}
use Rattle.device_core.specs.State.{device_of}
use Rattle.device_defs.specs.Store.{tracks_of}
use Rattle.subsystem_core.specs.declared.subsystem.Subsystem.{Subsystem}
use Rattle.subsystem_defs.specs.Looks.{looked}
use Rattle.subsystem_defs.specs.Subsystem.{mounted_in}
use Rattle.track_looks.specs.Looking.{LooksKept}
use Rattle.remote_copy.specs.declared.remote.Remote.{Remote}
use Rattle.remote_copy.specs.declared.remote.Remote.TheVariants.{Copied, Idle, Lost, Fault, BadBytes, LinkFault, Waits}
use Rattle.remote_copy.specs.declared.state.MirrorState.{MirrorState}
use Rattle.remote_copy.specs.Sending.{IsSent, SenderView, hears_sent, is_suspended, takes_sent}
use Rattle.remote_copy.specs.Mirroring.{MirrorRun, copied_to, waits_at}

-- a copy was put, or the put failed
abbrev pub answer_put : {T E : Type 0} → ℕ → Result T E → Remote
answer_put t (Ok y) = Copied t
answer_put t (Err e) = LinkFault

abbrev pub behind_put : {T E : Type 0} → ℕ → ℕ → Result T E → SenderView → SenderView
behind_put tracks t (Ok y) s = record s { state = copied_to tracks t }
behind_put tracks t (Err e) s = s

-- a track of a far volume with so many tracks was put
pub record PutsCopy (tracks t : ℕ) (x : Track) (old : SenderView) (r : Remote) (new : SenderView) : Type 0 where
  pub result : Result (Unit {0}) Failed
  pub put : SenderView
  pub is : IsSent old t x result put
  pub answer : r ≡ answer_put t result
  pub behind : new ≡ behind_put tracks t result put

-- what a look at it found is put, or else told
abbrev pub AnswersBy : ℕ → ℕ → Peeked → SenderView → Remote → SenderView → Type 0
AnswersBy tracks t (peeks.Track i) old r new = PutsCopy tracks t i.track old r new
AnswersBy tracks t peeks.Lost old r new = (r ≡ Lost t) × (new ≡ old)
AnswersBy tracks t (peeks.Fault side) old r new = (r ≡ Fault side) × (new ≡ old)
AnswersBy tracks t (peeks.BadBytes side) old r new = (r ≡ BadBytes side) × (new ≡ old)

-- a put failed
abbrev pub gets_suspended : MirrorState → MirrorState → Bool
gets_suspended old new = is_suspended new && not (is_suspended old)

-- a look in which a put failed is the link's fault, and the track isn't put
abbrev pub LookedBy : ℕ → ℕ → Bool → Option Peeked → SenderView → Result Remote NoMemory → SenderView → Type 0
LookedBy tracks t failed None old r new = (IsOk r → ⊥) × (new ≡ old)
LookedBy tracks t true (Some found) old r new = (r ≡ Ok LinkFault) × (new ≡ old)
LookedBy tracks t false (Some found) old r new = IsOk r × IfOk r (λ answer. AnswersBy tracks t found old answer new)

-- an image that was found is of this model, and says that it is this track
abbrev pub IsImageFound : Geometry → ℕ → Peeked → Type 0
IsImageFound g t (peeks.Track i) = IsImageOf g t i
IsImageFound g t _ = Unit {0}

module _ {V : Type 0} {G : Ghosts V} where
  -- nothing is changed
  pub record IsUnchanged (old : Subsystem V G) (s : SenderView) (new : Subsystem V G) (z : SenderView) : Type 0 where
    pub sub : new ≡ old
    pub sender : z ≡ s

  -- an image that was found there may be put
  pub record MayPut (t : ℕ) (y : Device V G) (found : looks.Peeked) : Type 0 where
    pub track : t < tracks_of (device_of y).store
    pub there : IsPeeked (device_of y).store t found
    pub image : IsImageFound (device_of y).store.geometry t (peeked_by (device_of y).store t found)

  -- the device was looked at, with the sender as keeper
  pub record LooksAt (t : ℕ) (old : Subsystem V G) (s : SenderView) (x : Device V G) (r : Result looks.Peeked NoMemory) (new : Subsystem V G) (z : SenderView)
      (y : Device V G) : Type 0 where
    pub cylinders : (device_of y).store.cylinders ≡ (device_of x).store.cylinders
    pub found : IfOk r (MayPut t y)
    pub look : LooksKept (Heard hears_sent takes_sent) s.device t (had (peeked_by (device_of y).store t) r) old s new z

  -- a track was looked at, to be copied
  pub record LooksToCopy (tracks t : ℕ) (old : Subsystem V G) (s : SenderView) (r : Result Remote NoMemory) (new : Subsystem V G) (z : SenderView) : Type 0 where
    pub found : Option Peeked
    pub heard : SenderView
    pub look : LooksKept (Heard hears_sent takes_sent) s.device t found old s new heard
    pub answers : LookedBy tracks t (gets_suspended s.state heard.state) found heard r z

  abbrev pub TrackBy : ℕ → ℕ → Bool → Subsystem V G → SenderView → Result Remote NoMemory → Subsystem V G → SenderView → Type 0
  TrackBy tracks t true old s r new z = (r ≡ Ok Waits) × IsUnchanged old s new z
  TrackBy tracks t false old s r new z = LooksToCopy tracks t old s r new z

  -- whatever the volumes and the link tell
  abbrev pub CopiedBy : ℕ → Option ℕ → (ℕ → Bool) → Subsystem V G → SenderView → Result Remote NoMemory → Subsystem V G → SenderView → Type 0
  CopiedBy tracks None waits old s r new z = (r ≡ Ok Idle) × IsUnchanged old s new z
  CopiedBy tracks (Some t) waits old s r new z = TrackBy tracks t (waits t) old s r new z

-- Over a run

-- what a look finds there is told, unless a put failed. No bytes are bad
abbrev pub IsFoundAs : ℕ → Peeked → Remote → Type 0
IsFoundAs t (peeks.Track i) r = (r ≡ Copied t) ⊎ (r ≡ LinkFault)
IsFoundAs t peeks.Lost r = (r ≡ Lost t) ⊎ (r ≡ LinkFault)
IsFoundAs t (peeks.Fault side) r = (r ≡ Fault side) ⊎ (r ≡ LinkFault)
IsFoundAs t (peeks.BadBytes side) r = ⊥

abbrev pub TrackAs : MirrorRun → ℕ → Bool → Remote → Type 0
TrackAs c t true r = r ≡ Waits
TrackAs c t false r = IsFoundAs t (looked c.run c.device t).found r

abbrev pub AnswersAs : MirrorRun → Option ℕ → Remote → Type 0
AnswersAs c None r = r ≡ Idle
AnswersAs c (Some t) r = TrackAs c t (waits_at (mounted_in c.run.mounted c.device) t) r
