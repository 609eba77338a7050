-- How the firm tracks of a device are put on a far volume, one after another.
use Rattle.std.specs.Prelude.{◌≡◌, ◌<◌, ◌⊎◌, ◌==◌, ◌&&◌, ◌+◌, ◌-◌, ◌^◌, ℕ, min, Bool, true, false, List, [], ◌∷◌, length, take, Some, Result, Ok, Err, if◌then◌else◌, nat_lt, slice_set}
use Rattle.ckd_types.specs.declared.record.Track.{Track}
use Rattle.ckd_outside.specs.declared.faults.Failed.{Failed}
use Rattle.track_image.specs.Image.{Image}
use Rattle.device_outside.specs.Keeper.{BeforeEdit, Firm, Hearing}
use Rattle.device_outside.specs.Volume.{counted}
use Rattle.firm_laws.specs.FirmWrites.{FirmWrite}
use Rattle.remote_copy.specs.declared.state.MirrorState.{MirrorState}
use Rattle.remote_copy.specs.declared.state.MirrorState.TheVariants.{Level, Suspended, Copying}
use Rattle.remote_copy.specs.Linking.{IsFarImage, LinkView, PutCalls, Puts, next_fails, one_put}

-- what puts the firm tracks of a device: the puts that it counted, how far the far volume is, and the link
pub record SenderView : Type 0 where
  pub device : ℕ
  pub sent : ℕ
  pub state : MirrorState
  pub link : LinkView

abbrev pub is_suspended : MirrorState → Bool
is_suspended Level = false
is_suspended (Suspended sent) = true
is_suspended (Copying below) = false

-- whether a firm track is put
abbrev pub is_put : MirrorState → ℕ → Bool
is_put Level t = true
is_put (Suspended sent) t = false
is_put (Copying below) t = nat_lt t below

-- while level it is counted
abbrev pub counted_at : MirrorState → ℕ → ℕ
counted_at Level sent = counted sent
counted_at (Suspended k) sent = sent
counted_at (Copying below) sent = sent

-- only a put that doesn't fail is counted
abbrev pub sent_behind : {T E : Type 0} → SenderView → Result T E → ℕ
sent_behind old (Ok y) = counted_at old.state old.sent
sent_behind old (Err e) = old.sent

-- one that fails suspends, with the count before it
abbrev pub state_behind : {T E : Type 0} → SenderView → Result T E → MirrorState
state_behind old (Ok y) = old.state
state_behind old (Err e) = Suspended old.sent

-- one track is put, and this came of it
pub record IsSent {T E : Type 0} (old : SenderView) (t : ℕ) (x : Track) (result : Result T E) (new : SenderView) : Type 0 where
  pub put : Puts old.link t x result new.link
  pub device : new.device ≡ old.device
  pub sent : new.sent ≡ sent_behind old result
  pub state : new.state ≡ state_behind old result

-- and something came of it
pub record Sends (old : SenderView) (t : ℕ) (x : Track) (new : SenderView) : Type 0 where
  pub result : Result (Unit {0}) Failed
  pub is : IsSent old t x result new

abbrev pub SendsIf : Bool → SenderView → ℕ → Track → SenderView → Type 0
SendsIf true old t x new = Sends old t x new
SendsIf false old t x new = new ≡ old

-- it is told of a firm track of a device
abbrev pub HearsFirm : SenderView → ℕ → ℕ → Image → SenderView → Type 0
HearsFirm old d t i new = SendsIf ((d == old.device) && is_put old.state t) old t i.track new

-- before an edit it does nothing, and never lacks memory
abbrev pub hears_sent : Hearing Image SenderView
hears_sent old (BeforeEdit d t i) r new = (r ≡ true) × (new ≡ old)
hears_sent old (Firm d t i) r new = HearsFirm old d t i new

-- it may be told of the device's tracks that the far volume has
abbrev pub takes_sent : SenderView → ℕ → ℕ → Image → Type 0
takes_sent s d t i = d ≡ s.device → IsFarImage s.link t i

-- The firm writes of a device

-- the volume with each of them put in, one after another
abbrev pub put_all : List FirmWrite → List Track → List Track
put_all [] v = v
put_all (w ∷ ws) v = put_all ws (slice_set v w.0 w.1)

-- those before the first whose put fails
abbrev pub reached : PutCalls → List FirmWrite → List FirmWrite
reached c [] = []
reached c (w ∷ ws) = if next_fails c then [] else w ∷ reached (one_put c) ws

-- whether no put of them fails
abbrev pub are_reached : PutCalls → List FirmWrite → Bool
are_reached c [] = true
are_reached c (w ∷ ws) = if next_fails c then false else are_reached (one_put c) ws

-- and the calls behind them
abbrev pub all_put : PutCalls → List FirmWrite → PutCalls
all_put c [] = c
all_put c (w ∷ ws) = all_put (one_put c) ws

-- counts stop at the greatest of 64 bits
abbrev pub capped : ℕ → ℕ
capped n = min n (2 ^ 64 - 1)

-- the first so many firm writes, or one more, are on the far volume
pub record IsFront (k : ℕ) (ws : List FirmWrite) (start far : List Track) : Type 0 where
  pub count : ℕ
  pub counted_as : k ≡ capped count
  pub below : count < length ws
  pub is_put_in : (far ≡ put_all (take count ws) start) ⊎ (far ≡ put_all (take (count + 1) ws) start)

-- while level all of them are on the far volume, and counted; suspended, a front of them
abbrev pub IsLevelled : List FirmWrite → List Track → MirrorState → ℕ → List Track → Type 0
IsLevelled ws start Level sent far = (far ≡ put_all ws start) × (sent ≡ capped (length ws))
IsLevelled ws start (Suspended k) sent far = IsFront k ws start far
IsLevelled ws start (Copying below) sent far = ⊥

-- all of them are put, or one wasn't
abbrev pub IsStill : Bool → PutCalls → SenderView → Type 0
IsStill true behind s = (s.state ≡ Level) × (s.link.calls ≡ Some behind)
IsStill false behind s = s.state ≡ Suspended s.sent

-- where it is told which puts fail, those before the first that does are on the far volume
pub record IsReached (c : PutCalls) (ws : List FirmWrite) (start : List Track) (s : SenderView) : Type 0 where
  pub far : s.link.far ≡ Some (put_all (reached c ws) start)
  pub sent : s.sent ≡ capped (length (reached c ws))
  pub state : IsStill (are_reached c ws) (all_put c ws) s
