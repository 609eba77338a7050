-- In an event or a look, whether or not memory was had, the sender went on over some firm writes.
use Rattle.std.proofs.Common.{◌≡◌, ◌∙◌, ◌⊎◌, inl, inr, ℕ, Bool, true, List, [], ◌++◌, Option, refl, sym, ap, subst}
use Rattle.ckd_types.specs.declared.paths.Side.{Side}
use Rattle.ckd_types.specs.declared.paths.Side.TheVariants.{A, B}
use Rattle.track_image.specs.Image.{Image}
use Rattle.device_outside.specs.declared.volume.Volume.{Ghosts}
use Rattle.device_outside.specs.Interaction.{Interaction}
use Rattle.device_outside.specs.Keeper.{Heard}
use Rattle.device_outside.specs.Outside.{Outside, Ran, done, tried, asked, read, wrote, told, with_view}
use Rattle.device_outside.specs.Volume.{VolumeView}
use Rattle.device_defs.specs.Contents.{contents}
use Rattle.device_core.specs.declared.device.Device.{Device}
use Rattle.device_core.specs.State.{DefinedDevice}
use Rattle.frame_pool.specs.Shared.{Shared}
use Rattle.subsystem_core.specs.declared.end.EventEnd.{EventEnd}
use Rattle.subsystem_core.specs.declared.subsystem.Subsystem.{Subsystem}
use Rattle.subsystem_core.specs.Comes.{OwnDeed, Talk, CameKept, CameKeptBy, SweptBy, SweepsKept, over, next}
use Rattle.subsystem_core.specs.Devices.{devices_of}
use Rattle.subsystem_defs.specs.declared.event.Event.{Event}
use Rattle.subsystem_defs.specs.Deeds.{Ends, Becomes, Asks, Each, Repairs, Lends, deed}
use Rattle.remote_copy.specs.declared.state.MirrorState.{MirrorState}
use Rattle.remote_copy.specs.declared.state.MirrorState.TheVariants.{Level, Suspended, Copying}
use Rattle.remote_copy.specs.Following.{Follows, is_within}
use Rattle.firm_laws.specs.FirmWrites.{FirmWrite}
use Rattle.remote_copy.specs.Sending.{SenderView, hears_sent, is_suspended, takes_sent}
use Rattle.remote_copy.proofs.Puttings.{SendsAll, sends_none, sends_more, heard_send, stays}
use Rattle.remote_copy.proofs.Sent.{rises, suspended_same, copying_state, level, PutsAll, StopsAt}

-- over these
pub record SendsSome (s z : SenderView) : Type 0 where
  pub writes : List FirmWrite
  pub sends : SendsAll s writes z

none_sent : (s z : SenderView) → z ≡ s → SendsSome s z
none_sent s z same = record { writes = []; sends = subst (λ (k : SenderView). SendsAll s [] k) (sym same) sends_none }

then_sent : {s l z : SenderView} → SendsSome s l → SendsSome l z → SendsSome s z
then_sent a b = record { writes = a.writes ++ b.writes; sends = sends_more a.sends b.sends }

view_keeper : {R K : Type 0} (w : Outside R K) (side : Side) (v : VolumeView R) → w.keeper ≡ (with_view w side v).keeper
view_keeper w A v = refl
view_keeper w B v = refl

pub ran_sends : {R S X : Type 0} {had : Bool → Type 0} {i : Interaction R Image S X} {w z : Outside R SenderView} {s : S} {a : X} →
    Ran had (Heard hears_sent takes_sent) i w s a z → SendsSome w.keeper z.keeper
ran_sends {w = w} done = none_sent w.keeper w.keeper refl
ran_sends (tried ok x r) = ran_sends r
ran_sends (asked says r) = ran_sends r
ran_sends (read {side = side} {u = u} {w = w} {z = z} is of r) =
    subst (λ (k : SenderView). SendsSome k z.keeper) (sym (view_keeper w side u)) (ran_sends r)
ran_sends (wrote {side = side} {u = u} {w = w} {z = z} is of r) =
    subst (λ (k : SenderView). SendsSome k z.keeper) (sym (view_keeper w side u)) (ran_sends r)
ran_sends (told {m = m} {l = l} {w = w} reply heard x r) =
    let first = heard_send w.keeper l m reply heard.moves in
    then_sent (record { writes = first.0; sends = first.1 }) (ran_sends r)

module _ {V : Type 0} {G : Ghosts V} where
  swept_sends : (f : DefinedDevice → Talk (Unit {0})) {s z : Shared × SenderView} {xs ys : List (Device V G)} →
      SweptBy (SweepsKept (Heard hears_sent takes_sent) f) s xs ys z → SendsSome s.1 z.1
  swept_sends f {s = s} over = none_sent s.1 s.1 refl
  swept_sends f (next ran rest) = then_sent (ran_sends ran) (swept_sends f rest)

  deed_sends : (e : OwnDeed) (old new : Subsystem V G) (k l : SenderView) (a : Option EventEnd) →
      CameKeptBy (Heard hears_sent takes_sent) e old k a new l → SendsSome k l
  deed_sends (Ends end) old new k l a came = none_sent k l came.1
  deed_sends (Becomes d end) old new k l a came = none_sent k l came.1
  deed_sends (Asks d talk) old new k l a came = ran_sends came.is_so
  deed_sends (Each pool f) old new k l a came = swept_sends f came.1
  deed_sends (Repairs pool) old new k l a came = none_sent k l came.1
  deed_sends (Lends x y) old new k l a came = none_sent k l came.2

  pub came_sends : (e : Event) (old new : Subsystem V G) (k l : SenderView) (a : Option EventEnd) →
      CameKept (Heard hears_sent takes_sent) e old k a new l → SendsSome k l
  came_sends e old new k l a came = deed_sends (deed contents old.pool.pool (devices_of old.devices.items) e) old new k l a came

-- What that leaves

pub follows : {s z : SenderView} → SendsSome s z → Follows s z
follows x =
    let same = stays x.sends in
    record {
      device = same.device;
      geometry = same.geometry;
      tracks = same.tracks;
      later = same.faults;
      cause = λ on off. rises x.sends off on;
    }

module _ (s z : SenderView) (n : ℕ) where
  within_as : (m : MirrorState) → z.state ≡ m → is_within m n ≡ true → is_within z.state n ≡ true
  within_as m is within = ap (λ (k : MirrorState). is_within k n) is ∙ within

  within_level : {ws : List FirmWrite} → PutsAll ws s z ⊎ StopsAt ws s z → is_within z.state n ≡ true
  within_level (inl all) = within_as Level all.state refl
  within_level (inr at) = within_as (Suspended z.sent) at.state refl

  within_copies : (b : ℕ) → is_within (Copying b) n ≡ true → (z.state ≡ Copying b) ⊎ (z.state ≡ Suspended s.sent) → is_within z.state n ≡ true
  within_copies b within (inl e) = within_as (Copying b) e within
  within_copies b within (inr e) = within_as (Suspended s.sent) e refl

  within_by : {ws : List FirmWrite} (m : MirrorState) → s.state ≡ m → SendsAll s ws z → is_within m n ≡ true → is_within z.state n ≡ true
  within_by Level is sends within = within_level (level sends is)
  within_by (Suspended k) is sends within =
      within_as (Suspended k) (ap (λ (y : SenderView). y.state) (suspended_same sends (ap is_suspended is)) ∙ is) refl
  within_by (Copying b) is sends within = within_copies b within (copying_state b sends is).0

-- the next track to be copied is still one of so many
pub still_within : {s z : SenderView} → SendsSome s z → is_within s.state s.link.tracks ≡ true → is_within z.state z.link.tracks ≡ true
still_within {s} {z} x within =
    ap (λ (n : ℕ). is_within z.state n) (stays x.sends).tracks ∙ within_by s z s.link.tracks s.state refl x.sends within
