-- What came with a keeper, where memory was had, came as well with one that keeps nothing.
use Rattle.std.proofs.Common.{◌≡◌, ◌∙◌, Bool, true, List, Some, refl, subst}
use Rattle.ckd_types.specs.declared.paths.Side.{Side}
use Rattle.ckd_types.specs.declared.paths.Side.TheVariants.{A, B}
use Rattle.track_image.specs.Image.{Image}
use Rattle.device_outside.specs.declared.keep.NoKeep.{NoKeep}
use Rattle.device_outside.specs.declared.volume.Volume.{Ghosts}
use Rattle.device_outside.specs.Interaction.{Interaction}
use Rattle.device_outside.specs.Keeper.{Message, BeforeEdit, Firm, ReplyTo, Hearing, reply}
use Rattle.device_outside.specs.Outside.{Outside, Had, Ran, done, tried, asked, read, wrote, told, view_of, with_view}
use Rattle.device_outside.specs.Volume.{VolumeView}
use Rattle.device_defs.specs.Contents.{contents}
use Rattle.device_core.specs.declared.device.Device.{Device}
use Rattle.device_core.specs.State.{DefinedDevice}
use Rattle.frame_pool.specs.Shared.{Shared}
use Rattle.subsystem_core.specs.declared.end.EventEnd.{EventEnd}
use Rattle.subsystem_core.specs.declared.subsystem.Subsystem.{Subsystem}
use Rattle.subsystem_core.specs.Comes.{OwnDeed, Talk, CameBy, CameKeptBy, Came, CameKept, SweptBy, SweepsKept, SweepsOne, over, next}
use Rattle.subsystem_core.specs.Devices.{devices_of}
use Rattle.subsystem_core.specs.Keepers.{hears_none}
use Rattle.subsystem_defs.specs.declared.event.Event.{Event}
use Rattle.subsystem_defs.specs.Deeds.{Ends, Becomes, Asks, Each, Repairs, Lends, deed}

abbrev is_had : Bool → Type 0
is_had ok = ok ≡ true

reply_had : (m : Message Image) (r : ReplyTo m) → Had is_had m r → r ≡ reply m
reply_had (BeforeEdit d t i) r had = had
reply_had (Firm d t i) r had = refl

module _ {R K : Type 0} where
  -- the same port and volumes, with this keeper
  abbrev kept_by : NoKeep → Outside R K → Outside R NoKeep
  kept_by k w = record { port = w.port; a = w.a; b = w.b; keeper = k }

  view_kept : (k : NoKeep) (w : Outside R K) (side : Side) → view_of (kept_by k w) side ≡ view_of w side
  view_kept k w A = refl
  view_kept k w B = refl

  with_kept : (k : NoKeep) (w : Outside R K) (side : Side) (u : VolumeView R) → kept_by k (with_view w side u) ≡ with_view (kept_by k w) side u
  with_kept k w A u = refl
  with_kept k w B u = refl

module _ {R K S A : Type 0} {hears : Hearing Image K} (k : NoKeep) where
  pub forgets : {i : Interaction R Image S A} {w z : Outside R K} {s : S} {a : A} → Ran is_had hears i w s a z →
      Ran is_had hears_none i (kept_by k w) s a (kept_by k z)
  forgets done = done
  forgets (tried ok x r) = tried ok x (forgets r)
  forgets (asked y r) = asked y (forgets r)
  forgets {z = z} {s = s} {a = a} (read {side = side} {k = f} {got = got} {u = u} {w = w} is y r) =
      read (view_kept k w side ∙ is) y
      (subst (λ (o : Outside R NoKeep). Ran is_had hears_none (f got) o s a (kept_by k z)) (with_kept k w side u) (forgets r))
  forgets {z = z} {s = s} {a = a} (wrote {side = side} {k = f} {ok = ok} {u = u} {w = w} is y r) =
      wrote (view_kept k w side ∙ is) y
      (subst (λ (o : Outside R NoKeep). Ran is_had hears_none (f ok) o s a (kept_by k z)) (with_kept k w side u) (forgets r))
  forgets (told {m = m} r y x rest) = told r (reply_had m r x) x (forgets rest)

module _ {V : Type 0} {G : Ghosts V} {K : Type 0} (hears : Hearing Image K) where
  forgets_swept : (f : DefinedDevice → Talk (Unit {0})) {old new : Shared × K} {xs ys : List (Device V G)} → SweptBy (SweepsKept hears f) old xs ys new →
      SweptBy (SweepsOne f) old.0 xs ys new.0
  forgets_swept f over = over
  forgets_swept f (next ran rest) = next (λ k. forgets k ran) (forgets_swept f rest)

  module _ (old : Subsystem V G) (keep : K) (a : EventEnd) (new : Subsystem V G) (kept : K) where
    forgets_by : (d : OwnDeed) → CameKeptBy hears d old keep (Some a) new kept → CameBy d old (Some a) new
    forgets_by (Ends end) came = came.0
    forgets_by (Becomes d end) came = came.0
    forgets_by (Asks d talk) came = record {
      before = came.before;
      behind = came.behind;
      stood = came.stood;
      stands = came.stands;
      is_so = λ k. forgets k came.is_so;
    }
    forgets_by (Each pool f) came = (came.0, forgets_swept f came.1)
    forgets_by (Repairs pool) came = came.0
    forgets_by (Lends x y) came =
        let j = came.1 in (
          came.0,
          record {
            before = j.before;
            behind = j.behind;
            first = j.first;
            second = j.second;
            volume = j.volume;
            stood = j.stood;
            asked = λ k. forgets k (j.asked keep);
            gone = j.gone;
            other = j.other;
            joined = j.joined;
            a = j.a;
            b = j.b;
            stands = j.stands;
          },
        )

  -- so it came without it
  pub came_plainly : (old : Subsystem V G) (keep : K) (a : EventEnd) (new : Subsystem V G) (kept : K) (e : Event) →
      CameKept hears e old keep (Some a) new kept → Came e old (Some a) new
  came_plainly old keep a new kept e came = forgets_by old keep a new kept (deed contents old.pool.pool (devices_of old.devices.items) e) came
