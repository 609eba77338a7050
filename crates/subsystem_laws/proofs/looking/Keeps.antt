-- What a look leaves of a device as it was, whatever is answered.
use Rattle.std.proofs.Common.{◌≡◌, ℕ, Bool, List, Option, refl}
use Rattle.track_image.specs.Image.{Image}
use Rattle.device_outside.specs.Interaction.{Done, and_then}
use Rattle.device_outside.specs.Keeper.{Hearing}
use Rattle.device_outside.specs.Outside.{Outside, Ran}
use Rattle.device_defs.specs.Contents.{contents}
use Rattle.device_defs.specs.Device.{with_store, event_begun}
use Rattle.device_defs.specs.Owed.{noted_begin, waiting_count, noted_end}
use Rattle.device_defs.specs.Peek as P
use Rattle.device_defs.specs.Peek.{Peeked, peek_track, peek}
use Rattle.device_laws.specs.Whole.{WholeDevice}
use Rattle.device_laws.proofs.Always.{Always, always_done, always_then}
use Rattle.device_laws.proofs.BasedEvents.{peek_based}
use Rattle.device_laws.proofs.DeviceCuts.{always_any}
use Rattle.device_laws.proofs.KeepLaws.{always_ran, ran_same}
use Rattle.subsystem_laws.specs.Looking.{KeepsOwn}

record Same (d e : WholeDevice) : Type 0 where
  plans : e.plans ≡ d.plans
  paths : e.paths ≡ d.paths
  chain : e.chain ≡ d.chain

peek_same : (d : WholeDevice) (t : ℕ) → Always (peek contents d t) (λ e (a : Option Peeked). Same d e)
unfolding P.peek
peek_same d t =
    let body : Always (and_then (peek_track contents (noted_begin d.store) t) (λ s found. Done (with_store (event_begun d) s) found)) (λ e (a : Option Peeked). Same d e) =
    always_then (always_any (peek_track contents (noted_begin d.store) t)) (λ s found _. always_done (record { plans = refl; paths = refl; chain = refl })) in
    always_then body (λ e a h. always_then (always_any (noted_end contents (waiting_count contents d.store) e.store)) (λ z _ _. always_done (record {
      plans = h.plans;
      paths = h.paths;
      chain = h.chain;
    })))

pub peek_keeps_own : {K : Type 0} {had : Bool → Type 0} {hears : Hearing Image K} (d e : WholeDevice) (t : ℕ) {u z : Outside (List ℕ) K}
    {a : Option Peeked} → Ran had hears (peek contents d t) u e a z → KeepsOwn d e
peek_keeps_own d e t r =
    let base = ran_same (peek_based contents d t) r in
    let same = always_ran (peek contents d t) (λ y _. Same d y) (peek_same d t).holds r in
    record {
      number = base.device;
      geometry = base.geometry;
      cylinders = base.cylinders;
      lent = base.lent;
      plans = same.plans;
      paths = same.paths;
      chain = same.chain;
    }
