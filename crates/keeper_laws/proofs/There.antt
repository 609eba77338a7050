-- In a run a device stays there, with its size.
use Rattle.std.proofs.Common.{◌≡◌, ℕ, true, Option, Some, refl, ap, subst, ◌∙◌}
use Rattle.ckd_types.specs.declared.paths.Side.{Side}
use Rattle.ckd_types.specs.declared.paths.Side.TheVariants.{A, B}
use Rattle.loss_model.specs.declared.Loss.TheVariants as losses
use Rattle.device_outside.specs.Interaction.{Done, and_then}
use Rattle.device_outside.specs.Told.{Calls, Told, hold}
use Rattle.device_defs.specs.Command.{command}
use Rattle.device_defs.specs.Contents.{by_plain}
use Rattle.device_defs.specs.Cutting.{reset}
use Rattle.device_defs.specs.Events.{second, lose, background}
use Rattle.device_defs.specs.Marks.{MarksDevice}
use Rattle.device_defs.specs.Orders.{replace}
use Rattle.device_defs.specs.Start as S
use Rattle.device_defs.specs.Start.{start}
use Rattle.subsystem_defs.specs.declared.end.EventEnd.{EventEnd}
use Rattle.subsystem_defs.specs.declared.end.EventEnd.TheVariants as ends
use Rattle.subsystem_defs.specs.declared.event.Event.{Event}
use Rattle.subsystem_defs.specs.Deeds.{Asks, deed, end_of, ends_done}
use Rattle.subsystem_defs.specs.Happening as H
use Rattle.subsystem_defs.specs.Happening.{MarksDeed, Talk, told_to, happens, replaced, unpaired}
use Rattle.subsystem_defs.specs.Looks.{looked}
use Rattle.subsystem_defs.specs.Subsystem.{Mounted, Subsystem, devices_of, mounted_in}
use Rattle.subsystem_laws.proofs.DeedWalk.{Stands, seat_of, IsDeedwise, deed_is}
use Rattle.keeper_laws.specs.Quiet.{StaysThere}
use Rattle.keeper_laws.proofs.Places.{IsAt, Leaves, deed_at, looked_there, replaced_there, unpaired_there}
use Rattle.keeper_laws.proofs.Sizes.{
  IsSized,
  answer_sized,
  command_sized,
  second_sized,
  background_sized,
  lose_sized,
  reset_sized,
  power_sized,
  peek_sized,
  lend_sized,
}

module _ (n : ℕ) (m : Mounted) where
  -- of that size
  abbrev AsLong : MarksDevice → Type 0
  AsLong d = (d.store.geometry ≡ m.device.store.geometry) × (d.store.cylinders ≡ m.device.store.cylinders)

  as_long : (d e : MarksDevice) → IsSized d e → AsLong d → AsLong e
  as_long d e x y = (x.geometry ∙ y.0, x.cylinders ∙ y.1)

  there_so : (s : Subsystem) → IsAt n AsLong s.mounted → StaysThere m s n
  there_so s x = record { mounted = x.mounted; there = x.there; geometry = x.is_so.0; cylinders = x.is_so.1 }

  module _ (s : Subsystem) (there : mounted_in s.mounted n ≡ Some m) where
    now : AsLong m.device
    now = (refl, refl)

    stood : (d : MarksDevice) → Stands s d → d.store.device ≡ n → AsLong d
    stood d x same = subst AsLong (seat_of s d x m (ap (mounted_in s.mounted) same ∙ there)) now

    abbrev Claim : MarksDeed → Type 0
    Claim x = Leaves n AsLong s m there now x

    asks_claim : {X : Type 0} (d : MarksDevice) (talk : Talk X) (f : X → Option EventEnd) → Stands s d → ((u : Told) → IsSized d (hold true talk u).state) →
        Claim (Asks d (and_then talk (λ e a. Done e (f a))))
    asks_claim d talk f x h =
        λ k at. let y = answer_sized d talk f h (told_to s.pool k) in (y.device, λ same. as_long d _ y (stood d x same))

    started : (d : MarksDevice) (path : ℕ) → Stands s d → (start d path).store.device ≡ n → AsLong (start d path)
    unfolding S.start
    started d path x = stood d x

    claims : IsDeedwise s Claim
    claims = record {
      ended = λ end. tt;
      started = λ d x path fault. started d path x;
      seconded = λ d x h is. asks_claim d (second by_plain d) (λ a. Some (ends.Second a)) x (second_sized d);
      commanded = λ d x whole o running. asks_claim d (command by_plain d) (end_of ends.Stepped) x (command_sized d);
      worked = λ d x whole. asks_claim d (background by_plain d) (end_of ends.Back) x (background_sized d);
      cut = λ d x path. asks_claim d (reset by_plain d path) (λ a. Some (ends_done a)) x (reset_sized d path);
      lost_cache = ((λ d u. lose_sized d losses.Cache u), λ u. as_long m.device _ (lose_sized m.device losses.Cache u) now);
      lost_store = ((λ d u. lose_sized d losses.Store u), λ u. as_long m.device _ (lose_sized m.device losses.Store u) now);
      lost_side = λ d x side fault. asks_claim d (lose by_plain d (losses.Side side)) (λ a. Some (ends_done a)) x (lose_sized d (losses.Side side));
      lost_power = ((λ d u. power_sized d u), λ u. as_long m.device _ (power_sized m.device u) now);
      repaired_cache = tt;
      repaired_store = tt;
      lent = λ x y a b fault. ((λ u. as_long m.device _ (lend_sized m.device x.store.device u) now), λ d k. k);
      held = λ d x fault. stood d x;
      resumed = λ d x fault. stood d x;
    }

    pub there_event : (e : Event) → StaysThere m (happens s e).behind n
    unfolding H.happens
    there_event e =
        there_so (happens s e).behind (deed_at n AsLong s m there now (deed by_plain s.pool (devices_of s) e) (deed_is s Claim claims e))

    pub there_look : (d q : ℕ) → StaysThere m (looked s d q).behind n
    there_look d q =
        there_so (looked s d q).behind (looked_there n AsLong s m there now d q (λ u. as_long m.device _ (peek_sized m.device q u) now))

    side_long : (side : Side) → AsLong (replace m.device side)
    side_long A = now
    side_long B = now

    pub there_replaced : (d : ℕ) (side : Side) (volume : Calls) → StaysThere m (replaced s d side volume).behind n
    there_replaced d side volume =
        there_so (replaced s d side volume).behind (replaced_there n AsLong s m there now d side volume (side_long side))

    pub there_unpaired : (d : ℕ) (volume : Calls) → StaysThere m (unpaired s d volume).behind n
    there_unpaired d volume =
        there_so (unpaired s d volume).behind (unpaired_there n AsLong s m there now (λ y k. k) d volume (λ y k lent. k))
