-- A volume that may come to a device is one that may come to the device that was promised to its seat.
use Rattle.std.proofs.Common.{◌≡◌, ◌==◌, ◌∙◌, ℕ, Bool, true, false, List, [], ◌∷◌, Option, Some, None, sym, ap, subst}
use Rattle.std.proofs.lemmas.Option.{same_Some}
use Rattle.std.specs.Prelude.{All, IfSome, if◌then◌else◌}
use Rattle.std.specs.List.{AllZip}
use Rattle.std.proofs.lemmas.List.Elements.{All-weaker}
use Rattle.ckd_types.specs.declared.paths.Side.{Side}
use Rattle.device_outside.specs.declared.volume.Volume.{Ghosts}
use Rattle.device_defs.specs.declared.counts.Losses.{Losses}
use Rattle.device_turn.specs.declared.holder.Holder as holders
use Rattle.device_turn.specs.Seating.{Rests}
use Rattle.subsystem_core.specs.Devices.{device_at}
use Rattle.device_core.specs.declared.device.Device.{Device}
use Rattle.path_workers.specs.declared.promise.Promise.{Promise}
use Rattle.path_workers.specs.declared.device_orders.DeviceOrder.{DeviceOrder}
use Rattle.path_workers.specs.declared.device_orders.DeviceOrder.TheVariants as orders
use Rattle.path_workers.specs.Spare.{IsSpare}
use Rattle.path_threads.specs.Asked.{device_order}
use Rattle.path_threads.specs.declared.orders.Order.{Order}
use Rattle.subsystem_defs.specs.declared.event.Event as events
use Rattle.subsystem_defs.specs.declared.event.Event.TheVariants as told
use Rattle.path_threads.specs.declared.orders.Order.TheVariants.{Event, Replace}
use Rattle.path_threads.specs.declared.places.Place.{Place}
use Rattle.path_threads.proofs.Setting.{SeatOf}
use Rattle.path_threads.specs.Places.{Allows, IsPromised, IsPromisedFor, IsSpareAmong, IsSpareAt, SuitsAt, SuitsSeat, seat_at}

module _ {V : Type 0} {G : Ghosts V} where
  -- where each volume that may be made may come, so may this one
  each_spare : {M : Type 0} (makes : M → V → Type 0) (maker : M) (o : Option (Device V G)) → IfSome o (λ d. (volume : V) → makes maker volume → IsSpare d volume) →
      (volume : V) → makes maker volume → IfSome o (λ d. IsSpare d volume)
  each_spare makes maker (Some d) h volume made = h volume made
  each_spare makes maker None h volume made = tt

module _ {V : Type 0} {G : Ghosts V} {N : holders.Ghosts (Device V G) (Promise V G)} where
  -- at the device that was promised
  same_number : (most : Losses) (d : Device V G) (place : Place) (s : SeatOf N) → IsPromised most d s → Allows place s → d.store.number ≡ place.number
  same_number most d place s p a =
      ap (λ (x : Device V G). x.store.number) (sym p.made)
      ∙ ap (λ (q : Promise V G). q.made.value.store.number) (same_Some _ _ (sym p.pledge ∙ a.pledge)) ∙ a.number

  suits_promised : (most : Losses) (d : Device V G) (s : SeatOf N) (side : Side) (volume : V) → IsPromised most d s → IsSpare d volume →
      SuitsSeat (orders.Replace side volume) s
  suits_promised most d s side volume p h q is =
      subst (λ (x : Device V G). IsSpare x volume) (sym p.made ∙ ap (λ (q : Promise V G). q.made.value) (same_Some _ _ (sym p.pledge ∙ is))) h

  spare_at : (most : Device V G → Losses) (n : ℕ) (side : Side) (volume : V) (ds : List (Device V G)) (places : List Place) (seats : List (SeatOf N)) →
      AllZip (λ d s. IsPromised (most d) d s) ds seats → AllZip Allows places seats → IfSome (device_at ds n) (λ d. IsSpare d volume) →
      SuitsAt places seats n (orders.Replace side volume)
  spare_at most n side volume [] [] [] p a h = tt
  spare_at most n side volume [] [] (s ∷ seats) p a h = absurd p
  spare_at most n side volume [] (q ∷ places) [] p a h = tt
  spare_at most n side volume [] (q ∷ places) (s ∷ seats) p a h = absurd p
  spare_at most n side volume (d ∷ ds) places [] p a h = absurd p
  spare_at most n side volume (d ∷ ds) [] (s ∷ seats) p a h = absurd a
  spare_at most n side volume (d ∷ ds) (q ∷ places) (s ∷ seats) p a h =
      subst (λ (k : ℕ). IfSome (if k == n then Some s else seat_at places seats n) (SuitsSeat (orders.Replace side volume))) (same_number (most d) d q s p.0 a.0)
      (here (d.store.number == n) (spare_at most n side volume ds places seats p.1 a.1) h) where
        here : (b : Bool) → (IfSome (device_at ds n) (λ d. IsSpare d volume) → SuitsAt places seats n (orders.Replace side volume)) →
            IfSome (if b then Some d else device_at ds n) (λ d. IsSpare d volume) →
            IfSome (if b then Some s else seat_at places seats n) (SuitsSeat (orders.Replace side volume))
        here true rest h = suits_promised (most d) d s side volume p.0 h
        here false rest h = rest h

  spare_for : {M : Type 0} (makes : M → V → Type 0) (most : Device V G → Losses) (ds : List (Device V G)) (places : List Place) (seats : List (SeatOf N)) →
      AllZip (λ d s. IsPromised (most d) d s) ds seats → AllZip Allows places seats → (o : Order M) → IsSpareAmong makes ds o → IsSpareAt makes places seats o
  spare_for makes most ds places seats p a (Event e) h = tt
  spare_for makes most ds places seats p a (Replace n side maker) h =
      λ volume made. spare_at most n side volume ds places seats p a (each_spare makes maker (device_at ds n) h volume made)

  pub all_spare : {M : Type 0} (makes : M → V → Type 0) (es : List (Order M)) (ds : List (Device V G)) (places : List Place) (seats : List (SeatOf N))
      (os : List (Order M)) → AllZip (IsPromisedFor es) ds seats → AllZip Allows places seats → All (IsSpareAmong makes ds) os →
      All (IsSpareAt makes places seats) os
  all_spare makes es ds places seats os p a h =
      All-weaker (IsSpareAmong makes ds) (IsSpareAt makes places seats) (spare_for makes _ ds places seats p a) os h

  pub promised_same : {M : Type 0} (es os : List (Order M)) (ds : List (Device V G)) (seats : List (SeatOf N)) → es ≡ os → AllZip (IsPromisedFor es) ds seats →
      AllZip (IsPromisedFor os) ds seats
  promised_same {M} es os ds seats same p = subst (λ (l : List (Order M)). AllZip (IsPromisedFor l) ds seats) same p

  -- and it stays so while the seats rest

  seat_rests : (what : DeviceOrder V) (s z : SeatOf N) → Rests s z → SuitsSeat what s → SuitsSeat what z
  seat_rests (orders.Replace side volume) s z rests f = λ p is. f p (sym rests.pledge ∙ is)
  seat_rests (orders.Fail side) s z rests f = tt
  seat_rests orders.Suspend s z rests f = tt
  seat_rests orders.Resume s z rests f = tt

  suits_rests : (places : List Place) (ss zs : List (SeatOf N)) (n : ℕ) (what : DeviceOrder V) → AllZip Rests ss zs → SuitsAt places ss n what → SuitsAt places zs n what
  suits_rests [] ss zs n what r h = tt
  suits_rests (q ∷ places) [] [] n what r h = tt
  suits_rests (q ∷ places) [] (z ∷ zs) n what r h = absurd r
  suits_rests (q ∷ places) (s ∷ ss) [] n what r h = absurd r
  suits_rests (q ∷ places) (s ∷ ss) (z ∷ zs) n what r h = here (q.number == n) (suits_rests places ss zs n what r.1) h where
    here : (b : Bool) → (SuitsAt places ss n what → SuitsAt places zs n what) → IfSome (if b then Some s else seat_at places ss n) (SuitsSeat what) →
        IfSome (if b then Some z else seat_at places zs n) (SuitsSeat what)
    here true rest h = seat_rests what s z r.0 h
    here false rest h = rest h

  pub spare_rests : {M : Type 0} (makes : M → V → Type 0) (places : List Place) (ss zs : List (SeatOf N)) (o : Order M) → AllZip Rests ss zs →
      IsSpareAt makes places ss o → IsSpareAt makes places zs o
  spare_rests makes places ss zs (Event e) r h = tt
  spare_rests makes places ss zs (Replace n side maker) r h = λ volume made. suits_rests places ss zs n (orders.Replace side volume) r (h volume made)

  -- an event is no order that brings a volume
  none_needed : (o : Option (SeatOf N)) → IfSome o (λ s. Unit {0})
  none_needed (Some s) = tt
  none_needed None = tt

  abbrev fits : (places : List Place) (seats : List (SeatOf N)) → Option (ℕ × DeviceOrder V) → Type 0
  fits places seats o = IfSome o (λ x. SuitsAt places seats x.0 x.1)

  event_fits : (e : events.Event) (places : List Place) (seats : List (SeatOf N)) → fits places seats (device_order e)
  event_fits (told.FailVolume d side) places seats = none_needed (seat_at places seats d)
  event_fits (told.Suspend d) places seats = none_needed (seat_at places seats d)
  event_fits (told.Resume d) places seats = none_needed (seat_at places seats d)
  event_fits (told.Start path d) places seats = tt
  event_fits (told.Step d) places seats = tt
  event_fits (told.Back d) places seats = tt
  event_fits (told.Reset path d) places seats = tt
  event_fits told.FailCache places seats = tt
  event_fits told.FailStore places seats = tt
  event_fits told.RepairCache places seats = tt
  event_fits told.RepairStore places seats = tt
  event_fits (told.Pair a d) places seats = tt
  event_fits told.Power places seats = tt

  pub suits_event : (e : events.Event) (places : List Place) (seats : List (SeatOf N)) (x : ℕ × DeviceOrder V) → device_order e ≡ Some x →
      SuitsAt places seats x.0 x.1
  suits_event e places seats x is = subst (fits places seats) is (event_fits e places seats)
