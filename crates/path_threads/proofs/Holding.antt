-- The operator takes turns and gives them back.
use Rattle.std.proofs.Common.{◌≡◌, ◌*◌, Bool, true, false, ℕ, List, [], ◌∷◌, Option, Some, None, refl, sym, ap, subst, ◌∙◌}
use Rattle.std.specs.Prelude.{OnOk, Result, Ok, Err, is_some}
use Rattle.std.specs.List.{AllZip}
use Rattle.ckd_types.specs.declared.record.Track.{Track}
use Rattle.ckd_types.specs.Volume.{empty_volume}
use Rattle.device_outside.specs.declared.volume.Volume as volumes
use Rattle.device_defs.specs.declared.counts.Losses.{Losses}
use Rattle.device_turn.specs.Answers.{MayLeave}
use Rattle.device_turn.specs.Rule.{KeptBy, Still}
use Rattle.device_turn.specs.declared.holder.Holder.{Ghosts}
use Rattle.device_turn.specs.declared.place.Turn.{Turn}
use Rattle.device_turn.specs.declared.seat.TurnSeat.{TurnSeat}
use Rattle.device_turn.specs.declared.view.View.{View}
use Rattle.device_turn.specs.Seating.{AreSeated, IsHome, Rests}
use Rattle.device_turn.specs.declared.seating.Seats.{Seats}
use Rattle.device_core.specs.declared.device.Device.{Device}
use Rattle.path_workers.specs.declared.promise.Promise.{Promise}
use Rattle.device_core.specs.State.{device_of}
use Rattle.device_defs.specs.Pledge.{Pledge, failures_of}
use Rattle.device_laws.specs.Handed.{allowance_in}
use Rattle.path_workers.specs.Keeping.{KeepsPromise, StandsFirst, pledge_with, tells_all, told_of}
use Rattle.path_workers.specs.declared.device_orders.DeviceOrder.{DeviceOrder}
use Rattle.path_workers.specs.declared.device_orders.DeviceOrder.TheVariants as orders
use Rattle.path_workers.specs.Ordered.{HasSize, HaveLosses, IsOrdered, IsPledged, Suits}
use Rattle.path_workers.specs.Spare.{IsSpare}
use Rattle.path_threads.specs.declared.places.Place.{Place}
use Rattle.path_threads.specs.Held.{IsHeld}
use Rattle.path_threads.specs.Places.{Allows, IsPromised, SuitsSeat}
use Rattle.path_threads.proofs.Walking.{rests_at, rests_same}

module _ {H P : Type 0} {G : Ghosts H P} where
  pub home_rests : (t : Turn H P) (s z : TurnSeat H P G) → IsHome t s → Rests s z → IsHome t z
  home_rests t s z home rests = record { at = rests_at 0 t s z home.at rests; made_is = rests.made_is ∙ home.made_is }

  pub seated_on : (ts us : List (Turn H P)) (s : Seats H P G) → ts ≡ us → AreSeated ts s → AreSeated us s
  seated_on ts us s same seated = subst (λ (l : List (Turn H P)). AreSeated l s) same seated

  pub home_rest : (ts : List (Turn H P)) (ss : List (TurnSeat H P G)) → AllZip IsHome ts ss → AllZip Rests ss ss
  home_rest [] [] h = tt
  home_rest [] (s ∷ ss) h = absurd h
  home_rest (t ∷ ts) [] h = absurd h
  home_rest (t ∷ ts) (s ∷ ss) h = (rests_same 0 t s h.0.at, home_rest ts ss h.1)

module _ {V : Type 0} {G : volumes.Ghosts V} {N : Ghosts (Device V G) (Promise V G)} where
  pub allows_rests : (place : Place) (s z : TurnSeat (Device V G) (Promise V G) N) → Allows place s → Rests s z → Allows place z
  allows_rests place s z a rests = record { promise = a.promise; pledge = rests.pledge ∙ a.pledge; most = a.most; number = a.number }

  pub promised_rests : (most : Losses) (d : Device V G) (s z : TurnSeat (Device V G) (Promise V G) N) → IsPromised most d s → Rests s z → IsPromised most d z
  promised_rests most d s z p rests = record { promise = p.promise; pledge = rests.pledge ∙ p.pledge; made = p.made; allows = p.allows }

pub on_ok : {A E P Q : Type 0} (r : Result A E) → OnOk r P → (P → Q) → OnOk r Q
on_ok (Ok a) p f = f p
on_ok (Err e) p f = tt

-- behind an order the device may go back
module _ {V : Type 0} {G : volumes.Ghosts V} where
  -- whatever is told of the device that was promised
  abbrev pub IsPledgedBy : (Pledge → Type 0) → Promise V G → Type 0
  IsPledgedBy pledged p =
      (first : ℕ → List Track) (told : Bool) → (told ≡ true → StandsFirst first p.made.value) → pledged (pledge_with told p.made.value p.most)

  pub may_order : (counts : Device V G → List ℕ) (v : View (Option (Promise V G))) (pledge : Option (Promise V G)) (p : Promise V G) (pledged : Pledge → Type 0) (d e : Device V G) →
      v.pledge ≡ pledge → pledge ≡ Some p → IsPledgedBy pledged p → IsOrdered pledged d e → counts e ≡ counts d →
      MayLeave (KeptBy KeepsPromise) counts v d → MayLeave (KeptBy KeepsPromise) counts v e
  may_order counts v pledge p pledged d e same is so ordered counted may =
      let kept : KeepsPromise p d = subst (λ (q : Option (Promise V G)). KeptBy KeepsPromise q d) (same ∙ is) may.0 in (
        subst (λ (q : Option (Promise V G)). KeptBy KeepsPromise q e) (sym (same ∙ is))
            (λ first told began. ordered.kept first (pledge_with told p.made.value p.most) (so first told began) (kept first told began)),
        subst (λ (ws : List ℕ). Still ws v.loaded) (sym counted) may.1,
      )

-- A volume that may come to the device that was promised may come to the one that is held

pub some_failures : (failed : ℕ) (o : Option ℕ) → is_some (failures_of failed o) ≡ true → is_some o ≡ true
some_failures failed (Some n) is = refl
some_failures failed None is = absurd (cc)

module _ {V : Type 0} {G : volumes.Ghosts V} where
  spare_pledged : (told : Bool) (d : Device V G) (volume : V) (most : Losses) → (told ≡ true → tells_all d ≡ true) → IsSpare d volume →
      IsPledged (pledge_with told d most) (G.view volume)
  spare_pledged told d volume most tells s = record {
    tells = λ is. s.tells (tells is);
    sure = λ is. s.sure (some_failures (device_of d).store.counts.failed (allowance_in (told_of d)) is);
  }

module _ {V : Type 0} {G : volumes.Ghosts V} {N : Ghosts (Device V G) (Promise V G)} where
  pub held_size : (what : DeviceOrder V) (place : Place) (s z : TurnSeat (Device V G) (Promise V G) N) (d : Device V G) → Allows place s → SuitsSeat what s →
      z.seat.me.0.pledge ≡ s.seat.me.0.pledge → KeptBy KeepsPromise z.seat.me.0.pledge d → HasSize what d
  held_size (orders.Replace side volume) place s z d a suits same kept =
      let by : KeepsPromise a.promise d = subst (λ (q : Option (Promise V G)). KeptBy KeepsPromise q d) (same ∙ a.pledge) kept in
      (suits a.promise a.pledge).tracks ∙ ap (λ (n : ℕ). n * 15) (sym (by empty_volume false (λ e. absurd (cc))).keeps.keeps.cylinders)
  held_size (orders.Fail side) place s z d a suits same kept = tt
  held_size orders.Suspend place s z d a suits same kept = tt
  held_size orders.Resume place s z d a suits same kept = tt

  suits_pledge : (what : DeviceOrder V) (place : Place) (s : TurnSeat (Device V G) (Promise V G) N) (a : Allows place s) → SuitsSeat what s →
      IsPledgedBy (Suits G.view what) a.promise
  suits_pledge (orders.Replace side volume) place s a suits = λ first told began.
      spare_pledged told a.promise.made.value volume a.promise.most (λ is. (began is).tells) (suits a.promise a.pledge)
  suits_pledge (orders.Fail side) place s a suits = λ first told began. tt
  suits_pledge orders.Suspend place s a suits = λ first told began. tt
  suits_pledge orders.Resume place s a suits = λ first told began. tt

  pub may_obey : (what : DeviceOrder V) (place : Place) (s z : TurnSeat (Device V G) (Promise V G) N) (d e : Device V G) → Allows place s → SuitsSeat what s →
      IsHeld s z d → IsOrdered (λ p. HaveLosses place.most p × Suits G.view what p) d e → (counts : Device V G → List ℕ) → counts e ≡ counts d →
      MayLeave (KeptBy KeepsPromise) counts z.seat.me.0 d → MayLeave (KeptBy KeepsPromise) counts z.seat.me.0 e
  may_obey what place s z d e a suits held ordered counts counted may =
      may_order counts z.seat.me.0 s.seat.me.0.pledge a.promise (λ p. HaveLosses place.most p × Suits G.view what p) d e held.pledge a.pledge
      (λ first told began. (a.most, suits_pledge what place s a suits first told began)) ordered counted may

  pub may_have : (place : Place) (s z : TurnSeat (Device V G) (Promise V G) N) (d e : Device V G) → Allows place s →
      IsHeld s z d → IsOrdered (HaveLosses place.most) d e → (counts : Device V G → List ℕ) → counts e ≡ counts d →
      MayLeave (KeptBy KeepsPromise) counts z.seat.me.0 d → MayLeave (KeptBy KeepsPromise) counts z.seat.me.0 e
  may_have place s z d e a held ordered counts counted may =
      may_order counts z.seat.me.0 s.seat.me.0.pledge a.promise (HaveLosses place.most) d e held.pledge a.pledge
      (λ first told began. a.most) ordered counted may
