-- So do whole events, of which only the end tells how many tracks wait; and what a device counts behind a run of one.
use Rattle.std.proofs.Common.{◌≡◌, ℕ, Option, Some, None, refl, ap}
use Rattle.ckd_chain.specs.State.{ChainState}
use Rattle.loss_model.specs.declared.Loss.{Loss}
use Rattle.loss_model.specs.declared.Loss.TheVariants as losses
use Rattle.track_image.specs.Image.{Image}
use Rattle.device_outside.specs.Interaction.{Interaction, Done, and_then}
use Rattle.device_defs.specs.declared.answers.Did.{Did}
use Rattle.device_defs.specs.Background.{work}
use Rattle.device_defs.specs.Command as N
use Rattle.device_defs.specs.Command.{follow, command_by, command}
use Rattle.device_defs.specs.Contents.{Contents}
use Rattle.device_defs.specs.Cutting as U
use Rattle.device_defs.specs.Cutting.{origin_cut, half_cut, reset, powerless, powered_off, power}
use Rattle.device_defs.specs.Device.{Device, with_store, event_begun, event_ended, quiet_event, event}
use Rattle.device_defs.specs.Effects.{with_edit}
use Rattle.device_defs.specs.Events as E
use Rattle.device_defs.specs.Events.{one_loss_more, with_loss, losing, second_of, second, background, lose}
use Rattle.device_defs.specs.Owed.{hear, waiting_count, noted_end}
use Rattle.device_defs.specs.Peek as K
use Rattle.device_defs.specs.Peek.{Peeked, peek_track, peek}
use Rattle.device_defs.specs.Store.{Origin, OfCommand, OfCut, OfBackground, HalfWrite, Store}
use Rattle.device_laws.proofs.Based.{
  Base,
  base_of,
  forget,
  kept,
  based_forget,
  Hushed,
  Any,
  Based,
  based_done,
  based_tell,
  based_then,
  based_any,
  based_tried,
}
use Rattle.device_laws.proofs.PoolWalks.{asks_based, asks_hushed, hear_asks, ended_asks}
use Rattle.device_laws.proofs.walks.Within.{Inner, Within, within_done, within_then, within_weaker}
use Rattle.device_laws.proofs.walks.Moves.{Shut, stays, Ends, moved}
use Rattle.device_laws.proofs.walks.Reads.{powerless_moves}
use Rattle.device_laws.proofs.walks.Writes.{work_comes}
use Rattle.device_laws.proofs.walks.Events.{reaches_any, as_it_was, made_store, follow_comes, by_bodies, second_bodies, reset_leads}
use Rattle.device_laws.proofs.invariants.CallCounts.{calls, within_based, Steady, parts_count, ends_count, half_ends_count, ends_steady, losing_steady, track_steady}

abbrev pub base_in : {F P H : Type 0} → Device F P H → Base
base_in d = kept d.store

abbrev pub with_one_loss : Loss → Base → Base
with_one_loss loss b = record b { counts = record b.counts { losses = one_loss_more b.counts.losses loss } }

module _ {F P H R : Type 0} (c : Contents F P H R) where
  pub follow_steady : (n first : ℕ) (chain : ChainState) (t : ℕ) (s : Store F P H) → Steady c s (follow c n first chain t s)
  follow_steady n first chain t s = ends_steady c s (follow_comes refl (reaches_any (λ q. tt)) n first (base_of s) chain t s tt stays)

  abbrev Settled : {A : Type 0} → Device F P H → Interaction R Image (Device F P H) A → Type 0
  Settled d i = Based base_in Hushed (kept d.store) i

  bodies_based : {A : Type 0} (d : Device F P H) {i : Interaction R Image (Device F P H) A} →
      Within calls (Inner calls) (λ n e a. Ends calls Shut c (base_of d.store) d.store n e.store) (base_of d.store) i → Settled d i
  bodies_based d x = based_forget {base = λ e. base_of e.store} (within_based (within_weaker x (λ n e a m. ends_count c d.store m)))

  -- the body of each event, on the device behind its front

  pub command_body : (d : Device F P H) → Settled d (command_by c d d.history.running d.chain)
  command_body d =
      bodies_based d (within_weaker
      (by_bodies {d = d} refl (reaches_any (λ t. tt)) d d.history.running d.chain (λ chain t is e. tt) (as_it_was {z = d.store} stays) stays)
      (λ n e a m. made_store m))

  pub second_body : (d : Device F P H) → Settled d (second_of c d d.store.half)
  second_body d =
      based_forget {base = λ e. base_of e.store}
      (within_based (within_weaker (second_bodies {d = d} (λ e. absurd (cc)) d d.store.half refl (as_it_was {z = d.store} stays) stays)
      (λ n e a m. half_ends_count c d.store (made_store m))))

  pub work_body : (d : Device F P H) → Settled d (and_then (work c d.store) (λ s (did : Option Did). Done (with_store d s) did))
  work_body d =
      bodies_based d (within_then (λ s (did : Option Did). Done (with_store d s) did) (work_comes refl d.store (λ t ts is. tt) stays) (λ n s did m. within_done m))

  pub lose_body : (loss : Loss) (d : Device F P H) →
      Based base_in Hushed (kept (with_loss d.store loss)) (and_then (losing c d.store loss) (λ s _. Done (with_store d s) (tt {0})))
  lose_body loss d = based_then (λ s _. Done (with_store d s) (tt {0})) (losing_steady c d.store loss) (λ s _. based_done refl)

  -- An event's end, where it tells how many tracks wait

  ended_steady : (before : ℕ) (s : Store F P H) → Based kept Any (kept s) (noted_end c before s)
  ended_steady before s = asks_based (ended_asks c (λ z. kept z ≡ kept s) (λ z t e. e) before s refl)

  module _ {A : Type 0} where
    pub quiet_based : (d : Device F P H) (b : Base) (body : Device F P H → Interaction R Image (Device F P H) A) →
        Based base_in Hushed b (body (event_begun d)) → Based base_in Any b (quiet_event c d body)
    quiet_based d b body x =
        based_then (event_ended c d) (based_any x)
        (λ y a. based_then (λ z _. Done (record y { store = z }) a) (ended_steady (waiting_count c d.store) y.store) (λ z _. based_done refl))

  -- What stands behind the notices that an event takes first

  module _ {A : Type 0} where
    abbrev pub fronted : Device F P H → (Device F P H → Interaction R Image (Device F P H) A) → Device F P H → Interaction R Image (Device F P H) A
    fronted d body z = and_then (hear c 960 z.store) (λ s _. body (record z { store = s }))

    pub front_based : (d : Device F P H) (body : Device F P H → Interaction R Image (Device F P H) A) (f : Base → Base) →
        ((y : Device F P H) → Based base_in Hushed (f (kept y.store)) (body y)) → Based base_in Hushed (f (kept d.store)) (fronted d body (event_begun d))
    front_based d body f x =
        based_then {base = λ z. f (kept z)} (λ s _. body (record (event_begun d) { store = s }))
        (asks_based (asks_hushed (hear_asks c (λ z. f (kept z) ≡ f (kept d.store)) (λ z t clean e. e) 960 (event_begun d).store refl)))
        (λ z _. x (record (event_begun d) { store = z }))

    pub event_based : (d : Device F P H) (body : Device F P H → Interaction R Image (Device F P H) A) (f : Base → Base) →
        ((y : Device F P H) → Based base_in Hushed (f (kept y.store)) (body y)) → Based base_in Any (f (kept d.store)) (event c d body)
    event_based d body f x = quiet_based d (f (kept d.store)) (fronted d body) (front_based d body f x)

  pub peeked_body : (t : ℕ) (d : Device F P H) → Settled d (and_then (peek_track c d.store t) (λ s (found : Option Peeked). Done (with_store d s) found))
  peeked_body t d = based_then (λ s found. Done (with_store d s) found) (based_forget (track_steady c d.store t)) (λ s found. based_done refl)

  -- The events

  pub command_based : (d : Device F P H) → Based base_in Any (kept d.store) (command c d)
  unfolding N.command
  command_based d =
      based_tried d _ refl (event_based d (λ z. command_by c z z.history.running z.chain) (λ (b : Base). b) (λ y. command_body y))

  pub second_based : (d : Device F P H) → Based base_in Any (kept d.store) (second c d)
  unfolding E.second
  second_based d = event_based d (λ z. second_of c z z.store.half) (λ (b : Base). b) (λ y. second_body y)

  pub background_based : (d : Device F P H) → Based base_in Any (kept d.store) (background c d)
  unfolding E.background
  background_based d = event_based d (λ z. and_then (work c z.store) (λ s did. Done (with_store z s) did)) (λ (b : Base). b) (λ y. work_body y)

  pub lose_based : (d : Device F P H) (loss : Loss) → Based base_in Any (with_one_loss loss (kept d.store)) (lose c d loss)
  unfolding E.lose
  lose_based d loss =
      event_based d (λ z. and_then (losing c z.store loss) (λ s _. Done (with_store z s) tt)) (with_one_loss loss) (λ y. lose_body loss y)

  pub peek_based : (d : Device F P H) (t : ℕ) → Based base_in Any (kept d.store) (peek c d t)
  unfolding K.peek
  peek_based d t =
      quiet_based d (kept d.store) (λ z. and_then (peek_track c z.store t) (λ s found. Done (with_store z s) found)) (peeked_body t (event_begun d))

  -- the reset of a path makes no call of the pool

  pub reset_body : (d : Device F P H) (path : ℕ) → Settled d (reset c d path)
  reset_body d path = bodies_based d (within_weaker (reset_leads calls Shut c (base_of d.store) d path) (λ n e a m. moved m))

  -- Power

  powerless_base : (s : Store F P H) → kept (powerless c s) ≡ kept s
  powerless_base s = ap forget (parts_count c s (powerless_moves tt s stays))

  cut_then : (d : Device F P H) (s : Store F P H) (h : HalfWrite H) (origin : Origin) →
      Based base_in Hushed (with_one_loss losses.Cache (kept s)) (and_then (origin_cut c s h origin) (λ z _. Done (powered_off c d z) (tt {0})))
  cut_then d s h (OfCommand bypass e) =
      based_tell (λ _. based_done (powerless_base (with_loss
      (record (with_edit s h.track e) { half = Some (record h { origin = OfCut bypass }) }) losses.Cache)))
  cut_then d s h (OfCut bypass) = based_done (powerless_base (with_loss s losses.Cache))
  cut_then d s h OfBackground = based_done (powerless_base (with_loss s losses.Cache))

  half_then : (d : Device F P H) (s : Store F P H) (o : Option (HalfWrite H)) →
      Based base_in Hushed (with_one_loss losses.Cache (kept s)) (and_then (half_cut c s o) (λ z _. Done (powered_off c d z) (tt {0})))
  half_then d s (Some h) = cut_then d s h h.origin
  half_then d s None = based_done (powerless_base (with_loss s losses.Cache))

  pub power_body : (d : Device F P H) → Based base_in Hushed (with_one_loss losses.Cache (kept d.store))
      (and_then (half_cut c (event_begun d).store (event_begun d).store.half) (λ s _. Done (powered_off c (event_begun d) s) (tt {0})))
  power_body d = half_then (event_begun d) (event_begun d).store d.store.half

  pub power_based : (d : Device F P H) → Based base_in Any (with_one_loss losses.Cache (kept d.store)) (power c d)
  unfolding U.power
  power_based d =
      quiet_based d (with_one_loss losses.Cache (kept d.store)) (λ z. and_then (half_cut c z.store z.store.half) (λ s _. Done (powered_off c z s) tt))
      (power_body d)
