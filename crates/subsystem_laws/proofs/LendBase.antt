-- What a device is stays behind its events; one that is lent keeps its number and cylinders, and is lent then.
use Rattle.std.proofs.Common.{◌≡◌, ℕ, Bool, true, Some, ap, ◌∙◌, refl}
use Rattle.track_image.specs.Image.{Image}
use Rattle.device_outside.specs.Interaction.{Interaction, Done}
use Rattle.device_outside.specs.Pool.{Call}
use Rattle.device_outside.specs.Told as T
use Rattle.device_outside.specs.Told.{Told}
use Rattle.device_defs.specs.Contents.{Contents, by_plain}
use Rattle.device_defs.specs.Device.{event_begun}
use Rattle.device_defs.specs.Losses.{over, without_frame}
use Rattle.device_defs.specs.Marks.{MarksDevice, MarksStore}
use Rattle.device_defs.specs.Orders as O
use Rattle.device_defs.specs.Orders.{with_tracks, lent_to, given_up, lend}
use Rattle.device_defs.specs.Store.{Store, tracks_of}
use Rattle.device_laws.proofs.Always as A
use Rattle.device_laws.proofs.Always.{Behind, Always}
use Rattle.device_laws.proofs.Based.{Base, base_of, Any, Based, kept, based_done, based_try, based_ask, based_read, based_write, based_tell}
use Rattle.device_laws.proofs.BasedEvents.{base_in, quiet_based}
use Rattle.device_laws.proofs.Had.{held}
use Rattle.device_laws.proofs.PlainEvents.{had_always}
use Rattle.device_laws.proofs.invariants.CallCounts.{parts_count}
use Rattle.device_laws.proofs.walks.Moves.{stays}
use Rattle.device_laws.proofs.walks.Reads.{over_moves, unframed_moves, unpatched_moves}
use Rattle.subsystem_laws.proofs.Came as C
use Rattle.subsystem_laws.specs.Came.{CameTo}

abbrev pub IsStill : Base → Base → Type 0
IsStill b x = (x.device ≡ b.device) × (x.cylinders ≡ b.cylinders) × (x.lent ≡ b.lent) × (x.counts.losses ≡ b.counts.losses) × (x.geometry ≡ b.geometry)

still_behind : {R S X : Type 0} {base : S → Base} {may : Call → Type 0} {b : Base} {i : Interaction R Image S X} → Based base may b i →
    Behind i (λ s a. IsStill b (base s))
unfolding A.Behind
still_behind (based_done e) = (
  ap (λ (x : Base). x.device) e,
  ap (λ (x : Base). x.cylinders) e,
  ap (λ (x : Base). x.lent) e,
  ap (λ (x : Base). x.counts.losses) e,
  ap (λ (x : Base). x.geometry) e,
)
still_behind (based_try x) = λ ok. still_behind (x ok)
still_behind (based_ask m x) = λ a. still_behind (x a)
still_behind (based_read x) = λ got. still_behind (x got)
still_behind (based_write x) = λ ok. still_behind (x ok)
still_behind (based_tell x) = λ r. still_behind (x r)

pub stays_still : {R S X : Type 0} {base : S → Base} {may : Call → Type 0} {b : Base} {i : Interaction R Image S X} → Based base may b i →
    Always i (λ s a. IsStill b (base s))
stays_still x = record { holds = still_behind x }

-- behind what was asked, where the outside is told
pub at : {A : Type 0} {talk : Interaction Bool Image MarksDevice A} {q : MarksDevice → A → Type 0} → Always talk q → (t : Told) →
    q (T.hold true talk t).state (T.hold true talk t).answer
at h t = held true (had_always h) t

-- what it gives up is no part of what it is
pub given_base : {F P H R : Type 0} (c : Contents F P H R) (n : ℕ) (s : Store F P H) → base_of (over n (given_up c) s) ≡ base_of s
given_base c n s =
    parts_count c s (over_moves (given_up c) (λ t z m. unpatched_moves (without_frame z t) t (unframed_moves tt z t m)) n s stays)

abbrev pub lent_store : MarksDevice → ℕ → MarksStore
lent_store d to = let z = event_begun d in lent_to (over (tracks_of z.store) (given_up by_plain) z.store) to

pub lend_based : (d : MarksDevice) (to : ℕ) → Based base_in Any (kept (lent_store d to)) (lend by_plain d to)
unfolding O.lend
lend_based d to =
    quiet_based by_plain d (kept (lent_store d to))
    (λ z. Done (with_tracks z (lent_to (over (tracks_of z.store) (given_up by_plain) z.store) to)) tt) (based_done refl)

pub record Lent (d : MarksDevice) (to : ℕ) (y : MarksDevice) : Type 0 where
  pub number : y.store.device ≡ d.store.device
  pub cylinders : y.store.cylinders ≡ d.store.cylinders
  pub lent : y.store.lent ≡ Some to

pub lend_lends : (d : MarksDevice) (to : ℕ) (t : CameTo (lend by_plain d to)) → Lent d to t.state
lend_lends d to t =
    let b = C.at (stays_still (lend_based d to)) t in
    let e = given_base by_plain (tracks_of (event_begun d).store) (event_begun d).store in
    record { number = b.0 ∙ ap (λ (x : Base). x.device) e; cylinders = b.1 ∙ ap (λ (x : Base). x.cylinders) e; lent = b.2 }

pub lent_counts : (d : MarksDevice) (to : ℕ) → (lent_store d to).counts ≡ d.store.counts
lent_counts d to = ap (λ (x : Base). x.counts) (given_base by_plain (tracks_of (event_begun d).store) (event_begun d).store)

pub lent_number : (d : MarksDevice) (to : ℕ) → (lent_store d to).device ≡ d.store.device
lent_number d to = ap (λ (x : Base). x.device) (given_base by_plain (tracks_of (event_begun d).store) (event_begun d).store)
