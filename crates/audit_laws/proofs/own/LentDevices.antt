-- What an order makes of a device that is lent.
use Rattle.std.proofs.Common.{arith, ◌≡◌, ℕ, zero, suc, Some, is_some, refl}
use Rattle.std.proofs.lemmas.Bool.{cond_both}
use Rattle.device_defs.specs.Contents.{by_plain}
use Rattle.device_defs.specs.Device.{event_begun, event_ended}
use Rattle.device_defs.specs.Losses as L
use Rattle.device_defs.specs.Losses.{gives_up, over, slot_in, without_frame}
use Rattle.device_defs.specs.Marks.{MarksDevice, MarksStore}
use Rattle.device_defs.specs.Orders as O
use Rattle.device_defs.specs.Orders.{given_up, lend, lent_to, with_tracks}
use Rattle.device_defs.specs.Owed.{noted_end, waiting_count}
use Rattle.device_defs.specs.Store.{tracks_of}
use Rattle.device_laws.proofs.Had.{Had, had_done, had_then}
use Rattle.device_laws.proofs.PlainStores.{core_of}
use Rattle.device_laws.proofs.PlainWalks.{framed_same, patch_same}
use Rattle.device_laws.proofs.PoolWalks.{asks_had, ended_asks}
use Rattle.audit_laws.specs.Standing.{half_by}

pub record IsLent (to : ℕ) (x y : MarksDevice) : Type 0 where
  pub number : y.store.device ≡ x.store.device
  pub geometry : y.store.geometry ≡ x.store.geometry
  pub cylinders : y.store.cylinders ≡ x.store.cylinders
  pub plans : y.plans ≡ x.plans
  pub half : half_by y.store.half ≡ half_by x.store.half
  pub lent : y.store.lent ≡ Some to
  pub paired : y.store.paired ≡ x.store.paired
  pub history : y.history ≡ x.history

-- what is kept of a store: its core, and whether it is paired
record Kept (s z : MarksStore) : Type 0 where
  core : core_of z ≡ core_of s
  paired : z.paired ≡ s.paired

over_kept : (k : ℕ) (s : MarksStore) → Kept s (over k (given_up by_plain) s)
unfolding L.over
over_kept zero s = record { core = refl; paired = refl }
over_kept (suc k) s = grind (arith, over_kept k s, cond_both, is_some, framed_same, patch_same)

ended_kept : (before : ℕ) (s : MarksStore) → Had (noted_end by_plain before s) (λ y (_ : Unit {0}). Kept s y)
ended_kept before s = asks_had (ended_asks by_plain (Kept s) (λ z t e. (search arith)) before s (search arith))

module _ (x : MarksDevice) (to : ℕ) where
  lent_same : (y : MarksDevice) (z : MarksStore) → Kept y.store z → IsLent to x y → IsLent to x (record y { store = z })
  lent_same y z k g = search arith

  abbrev lent_now : MarksDevice
  lent_now = let z = event_begun x in with_tracks z (lent_to (over (tracks_of z.store) (given_up by_plain) z.store) to)

  lent_first : IsLent to x lent_now
  lent_first = search (arith, over_kept)

  pub lend_makes : Had (lend by_plain x to) (λ y (_ : Unit {0}). IsLent to x y)
  unfolding O.lend
  lend_makes =
      had_then {S = MarksDevice} {A = Unit {0}} {f = event_ended by_plain x} {p = λ y _. IsLent to x y} (had_done lent_first)
      (λ y a g. had_then (ended_kept (waiting_count by_plain x.store) y.store) (λ z _ k. had_done (lent_same y z k g)))
