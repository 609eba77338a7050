-- Devices to which nothing has happened stay so where two of them become a pair, and are ready for the run of their paths.
use Rattle.std.proofs.Common.{◌≡◌, ◌<◌, ◌==◌, ◌∙◌, ℕ, zero, suc, Bool, true, false, List, [], ◌∷◌, length, Option, Some, None, refl, sym, ap, subst, arith}
use Rattle.std.proofs.lemmas.Option.{same_Some}
use Rattle.std.specs.Prelude.{slice_index_or, if◌then◌else◌}
use Rattle.plain_defs.specs.History.{History}
use Rattle.device_outside.specs.declared.keep.NoKeep.{NoKeep}
use Rattle.device_outside.specs.declared.volume.Volume.{Ghosts}
use Rattle.device_outside.specs.Interaction.{Done}
use Rattle.device_defs.specs.Contents.{contents}
use Rattle.device_defs.specs.Losses.{over}
use Rattle.device_defs.specs.Orders as O
use Rattle.device_defs.specs.Orders.{given_up, lend, lent_to, with_tracks}
use Rattle.device_defs.specs.Store.{tracks_of}
use Rattle.device_laws.proofs.Had.{Had, had_done}
use Rattle.device_core.specs.declared.device.Device.{Device}
use Rattle.device_core.specs.State.{DefinedDevice, device_of}
use Rattle.subsystem_core.specs.declared.end.EventEnd.{EventEnd}
use Rattle.subsystem_core.specs.declared.subsystem.Subsystem.{Subsystem}
use Rattle.subsystem_core.specs.Comes.{Came, CameBy, Joins}
use Rattle.subsystem_core.specs.Devices.{device_at, devices_of, number_of, put_at}
use Rattle.subsystem_defs.specs.declared.end.OrderFault.{OrderFault}
use Rattle.subsystem_defs.specs.declared.event.Event.TheVariants as events
use Rattle.subsystem_defs.specs.Deeds as D
use Rattle.subsystem_defs.specs.Deeds.{Lends, device_in, on_device, order}
use Rattle.subsystem_defs.specs.Refusals.{pair_fault}
use Rattle.deck_run.proofs.Stays.{quiet_had}
use Rattle.deck_run.proofs.Surely.{ran_so}
use Rattle.deck_run.specs.Unused.{AreUnused, IsUnused}
use Rattle.path_workers.specs.Keeping.{IsReady, are_fresh}

-- a device that lends its volume keeps its history
lend_keeps : (d : DefinedDevice) (to : ℕ) → Had (lend contents d to) (λ y (_ : Unit {0}). y.history ≡ d.history)
unfolding O.lend
lend_keeps d to =
    quiet_had contents (λ y (_ : Unit {0}). y.history ≡ d.history) (λ y z a e k. k) d
    (λ z. Done (with_tracks z (lent_to (over (tracks_of z.store) (given_up contents) z.store) to)) (tt {0})) (had_done refl)

module _ {V : Type 0} {G : Ghosts V} where
  -- one of them, and another one in its place

  at_unused : (xs : List (Device V G)) (n : ℕ) (x : Device V G) → device_at xs n ≡ Some x → AreUnused xs → IsUnused x
  at_unused [] n x at all = absurd (cc)
  at_unused (d ∷ ds) n x at all = by_test (number_of d == n) at (at_unused ds n x) where
    by_test : (b : Bool) → (if b then Some d else device_at ds n) ≡ Some x → (device_at ds n ≡ Some x → AreUnused ds → IsUnused x) → IsUnused x
    by_test true is more = subst IsUnused (same_Some d x is) all.0
    by_test false is more = more is all.1

  found_unused : (xs : List (Device V G)) (n : ℕ) (y : DefinedDevice) → device_in (devices_of xs) n ≡ Some y → AreUnused xs → (k : History) →
      ((x : Device V G) → IsUnused x → (device_of x).history ≡ k) → y.history ≡ k
  found_unused [] n y at all k none = absurd (cc)
  found_unused (d ∷ ds) n y at all k none = by_test (number_of d == n) at (λ more. found_unused ds n y more all.1 k none) where
    by_test : (b : Bool) → (if b then Some (device_of d) else device_in (devices_of ds) n) ≡ Some y →
        (device_in (devices_of ds) n ≡ Some y → y.history ≡ k) → y.history ≡ k
    by_test true is more = ap (λ (x : DefinedDevice). x.history) (sym (same_Some (device_of d) y is)) ∙ none d all.0
    by_test false is more = more is

  put_unused : (xs : List (Device V G)) (n : ℕ) (y : Device V G) → IsUnused y → AreUnused xs → AreUnused (put_at xs n y)
  put_unused [] n y none all = tt
  put_unused (d ∷ ds) n y none all = by_test (number_of d == n) (put_unused ds n y none all.1) where
    by_test : (b : Bool) → AreUnused (put_at ds n y) → AreUnused (if b then y ∷ ds else d ∷ put_at ds n y)
    by_test true more = (none, all.1)
    by_test false more = (all.0, more)

  module _ (old new : Subsystem V G) (a : EventEnd) (all : AreUnused old.devices.items) where
    joins_unused : (n m : ℕ) (y : DefinedDevice) → Joins n m y old new → ((x : Device V G) → IsUnused x → (device_of x).history ≡ y.history) → AreUnused new.devices.items
    joins_unused n m y j same =
        let k : NoKeep = record {} in
        let gone : (device_of j.behind).history ≡ y.history = ran_so (λ e _. e.history ≡ y.history) (j.asked k) (lend_keeps y n) in
        let before = at_unused old.devices.items m j.before j.stood all in
        let behind : IsUnused j.behind = gone ∙ sym (same j.before before) ∙ before in
        let between = put_unused old.devices.items m j.behind behind all in
        let second : IsUnused j.second =
        ap (λ (e : DefinedDevice). e.history) j.joined ∙ at_unused (put_at old.devices.items m j.behind) n j.first j.other between in
        subst AreUnused (sym j.stands) (put_unused (put_at old.devices.items m j.behind) n j.second second between)

    order_unused : (x y : DefinedDevice) (o : Option OrderFault) → CameBy (order o (Lends x y)) old (Some a) new →
        ((z : Device V G) → IsUnused z → (device_of z).history ≡ y.history) → AreUnused new.devices.items
    order_unused x y (Some f) came same = subst AreUnused (sym came.1.1) all
    order_unused x y None came same = joins_unused x.store.device y.store.device y came.1 same

    second_unused : (x : DefinedDevice) (m : ℕ) (o : Option DefinedDevice) → device_in (devices_of old.devices.items) m ≡ o →
        CameBy (on_device o (λ y. order (pair_fault x y) (Lends x y))) old (Some a) new → AreUnused new.devices.items
    second_unused x m None at came = subst AreUnused (sym came.1.1) all
    second_unused x m (Some y) at came =
        order_unused x y (pair_fault x y) came
        (λ z none. none ∙ sym (found_unused old.devices.items m y at all _ (λ w is. is)))

    first_unused : (m : ℕ) (o p : Option DefinedDevice) → device_in (devices_of old.devices.items) m ≡ p →
        CameBy (on_device o (λ x. on_device p (λ y. order (pair_fault x y) (Lends x y)))) old (Some a) new → AreUnused new.devices.items
    first_unused m None p at came = subst AreUnused (sym came.1.1) all
    first_unused m (Some x) p at came = second_unused x m p at came

    pub pair_unused : (n m : ℕ) → Came (events.Pair n m) old (Some a) new → AreUnused new.devices.items
    unfolding D.deed
    pair_unused n m came =
        first_unused m (device_in (devices_of old.devices.items) n) (device_in (devices_of old.devices.items) m) refl came

  -- Ready for the run

  one_ready : (x : Device V G) → IsUnused x → IsReady x
  one_ready x none = record {
    idle = ap (λ (h : History). h.running) none;
    none = ap (λ (h : History). h.waiting) none;
    journal = ap (λ (h : History). are_fresh h.items) none;
  }

  pub ready_at : (xs : List (Device V G)) → AreUnused xs → (k : ℕ) (d : Device V G) → k < length xs → IsReady (slice_index_or xs k d)
  ready_at [] all k d within = absurd (omega (arith, within))
  ready_at (x ∷ xs) all zero d within = one_ready x all.0
  ready_at (x ∷ xs) all (suc k) d within = ready_at xs all.1 k d (omega (arith, within))
