-- Behind each of its events a device has its number and its size.
use Rattle.std.proofs.Common.{◌≡◌, ℕ, true, refl, sym, ap, subst, ◌∙◌}
use Rattle.loss_model.specs.declared.Loss.{Loss}
use Rattle.device_outside.specs.Interaction.{Done, and_then}
use Rattle.device_outside.specs.Told.{Told, hold}
use Rattle.device_defs.specs.Command.{command}
use Rattle.device_defs.specs.Contents.{by_plain}
use Rattle.device_defs.specs.Cutting.{reset, power}
use Rattle.device_defs.specs.Events.{second, background, lose}
use Rattle.device_defs.specs.Marks.{MarksDevice}
use Rattle.device_defs.specs.Orders.{lend}
use Rattle.device_defs.specs.Owed.{noted_begin}
use Rattle.device_defs.specs.Peek.{peek}
use Rattle.device_defs.specs.Store.{tracks_of}
use Rattle.device_laws.proofs.Based.{Base, Any, Based, kept, based_any}
use Rattle.device_laws.proofs.BasedEvents.{base_in, command_based, second_based, background_based, lose_based, peek_based, reset_body, power_based}
use Rattle.subsystem_defs.specs.Happening.{Talk}
use Rattle.subsystem_laws.proofs.LendBase.{at, given_base, lent_store, lend_based, stays_still}
use Rattle.subsystem_laws.proofs.Walks.{hold_answer}

pub record IsSized (d e : MarksDevice) : Type 0 where
  pub device : e.store.device ≡ d.store.device
  pub geometry : e.store.geometry ≡ d.store.geometry
  pub cylinders : e.store.cylinders ≡ d.store.cylinders

-- from a base that has its number and its size
sized : {X : Type 0} (d : MarksDevice) {talk : Talk X} (b : Base) →
    (b.device ≡ d.store.device) × (b.geometry ≡ d.store.geometry) × (b.cylinders ≡ d.store.cylinders) → Based base_in Any b talk → (t : Told) →
    IsSized d (hold true talk t).state
sized d b e x t =
    let y = at (stays_still x) t in record { device = y.0 ∙ e.0; geometry = y.4 ∙ e.1; cylinders = y.1 ∙ e.2 }

-- an answer changes nothing of it
pub answer_sized : {X Y : Type 0} (d : MarksDevice) (talk : Talk X) (f : X → Y) → ((t : Told) → IsSized d (hold true talk t).state) → (t : Told) →
    IsSized d (hold true (and_then talk (λ e a. Done e (f a))) t).state
answer_sized d talk f h t = subst (IsSized d) (sym (hold_answer talk f t)) (h t)

module _ (d : MarksDevice) where
  pub command_sized : (t : Told) → IsSized d (hold true (command by_plain d) t).state
  command_sized t = sized d (kept d.store) (refl, refl, refl) (command_based by_plain d) t

  pub second_sized : (t : Told) → IsSized d (hold true (second by_plain d) t).state
  second_sized t = sized d (kept d.store) (refl, refl, refl) (second_based by_plain d) t

  pub background_sized : (t : Told) → IsSized d (hold true (background by_plain d) t).state
  background_sized t = sized d (kept d.store) (refl, refl, refl) (background_based by_plain d) t

  pub lose_sized : (loss : Loss) (t : Told) → IsSized d (hold true (lose by_plain d loss) t).state
  lose_sized loss t = sized d _ (refl, refl, refl) (lose_based by_plain d loss) t

  pub reset_sized : (path : ℕ) (t : Told) → IsSized d (hold true (reset by_plain d path) t).state
  reset_sized path t = sized d (kept d.store) (refl, refl, refl) (based_any (reset_body by_plain d path)) t

  pub power_sized : (t : Told) → IsSized d (hold true (power by_plain d) t).state
  power_sized t = sized d _ (refl, refl, refl) (power_based by_plain d) t

  pub peek_sized : (q : ℕ) (t : Told) → IsSized d (hold true (peek by_plain d q) t).state
  peek_sized q t = sized d (kept d.store) (refl, refl, refl) (peek_based by_plain d q) t

  -- the volume leaves
  pub lend_sized : (to : ℕ) (t : Told) → IsSized d (hold true (lend by_plain d to) t).state
  lend_sized to t =
      let e = given_base by_plain (tracks_of d.store) (noted_begin d.store) in
      sized d (kept (lent_store d to)) (ap (λ (b : Base). b.device) e, ap (λ (b : Base). b.geometry) e, ap (λ (b : Base). b.cylinders) e) (lend_based d to) t
