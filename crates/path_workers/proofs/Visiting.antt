-- An event of a worker is what was asked of its device, whatever that answered; or nothing.
use Rattle.std.proofs.Common.{◌≡◌, ℕ, Bool, true, false, Option, Some, None, refl, sym, ap, subst}
use Rattle.std.specs.Prelude.{if◌then◌else◌}
use Rattle.plain_defs.specs.History.{OpenEntry, is_path_of}
use Rattle.track_image.specs.Image.{Image}
use Rattle.device_outside.specs.Interaction.{Interaction, Done}
use Rattle.device_outside.specs.Keeper.{Hearing}
use Rattle.device_outside.specs.Outside.{Outside, Ran}
use Rattle.device_outside.proofs.Runs.{ended, joined, tries}
use Rattle.device_defs.specs.declared.answers.StartFault.{StartFault}
use Rattle.device_defs.specs.Device.{Device}
use Rattle.device_defs.specs.Start.{start, start_fault}
use Rattle.device_laws.proofs.DeviceHistory.{starts_where_idle}
use Rattle.path_workers.specs.Visits.{nothing, started_by, whatever}

module _ {R I K S : Type 0} {had : Bool → Type 0} {hears : Hearing I K} {u : Outside R K} {s : S} where
  pub nothing_ran : Ran had hears (nothing s) u s tt u
  nothing_ran = ended refl refl

  module _ {z : Outside R K} where
    pub if_yes : {A : Type 0} {a : A} (b : Bool) (i j : Interaction R I S A) → b ≡ true → Ran had hears i u s a z → Ran had hears (if b then i else j) u s a z
    if_yes true i j e r = r
    if_yes false i j e r = absurd (cc)

    pub if_no : {A : Type 0} {a : A} (b : Bool) (i j : Interaction R I S A) → b ≡ false → Ran had hears j u s a z → Ran had hears (if b then i else j) u s a z
    if_no false i j e r = r
    if_no true i j e r = absurd (cc)

    pub whatever_ran : {A : Type 0} {a : A} {i : Interaction R I S A} → Ran had hears i u s a z → Ran had hears (whatever i) u s tt z
    whatever_ran r = joined (λ s a. Done s tt) r (ended refl refl)

module _ {F P H : Type 0} (d : Device F P H) (path : ℕ) where
  -- where nothing keeps a path's next program out, none runs
  pub free_path : start_fault d path ≡ None → is_path_of d.history.running path ≡ false
  free_path free = ap (λ (r : Option OpenEntry). is_path_of r path) (starts_where_idle d path free)

  module _ {R K : Type 0} {hears : Hearing Image K} (u z : Outside R K) (f : Option StartFault) where
    pub kept_out : {had : Bool → Type 0} (fault : StartFault) → f ≡ Some fault → Ran had hears (started_by d path f) u d tt u
    kept_out {had} fault is = subst (λ (f : Option StartFault). Ran had hears (started_by d path f) u d tt u) (sym is) (ended refl refl)

    pub begins : (e : Device F P H) → f ≡ None → e ≡ start d path → z ≡ u → Ran (λ ok. ok ≡ true) hears (started_by d path f) u e tt z
    begins e none is same =
        subst (λ (z : Outside R K). Ran (λ ok. ok ≡ true) hears (started_by d path f) u e tt z) (sym same)
        (subst (λ (f : Option StartFault). Ran (λ ok. ok ≡ true) hears (started_by d path f) u e tt u) (sym none)
        (tries true refl (ended (sym is) refl)))

    pub lacks_memory : (e : Device F P H) → f ≡ None → e ≡ d → z ≡ u → Ran (λ ok. Unit {0}) hears (started_by d path f) u e tt z
    lacks_memory e none is same =
        subst (λ (z : Outside R K). Ran (λ ok. Unit {0}) hears (started_by d path f) u e tt z) (sym same)
        (subst (λ (f : Option StartFault). Ran (λ ok. Unit {0}) hears (started_by d path f) u e tt u) (sym none)
        (tries false tt (ended (sym is) refl)))
