-- The orders for which a volume is handed in: from what came of them to what happens in a run.
use Rattle.std.proofs.Common.{◌≡◌, ◌*◌, ℕ, length, true, Option, Some, Result, Ok, Err, subst}
use Rattle.std.specs.Prelude.{IfOk, OnOk, IfSome}
use Rattle.std.proofs.lemmas.List.FromFn.{length-map-range_with_len}
use Rattle.ckd_types.specs.declared.paths.Side.{Side}
use Rattle.device_outside.specs.declared.volume.Volume.{Ghosts}
use Rattle.device_outside.specs.Both.{SideIs}
use Rattle.device_outside.specs.Disk.{empty_bytes, empty_contents}
use Rattle.device_outside.specs.Lists.{is_in}
use Rattle.device_core.specs.declared.device.Device.{Device}
use Rattle.subsystem_core.specs.declared.end.EventEnd.{EventEnd}
use Rattle.subsystem_core.specs.declared.subsystem.Subsystem.{Subsystem}
use Rattle.subsystem_core.specs.Comes.{Replaced, Unpaired}
use Rattle.subsystem_core.specs.Devices.{device_at, numbers_of}
use Rattle.subsystem_core.specs.Ends.{Answers}
use Rattle.subsystem_defs.specs.Happening.{replaced, unpaired}
use Rattle.subsystem_defs.specs.Subsystem as runs
use Rattle.subsystem_defs.specs.Subsystem.{unfailing}
use Rattle.deck_run.specs.Owning.{AreOwn, ChainsStand}
use Rattle.deck_run.specs.Standing.{StandsAs}
use Rattle.deck_run.proofs.Events.{has_one}
use Rattle.deck_run.proofs.Parting.{unpaired_ordered, unpaired_own}
use Rattle.deck_run.proofs.Replacing.{replaced_own, swapped}
use Rattle.line_drive.specs.Ending.{IsNewFor}
use Rattle.line_drive.proofs.OrderEnds.{replaced_ended, unpaired_ended}

empty_long : (n : ℕ) → length (empty_contents n) ≡ n
empty_long n = length-map-range_with_len empty_bytes 0 n

module _ {V : Type 0} {G : Ghosts V} (d : ℕ) (volume : V) (old new : Subsystem V G)
    (here : is_in d (numbers_of old.devices.items) ≡ true) where
  abbrev x : Device V G
  x = (has_one old.devices.items d here).device

  abbrev found : device_at old.devices.items d ≡ Some x
  found = (has_one old.devices.items d here).found

  new_there : IsNewFor {G = G} (G.view volume) (device_at old.devices.items d) → SideIs (G.view volume) (empty_contents (x.store.cylinders * 15)) unfailing
  new_there is = subst (λ (o : Option (Device V G)). IfSome o (λ y. SideIs (G.view volume) (empty_contents (y.store.cylinders * 15)) unfailing)) found is

  -- A side's volume is replaced

  there : (side : Side) (a : EventEnd) → Replaced d side volume (device_at old.devices.items d) old a new → Replaced d side volume (Some x) old a new
  there side a came = subst (λ (o : Option (Device V G)). Replaced d side volume o old a new) found came

  module _ {X : Type 0} (side : Side) where
    abbrev IsReplacedBy : Result EventEnd X → Type 0
    IsReplacedBy r = IfOk r (λ a. Replaced d side volume (device_at old.devices.items d) old a new)

    pub replaced_owns : (r : Result EventEnd X) → IsReplacedBy r → AreOwn old.devices.items → OnOk r (AreOwn new.devices.items)
    replaced_owns (Ok a) came own = replaced_own d side volume x old new a found own (there side a came)
    replaced_owns (Err e) came own = tt

    pub replaced_stands : ChainsStand old.devices.items → (r : Result EventEnd X) → IsReplacedBy r → (run : runs.Subsystem) → StandsAs old run →
        AreOwn old.devices.items → IsNewFor {G = G} (G.view volume) (device_at old.devices.items d) →
        IfOk r (λ a. Answers (Some a) (replaced run d side unfailing).end × StandsAs new (replaced run d side unfailing).behind)
    replaced_stands stand (Ok a) came run all own is = (
      replaced_ended d volume x old new a found run all side (there side a came),
      (swapped d side volume x old new a found own run stand all (new_there is) (empty_long (x.store.cylinders * 15)) (there side a came)).stands,
    )
    replaced_stands stand (Err e) came run all own is = tt

  -- A pair is taken apart

  apart : (a : EventEnd) → Unpaired d volume (device_at old.devices.items d) old a new → Unpaired d volume (Some x) old a new
  apart a came = subst (λ (o : Option (Device V G)). Unpaired d volume o old a new) found came

  module _ {X : Type 0} where
    abbrev IsUnpairedBy : Result EventEnd X → Type 0
    IsUnpairedBy r = IfOk r (λ a. Unpaired d volume (device_at old.devices.items d) old a new)

    pub unpaired_owns : (r : Result EventEnd X) → IsUnpairedBy r → AreOwn old.devices.items → OnOk r (AreOwn new.devices.items)
    unpaired_owns (Ok a) came own = unpaired_own d volume x old new a found own (apart a came)
    unpaired_owns (Err e) came own = tt

    pub unpaired_stands : (r : Result EventEnd X) → IsUnpairedBy r → (run : runs.Subsystem) → StandsAs old run → AreOwn old.devices.items →
        IsNewFor {G = G} (G.view volume) (device_at old.devices.items d) →
        IfOk r (λ a. Answers (Some a) (unpaired run d unfailing).end × StandsAs new (unpaired run d unfailing).behind)
    unpaired_stands (Ok a) came run all own is = (
      unpaired_ended d volume x old new a found run all (apart a came),
      (unpaired_ordered d volume x old new a found own run all (new_there is) (apart a came)).stands,
    )
    unpaired_stands (Err e) came run all own is = tt
