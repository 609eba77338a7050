-- A device of a run: what it is by itself is in its ranges, and its history is one of a plain device.
use Rattle.std.proofs.Common.{◌≤◌, ◌<◌, ◌==◌, ℕ, Bool, List, [], ◌∷◌, Option, Some, if◌then◌else◌, arith}
use Rattle.std.specs.Prelude.{All, IfSome}
use Rattle.std.proofs.lemmas.List.Elements.{All-head, All-tail}
use Rattle.device_defs.specs.Marks.{MarksDevice}
use Rattle.report_reading.specs.Ranges.{IsOwner, IsShort}
use Rattle.subsystem_defs.specs.Beside.{loose_count}
use Rattle.subsystem_defs.specs.Deeds.{device_in}
use Rattle.subsystem_defs.specs.Promised.{HasPlainHistory}
use Rattle.subsystem_laws.proofs.PlainRuns.{Plainly}
use Rattle.audit_laws.proofs.own.DeviceSizes.{Sized}
use Rattle.audit_laws.proofs.own.RangedWork.{WorksOn}

pub record Ranged (d : MarksDevice) : Type 0 where
  pub sized : Sized d
  pub follows : Plainly d
  pub plain : HasPlainHistory d
  pub loose : IsShort (loose_count d.store)
  pub number : IsShort d.store.number
  pub works : WorksOn d
  pub some : 0 < d.store.cylinders
  pub owner : IfSome d.paths.owner IsOwner

found_ranged : (b : Bool) (d : MarksDevice) (o : Option MarksDevice) → Ranged d → IfSome o Ranged → IfSome (if b then Some d else o) Ranged
found_ranged b d o r rest = grind arith

pub device_ranged : (ds : List MarksDevice) (n : ℕ) → All Ranged ds → IfSome (device_in ds n) Ranged
device_ranged [] n all = tt
device_ranged (d ∷ ds) n all =
    grind (arith, found_ranged (d.store.device == n) d (device_in ds n) (All-head Ranged d ds all) (device_ranged ds n (All-tail Ranged d ds all)), device_ranged ds n (All-tail Ranged d ds all))

-- the ordinal of a program that is planned
pub few_programs : (n m : ℕ) → n ≤ m → m ≤ 512 → IsShort n
few_programs n m le few = omega (arith, le, few)
