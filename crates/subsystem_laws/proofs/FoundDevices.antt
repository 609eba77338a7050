-- A device that is found by its number is the one that is mounted there.
use Rattle.std.proofs.Common.{◌≡◌, ◌==◌, ℕ, Bool, true, false, List, [], ◌∷◌, map, Option, Some, refl, subst, eqb-true}
use Rattle.std.specs.Prelude.{if◌then◌else◌}
use Rattle.device_defs.specs.Marks.{MarksDevice}
use Rattle.subsystem_defs.specs.Deeds.{device_in}
use Rattle.subsystem_defs.specs.Subsystem.{Mounted, number_of, mounted_in}

number_if : (b : Bool) (d y : MarksDevice) (n : ℕ) (o : Option MarksDevice) → (d.store.device == n) ≡ b → (if b then Some d else o) ≡ Some y →
    (o ≡ Some y → y.store.device ≡ n) → y.store.device ≡ n
number_if true d y n o is at more = let same : d ≡ y = cc in subst (λ (x : MarksDevice). x.store.device ≡ n) same (eqb-true d.store.device n is)
number_if false d y n o is at more = more at

pub number_found : (ms : List Mounted) (n : ℕ) (y : MarksDevice) → device_in (map (λ (m : Mounted). m.device) ms) n ≡ Some y → y.store.device ≡ n
number_found [] n y at = absurd (cc)
number_found (m ∷ ms) n y at =
    number_if (number_of m == n) m.device y n (device_in (map (λ (x : Mounted). x.device) ms) n) refl at (number_found ms n y)

same_if : (b : Bool) (k : Mounted) (ms : List Mounted) (n : ℕ) (y : MarksDevice) (m : Mounted) → (number_of k == n) ≡ b →
    (if b then Some k.device else device_in (map (λ (x : Mounted). x.device) ms) n) ≡ Some y → (if b then Some k else mounted_in ms n) ≡ Some m →
    (device_in (map (λ (x : Mounted). x.device) ms) n ≡ Some y → mounted_in ms n ≡ Some m → m.device ≡ y) → m.device ≡ y
same_if true k ms n y m is at there more = let a : k.device ≡ y = cc in let b : k ≡ m = cc in subst (λ (x : Mounted). x.device ≡ y) b a
same_if false k ms n y m is at there more = more at there

pub same_found : (ms : List Mounted) (n : ℕ) (y : MarksDevice) (m : Mounted) → device_in (map (λ (x : Mounted). x.device) ms) n ≡ Some y →
    mounted_in ms n ≡ Some m → m.device ≡ y
same_found [] n y m at there = absurd (cc)
same_found (k ∷ ms) n y m at there = same_if (number_of k == n) k ms n y m refl at there (same_found ms n y m)
