-- The devices of a run as the audit has them: by their numbers, and with another one in the place of one.
use Rattle.std.proofs.Common.{arith, ◌≡◌, ◌==◌, ℕ, Bool, List, [], ◌∷◌, map, Option, Some, refl, ap, ◌∙◌, if◌then◌else◌}
use Rattle.std.specs.Prelude.{option_map}
use Rattle.device_defs.specs.Marks.{MarksDevice}
use Rattle.deck_audit.specs.Device as A
use Rattle.deck_audit.specs.Device.{AuditedDevice, with_device, outline_of}
use Rattle.deck_audit.specs.declared.state.Outline.{Outline}
use Rattle.deck_audit.specs.Place.{outline_in}
use Rattle.subsystem_defs.specs.Deeds.{device_in}
use Rattle.subsystem_defs.specs.Subsystem.{Mounted, number_of, mounted_in, put_in}
use Rattle.audit_laws.specs.Standing.{audited}

abbrev pub devices : List Mounted → List MarksDevice
devices ms = map (λ (m : Mounted). m.device) ms

found_by : (b : Bool) (d : MarksDevice) (x : Option AuditedDevice) (y : Option MarksDevice) → x ≡ option_map audited y →
    (if b then Some (audited d) else x) ≡ option_map audited (if b then Some d else y)
found_by b d x y e = grind arith

-- by its number
pub found : (ds : List MarksDevice) (n : ℕ) → A.device_in (map audited ds) n ≡ option_map audited (device_in ds n)
found [] n = refl
found (d ∷ ds) n = found_by (d.store.device == n) d (A.device_in (map audited ds) n) (device_in ds n) (found ds n)

pub found_one : (ds : List MarksDevice) (n : ℕ) (d : MarksDevice) → device_in ds n ≡ Some d → A.device_in (map audited ds) n ≡ Some (audited d)
found_one ds n d is = found ds n ∙ ap (λ (o : Option MarksDevice). option_map audited o) is

outline_by : (b : Bool) (a : AuditedDevice) (x : Option Outline) (y : Option AuditedDevice) → x ≡ option_map outline_of y →
    (if b then Some (outline_of a) else x) ≡ option_map outline_of (if b then Some a else y)
outline_by b a x y e = grind arith

-- and its outline
pub outlined : (all : List AuditedDevice) (n : ℕ) → outline_in (map outline_of all) n ≡ option_map outline_of (A.device_in all n)
outlined [] n = refl
outlined (a ∷ all) n = outline_by (a.number == n) a (outline_in (map outline_of all) n) (A.device_in all n) (outlined all n)

pub outline_one : (ds : List MarksDevice) (n : ℕ) (d : MarksDevice) → device_in ds n ≡ Some d →
    outline_in (map outline_of (map audited ds)) n ≡ Some (outline_of (audited d))
outline_one ds n d is = outlined (map audited ds) n ∙ ap (λ (o : Option AuditedDevice). option_map outline_of o) (found_one ds n d is)

-- Another one in its place

pub put_there : (ms : List Mounted) (x : Mounted) →
    with_device (map audited (devices ms)) (audited x.device) ≡ map audited (devices (put_in ms (number_of x) x))
put_there [] x = refl
put_there (m ∷ ms) x = grind (arith, put_there ms x)

pub put_at : (ms : List Mounted) (n : ℕ) (x : Mounted) → number_of x ≡ n →
    with_device (map audited (devices ms)) (audited x.device) ≡ map audited (devices (put_in ms n x))
put_at ms n x is = put_there ms x ∙ ap (λ (k : ℕ). map audited (devices (put_in ms k x))) is

same_by : (b : Bool) (m x : Mounted) (ms rest : List Mounted) (o : Option Mounted) →
    ((y : Mounted) → (if b then Some m else o) ≡ Some y → audited x.device ≡ audited y.device) →
    (((y : Mounted) → o ≡ Some y → audited x.device ≡ audited y.device) → map audited (devices rest) ≡ map audited (devices ms)) →
    map audited (devices (if b then x ∷ ms else m ∷ rest)) ≡ map audited (devices (m ∷ ms))
same_by b m x ms rest o same go = grind arith

-- one of which the audit knows the same
pub put_same : (ms : List Mounted) (n : ℕ) (x : Mounted) → ((y : Mounted) → mounted_in ms n ≡ Some y → audited x.device ≡ audited y.device) →
    map audited (devices (put_in ms n x)) ≡ map audited (devices ms)
put_same [] n x same = refl
put_same (m ∷ ms) n x same = same_by (number_of m == n) m x ms (put_in ms n x) (mounted_in ms n) same (put_same ms n x)

-- a device that is found is mounted
pub mounted_too : (ms : List Mounted) (n : ℕ) (d : MarksDevice) → device_in (devices ms) n ≡ Some d →
    (y : Mounted) × (mounted_in ms n ≡ Some y) × (y.device ≡ d)
mounted_too [] n d is = absurd (cc)
mounted_too (m ∷ ms) n d is = grind (arith, mounted_too ms n d)
