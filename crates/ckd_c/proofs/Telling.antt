-- What is told of a device, and that its steps went on.
use Rattle.std.proofs.Common.{◌≡◌, ℕ, Option, Some, refl, sym, subst}
use Rattle.ckd_types.specs.declared.channel.CommandEnd.{CommandEnd}
use Rattle.device_defs.specs.Start.{left}
use Rattle.device_core.specs.State.{device_of}
use Rattle.subsystem_core.specs.Devices.{device_at}
use Rattle.ckd_c.specs.declared.code.Code.{Code}
use Rattle.ckd_c.specs.declared.code.Code.TheVariants as codes
use Rattle.ckd_c.specs.declared.opened.Opened.{Opened}
use Rattle.ckd_c.specs.Codes.{IsRefusal}
use Rattle.ckd_c.specs.Calls.{AtDevice, Device, Has, Runs, Steps, TellsLast, not_there, went}

pub at_device : (is : Device → Type 0) (n : ℕ) (x : Opened) (d : Device) → device_at x.subsystem.devices.items n ≡ Some d → is d → AtDevice n is x
at_device is n x d there so = subst (λ (o : Option Device). Has is o) (sym there) so

pub left_at : (x : Opened) (n m p q k : ℕ) (d : Device) → m ≡ n → q ≡ p → device_at x.subsystem.devices.items m ≡ Some d → k ≡ left (device_of d) q →
    AtDevice n (λ (z : Device). k ≡ left (device_of z) p) x
left_at x n m p q k d same path there is =
    subst (λ (j : ℕ). AtDevice j (λ (z : Device). k ≡ left (device_of z) p) x) same
    (subst (λ (j : ℕ). AtDevice m (λ (z : Device). k ≡ left (device_of z) j) x) path (at_device (λ (z : Device). k ≡ left (device_of z) q) m x d there is))

-- memory was lacking in a run
pub stops : (x y : Opened) (n m : ℕ) → m ≡ n → Steps m x.subsystem y.subsystem → Runs n codes.NoMemory x y
stops x y n m same steps = went (subst (λ (k : ℕ). Steps k x.subsystem y.subsystem) same steps, λ e. absurd (cc))

pub of_missing : {n : ℕ} {tells : CommandEnd → Type 0} {x : Opened} {code : Code} → IsRefusal code → TellsLast n tells code x x
of_missing why = not_there refl why
