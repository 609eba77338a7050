-- To whom devices are lent, and how large they are.
use Rattle.std.specs.Prelude.{◌≡◌, ℕ, ◌==◌, List, [], ◌∷◌, Option, Some, None, map, slice_get, if◌then◌else◌}
use Rattle.device_outside.specs.declared.volume.Volume.{Ghosts}
use Rattle.device_core.specs.declared.device.Device.{Device}
use Rattle.device_core.specs.State.{device_of}

pub record Seat : Type 0 where
  pub number : ℕ
  pub cylinders : ℕ
  pub lent : Option ℕ

module _ {V : Type 0} {G : Ghosts V} where
  abbrev pub seat_of : Device V G → Seat
  seat_of d = record { number = (device_of d).store.device; cylinders = (device_of d).store.cylinders; lent = (device_of d).store.lent }

  abbrev pub seats_of : List (Device V G) → List Seat
  seats_of ds = map seat_of ds

-- how large the one of this number is
abbrev pub cylinders_at : List Seat → ℕ → Option ℕ
cylinders_at [] n = None
cylinders_at (x ∷ xs) n = if x.number == n then Some x.cylinders else cylinders_at xs n

-- a device that is lent has as many cylinders as the one to which it is lent
abbrev pub AreAlike : List Seat → Type 0
AreAlike xs = (i n m : ℕ) (x : Seat) → slice_get xs i ≡ Some x → x.lent ≡ Some n → cylinders_at xs n ≡ Some m → m ≡ x.cylinders
