-- On which sides of devices a volume stands, and to whom devices are lent. Every volume of a run stands in one of its devices.
use Rattle.std.specs.Prelude.{◌≡◌, ℕ, ◌+◌, ◌==◌, ◌&&◌, Bool, true, false, List, [], ◌∷◌, length, map, Option, None, is_some, if◌then◌else◌}
use Rattle.device_outside.specs.declared.volume.Volume.{Ghosts}
use Rattle.device_core.specs.declared.device.Device.{Device}
use Rattle.device_core.specs.State.{device_of, volume_a, volume_b}
use Rattle.subsystem_defs.specs.Happening.{is_lent_to}

-- of a device
pub record Sides : Type 0 where
  pub number : ℕ
  pub lent : Option ℕ
  pub a : Bool
  pub b : Bool

abbrev pub total : (Sides → ℕ) → List Sides → ℕ
total f [] = 0
total f (x ∷ xs) = f x + total f xs

abbrev pub one_if : Bool → ℕ
one_if b = if b then 1 else 0

-- lent to the device of this number
abbrev pub lent_here : ℕ → Sides → ℕ
lent_here n x = one_if (is_lent_to x.lent n)

-- the device of this number, with a side B
abbrev pub paired_here : ℕ → Sides → ℕ
paired_here n x = one_if ((x.number == n) && x.b)

abbrev pub volumes_here : Sides → ℕ
volumes_here x = one_if x.a + one_if x.b

-- lent, with a volume still
abbrev pub away_here : Sides → ℕ
away_here x = one_if (is_some x.lent && x.a)

-- to each pair one device is lent, which has no volume, and to no other; there are as many volumes as devices
pub record AreAccounted (xs : List Sides) : Type 0 where
  pub away : total away_here xs ≡ 0
  pub mates : (n : ℕ) → total (lent_here n) xs ≡ total (paired_here n) xs
  pub volumes : total volumes_here xs ≡ length xs

module _ {V : Type 0} {G : Ghosts V} where
  abbrev pub sides_of : Device V G → Sides
  sides_of x = record { number = (device_of x).store.device; lent = (device_of x).store.lent; a = is_some (volume_a x); b = is_some (volume_b x) }

  abbrev pub all_sides : List (Device V G) → List Sides
  all_sides xs = map sides_of xs

  -- on one volume, and lent to none
  pub record IsFresh (x : Device V G) : Type 0 where
    pub lent : (device_of x).store.lent ≡ None
    pub a : is_some (volume_a x) ≡ true
    pub b : is_some (volume_b x) ≡ false

  abbrev pub AllFresh : List (Device V G) → Type 0
  AllFresh [] = Unit {0}
  AllFresh (x ∷ xs) = IsFresh x × AllFresh xs
