-- The volumes of a run that go back to a bay, and what they hold then.
use Rattle.std.specs.Prelude.{◌≡◌, ◌<◌, ℕ, List, [], ◌∷◌, ◌++◌, length, Option, Some, None, IfSome, slice_index_or}
use Rattle.std.specs.List.{flat_map}
use Rattle.ckd_types.specs.declared.paths.Side.{Side}
use Rattle.ckd_types.specs.declared.paths.Side.TheVariants.{A, B}
use Rattle.deck_text.specs.DeckLines.{DeckLines}
use Rattle.device_outside.specs.Bay.{Bay}
use Rattle.device_outside.specs.declared.bay.Taken.{Taken}
use Rattle.device_outside.specs.declared.volume.Volume.{Ghosts}
use Rattle.device_outside.specs.Volume.{VolumeView}
use Rattle.device_core.specs.declared.device.Device.{Device}
use Rattle.device_core.specs.State.{device_of, volume_a, volume_b}
use Rattle.subsystem_defs.specs.Closing.{HandedOut, handed_out}
use Rattle.subsystem_defs.specs.Decks.{Firsts, handed_out_of, run_on}
use Rattle.deck_top.specs.Bays.{Back, BayView, HandsOut}

abbrev pub IsKnownAs : List ℕ → Option (List ℕ) → Type 0
IsKnownAs bytes None = Unit {0}
IsKnownAs bytes (Some known) = bytes ≡ known

-- On volumes that hold other tracks first

module _ {V : Type 0} (view : V → VolumeView (List ℕ)) where
  -- of this device and side, after these calls, and telling that each track holds the bytes that are known of it
  pub record IsHandedBack (t : Back V) (h : HandedOut) : Type 0 where
    pub device : t.device ≡ h.device
    pub side : t.side ≡ h.side
    pub reads : (view t.volume).reads ≡ h.calls.reads
    pub writes : (view t.volume).writes ≡ h.calls.writes
    pub held : List (List ℕ)
    pub told : (view t.volume).contents ≡ Some held
    pub tracks : (n : ℕ) → IsKnownAs (slice_index_or held n []) (slice_index_or h.tracks n None)

  abbrev pub AreHandedBack : List (Back V) → List HandedOut → Type 0
  AreHandedBack [] [] = Unit {0}
  AreHandedBack [] (h ∷ hs) = ⊥
  AreHandedBack (t ∷ ts) [] = ⊥
  AreHandedBack (t ∷ ts) (h ∷ hs) = IsHandedBack t h × AreHandedBack ts hs

  -- The bay took as many more volumes as the deck has devices: those that its run on what the bay hands out leaves, where that is told
  pub record TakesBackOn (d : DeckLines) (old new : BayView V) : Type 0 where
    pub more : List (Back V)
    pub taken : new.taken ≡ old.taken ++ more
    pub number : length more ≡ length d.devices
    pub are : (firsts : Firsts) → HandsOut old firsts → AreHandedBack more (handed_out (run_on firsts d).behind)

-- On empty volumes in memory

-- of this device and side, after these calls, and holding on each track the bytes that are known of it
pub record IsHandedOut (t : Taken) (h : HandedOut) : Type 0 where
  pub device : t.device ≡ h.device
  pub side : t.side ≡ h.side
  pub reads : t.volume.reads ≡ h.calls.reads
  pub writes : t.volume.writes ≡ h.calls.writes
  pub tracks : (n : ℕ) → IsKnownAs (slice_index_or t.volume.tracks n []) (slice_index_or h.tracks n None)

abbrev pub AreHandedOut : List Taken → List HandedOut → Type 0
AreHandedOut [] [] = Unit {0}
AreHandedOut [] (h ∷ hs) = ⊥
AreHandedOut (t ∷ ts) [] = ⊥
AreHandedOut (t ∷ ts) (h ∷ hs) = IsHandedOut t h × AreHandedOut ts hs

-- The bay took as many more volumes as the deck has devices: those that its defined run hands out, where no track was spoiled
pub record TakesBack (d : DeckLines) (old new : Bay) : Type 0 where
  pub more : List Taken
  pub taken : new.taken ≡ old.taken ++ more
  pub number : length more ≡ length d.devices
  pub are : old.spoiled ≡ [] → AreHandedOut more (handed_out_of d)

-- Of devices

-- where it is told what a volume holds, each of the first tracks, as many as a device has at most, holds bytes
abbrev pub HoldsBytes : VolumeView (List ℕ) → Type 0
HoldsBytes v = (held : List (List ℕ)) → v.contents ≡ Some held → (t i : ℕ) → t < 65535 → slice_index_or (slice_index_or held t []) i 0 < 256

-- the volume of a side, where one stands
abbrev pub on_side : {V : Type 0} → ℕ → Side → Option V → List (Back V)
on_side n side None = []
on_side n side (Some v) = record { device = n; side = side; volume = v } ∷ []

module _ {V : Type 0} {G : Ghosts V} where
  -- the volumes that stand in a device, side A before side B
  abbrev pub taken_of : Device V G → List (Back V)
  taken_of x = on_side (device_of x).store.device A (volume_a x) ++ on_side (device_of x).store.device B (volume_b x)

  abbrev pub all_taken : List (Device V G) → List (Back V)
  all_taken xs = flat_map taken_of xs

  abbrev pub SidesHoldBytes : Device V G → Type 0
  SidesHoldBytes x = IfSome (volume_a x) (λ v. HoldsBytes (G.view v)) × IfSome (volume_b x) (λ v. HoldsBytes (G.view v))

  abbrev pub AllHoldBytes : List (Device V G) → Type 0
  AllHoldBytes [] = Unit {0}
  AllHoldBytes (x ∷ xs) = SidesHoldBytes x × AllHoldBytes xs
