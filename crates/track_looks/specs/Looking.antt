-- What a look at a track of a device found, and what it left of the devices and of the pool.
use Rattle.std.specs.Prelude.{◌≡◌, ℕ, false, Option, Some, IfSome}
use Rattle.track_image.specs.Image.{Image}
use Rattle.device_outside.specs.declared.volume.Volume.{Ghosts}
use Rattle.device_outside.specs.Keeper.{Hearing}
use Rattle.device_defs.specs.Contents.{contents}
use Rattle.device_defs.specs.Peek.{Peeked, Track, Lost, Fault, BadBytes, peek}
use Rattle.device_core.specs.State.{device_of}
use Rattle.subsystem_laws.specs.Looking.{is_written_at}
use Rattle.subsystem_core.specs.declared.subsystem.Subsystem.{Subsystem}
use Rattle.subsystem_core.specs.Comes.{AskedKept, AskedWith, Changes}
use Rattle.subsystem_core.specs.Ends.{where_some}
use Rattle.subsystem_defs.specs.Subsystem as runs
use Rattle.subsystem_defs.specs.Subsystem.{mounted_in}
use Rattle.track_looks.specs.declared.found.Look.{Look}
use Rattle.track_looks.specs.declared.found.Look.TheVariants as looks

abbrev pub look_seen : Look → Peeked
look_seen (looks.Track image) = Track image
look_seen looks.Lost = Lost
look_seen (looks.Fault side) = Fault side
look_seen (looks.BadBytes side) = BadBytes side

module _ {V : Type 0} {G : Ghosts V} where
  -- the device of that number ran a look at this track. Where nothing is told memory was lacking in it, or for the image that it found
  pub record LooksKept {K : Type 0} (hears : Hearing Image K) (d t : ℕ) (told : Option Peeked) (old : Subsystem V G) (keep : K)
      (new : Subsystem V G) (kept : K) : Type 0 where
    pub answer : Option Peeked
    pub told_is : IfSome told (λ found. answer ≡ Some found)
    pub asked : Changes d (λ x y. AskedKept hears (where_some answer) (peek contents (device_of x) t) answer old.pool keep x y new.pool kept)
        old.devices.items new.devices.items

  -- the same with a keeper that keeps nothing
  pub record Looks (d t : ℕ) (told : Option Peeked) (old new : Subsystem V G) : Type 0 where
    pub answer : Option Peeked
    pub told_is : IfSome told (λ found. answer ≡ Some found)
    pub asked : Changes d (λ x y. AskedWith (where_some answer) (peek contents (device_of x) t) answer old.pool x y new.pool)
        old.devices.items new.devices.items

-- no half write of a command, or of one that was cut, is open on the track in a run
abbrev pub IsAllowed : runs.Subsystem → ℕ → ℕ → Type 0
IsAllowed s d t = IfSome (mounted_in s.mounted d) (λ m. is_written_at m.device.store.half t ≡ false)
