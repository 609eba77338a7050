-- What a device of a deck has on a far volume after the run, where a put may fail; or why nothing is mirrored.
use Rattle.std.specs.Prelude.{◌==◌, ◌-◌, ℕ, Bool, false, List, map, take, Option, Some, None, Ok, if◌then◌else◌}
use Rattle.std.specs.List.{list_any}
use Rattle.ckd_types.specs.declared.geometry.Geometry.{Geometry}
use Rattle.ckd_types.specs.declared.record.Track.{Track}
use Rattle.ckd_types.specs.Volume.{empty_volume}
use Rattle.deck_plan.specs.declared.event.EventLine.{EventLine}
use Rattle.deck_plan.specs.declared.event.EventLine.TheVariants as lines
use Rattle.deck_text.specs.DeckLines.{DeckLines}
use Rattle.track_image.specs.Image.{Image}
use Rattle.subsystem_defs.specs.Decks.{run_of}
use Rattle.subsystem_defs.specs.Subsystem.{Mounted, mounted_in}
use Rattle.volume_file.specs.File.{ImageVolume}
use Rattle.volume_save.specs.Devices.{is_declared}
use Rattle.volume_save.specs.Saving.{volume_with}
use Rattle.firm_laws.specs.FirmWrites.{FirmWrite, firm_writes_of}
use Rattle.remote_copy.specs.Sending.{put_all}
use Rattle.copy_tool.specs.declared.unmade.Unmade.TheVariants.{Device, Lends}
use Rattle.copy_tool.specs.Copying.{Made, not_made}

-- a line lends the device of this number, unless it is refused
abbrev pub lends : ℕ → EventLine → Bool
lends d (lines.Pair a b) = b == d
lends d _ = false

-- those firm writes before the n-th, whose put fails; all of them where n is 0
abbrev pub sent_before : ℕ → List FirmWrite → List FirmWrite
sent_before n ws = if n == 0 then ws else take (n - 1) ws

abbrev pub images_of : Geometry → List Track → List Image
images_of g tracks = map (λ (x : Track). record { geometry = g; track = x }) tracks

-- tracks of the model and size of a device
abbrev pub volume_as : Mounted → List Track → ImageVolume
volume_as m tracks = volume_with m.device.store.geometry m.device.store.cylinders (images_of m.device.store.geometry tracks)

-- an empty volume of them behind some firm writes
abbrev pub far_behind : Mounted → List FirmWrite → ImageVolume
far_behind m ws = volume_as m (put_all ws (empty_volume m.device.store.cylinders))

-- those of the device's history. A device that isn't there has no far volume
abbrev pub mirroring_at : ℕ → Option Mounted → Made
mirroring_at n (Some m) = Ok (far_behind m (sent_before n (firm_writes_of m.device)))
mirroring_at n None = not_made Device

-- of device d after the run, where the n-th put fails
unfoldable pub mirroring : DeckLines → ℕ → ℕ → Made
mirroring deck d n = mirroring_at n (mounted_in (run_of deck).behind.mounted d)

abbrev pub mirroring_of : DeckLines → ℕ → ℕ → Made
mirroring_of deck d n =
    if is_declared deck d then if list_any (lends d) deck.events then not_made Lends else mirroring deck d n else not_made Device
