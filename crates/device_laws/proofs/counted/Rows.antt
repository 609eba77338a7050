-- A track whose bytes are no track isn't staged; the one behind it in the queue is.
use Rattle.std.proofs.Common.{◌≡◌, [], ◌∷◌, refl}
use Rattle.std.specs.Prelude.{slice_set}
use Rattle.ckd_types.specs.Commands.{command_of}
use Rattle.ckd_types.specs.declared.paths.Side.TheVariants.{A}
use Rattle.track_image.specs.Reading.{areas_at, zero_at, next_at, records_at, reading}
use Rattle.track_table.specs.Tracks.{least, count_below}
use Rattle.device_outside.specs.Disk.{empty_bytes}
use Rattle.device_outside.specs.Lists.{is_in, with_number, less_one}
use Rattle.device_outside.specs.Pool.{answer, after}
use Rattle.device_outside.specs.Told.{hold}
use Rattle.device_outside.specs.Volume.{counted}
use Rattle.device_defs.specs.declared.answers.Did.TheVariants.{Nothing, Staged, BadBytes}
use Rattle.device_defs.specs.Background.{work}
use Rattle.device_defs.specs.Choosing.{choose}
use Rattle.device_defs.specs.Command.{look, follow, command}
use Rattle.device_defs.specs.Events.{second, background, lose}
use Rattle.device_defs.specs.Image.{level_bytes, image}
use Rattle.device_defs.specs.Losses.{over, settled, side_lost, cache_lost, store_lost, all_firm_told}
use Rattle.device_defs.specs.Owed.{waits, hear, all_told}
use Rattle.device_defs.specs.Second.{second_part}
use Rattle.device_defs.specs.Start.{start_fault, start}
use Rattle.device_defs.specs.Editing.{through, write}
use Rattle.device_defs.specs.Writing.{write_first, write_second, write_done}
use Rattle.device_defs.proofs.Own.{Own, all_do, own_of, play}
use Rattle.device_defs.proofs.Stand.{Back, all_happen, copies, go, read_zero, stand, steps_of, works}

-- the cache has four frames. Track 1 of the volume holds three bytes
abbrev spoiled : Own
spoiled = let o = own_of (stand 4 0 [] [] (read_zero 0xcc 0 ∷ [])) in record o { world = record o.world { a = slice_set o.world.a 1 (0 ∷ 0 ∷ 0 ∷ []) } }

-- track 0 was read in sequential mode
abbrev behind_read : Own
behind_read = record (all_do spoiled (go 3)) { lines = [] }

pub bad_track_is_not_staged : (all_do behind_read (works 3)).lines ≡ Back (BadBytes A) 1 0 ∷ Back (Staged 2) 1 0 ∷ Back Nothing 0 0 ∷ []
unfolding all_do play all_happen steps_of works copies hold answer after is_in with_number less_one counted
    least count_below command_of empty_bytes areas_at zero_at next_at records_at reading over settled side_lost
    cache_lost store_lost all_firm_told waits hear all_told level_bytes image choose write_first write_second
    write_done through write second_part work look follow command second background lose start_fault start
bad_track_is_not_staged = refl
