-- In which state a pair is behind some events.
use Rattle.std.proofs.Common.{◌≡◌, List, [], ◌∷◌, ◌++◌, Option, None, Some, refl}
use Rattle.ckd_types.specs.Commands.{command_of}
use Rattle.ckd_types.specs.declared.paths.Side.TheVariants.{A, B}
use Rattle.track_table.specs.Tracks.{least, count_below}
use Rattle.device_outside.specs.Lists.{is_in, with_number, less_one}
use Rattle.device_outside.specs.Pool.{answer, after}
use Rattle.device_outside.specs.Told.{hold}
use Rattle.device_outside.specs.Volume.{counted}
use Rattle.device_defs.specs.Background.{work}
use Rattle.device_defs.specs.Choosing.{choose}
use Rattle.device_defs.specs.Command.{look, follow, command}
use Rattle.device_defs.specs.Cutting.{reset, power}
use Rattle.device_defs.specs.Editing.{through, write}
use Rattle.device_defs.specs.Events.{second, background, lose}
use Rattle.device_defs.specs.Image.{level_bytes, image}
use Rattle.device_defs.specs.Losses.{over, settled, side_lost, cache_lost, store_lost, all_firm_told}
use Rattle.device_defs.specs.Owed.{waits, hear, all_told}
use Rattle.device_defs.specs.Pairs.{Duplex, PairState, Pending, Suspended, pair_state}
use Rattle.device_defs.specs.Second.{second_part}
use Rattle.device_defs.specs.Start.{start_fault, start}
use Rattle.device_defs.specs.Writing.{write_first, write_second, write_done}
use Rattle.device_defs.proofs.Stand.{
  Event,
  FailSide,
  Join,
  Replace,
  Resume,
  Split,
  Suspend,
  Work,
  all_happen,
  copies,
  go,
  pair,
  stand,
  steps_of,
  works,
  write_zero,
}

abbrev behind : List Event → Option PairState
behind events = pair_state (all_happen (pair [] [] (write_zero 0xc1 0 ∷ [])) events).device.store

-- joined and copied; side B held; a write meanwhile, and then it goes on; copied again; a side is lost, replaced; and side B leaves
states :
    pair_state (all_happen (stand 4 2 [] [] []) []).device.store ∷ pair_state (all_happen (stand 4 2 [] [] []) (Join [] [] ∷ [])).device.store
    ∷ behind [] ∷ behind (Suspend ∷ []) ∷ behind (Suspend ∷ go 3 ++ Resume ∷ []) ∷ behind (Suspend ∷ go 3 ++ Resume ∷ Work ∷ [])
    ∷ behind (FailSide A ∷ []) ∷ behind (FailSide B ∷ Replace B ∷ []) ∷ behind (Split ∷ []) ∷ []
    ≡ None ∷ Some Pending ∷ Some Duplex ∷ Some Suspended ∷ Some Pending ∷ Some Duplex ∷ Some Suspended ∷ Some Pending ∷ None ∷ []
unfolding all_happen steps_of works hold answer after is_in with_number less_one counted least count_below
    command_of over settled side_lost cache_lost store_lost all_firm_told waits hear all_told level_bytes image
    choose write_first write_second write_done through write second_part work look follow command second background
    lose start_fault start reset power copies
states = refl
