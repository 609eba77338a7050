-- How many tracks wait behind the events of two small decks, computed from the definitions alone.
use Rattle.std.proofs.Common.{◌≡◌, ℕ, List, [], ◌∷◌, ◌++◌, map, refl}
use Rattle.std.specs.Prelude.{replicate}
use Rattle.deck_plan.specs.declared.event.EventLine.TheVariants as lines
use Rattle.ckd_types.specs.Commands.{command_of}
use Rattle.track_table.specs.Tracks.{least, count_below}
use Rattle.device_outside.specs.Lists.{is_in, with_number, less_one}
use Rattle.device_outside.specs.Pool.{answer, after}
use Rattle.device_outside.specs.Volume.{counted}
use Rattle.device_outside.specs.Told.{hold}
use Rattle.device_defs.specs.Background.{work}
use Rattle.device_defs.specs.Choosing.{choose}
use Rattle.device_defs.specs.Command.{look, follow, command}
use Rattle.device_defs.specs.Events.{second, background, lose}
use Rattle.device_defs.specs.Image.{level_bytes, image}
use Rattle.device_defs.specs.Losses.{over, settled, side_lost, cache_lost, store_lost, all_firm_told}
use Rattle.device_defs.specs.Orders.{lend}
use Rattle.device_defs.specs.Owed.{waits, hear, all_told}
use Rattle.device_defs.specs.Second.{second_part}
use Rattle.device_defs.specs.Start.{start_fault, start}
use Rattle.device_defs.specs.Editing.{through, write}
use Rattle.device_defs.specs.Writing.{write_first, write_second, write_done}
use Rattle.device_defs.proofs.Stand.{write_zero}
use Rattle.subsystem_defs.specs.Decks.{DeckRun, run_asked, run_asked_on}
use Rattle.subsystem_defs.specs.Deeds.{deed}
use Rattle.subsystem_defs.specs.Happening.{sweep, happens, replaced, unpaired}
use Rattle.subsystem_defs.specs.Lines.{Logged, steps, backs, line_logged, run_lines}
use Rattle.subsystem_defs.specs.Refusals.{pair_fault, unpair_fault, suspend_fault, resume_fault, fail_fault, replace_fault}
use Rattle.subsystem_defs.specs.Subsystem.{devices_of}
use Rattle.subsystem_defs.proofs.Stand.{two, go, settle, back, line}
use Rattle.subsystem_defs.proofs.Runs.{cache_is_repaired}
use Rattle.subsystem_laws.specs.Waits.{waiting_in}

abbrev waiting_behind : DeckRun → List ℕ
waiting_behind r = map (λ (x : Logged). waiting_in (devices_of x.happened.behind)) r.events

-- a fast write, the loss of the cache, a read, a repair that waits, a recovery, and two repairs
pub one_part : waiting_behind (run_asked cache_is_repaired.deck cache_is_repaired.asked) ≡ 0 ∷ 0 ∷ 0 ∷ 0 ∷ 1 ∷ 1 ∷ 1 ∷ 1 ∷ 1 ∷ 1 ∷ 0 ∷ 0 ∷ 0 ∷ []
unfolding command_of least count_below is_in with_number less_one answer after counted hold work choose look follow
    command second background lose level_bytes image over settled side_lost cache_lost store_lost
    all_firm_told waits hear all_told lend second_part start_fault start write_first write_second write_done through
    write pair_fault unpair_fault suspend_fault resume_fault fail_fault replace_fault deed sweep happens replaced
    unpaired steps backs line_logged run_lines run_asked_on
one_part = refl

-- on a level pair, behind 21 events: the loss of the cache, the two parts of a recovery, and the repair
pub two_parts : waiting_behind (run_asked (two (write_zero 0xc0 0 ∷ [])) (line (lines.Pair 0 1) ++ settle ++ go ++ line lines.FailCache ++ back ++ back
    ++ line lines.RepairCache)) ≡ replicate 21 0 ++ 1 ∷ 1 ∷ 0 ∷ 0 ∷ []
unfolding command_of least count_below is_in with_number less_one answer after counted hold work choose look follow
    command second background lose level_bytes image over settled side_lost cache_lost store_lost
    all_firm_told waits hear all_told lend second_part start_fault start write_first write_second write_done through
    write pair_fault unpair_fault suspend_fault resume_fault fail_fault replace_fault deed sweep happens replaced
    unpaired steps backs line_logged run_lines run_asked_on
two_parts = refl
