-- What the steps of small runs choose for their writes by the rules, and how many checks their device has behind them, computed from the definitions
-- alone.
use Rattle.std.proofs.Common.{◌≡◌, ℕ, Bool, true, false, List, [], ◌∷◌, ◌++◌, map, Option, Some, None, refl}
use Rattle.std.specs.Prelude.{replicate}
use Rattle.ckd_types.specs.declared.paths.Side.TheVariants as sides
use Rattle.ckd_types.specs.Commands.{command_of}
use Rattle.deck_plan.specs.declared.event.EventLine.TheVariants as lines
use Rattle.ckd_rules.specs.Walk.{walk}
use Rattle.track_table.specs.Tracks.{least, count_below}
use Rattle.plain_defs.specs.Program.{part_of}
use Rattle.device_outside.specs.Lists.{is_in, with_number, less_one}
use Rattle.device_outside.specs.Pool.{answer, after}
use Rattle.device_outside.specs.Volume.{counted}
use Rattle.device_outside.specs.Told.{hold}
use Rattle.device_defs.specs.declared.answers.Choice.{Choice}
use Rattle.device_defs.specs.Background.{work}
use Rattle.device_defs.specs.Choosing.{choose}
use Rattle.device_defs.specs.Command.{look, follow, command}
use Rattle.device_defs.specs.Cutting.{reset, power}
use Rattle.device_defs.specs.Editing.{through, write}
use Rattle.device_defs.specs.Events.{second, background, lose}
use Rattle.device_defs.specs.Image.{level_bytes, image}
use Rattle.device_defs.specs.Losses.{over, settled, side_lost, cache_lost, store_lost, all_firm_told}
use Rattle.device_defs.specs.Orders.{lend}
use Rattle.device_defs.specs.Owed.{waits, hear, all_told}
use Rattle.device_defs.specs.Second.{second_part}
use Rattle.device_defs.specs.Start.{start_fault, start}
use Rattle.device_defs.specs.Writing.{write_first, write_second, write_done}
use Rattle.device_defs.proofs.Stand.{read_zero, write_zero}
use Rattle.subsystem_defs.specs.declared.event.Event.{Event}
use Rattle.subsystem_defs.specs.declared.event.Event.TheVariants as events
use Rattle.subsystem_defs.specs.Decks.{run_asked, run_asked_on}
use Rattle.subsystem_defs.specs.Deeds.{deed}
use Rattle.subsystem_defs.specs.Happening.{EventHappened, sweep, happens, replaced, unpaired}
use Rattle.subsystem_defs.specs.Lines.{Logged, steps, backs, line_logged, run_lines}
use Rattle.subsystem_defs.specs.Refusals.{pair_fault, unpair_fault, suspend_fault, resume_fault, fail_fault, replace_fault}
use Rattle.subsystem_defs.specs.Subsystem.{devices_of}
use Rattle.subsystem_defs.proofs.Runs.{provisional_write_is_lost}
use Rattle.subsystem_defs.proofs.Stand.{Sample, deck, go, line}
use Rattle.device_laws.specs.Seen.{is_in_cache}
use Rattle.subsystem_laws.specs.Causes.{checks_of}
use Rattle.promise_laws.specs.Origins.{event_of}
use Rattle.move_laws.specs.Chosen.{chosen_in}
use Rattle.move_laws.specs.Exactly.{walk_tracks}

-- of each step, whether it chose a write in the cache alone or one through, if any; and the checks behind it

abbrev is_kept : Option Choice → Option Bool
is_kept (Some choice) = Some (is_in_cache choice)
is_kept None = None

abbrev step_chose : Option Event → EventHappened → List (Option Bool × List ℕ)
step_chose (Some (events.Step n)) h = (is_kept (chosen_in h.before n), map checks_of (devices_of h.behind)) ∷ []
step_chose _ h = []

abbrev chosen_by_steps : List Logged → List (Option Bool × List ℕ)
chosen_by_steps [] = []
chosen_by_steps (x ∷ xs) = step_chose (event_of x.asked) x.happened ++ chosen_by_steps xs

-- the track has a frame as its only side is lost, and is then written; with so many slots
abbrev no_side_up : ℕ → Sample
no_side_up slots = record {
  deck = deck 4 slots (read_zero 0xc0 0 ∷ write_zero 0xc0 0 ∷ []);
  asked = go ++ line (lines.FailVolume 0 sides.A) ++ go;
  shows = [];
  devices = [];
  frames = [];
}

abbrev none_chosen : ℕ → List (Option Bool × List ℕ)
none_chosen n = replicate n (None, 0 ∷ [])

-- without a slot it is chosen through, and checked; with one it is fast, and isn't. A provisional write, a read, and a number that is old
pub steps_choose : map (λ (x : Sample). chosen_by_steps (run_asked x.deck x.asked).events) (no_side_up 0 ∷ no_side_up 2 ∷ provisional_write_is_lost ∷ [])
    ≡ (none_chosen 5 ++ (Some false, 1 ∷ []) ∷ []) ∷ (none_chosen 5 ++ (Some true, 0 ∷ []) ∷ [])
    ∷ (none_chosen 2 ++ (Some true, 0 ∷ []) ∷ none_chosen 4) ∷ []
unfolding command_of least count_below is_in with_number less_one answer after counted hold work choose look follow
    command reset power second background lose level_bytes image over settled side_lost cache_lost store_lost
    all_firm_told waits hear all_told lend second_part start_fault start write_first write_second write_done through
    write pair_fault unpair_fault suspend_fault resume_fault fail_fault replace_fault deed sweep happens replaced
    unpaired steps backs line_logged run_lines run_asked_on part_of walk walk_tracks
steps_choose = refl
