-- The edits that small runs keep, and what no event brings, computed from the definitions alone.
use Rattle.std.proofs.Common.{◌≡◌, ℕ, List, [], ◌∷◌, map, None, refl, inl, inr}
use Rattle.std.specs.Prelude.{◌⊎◌}
use Rattle.ckd_types.specs.declared.geometry.Geometry.TheVariants.{D3390}
use Rattle.ckd_types.specs.Commands.{command_of}
use Rattle.ckd_types.specs.Track.{empty_track}
use Rattle.ckd_rules.specs.Walk.{TrackEdit, walk}
use Rattle.track_table.specs.Tracks.{least, count_below}
use Rattle.plain_defs.specs.declared.journal.Act.TheVariants.{Harden}
use Rattle.plain_defs.specs.History.{History, emptied}
use Rattle.plain_defs.specs.Legal.{AreActs}
use Rattle.plain_defs.specs.PlainState.{PlainState, empty_state}
use Rattle.plain_defs.specs.Program.{part_of}
use Rattle.device_outside.specs.Lists.{is_in, with_number, less_one}
use Rattle.device_outside.specs.Pool.{answer, after}
use Rattle.device_outside.specs.Volume.{counted}
use Rattle.device_outside.specs.Told.{hold}
use Rattle.device_defs.specs.Background.{work}
use Rattle.device_defs.specs.Choosing.{choose}
use Rattle.device_defs.specs.Command.{look, follow, command}
use Rattle.device_defs.specs.Cutting.{reset, power}
use Rattle.device_defs.specs.Editing.{through, write}
use Rattle.device_defs.specs.Events.{second, background, lose}
use Rattle.device_defs.specs.Image.{level_bytes, image}
use Rattle.device_defs.specs.Losses.{over, settled, side_lost, cache_lost, store_lost, all_firm_told}
use Rattle.device_defs.specs.Marks.{MarksDevice, new_device}
use Rattle.device_defs.specs.Orders.{lend}
use Rattle.device_defs.specs.Owed.{waits, hear, all_told}
use Rattle.device_defs.specs.Pledge.{fresh_count}
use Rattle.device_defs.specs.Second.{second_part}
use Rattle.device_defs.specs.Start.{start_fault, start}
use Rattle.device_defs.specs.Writing.{write_first, write_second, write_done}
use Rattle.subsystem_defs.specs.declared.end.EventEnd.TheVariants as ends
use Rattle.subsystem_defs.specs.declared.event.Event.TheVariants as events
use Rattle.subsystem_defs.specs.Decks.{run_asked, run_asked_on}
use Rattle.subsystem_defs.specs.Deeds.{deed}
use Rattle.subsystem_defs.specs.Happening.{sweep, happens, replaced, unpaired}
use Rattle.subsystem_defs.specs.Lines.{Once, steps, backs, line_logged, run_lines}
use Rattle.subsystem_defs.specs.Refusals.{pair_fault, unpair_fault, suspend_fault, resume_fault, fail_fault, replace_fault}
use Rattle.subsystem_defs.specs.Subsystem.{devices_of}
use Rattle.subsystem_defs.proofs.Runs.{
  held_side_leaves,
  other_write_goes_through,
  power_cuts_a_write,
  provisional_write_is_destaged,
  provisional_write_is_lost,
}
use Rattle.subsystem_defs.proofs.Stand.{Sample}
use Rattle.promise_laws.specs.Kept.{acknowledged_edits, kept_edits}
use Rattle.promise_laws.specs.Origins.{Brings, IsGivenBack}
use Rattle.promise_laws.proofs.FreshItems.{fresh_given_back}

-- the tracks of the edits of each device
abbrev tracks_of : (MarksDevice → List TrackEdit) → Sample → List (List ℕ)
tracks_of edits x = map (λ (d : MarksDevice). map (λ (e : TrackEdit). e.track) (edits d)) (devices_of (run_asked x.deck x.asked).behind)

-- one that went with the cache; one that was destaged; one before a write through; one that was cut in two; one of a pair, whose other device
-- got a new volume
pub edits_are_kept : map (tracks_of kept_edits) (provisional_write_is_lost ∷ provisional_write_is_destaged ∷ other_write_goes_through
    ∷ power_cuts_a_write ∷ held_side_leaves ∷ [])
    ≡ ([] ∷ []) ∷ ((0 ∷ []) ∷ []) ∷ ((0 ∷ 0 ∷ []) ∷ []) ∷ ((0 ∷ []) ∷ [] ∷ []) ∷ ((0 ∷ []) ∷ [] ∷ []) ∷ []
unfolding command_of least count_below is_in with_number less_one answer after counted hold work choose look follow
    command reset power second background lose level_bytes image over settled side_lost cache_lost store_lost
    all_firm_told waits hear all_told lend second_part start_fault start write_first write_second write_done through
    write pair_fault unpair_fault suspend_fault resume_fault fail_fault replace_fault deed sweep happens replaced
    unpaired steps backs line_logged run_lines run_asked_on part_of walk
edits_are_kept = refl

-- the one that was cut wasn't told
pub edits_are_acknowledged : map (tracks_of acknowledged_edits) (provisional_write_is_destaged ∷ power_cuts_a_write ∷ [])
    ≡ ((0 ∷ []) ∷ []) ∷ ([] ∷ [] ∷ []) ∷ []
unfolding command_of least count_below is_in with_number less_one answer after counted hold work choose look follow
    command reset power second background lose level_bytes image over settled side_lost cache_lost store_lost
    all_firm_told waits hear all_told lend second_part start_fault start write_first write_second write_done through
    write pair_fault unpair_fault suspend_fault resume_fault fail_fault replace_fault deed sweep happens replaced
    unpaired steps backs line_logged run_lines run_asked_on part_of walk
edits_are_acknowledged = refl

-- A loss of the cache brings no new volume

abbrev alone : MarksDevice
alone = new_device 0 D3390 1 []

not_given : (k : History) → IsGivenBack (Once events.FailCache) ends.Done alone k → ⊥
not_given k f = let order = f.order in cc

by_count : (fresh_count (emptied alone.history).items ≡ fresh_count alone.history.items)
    ⊎ IsGivenBack (Once events.FailCache) ends.Done alone (emptied alone.history) → ⊥
by_count (inl same) = cc
by_count (inr f) = not_given (emptied alone.history) f

pub cache_loss_empties_nothing : Brings (Once events.FailCache) ends.Done alone (emptied alone.history) → ⊥
cache_loss_empties_nothing f = by_count (fresh_given_back (Once events.FailCache) ends.Done alone (emptied alone.history) f)

-- and no history of a plain device has a track become firm twice

abbrev loose : PlainState
loose = record (empty_state D3390 1) { loose = record { track = 0; firm = empty_track 0 } ∷ [] }

pub firm_once : AreActs loose None (Harden 0 ∷ [])
firm_once = (refl, tt)

pub not_firm_twice : AreActs loose None (Harden 0 ∷ Harden 0 ∷ []) → ⊥
not_firm_twice f = let again = f.1.0 in cc
