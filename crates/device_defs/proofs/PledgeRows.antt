-- What a device is excused for, and what it keeps in a turn: known runs are excused and keep their pledge, and forged ones aren't and don't.
use Rattle.std.proofs.Common.{◌≡◌, ◌≤◌, ◌==◌, ◌&&◌, ◌||◌, ◌∙◌, ℕ, Bool, true, false, true≢false, List, [], ◌∷◌, ◌++◌, Option}
use Rattle.std.proofs.Common.{Some, None, refl, sym, ap, arith, not, nat_le, le-leb, leb-true, replicate, length}
use Rattle.std.specs.List.{list_all}
use Rattle.ckd_types.specs.Commands.{command_of}
use Rattle.ckd_types.specs.Sense.{data_check_sense}
use Rattle.ckd_types.specs.declared.channel.Note.TheVariants.{Plain}
use Rattle.ckd_rules.specs.Walk.{walk}
use Rattle.plain_defs.specs.declared.journal.How.TheVariants.{Checked}
use Rattle.plain_defs.specs.declared.journal.Item.{Item}
use Rattle.plain_defs.specs.declared.journal.Item.TheVariants as items
use Rattle.plain_defs.specs.Journal.{Plans}
use Rattle.plain_defs.specs.PlainState.{PlainState, empty_state}
use Rattle.plain_defs.specs.Program.{part_of}
use Rattle.track_table.specs.Tracks.{least, count_below}
use Rattle.device_outside.specs.Lists.{is_in, with_number, less_one}
use Rattle.device_outside.specs.Pool.{answer, after}
use Rattle.device_outside.specs.Told.{hold}
use Rattle.device_outside.specs.Volume.{counted}
use Rattle.device_defs.specs.declared.counts.Counts.{Counts}
use Rattle.device_defs.specs.declared.counts.Losses.{Losses}
use Rattle.device_defs.specs.Background.{work}
use Rattle.device_defs.specs.Choosing.{choose}
use Rattle.device_defs.specs.Command.{look, follow, command}
use Rattle.device_defs.specs.Cutting.{reset, power}
use Rattle.device_defs.specs.Editing.{through, write}
use Rattle.device_defs.specs.Events.{second, background, lose}
use Rattle.device_defs.specs.Excused.{IsExcused, count_lost, loose_losses, may_lose, unexplained}
use Rattle.device_defs.specs.Image.{level_bytes, image}
use Rattle.device_defs.specs.Losses.{over, settled, side_lost, cache_lost, store_lost, all_firm_told}
use Rattle.device_defs.specs.Marks.{MarksDevice, no_counts}
use Rattle.device_defs.specs.Orders.{lend}
use Rattle.device_defs.specs.Owed.{waits, hear, all_told}
use Rattle.device_defs.specs.Peek.{peek}
use Rattle.device_defs.specs.Pledge.{Handed, Keeps, Pledge, pledge, seat_counts}
use Rattle.device_defs.specs.Second.{second_part}
use Rattle.device_defs.specs.Start.{start_fault, start}
use Rattle.device_defs.specs.Writing.{write_first, write_second, write_done}
use Rattle.device_defs.proofs.MarkRuns as M
use Rattle.device_defs.proofs.Runs as R
use Rattle.device_defs.proofs.SecondRuns as Q
use Rattle.device_defs.proofs.Stand.{Event, FailCache, Lend, Power, Reset, Restore, Run, Stand, all_happen}
use Rattle.device_defs.proofs.Stand.{copies, go, read_zero, stand, steps_of, works, write_zero}

-- Excused, as a test

abbrev is_excused : Plans → PlainState → List Item → List Bool → Counts → Bool
is_excused plans empty journal lost n =
    ((may_lose n || (count_lost lost == 0)) && nat_le (loose_losses journal) n.losses.cache) && nat_le (unexplained plans empty lost n journal) n.failed

and_all : (x y z : Bool) → x ≡ true → y ≡ true → z ≡ true → ((x && y) && z) ≡ true
and_all true true true a b c = refl
and_all true true false a b c = c
and_all true false z a b c = absurd (true≢false (sym b))
and_all false y z a b c = absurd (true≢false (sym a))

or_else : (m : Bool) (n : ℕ) → (m ≡ false → n ≡ 0) → (m || (n == 0)) ≡ true
or_else true n none = refl
or_else false n none = grind (arith, none refl)

excused_is : (plans : Plans) (empty : PlainState) (journal : List Item) (lost : List Bool) (n : Counts) → IsExcused plans empty journal lost n →
    is_excused plans empty journal lost n ≡ true
excused_is plans empty journal lost n is =
    and_all _ _ _ (or_else (may_lose n) (count_lost lost) is.tracks) (le-leb _ _ is.loose) (le-leb _ _ is.checks)

-- no journal of which this fails is excused
not_excused : (plans : Plans) (empty : PlainState) (journal : List Item) (lost : List Bool) (n : Counts) → is_excused plans empty journal lost n ≡ false →
    IsExcused plans empty journal lost n → ⊥
not_excused plans empty journal lost n fails is = true≢false (sym (excused_is plans empty journal lost n is) ∙ fails)

both_of : (x y : Bool) → (x && y) ≡ true → (x ≡ true) × (y ≡ true)
both_of true true e = (refl, refl)
both_of true false e = absurd (true≢false (sym e))
both_of false y e = absurd (true≢false (sym e))

none_where : (m : Bool) (n : ℕ) → (m || (n == 0)) ≡ true → m ≡ false → n ≡ 0
none_where true n e m = absurd (true≢false m)
none_where false n e m = grind (arith, e)

-- and each of which it holds is
excused_by : (plans : Plans) (empty : PlainState) (journal : List Item) (lost : List Bool) (n : Counts) → is_excused plans empty journal lost n ≡ true →
    IsExcused plans empty journal lost n
excused_by plans empty journal lost n e =
    let first = both_of _ _ e in let second = both_of _ _ first.0 in
    record {
      tracks = none_where (may_lose n) (count_lost lost) second.0;
      loose = leb-true _ _ second.1;
      checks = leb-true _ _ first.1;
    }

abbrev excused_with : MarksDevice → List Bool → Counts → Bool
excused_with d lost n = is_excused d.plans (empty_state d.store.geometry d.store.cylinders) d.history.items lost n

abbrev device_of : Run → MarksDevice
device_of r = (all_happen r.on r.events).device

abbrev excused : Run → Bool
excused r = let d = device_of r in excused_with d d.store.lost d.store.counts

volume_runs : list_all excused (
    R.cache_loss_leaves_the_patch ∷ R.store_loss_then_cache_loss ∷ R.both_losses_lose_the_track ∷ R.destaging_fails_and_goes_again
    ∷ R.provisional_write_is_lost_with_the_cache ∷ R.loss_in_its_own_program ∷ R.power_loss_takes_loose_data ∷ R.failed_miss_queues_nothing ∷ R.no_side_is_up
    ∷ Q.failed_write_of_one_volume ∷ Q.failed_write_without_a_frame ∷ Q.loose_track_loses_its_side ∷ M.marks_of_a_loss_of_the_store ∷ []) ≡ true
unfolding all_happen steps_of works hold answer after is_in with_number less_one counted least count_below
    command_of over settled side_lost cache_lost store_lost all_firm_told waits hear all_told level_bytes image
    choose write_first write_second write_done through write second_part work look follow command second background
    lose start_fault start reset power copies lend peek part_of walk
volume_runs = refl

pair_runs : list_all excused (
    R.side_lost_between_two_parts ∷ R.both_sides_fail ∷ R.failed_read_and_write_of_the_other_side ∷ R.held_side_still_has_the_track
    ∷ Q.second_part_is_absent ∷ Q.absent_without_a_frame ∷ Q.absent_behind_a_reset ∷ Q.second_part_without_a_side ∷ []) ≡ true
unfolding all_happen steps_of works hold answer after is_in with_number less_one counted least count_below
    command_of over settled side_lost cache_lost store_lost all_firm_told waits hear all_told level_bytes image
    choose write_first write_second write_done through write second_part work look follow command second background
    lose start_fault start reset power copies lend peek part_of walk
pair_runs = refl

abbrev with_caches : ℕ → Counts
with_caches n = record no_counts { losses = record no_counts.losses { cache = n } }

abbrev first_lost : List Bool
first_lost = true ∷ replicate 14 false

-- a lost track without any loss, or behind one of the cache alone; data of cache fast write that were lost without a loss of the cache; and of
-- runs in which a read failed, a write failed, or both sides were lost, an equipment check that nothing explains
forged : list_all not (
    excused_with (device_of R.clean_frames_are_hits) first_lost no_counts
    ∷ excused_with (device_of R.clean_frames_are_hits) first_lost (with_caches 1)
    ∷ excused_with (device_of R.provisional_write_is_lost_with_the_cache) (replicate 15 false) no_counts
    ∷ excused_with (device_of R.failed_miss_queues_nothing) (replicate 15 false) no_counts
    ∷ excused_with (device_of Q.failed_write_of_one_volume) (replicate 15 false) no_counts
    ∷ excused_with (device_of Q.second_part_without_a_side) (replicate 15 false) no_counts ∷ []) ≡ true
unfolding all_happen steps_of works hold answer after is_in with_number less_one counted least count_below
    command_of over settled side_lost cache_lost store_lost all_firm_told waits hear all_told level_bytes image
    choose write_first write_second write_done through write second_part work look follow command second background
    lose start_fault start reset power copies lend peek part_of walk
forged = refl

-- Behind a loss of cache and store a track may be lost; and one check is explained by a lost track, another by a loss of its program's own data
explained : list_all (λ (b : Bool). b) (
    excused_with (device_of R.clean_frames_are_hits) first_lost (record no_counts { losses = record { cache = 1; store = 1; sides = 0 } })
    ∷ excused_with (device_of R.failed_miss_queues_nothing) first_lost (record no_counts { losses = record { cache = 0; store = 0; sides = 1 } })
    ∷ excused_with (device_of R.loss_in_its_own_program) (replicate 15 false) (with_caches 1) ∷ []) ≡ true
unfolding all_happen steps_of works hold answer after is_in with_number less_one counted least count_below
    command_of over settled side_lost cache_lost store_lost all_firm_told waits hear all_told level_bytes image
    choose write_first write_second write_done through write second_part work look follow command second background
    lose start_fault start reset power copies lend peek part_of walk
explained = refl

-- What it keeps

abbrev at_first : Stand
at_first = stand 4 2 [] [] (write_zero 0xc0 0 ∷ read_zero 0xc0 0 ∷ [])

abbrev after_events : List Event → MarksDevice
after_events events = (all_happen at_first events).device

-- volumes that tell what they hold, and of which two calls may fail
abbrev handed : Handed
handed = record { allowance = Some 2; tells = true; told = true }

abbrev losses : ℕ → Losses
losses cache = record { cache = cache; store = 0; sides = 0 }

-- of the device as it was made, where so many losses of the cache are to come
abbrev made : ℕ → Pledge
made cache = pledge at_first.device handed (losses cache)

abbrev one_program : MarksDevice
one_program = after_events (go 3 ++ FailCache ∷ go 1)

its_counts : seat_counts one_program ≡ 0 ∷ 3 ∷ 0 ∷ 0 ∷ 0 ∷ 0 ∷ []
unfolding all_happen steps_of works hold answer after is_in with_number less_one counted least count_below
    command_of over settled side_lost cache_lost store_lost all_firm_told waits hear all_told level_bytes image
    choose write_first write_second write_done through write second_part work look follow command second background
    lose start_fault start reset power copies lend peek part_of walk
its_counts = refl

never : {X : Type 0} → ◌≡◌ {A = Bool} false true → X
never e = absurd (true≢false (sym e))

programs_and_losses_are_kept : Keeps (made 1) one_program handed
unfolding all_happen steps_of works hold answer after is_in with_number less_one counted least count_below
    command_of over settled side_lost cache_lost store_lost all_firm_told waits hear all_told level_bytes image
    choose write_first write_second write_done through write second_part work look follow command second background
    lose start_fault start reset power copies lend peek part_of walk
programs_and_losses_are_kept = record {
  number = refl;
  geometry = refl;
  cylinders = refl;
  plans = refl;
  lent = refl;
  was_lent = refl;
  journal = refl;
  still = λ lent. never lent;
  cache = omega arith;
  store = omega arith;
  sides = omega arith;
  failures = omega arith;
  tells = λ told. refl;
  told = λ told. refl;
  checks = λ told. refl;
}

none_is_some : (n : ℕ) → ◌≡◌ {A = Option ℕ} None (Some n) → ⊥
none_is_some n is = cc

-- None of these keeps it

-- a loss more than was to come
one_loss_too_many : Keeps (made 0) one_program handed → ⊥
unfolding all_happen steps_of works hold answer after is_in with_number less_one counted least count_below
    command_of over settled side_lost cache_lost store_lost all_firm_told waits hear all_told level_bytes image
    choose write_first write_second write_done through write second_part work look follow command second background
    lose start_fault start reset power copies lend peek part_of walk
one_loss_too_many keeps = let most : 1 ≤ 0 = keeps.cache in omega (arith, most)

-- more failed calls than were allowed
too_many_failed_calls : Keeps (made 1) one_program (record handed { allowance = Some 3 }) → ⊥
unfolding all_happen steps_of works hold answer after is_in with_number less_one counted least count_below
    command_of over settled side_lost cache_lost store_lost all_firm_told waits hear all_told level_bytes image
    choose write_first write_second write_done through write second_part work look follow command second background
    lose start_fault start reset power copies lend peek part_of walk
too_many_failed_calls keeps = let most : 3 ≤ 2 = keeps.failures in omega (arith, most)

-- volumes that tell no allowance any more
no_allowance : Keeps (made 1) one_program (record handed { allowance = None }) → ⊥
unfolding all_happen steps_of works hold answer after is_in with_number less_one counted least count_below
    command_of over settled side_lost cache_lost store_lost all_firm_told waits hear all_told level_bytes image
    choose write_first write_second write_done through write second_part work look follow command second background
    lose start_fault start reset power copies lend peek part_of walk
no_allowance keeps = keeps.failures

-- or not what they hold, now or once
contents_are_not_told : Keeps (made 1) one_program (record handed { tells = false }) → ⊥
unfolding all_happen steps_of works hold answer after is_in with_number less_one counted least count_below
    command_of over settled side_lost cache_lost store_lost all_firm_told waits hear all_told level_bytes image
    choose write_first write_second write_done through write second_part work look follow command second background
    lose start_fault start reset power copies lend peek part_of walk
contents_are_not_told keeps = true≢false (sym (keeps.tells refl))

contents_were_not_told : Keeps (made 1) one_program (record handed { told = false }) → ⊥
unfolding all_happen steps_of works hold answer after is_in with_number less_one counted least count_below
    command_of over settled side_lost cache_lost store_lost all_firm_told waits hear all_told level_bytes image
    choose write_first write_second write_done through write second_part work look follow command second background
    lose start_fault start reset power copies lend peek part_of walk
contents_were_not_told keeps = true≢false (sym (keeps.told refl))

-- a reset, a loss of power, a program that was cut
a_reset : Keeps (made 1) (after_events (go 3 ++ Reset 1 ∷ [])) handed → ⊥
unfolding all_happen steps_of works hold answer after is_in with_number less_one counted least count_below
    command_of over settled side_lost cache_lost store_lost all_firm_told waits hear all_told level_bytes image
    choose write_first write_second write_done through write second_part work look follow command second background
    lose start_fault start reset power copies lend peek part_of walk
a_reset keeps = true≢false (sym keeps.journal)

a_loss_of_power : Keeps (made 1) (after_events (go 3 ++ Power ∷ [])) handed → ⊥
unfolding all_happen steps_of works hold answer after is_in with_number less_one counted least count_below
    command_of over settled side_lost cache_lost store_lost all_firm_told waits hear all_told level_bytes image
    choose write_first write_second write_done through write second_part work look follow command second background
    lose start_fault start reset power copies lend peek part_of walk
a_loss_of_power keeps = true≢false (sym keeps.journal)

a_cut_program : Keeps (made 1) (after_events (go 1 ++ Reset 1 ∷ [])) handed → ⊥
unfolding all_happen steps_of works hold answer after is_in with_number less_one counted least count_below
    command_of over settled side_lost cache_lost store_lost all_firm_told waits hear all_told level_bytes image
    choose write_first write_second write_done through write second_part work look follow command second background
    lose start_fault start reset power copies lend peek part_of walk
a_cut_program keeps = true≢false (sym keeps.journal)

-- an empty volume that it didn't have
a_volume_made_empty : Keeps (made 1) (after_events (Lend 1 ∷ Restore ∷ [])) handed → ⊥
unfolding all_happen steps_of works hold answer after is_in with_number less_one counted least count_below
    command_of over settled side_lost cache_lost store_lost all_firm_told waits hear all_told level_bytes image
    choose write_first write_second write_done through write second_part work look follow command second background
    lose start_fault start reset power copies lend peek part_of walk
a_volume_made_empty keeps = true≢false (keeps.was_lent)

-- it is lent
it_is_lent : Keeps (made 1) (after_events (Lend 1 ∷ [])) handed → ⊥
unfolding all_happen steps_of works hold answer after is_in with_number less_one counted least count_below
    command_of over settled side_lost cache_lost store_lost all_firm_told waits hear all_told level_bytes image
    choose write_first write_second write_done through write second_part work look follow command second background
    lose start_fault start reset power copies lend peek part_of walk
it_is_lent keeps = none_is_some 1 (sym keeps.lent)

abbrev data_checked : Item
data_checked = items.Program (record {
  path = 1;
  ordinal = 1;
  how = Checked;
  ends =
      record { index = 0; status = record { 0 = 0x0e }; residual = 16; note = Plain; sent = []; sense = Some data_check_sense; over = true } ∷ [];
  acts = [];
})

-- a command that ended with data check
a_data_check : Keeps (made 1) (record one_program { history = record one_program.history { items = data_checked ∷ [] } }) handed → ⊥
unfolding all_happen steps_of works hold answer after is_in with_number less_one counted least count_below
    command_of over settled side_lost cache_lost store_lost all_firm_told waits hear all_told level_bytes image
    choose write_first write_second write_done through write second_part work look follow command second background
    lose start_fault start reset power copies lend peek part_of walk
a_data_check keeps = let none : ◌≡◌ {A = ℕ} 1 0 = keeps.checks refl in omega (arith, none)

-- other programs, another number, other tracks
other_programs : Keeps (made 1) (record one_program { plans = [] }) handed → ⊥
unfolding all_happen steps_of works hold answer after is_in with_number less_one counted least count_below
    command_of over settled side_lost cache_lost store_lost all_firm_told waits hear all_told level_bytes image
    choose write_first write_second write_done through write second_part work look follow command second background
    lose start_fault start reset power copies lend peek part_of walk
other_programs keeps = let few : ◌≡◌ {A = ℕ} 0 4 = ap (λ (l : Plans). length l) keeps.plans in omega (arith, few)

another_device : Keeps (made 1) (record one_program { store = record one_program.store { device = 1 } }) handed → ⊥
unfolding all_happen steps_of works hold answer after is_in with_number less_one counted least count_below
    command_of over settled side_lost cache_lost store_lost all_firm_told waits hear all_told level_bytes image
    choose write_first write_second write_done through write second_part work look follow command second background
    lose start_fault start reset power copies lend peek part_of walk
another_device keeps = let same : ◌≡◌ {A = ℕ} 1 0 = keeps.number in omega (arith, same)

more_tracks : Keeps (made 1) (record one_program { store = record one_program.store { cylinders = 2 } }) handed → ⊥
unfolding all_happen steps_of works hold answer after is_in with_number less_one counted least count_below
    command_of over settled side_lost cache_lost store_lost all_firm_told waits hear all_told level_bytes image
    choose write_first write_second write_done through write second_part work look follow command second background
    lose start_fault start reset power copies lend peek part_of walk
more_tracks keeps = let same : ◌≡◌ {A = ℕ} 2 1 = keeps.cylinders in omega (arith, same)
