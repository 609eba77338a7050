-- What a device has between two events: known ones have it, and marks that no event leaves haven't.
use Rattle.std.proofs.Common.{◌≡◌, ◌<◌, ◌≤◌, ◌∙◌, ℕ, zero, suc, Bool, true, false, true≢false, List, [], ◌∷◌, ◌++◌}
use Rattle.std.proofs.Common.{Option, Some, None, refl, sym, ap, arith, not, replicate, slice_index_or, is_some}
use Rattle.std.specs.List.{list_all}
use Rattle.ckd_types.specs.Commands.{command_of}
use Rattle.ckd_types.specs.declared.paths.Side.TheVariants.{A}
use Rattle.track_table.specs.Tracks.{least, count_below}
use Rattle.device_outside.specs.Lists.{is_in, with_number, less_one}
use Rattle.device_outside.specs.Pool.{answer, after}
use Rattle.device_outside.specs.Told.{hold}
use Rattle.device_outside.specs.Volume.{counted}
use Rattle.device_defs.specs.Background.{work}
use Rattle.device_defs.specs.Between.{IsBetween}
use Rattle.device_defs.specs.Choosing.{choose}
use Rattle.device_defs.specs.Command.{look, follow, command}
use Rattle.device_defs.specs.Cutting.{reset, power}
use Rattle.device_defs.specs.Editing.{through, write}
use Rattle.device_defs.specs.Events.{second, background, lose}
use Rattle.device_defs.specs.Image.{level_bytes, image}
use Rattle.device_defs.specs.Losses.{over, settled, side_lost, cache_lost, store_lost, all_firm_told}
use Rattle.device_defs.specs.Marks.{MarksStore}
use Rattle.device_defs.specs.Orders.{lend}
use Rattle.device_defs.specs.Owed.{waits, hear, all_told}
use Rattle.device_defs.specs.declared.owed.Owed.{Owed}
use Rattle.device_defs.specs.Second.{second_part}
use Rattle.device_defs.specs.Start.{start_fault, start}
use Rattle.device_defs.specs.Store.{HalfWrite, OfBackground, no_debt, with_frame, with_lost, with_owed, with_side}
use Rattle.device_defs.specs.Writing.{write_first, write_second, write_done}
use Rattle.device_defs.proofs.Stand.{Event, FailSide, Lend, Stand, Work, all_happen, copies, go, pair, stand, steps_of, works, write_zero}

abbrev behind : Stand → List Event → MarksStore
behind s events = (all_happen s events).device.store

-- a volume with a fast write, and one whose tracks are lost; a pair with an open half write; and a device that is lent
abbrev fast_volume : MarksStore
fast_volume = behind (stand 4 2 [] [] (write_zero 0xc0 0 ∷ [])) (go 3)

abbrev lost_volume : MarksStore
lost_volume = behind (stand 4 2 [] [] []) (FailSide A ∷ [])

abbrev half_pair : MarksStore
half_pair = behind (pair [] [] (write_zero 0xc0 0 ∷ [])) (go 3 ++ Work ∷ [])

abbrev lent_device : MarksStore
lent_device = behind (stand 4 2 [] [] (write_zero 0xc2 0 ∷ [])) (go 3 ++ Lend 1 ∷ [])

-- They have it

none_lost : (marks : List Bool) (t : ℕ) → list_all not marks ≡ true → slice_index_or marks t false ≡ true → ⊥
none_lost [] t none is = true≢false (sym is)
none_lost (true ∷ marks) t none is = true≢false (sym none)
none_lost (false ∷ marks) zero none is = true≢false (sym is)
none_lost (false ∷ marks) (suc t) none is = none_lost marks t none is

never : {X : Type 0} → ◌≡◌ {A = Bool} false true → X
never e = absurd (true≢false (sym e))

abbrev half_track : ℕ → Option (HalfWrite (Unit {0})) → ℕ
half_track t None = t
half_track t (Some h) = h.track

its_track : (s : MarksStore) (h : HalfWrite (Unit {0})) → half_track 0 s.half ≡ 0 → s.half ≡ Some h → h.track ≡ 0
its_track s h same is = sym (ap (half_track 0) is) ∙ same

fast_is_between : IsBetween fast_volume
unfolding all_happen steps_of works hold answer after is_in with_number less_one counted least count_below
    command_of over settled side_lost cache_lost store_lost all_firm_told waits hear all_told level_bytes image
    choose write_first write_second write_done through write second_part work look follow command second background
    lose start_fault start reset power copies lend
fast_is_between = record {
  sizes = record { are = refl };
  sides = record { alone = λ alone. refl; free = λ alone. refl };
  half = λ h is. absurd (cc);
  nowhere = λ t is. absurd (none_lost fast_volume.lost t refl is);
  queue = omega arith;
  owed = refl;
  away = λ lent. never lent;
}

-- each of its tracks is lost, and on no side
lost_is_between : IsBetween lost_volume
unfolding all_happen steps_of works hold answer after is_in with_number less_one counted least count_below
    command_of over settled side_lost cache_lost store_lost all_firm_told waits hear all_told level_bytes image
    choose write_first write_second write_done through write second_part work look follow command second background
    lose start_fault start reset power copies lend
lost_is_between = record {
  sizes = record { are = refl };
  sides = record { alone = λ alone. refl; free = λ alone. refl };
  half = λ h is. absurd (cc);
  nowhere = λ t is. refl;
  queue = omega arith;
  owed = refl;
  away = λ lent. never lent;
}

half_is_between : IsBetween half_pair
unfolding all_happen steps_of works hold answer after is_in with_number less_one counted least count_below
    command_of over settled side_lost cache_lost store_lost all_firm_told waits hear all_told level_bytes image
    choose write_first write_second write_done through write second_part work look follow command second background
    lose start_fault start reset power copies lend
half_is_between = record {
  sizes = record { are = refl };
  sides = record { alone = λ alone. absurd (true≢false alone); free = λ alone. absurd (true≢false alone) };
  half = λ h is. let at = its_track half_pair h refl is in omega (arith, at);
  nowhere = λ t is. absurd (none_lost half_pair.lost t refl is);
  queue = omega arith;
  owed = refl;
  away = λ lent. never lent;
}

lent_is_between : IsBetween lent_device
unfolding all_happen steps_of works hold answer after is_in with_number less_one counted least count_below
    command_of over settled side_lost cache_lost store_lost all_firm_told waits hear all_told level_bytes image
    choose write_first write_second write_done through write second_part work look follow command second background
    lose start_fault start reset power copies lend
lent_is_between = record {
  sizes = record { are = refl };
  sides = record { alone = λ alone. refl; free = λ alone. refl };
  half = λ h is. absurd (cc);
  nowhere = λ t is. refl;
  queue = omega arith;
  owed = refl;
  away = λ lent. record { single = refl; down = refl; frames = refl; patches = refl; lost = refl; queue = refl; half = refl };
}

-- These haven't

-- a list of frames that misses one
too_few_frames : IsBetween (record fast_volume { frames = replicate 14 None }) → ⊥
unfolding all_happen steps_of works hold answer after is_in with_number less_one counted least count_below
    command_of over settled side_lost cache_lost store_lost all_firm_told waits hear all_told level_bytes image
    choose write_first write_second write_done through write second_part work look follow command second background
    lose start_fault start reset power copies lend
too_few_frames between = let same : ◌≡◌ {A = ℕ} 14 15 = ap (λ (l : List ℕ). slice_index_or l 2 0) between.sizes.are in omega (arith, same)

-- a volume that is alone with a side B, or held
side_b_of_one_volume : IsBetween (record fast_volume { b = record { up = true; stale = replicate 15 false } }) → ⊥
unfolding all_happen steps_of works hold answer after is_in with_number less_one counted least count_below
    command_of over settled side_lost cache_lost store_lost all_firm_told waits hear all_told level_bytes image
    choose write_first write_second write_done through write second_part work look follow command second background
    lose start_fault start reset power copies lend
side_b_of_one_volume between = true≢false (between.sides.alone refl)

one_volume_is_held : IsBetween (record fast_volume { held = true }) → ⊥
unfolding all_happen steps_of works hold answer after is_in with_number less_one counted least count_below
    command_of over settled side_lost cache_lost store_lost all_firm_told waits hear all_told level_bytes image
    choose write_first write_second write_done through write second_part work look follow command second background
    lose start_fault start reset power copies lend
one_volume_is_held between = true≢false (between.sides.free refl)

-- a half write of a track that the device hasn't
half_write_past_the_end : IsBetween (record half_pair { half = Some (record { track = 15; origin = OfBackground; image = tt }) }) → ⊥
unfolding all_happen steps_of works hold answer after is_in with_number less_one counted least count_below
    command_of over settled side_lost cache_lost store_lost all_firm_told waits hear all_told level_bytes image
    choose write_first write_second write_done through write second_part work look follow command second background
    lose start_fault start reset power copies lend
half_write_past_the_end between = let below : 15 < 15 = between.half _ refl in omega (arith, below)

-- a lost track that a side still has
lost_track_on_a_side : IsBetween (with_lost fast_volume 3) → ⊥
unfolding all_happen steps_of works hold answer after is_in with_number less_one counted least count_below
    command_of over settled side_lost cache_lost store_lost all_firm_told waits hear all_told level_bytes image
    choose write_first write_second write_done through write second_part work look follow command second background
    lose start_fault start reset power copies lend
lost_track_on_a_side between = true≢false (between.nowhere 3 refl)

-- a queue of 65 tracks
too_long_a_queue : IsBetween (record fast_volume { queue = replicate 65 1 }) → ⊥
unfolding all_happen steps_of works hold answer after is_in with_number less_one counted least count_below
    command_of over settled side_lost cache_lost store_lost all_firm_told waits hear all_told level_bytes image
    choose write_first write_second write_done through write second_part work look follow command second background
    lose start_fault start reset power copies lend
too_long_a_queue between = let most : 65 ≤ 64 = between.queue in omega (arith, most)

-- something that the outside wasn't told
still_owed : IsBetween (with_owed fast_volume 0 (record no_debt { dropped = true })) → ⊥
unfolding all_happen steps_of works hold answer after is_in with_number less_one counted least count_below
    command_of over settled side_lost cache_lost store_lost all_firm_told waits hear all_told level_bytes image
    choose write_first write_second write_done through write second_part work look follow command second background
    lose start_fault start reset power copies lend
still_owed between = true≢false (ap (λ (l : List Owed). (slice_index_or l 0 no_debt).dropped) between.owed)

-- a device that is lent with a frame, with a lost track, or with its volume
lent_with_a_frame : IsBetween (with_frame lent_device 0 (Some false)) → ⊥
unfolding all_happen steps_of works hold answer after is_in with_number less_one counted least count_below
    command_of over settled side_lost cache_lost store_lost all_firm_told waits hear all_told level_bytes image
    choose write_first write_second write_done through write second_part work look follow command second background
    lose start_fault start reset power copies lend
lent_with_a_frame between = true≢false (ap (λ (l : List (Option Bool)). is_some (slice_index_or l 0 None)) (between.away refl).frames)

lent_with_a_lost_track : IsBetween (with_lost lent_device 0) → ⊥
unfolding all_happen steps_of works hold answer after is_in with_number less_one counted least count_below
    command_of over settled side_lost cache_lost store_lost all_firm_told waits hear all_told level_bytes image
    choose write_first write_second write_done through write second_part work look follow command second background
    lose start_fault start reset power copies lend
lent_with_a_lost_track between = true≢false (ap (λ (l : List Bool). slice_index_or l 0 false) (between.away refl).lost)

lent_with_its_volume : IsBetween (with_side lent_device A (record { up = true; stale = replicate 15 false })) → ⊥
unfolding all_happen steps_of works hold answer after is_in with_number less_one counted least count_below
    command_of over settled side_lost cache_lost store_lost all_firm_told waits hear all_told level_bytes image
    choose write_first write_second write_done through write second_part work look follow command second background
    lose start_fault start reset power copies lend
lent_with_its_volume between = true≢false (between.away refl).down
