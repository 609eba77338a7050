-- Journals that a plain device could have made, and forged ones, computed from the definitions alone.
use Rattle.std.proofs.Common.{◌≡◌, ◌<◌, ◌≤◌, ℕ, zero, suc, List, [], ◌∷◌, Option, Some, None, true, refl, arith, sym, ap, inl}
use Rattle.std.specs.Prelude.{IsSome}
use Rattle.std.proofs.lemmas.Bool.{true≢false}
use Rattle.ckd_types.specs.declared.channel.Ccw.{Ccw}
use Rattle.ckd_types.specs.declared.channel.CommandEnd.{CommandEnd}
use Rattle.ckd_types.specs.declared.channel.Note.TheVariants.{Plain}
use Rattle.ckd_types.specs.declared.geometry.Geometry.TheVariants.{D3390}
use Rattle.ckd_types.specs.Commands.{command_of}
use Rattle.ckd_types.specs.Sense.{equipment_sense}
use Rattle.ckd_rules.specs.Walk.{TrackEdit, walk}
use Rattle.ckd_types.specs.declared.record.Edit.TheVariants.{Update}
use Rattle.plain_defs.specs.declared.journal.Act.TheVariants.{Loosen, Harden, CfwLost}
use Rattle.plain_defs.specs.declared.journal.Acted.{Acted}
use Rattle.plain_defs.specs.declared.journal.How.{How}
use Rattle.plain_defs.specs.declared.journal.How.TheVariants.{Full, Cut, Checked}
use Rattle.plain_defs.specs.declared.journal.Item.{Item}
use Rattle.plain_defs.specs.declared.journal.Item.TheVariants as items
use Rattle.plain_defs.specs.Journal.{Plans, acknowledged}
use Rattle.plain_defs.specs.Legal.{IsLegal, IsLegalEntry, IsPoint, next_edit}
use Rattle.plain_defs.proofs.LooseLemmas.{may_edit, part_loose}
use Rattle.plain_defs.specs.PlainState.{PlainState, empty_state}
use Rattle.plain_defs.specs.Program.{part_of}

device : PlainState
device = empty_state D3390 1

-- path 1 has one program, of one no-operation
one : List Ccw
one = record { command = 3; flags = 0; count = 1; given = [] } ∷ []

plans : Plans
plans = (one ∷ []) ∷ [] ∷ [] ∷ [] ∷ []

its_end : CommandEnd
its_end = record {
  index = 0;
  status = record { 0 = 0x0c };
  residual = 1;
  note = Plain;
  sent = [];
  sense = None;
  over =
      true;
}

ran : ℕ → How → List CommandEnd → List Acted → Item
ran ordinal how ends acts = items.Program (record { path = 1; ordinal = ordinal; how = how; ends = ends; acts = acts })

abbrev residual_of : List CommandEnd → ℕ
residual_of [] = 0
residual_of (e ∷ ends) = e.residual

abbrev index_of : List CommandEnd → ℕ
index_of [] = 0
index_of (e ∷ ends) = e.index

-- an equipment check of a word
checked_at : ℕ → CommandEnd
checked_at index = record {
  index = index;
  status = record { 0 = 0x0e };
  residual = 1;
  note = Plain;
  sent = [];
  sense =
      Some equipment_sense;
  over = true;
}

below_zero : (j : ℕ) → j < 0 → ⊥
below_zero j below = omega (arith, below)

-- it runs whole
whole_is_legal : IsLegal plans device (ran 1 Full (its_end ∷ []) [] ∷ [])
unfolding plans device one its_end ran part_of command_of
whole_is_legal = (
  (
    record {
      started = record {
        least = omega arith;
        most = omega arith;
        in_plan = omega arith;
        ordinal_is = refl;
        admitted =
            refl;
      };
      ends = record { ends_are = refl; over = refl };
      order = tt;
      acts = record {
        points = λ j below. record {
          acts_are = tt;
          edit_is =
              may_edit (part_of device 1 one [] j).state (part_of device 1 one [] j).stance
              (next_edit 1 one (part_of device 1 one [] j)) (part_loose 1 one device j);
        };
        last = tt;
      };
    },
    tt,
  ),
  tt,
)

-- its command ends with equipment check
checked_is_legal : IsLegal plans device (ran 1 Checked (checked_at 0 ∷ []) [] ∷ [])
unfolding plans device one checked_at ran part_of command_of
checked_is_legal = (
  (
    record {
      started = record {
        least = omega arith;
        most = omega arith;
        in_plan = omega arith;
        ordinal_is = refl;
        admitted =
            refl;
      };
      ends = record {
        last = checked_at 0;
        ends_are = refl;
        next_is = refl;
        checked =
            record { status = refl; residual = refl; sent = refl; note = refl; sense = inl refl; over = refl };
      };
      order = tt;
      acts = record { points = λ j below. absurd (below_zero j below); last = tt };
    },
    tt,
  ),
  tt,
)

-- it is cut before its first command
cut_entry : IsLegalEntry plans device [] (record { path = 1; ordinal = 1; how = Cut 0; ends = []; acts = [] })
unfolding plans device one part_of command_of
cut_entry = record {
  started = record {
    least = omega arith;
    most = omega arith;
    in_plan = omega arith;
    ordinal_is = refl;
    admitted =
        refl;
  };
  ends = record { ends_are = refl; ran_on = refl; least = omega arith; most = omega arith };
  order = tt;
  acts = record { points = λ j below. absurd (below_zero j below); last = tt };
}

-- by the reset of its path, or by a power loss
cut_by_reset : IsLegal plans device (ran 1 (Cut 0) [] [] ∷ items.Reset 1 ∷ [])
unfolding ran
cut_by_reset = ((cut_entry, refl), (refl, tt))

cut_by_power : IsLegal plans device (ran 1 (Cut 0) [] [] ∷ items.Power ∷ [])
unfolding ran
cut_by_power = ((cut_entry, tt), (refl, tt))

-- Forged: none of these is legal

absurd_eq : ◌≡◌ {A = ℕ} 1 2 → ⊥
absurd_eq is = omega (arith, is)

without_its_reset : IsLegal plans device (ran 1 (Cut 0) [] [] ∷ []) → ⊥
unfolding ran
without_its_reset legal = legal.0.1

reset_of_another_path : IsLegal plans device (ran 1 (Cut 0) [] [] ∷ items.Reset 2 ∷ []) → ⊥
unfolding ran
reset_of_another_path legal = absurd_eq (sym legal.0.1)

forged_ordinal : IsLegal plans device (ran 2 Full (its_end ∷ []) [] ∷ []) → ⊥
unfolding ran
forged_ordinal legal = absurd_eq (sym legal.0.0.started.ordinal_is)

-- no program is planned at all
unplanned : IsLegal [] device (ran 1 Full (its_end ∷ []) [] ∷ []) → ⊥
unfolding ran
unplanned legal = let few : 1 ≤ 0 = legal.0.0.started.in_plan in omega (arith, few)

on_a_fifth_path : IsLegal plans device (items.Program (record
    { path = 5; ordinal = 1; how = Full; ends = its_end ∷ []; acts = [] }) ∷ []) → ⊥
on_a_fifth_path legal = let most : 5 ≤ 4 = legal.0.0.started.most in omega (arith, most)

forged_end : IsLegal plans device (ran 1 Full (record its_end { residual = 0 } ∷ []) [] ∷ []) → ⊥
unfolding ran plans device one its_end part_of command_of
forged_end legal = let same : ◌≡◌ {A = ℕ} 0 1 = ap (λ (l : List CommandEnd). residual_of l) legal.0.0.ends.ends_are in
    omega (arith, same)

check_behind_the_end : IsLegal plans device (ran 1 Checked (its_end ∷ checked_at 77 ∷ []) [] ∷ []) → ⊥
unfolding ran plans device one its_end checked_at part_of command_of
check_behind_the_end legal = let next : None ≡ Some legal.0.0.ends.last.index = legal.0.0.ends.next_is in cc

check_of_another_word : IsLegal plans device (ran 1 Checked (checked_at 77 ∷ []) [] ∷ []) → ⊥
unfolding ran plans device one checked_at part_of command_of
check_of_another_word legal =
    let next : Some 0 ≡ Some legal.0.0.ends.last.index = legal.0.0.ends.next_is in
    let index : 77 ≡ legal.0.0.ends.last.index = ap (λ (l : List CommandEnd). index_of l) legal.0.0.ends.ends_are in
    let same : 0 ≡ legal.0.0.ends.last.index = cc in omega (arith, index, same)

none_runs : (next : Option ℕ) → next ≡ None → IsSome next → ⊥
none_runs None is some = cc
none_runs (Some i) is some = cc

-- a program of one command has no second effect, and was not cut behind its end
cut_behind_the_end : IsLegal plans device (ran 1 (Cut 2) (its_end ∷ []) [] ∷ items.Reset 1 ∷ []) → ⊥
unfolding ran plans device one its_end part_of command_of
cut_behind_the_end legal = none_runs None refl legal.0.0.ends.ran_on

reset_of_an_unused_path : IsLegal plans device (items.Reset 1 ∷ []) → ⊥
reset_of_an_unused_path legal = true≢false (sym legal.0)

power_loss_before_the_first_start : IsLegal plans device (items.Power ∷ []) → ⊥
power_loss_before_the_first_start legal = true≢false (sym legal.0)

-- no track is loose
hardened_without_being_loose : IsLegal plans device (items.Act (Harden 0) ∷ []) → ⊥
unfolding device
hardened_without_being_loose legal = true≢false (sym legal.0.0)

lost_where_nothing_is_loose : IsLegal plans device (items.Act CfwLost ∷ []) → ⊥
unfolding device
lost_where_nothing_is_loose legal = legal.0.0

none_is_some : (t : ℕ) → ◌≡◌ {A = Option ℕ} None (Some t) → ⊥
none_is_some t is = cc

loosened_between_programs : IsLegal plans device (items.Act (Loosen 0) ∷ []) → ⊥
loosened_between_programs legal = none_is_some 0 legal.0.1

-- Cache fast write: an extent of this attribute byte, a locate of record 0 on track 0, and an update of its data; track 0 becomes loose before that
updates : ℕ → List Ccw
updates attributes =
    record {
      command = 0x63;
      flags = 0x40;
      count = 16;
      given =
          0x80 ∷ attributes ∷ 0x10 ∷ 0 ∷ 0 ∷ 0 ∷ 0 ∷ 0 ∷ 0 ∷ 0 ∷ 0 ∷ 0 ∷ 0 ∷ 0 ∷ 0 ∷ 0x0e ∷ [];
    }
    ∷ record {
      command = 0x47;
      flags = 0x40;
      count = 16;
      given =
          1 ∷ 0 ∷ 0 ∷ 1 ∷ 0 ∷ 0 ∷ 0 ∷ 0 ∷ 0 ∷ 0 ∷ 0 ∷ 0 ∷ 0 ∷ 0 ∷ 0 ∷ 0 ∷ [];
    }
    ∷ record { command = 0x85; flags = 0; count = 8; given = 17 ∷ 34 ∷ 51 ∷ 68 ∷ 85 ∷ 102 ∷ 119 ∷ 136 ∷ [] }
    ∷ []

loosened : List Acted
loosened = record { after = 2; act = Loosen 0 } ∷ []

updated : ℕ → Item
updated attributes = items.Program (record {
  path = 1;
  ordinal = 1;
  how = Full;
  ends =
      (part_of device 1 (updates attributes) loosened 3).ends;
  acts = loosened;
})

planned_updates : ℕ → Plans
planned_updates attributes = (updates attributes ∷ []) ∷ [] ∷ [] ∷ [] ∷ []

-- under number 0
update_points : (j : ℕ) → j < 3 → IsPoint device 1 (updates 0xc2) loosened j
unfolding device updates loosened part_of walk command_of
update_points zero below = record { acts_are = tt; edit_is = tt }
update_points (suc zero) below = record { acts_are = tt; edit_is = tt }
update_points (suc (suc zero)) below = record { acts_are = (refl, refl); edit_is = λ loose. refl }
update_points (suc (suc (suc j))) below = absurd (omega (arith, below))

cache_fast_write_is_legal : IsLegal (planned_updates 0xc2) device (updated 0xc2 ∷ [])
unfolding planned_updates updated device updates loosened part_of walk command_of
cache_fast_write_is_legal = (
  (
    record {
      started = record {
        least = omega arith;
        most = omega arith;
        in_plan = omega arith;
        ordinal_is = refl;
        admitted =
            refl;
      };
      ends = record { ends_are = refl; over = refl };
      order = (omega arith, omega arith, tt);
      acts = record { points = update_points; last = tt };
    },
    tt,
  ),
  tt,
)

-- without a number the track may not be loose
loose_edit_without_a_number : IsLegal (planned_updates 0xc0) device (updated 0xc0 ∷ []) → ⊥
unfolding planned_updates updated device updates loosened part_of walk command_of
loose_edit_without_a_number legal = let point = legal.0.0.acts.points 2 (omega arith) in true≢false
    (sym (point.edit_is refl))

-- and it becomes loose only directly before its edit
loosened_too_early : IsLegal (planned_updates 0xc2) device
    (items.Program (record {
      path = 1;
      ordinal = 1;
      how = Full;
      ends =
          (part_of device 1 (updates 0xc2) [] 3).ends;
      acts = record { after = 1; act = Loosen 0 } ∷ [];
    }) ∷ []) → ⊥
unfolding planned_updates device updates part_of walk command_of
loosened_too_early legal = let point = legal.0.0.acts.points 1 (omega arith) in none_is_some 0 point.acts_are.1

-- the edit is acknowledged once its track is firm, and never where the data are lost first
its_edit : TrackEdit
its_edit = record { track = 0; edit = Update 0 [] (17 ∷ 34 ∷ 51 ∷ 68 ∷ 85 ∷ 102 ∷ 119 ∷ 136 ∷ []) }

acknowledged_once_firm : acknowledged (planned_updates 0xc2) device (updated 0xc2 ∷ items.Act (Harden 0) ∷ items.Power ∷ []) ≡ its_edit ∷ []
unfolding its_edit planned_updates updated device updates loosened part_of walk command_of
acknowledged_once_firm = refl

not_acknowledged_when_lost : acknowledged (planned_updates 0xc2) device (updated 0xc2 ∷ items.Act CfwLost ∷ items.Act (Harden 0) ∷ []) ≡ []
unfolding planned_updates updated device updates loosened part_of walk command_of
not_acknowledged_when_lost = refl
