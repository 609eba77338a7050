-- What a device promises by a program that is planned, or that isn't.
use Rattle.std.proofs.Common.{◌≡◌, ◌≤◌, ℕ, List, sym, subst}
use Rattle.ckd_types.specs.declared.channel.Ccw.{Ccw}
use Rattle.ckd_types.specs.declared.record.Track.{Track}
use Rattle.deck_plan.specs.Plans.{with_program}
use Rattle.plain_defs.specs.Whole.{GivesAll}
use Rattle.device_outside.specs.declared.volume.Volume.{Ghosts}
use Rattle.device_outside.specs.Outside.{Outside}
use Rattle.device_laws.specs.NewDevice.{first_state}
use Rattle.device_laws.specs.Whole.{WholeDevice, marks_device}
use Rattle.device_laws.proofs.MorePlans.{longer_follows}
use Rattle.past_laws.specs.PutAway.{PutAway}
use Rattle.subsystem_laws.specs.Planning.{with_planned}
use Rattle.subsystem_laws.proofs.PlannedPrograms.{with_program_gives, with_program_longer}
use Rattle.subsystem_laws.proofs.turning.Planned.{planned_beside, planned_stands}
use Rattle.device_core.specs.declared.device.Device.{Device}
use Rattle.device_core.specs.Promises.{IsLentBeside, KeepsPlain, KeepsWhole, StandsLent, StaysExcused, StaysLent, StaysPlain, StaysSound, told_by, whole_of}
use Rattle.device_core.specs.WholePast.{SoWithPast}
use Rattle.device_core.specs.State.{DefinedDevice, device_of}
use Rattle.device_core.proofs.Away.{lent_by}
use Rattle.device_core.proofs.Promising.{excused_by, plain_by, plain_over, same_told, sound_by, whole_over}
use Rattle.device_core.proofs.WholePasts.{planned_on}

-- a device that is lent stays so
lent_still : {first : List Track} {K : Type 0} (d : WholeDevice) (u : Outside (List ℕ) K) (path : ℕ) (program : List Ccw) → GivesAll program → IsLentBeside first d u →
    IsLentBeside first (with_planned d path program) u
lent_still {first = first} d u path program gives s = record {
  plain = s.plain;
  firm = s.firm;
  held = s.held;
  untold = s.untold;
  lent = record { store = s.lent.store; idle = s.lent.idle };
  follows =
      longer_follows d.store.device (first_state d.store.geometry d.store.cylinders first) (marks_device s.plain s.firm d) (with_program d.plans path program)
      (with_program_longer d.plans path program) s.follows;
  gives = with_program_gives d.plans path program gives s.gives;
}

module _ {V : Type 0} {G : Ghosts V} (d e : Device V G) (store : e.store ≡ d.store) where
  lent_over : {x : DefinedDevice} → ((past : PutAway) (first : List Track) → SoWithPast (IsLentBeside first) past (device_of d) (told_by d) →
      SoWithPast (IsLentBeside first) past x (told_by d)) → device_of e ≡ x → (past : PutAway) (first : List Track) → StandsLent past first d → StandsLent past first e
  lent_over {x = x} f is past first s =
      subst (λ (y : DefinedDevice). SoWithPast (IsLentBeside first) past y (told_by e)) (sym is)
      (subst (λ (w : Outside (List ℕ) (Unit {0})). SoWithPast (IsLentBeside first) past x w) (sym (same_told d e store)) (f past first s))

  -- it isn't planned
  pub still_lent : device_of e ≡ device_of d → StaysLent d e
  still_lent is = lent_by d e (lent_over (λ past first s. s) is)

  -- it is
  module _ (path : ℕ) (least : 1 ≤ path) (most : path ≤ 4) (program : List Ccw) (gives : GivesAll program)
      (is : device_of e ≡ with_planned (device_of d) path program) where
    plan_goes_plain : KeepsPlain d e
    plan_goes_plain =
        plain_over d e (λ past first s. planned_on s path least most program (planned_beside (whole_of past d) (told_by d) path program gives)) is (same_told d e store)

    plan_goes_whole : KeepsWhole d e
    plan_goes_whole =
        whole_over d e (λ past first s. planned_on s path least most program (planned_stands (whole_of past d) (told_by d) path program gives)) is (same_told d e store)

    pub plan_sound : StaysSound d e
    plan_sound = sound_by d e plan_goes_plain

    pub plan_stays_plain : StaysPlain d e
    plan_stays_plain = plain_by d e plan_goes_plain

    pub plan_excused : StaysExcused d e
    plan_excused = excused_by d e plan_goes_whole

    pub plan_stays_lent : StaysLent d e
    plan_stays_lent =
        lent_by d e (lent_over (λ past first s. planned_on s path least most program (lent_still (whole_of past d) (told_by d) path program gives)) is)
