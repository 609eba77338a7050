-- A device goes on beside the plain device of its history, and to stand so, behind a program that is planned.
use Rattle.std.proofs.Common.{ℕ, List}
use Rattle.ckd_types.specs.declared.channel.Ccw.{Ccw}
use Rattle.ckd_types.specs.declared.record.Track.{Track}
use Rattle.deck_plan.specs.Plans.{with_program}
use Rattle.plain_defs.specs.Whole.{GivesAll}
use Rattle.device_outside.specs.Outside.{Outside}
use Rattle.device_laws.specs.SoundOn.{begun_as}
use Rattle.device_laws.specs.Whole.{WholeDevice, marks_device}
use Rattle.device_laws.proofs.MorePlans.{longer_follows}
use Rattle.subsystem_laws.specs.CameAbout as about
use Rattle.subsystem_laws.specs.Planning.{with_planned}
use Rattle.subsystem_laws.specs.Standing.{IsBesideOn, StandsOn}
use Rattle.subsystem_laws.proofs.PlannedPrograms.{with_program_gives, with_program_longer}

module _ {first : ℕ → List Track} {K : Type 0} (d : WholeDevice) (u : Outside (List ℕ) K) (path : ℕ) (program : List Ccw) (gives : GivesAll program) where
  pub planned_beside : IsBesideOn first d u → IsBesideOn first (with_planned d path program) u
  planned_beside s = record {
    plain = s.plain;
    firm = s.firm;
    held = s.held;
    untold = s.untold;
    order = s.order;
    follows =
        longer_follows d.store.device (begun_as first d) (marks_device s.plain s.firm d) (with_program d.plans path program)
        (with_program_longer d.plans path program) s.follows;
    gives = with_program_gives d.plans path program gives s.gives;
  }

  pub planned_stands : StandsOn first d u → StandsOn first (with_planned d path program) u
  unfolding planned_beside
  planned_stands s = record { beside = planned_beside s.beside; about = about.planned s.about path program; never = s.never }
